-- A text that is read piece by piece: what the reader of its script has taken of it, and what stands behind that in the buffer.
use Rattle.std.proofs.Common.{◌≡◌, ◌≤◌, ◌<◌, ◌+◌, ◌-◌, ℕ, List, [], ◌++◌, Option, Some, take, drop, length, ap, sym, Result, ◌∙◌, arith, append_assoc}
use Rattle.std.proofs.Common.{length-append, drop-drop, drop_at, length-drop, length-take, take-append-drop, take-take, take_all, IfOk, MatchResult}
use Rattle.std.proofs.lemmas.List.{drop-take, drop_all}
use Rattle.pas_io.specs.{Inputs.{HasRead, Takes}, declared.whole.Stop.Stop}
use Rattle.pas_trace.specs.{Scripts.IsScripting, Streams.{HasTaken, TakesLines}, declared.{fault.ReadFault.ReadFault, script.Script.Script}}
use Rattle.pas_trace.specs.declared.stream.ScriptReader.{ScriptReader}
use Rattle.pas_calls.specs.{Givens.{IsAllOf, IsGiven, IsGivenBy}, Outputs.most_bytes, declared.reading.Given.Given}

-- the bytes that were told begin with these; the next ones stand in the buffer's front, and the others are left
pub record IsBehind (told before : List ℕ) (rest : Option (List ℕ)) (buffer : List ℕ) (kept : ℕ) : Type 0 where
  pub more : List ℕ
  pub is : told ≡ before ++ more
  pub read : HasRead more rest buffer kept

-- the reader has taken so many bytes; where the source told its bytes first, these are their front, and the next ones stand in the buffer's
pub record IsReadTo (reader : ScriptReader) (first rest : Option (List ℕ)) (buffer : List ℕ) (taken kept : ℕ) : Type 0 where
  pub before : List ℕ
  pub has_taken : HasTaken before reader
  pub size : length before ≡ taken
  pub behind : (told : List ℕ) → first ≡ Some told → IsBehind told before rest buffer kept

-- Before the first read.
pub read_nothing : (reader : ScriptReader) (first : Option (List ℕ)) (buffer : List ℕ) → HasTaken [] reader → IsReadTo reader first first buffer 0 0
read_nothing reader first buffer none = search arith

-- the same front of two lists has the same fronts
shorter : (n m : ℕ) (xs ys : List ℕ) → n ≤ m → take m xs ≡ take m ys → take n xs ≡ take n ys
shorter n m xs ys less same = sym (take-take n m xs less) ∙ ap (take n) same ∙ take-take n m ys less

-- ---- the buffer was cut to what an input may have behind what was taken
module _ {reader : ScriptReader} {first rest : Option (List ℕ)} {buffer cut : List ℕ} {taken kept : ℕ} (r : IsReadTo reader first rest buffer taken kept)
    (is : cut ≡ take (most_bytes + 1 - taken) buffer) (few : taken + kept ≤ most_bytes) where
  pub cut_to : IsReadTo reader first rest cut taken kept
  cut_to = record {
    before = r.before;
    has_taken = r.has_taken;
    size = r.size;
    behind = λ told all. let b = r.behind told all in search (arith, take-take);
  }

  -- So many bytes more were taken of the source.
  taken_more : {rest' : Option (List ℕ)} (n most : ℕ) → taken + n ≤ most → ((told : List ℕ) → HasRead told rest cut kept → Takes told rest' n)
      → (told : List ℕ) → first ≡ Some told → Takes told rest' most
  taken_more n most fits takes told all =
      let q = cut_to in
      let b = q.behind told all in
      let t = takes b.more b.read in
      let w = t.within in
      record {
        number = taken + t.number;
        within = omega arith;
        left = cc (drop_at q.before b.more taken q.size, drop-drop t.number taken (q.before ++ b.more));
      }

  -- What was taken in all where the buffer was filled, as far as the source went,
  pub taken_by_filling : {rest' : Option (List ℕ)} → ((told : List ℕ) → HasRead told rest cut kept → Takes told rest' (length cut)) → (told : List ℕ)
      → first ≡ Some told → Takes told rest' (most_bytes + 1)
  taken_by_filling = taken_more (length cut) (most_bytes + 1) (omega (arith, ap length is, length-take (most_bytes + 1 - taken) buffer))

  -- .. and where a read failed before that.
  pub taken_by_failing : {rest' : Option (List ℕ)} → ((told : List ℕ) → HasRead told rest cut kept → Takes told rest' (length cut - 1)) → (told : List ℕ)
      → first ≡ Some told → Takes told rest' most_bytes
  taken_by_failing = taken_more (length cut - 1) most_bytes (omega (arith, ap length is, length-take (most_bytes + 1 - taken) buffer))

-- ---- the buffer was filled
module _ {reader : ScriptReader} {first rest : Option (List ℕ)} {buffer : List ℕ} {taken kept : ℕ} (r : IsReadTo reader first rest buffer taken kept) where
  pub filled_to : {rest' : Option (List ℕ)} {buffer' full : List ℕ} {count : ℕ} → full ≡ buffer'
      → ((told : List ℕ) → HasRead told rest buffer kept → HasRead told rest' buffer' count) → IsReadTo reader first rest' full taken count
  filled_to {rest'} {buffer'} {full} {count} is reads = record {
    before = r.before;
    has_taken = r.has_taken;
    size = r.size;
    behind = λ told all. let b = r.behind told all in search arith;
  }

  -- There are more bytes than an input may have.
  pub too_many : most_bytes < taken + kept → (told : List ℕ) → first ≡ Some told → most_bytes < length told
  too_many long told all =
      let b = r.behind told all in
      let w = b.read.within in
      let s = r.size in
      omega (arith, ap length b.is, length-append r.before b.more)

  -- The reader took the lines in the buffer, which was full, and the buffer let them go.
  pub passed_on : {next : ScriptReader} {buffer' : List ℕ} (gone left : ℕ) → kept ≡ length buffer → TakesLines reader.lines buffer next.lines gone
      → left + gone ≡ length buffer → take left buffer' ≡ drop gone buffer → IsReadTo next first rest buffer' (taken + gone) left
  passed_on gone left full takes parts front = record {
    before = r.before ++ take gone buffer;
    has_taken = takes.taken r.before r.has_taken;
    size = simp (length-append, length-take) (let s = r.size in let w = takes.within in omega arith);
    behind = λ told all.
        let b = r.behind told all in
        let w = b.read.within in
        let same : gone + left ≡ kept = omega arith in
        let fits : gone ≤ kept = omega arith in
        record {
          more = drop gone b.more;
          is = b.is ∙ ap (λ (t : List ℕ). r.before ++ t) (sym (take-append-drop gone b.more))
              ∙ ap (λ (t : List ℕ). r.before ++ (t ++ drop gone b.more)) (sym (shorter gone kept buffer b.more fits b.read.front))
              ∙ sym (append_assoc r.before (take gone buffer) (drop gone b.more));
          read = search (arith, length-drop, drop-drop, take_all, drop-take);
        };
  }

-- ---- what the text gives
is_given : (first : Option (List ℕ)) (text : List ℕ) (given : Given) → IsAllOf first text → IsGivenBy text given → IsGiven first given
is_given first text given all is = search arith

pub given_of : {first : Option (List ℕ)} {text : List ℕ} (read : Result Script ReadFault) (answer : Result Given Stop) → IsAllOf first text
    → IsScripting text read
    → MatchResult answer (λ given. (t : List ℕ) → IsScripting t read → IsGivenBy t given) (λ stop. stop ≡ Stop.Memory) → IfOk answer (IsGiven first)
given_of read answer all is gives = search (arith, is_given)

-- what holds of each value holds of that of an answer
pub of_each : {T E : Type 0} {P : T → Type 0} (answer : Result T E) → ((value : T) → P value) → IfOk answer P
of_each answer holds = search arith

-- ---- the source's end came before the buffer's
module _ {reader : ScriptReader} {first rest : Option (List ℕ)} {buffer : List ℕ} {taken kept : ℕ} (r : IsReadTo reader first rest buffer taken kept)
    {rest' : Option (List ℕ)} {buffer' : List ℕ} {count : ℕ} (reads : (told : List ℕ) → HasRead told rest buffer kept → HasRead told rest' buffer' count)
    (all : (told : List ℕ) → HasRead told rest buffer kept → count ≡ length told) where
  -- What was taken before, and what stands in the buffer, is the whole text,
  pub read_whole : taken + count ≤ most_bytes → IsAllOf first (r.before ++ take count buffer')
  read_whole fits = record {
    short = simp (length-append, length-take) (let s = r.size in omega arith);
    all = λ told is.
        let b = r.behind told is in
        let size = all b.more b.read in
        ap (λ (t : List ℕ). r.before ++ t) ((reads b.more b.read).front ∙ take_all count b.more (omega (arith, size))) ∙ sym b.is;
  }

  -- .. and nothing is left.
  pub read_over : (told : List ℕ) → first ≡ Some told → rest' ≡ Some []
  read_over told is =
      let b = r.behind told is in
      let size = all b.more b.read in
      (reads b.more b.read).left ∙ ap Some (drop_all count b.more (omega (arith, size)))
