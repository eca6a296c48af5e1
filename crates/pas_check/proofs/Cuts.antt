-- The lines of a text that is made of lines are these.
use Rattle.std.proofs.Common.{◌≡◌, ℕ, zero, suc, ◌+◌, ◌/◌, ◌%◌, ◌^◌, ◌<◌, ◌==◌, Bool, true, false, if◌then◌else◌, List, [], ◌∷◌, ◌++◌, map, codes, refl, ap}
use Rattle.std.proofs.Common.{sym, ◌∙◌, arith, append_assoc, inl, inr, length, take, drop, eq-eqb, ne_eqb, take-append-drop, drop-drop}
use Rattle.std.{proofs.lemmas.Bool.{false_from_ne_true, false≢true, cases_eq, Decides.nat_tests}, specs.Fmt.{decimal, digits, digits_onto, digit_glyph}}
use Rattle.std.specs.List.{concat}
use Rattle.memchr.specs.Find.{Nowhere, Passes, is_byte}
use Rattle.pas_profile.specs.{Blocks.address_of, declared.{directory.Kind.Kind, name.Name.Name, event.{Event.Event, Why.Why}}}
use Rattle.pas_records.specs.{declared.record.{Said.Said, Record.Record}, Lines.{hex_digit, hex_digits, kind_text, name_text, line_of, lines_of, line_of_event}}
use Rattle.pas_records.specs.Lines.{line_of_answer}
use Rattle.pas_report.specs.{declared.totals.Totals.Totals, Totals.totals_text}
use Rattle.pas_check.{specs.Lines.{put_front, lines_in, is_line, is_nothing}, proofs.Pages.all_lines}

-- ---- a line is cut off in front of a text
cut_at : (b : ℕ) (bs rest : List ℕ) → is_nothing bs ≡ true → lines_in (10 ∷ (bs ++ rest)) ≡ (10 ∷ bs) ∷ lines_in rest
cut_at b bs rest h = search arith

-- The first line of a text that begins with a line is that line.
pub cut_line : (line rest : List ℕ) → is_line line ≡ true → lines_in (line ++ rest) ≡ line ∷ lines_in rest
cut_line [] rest h = absurd (false≢true h)
cut_line (b ∷ bs) rest h = elim (cases_eq b 10) [
  | inl e ↦
      search (arith, eq-eqb, cut_at)
  | inr ne ↦
      let t : (b == 10) ≡ false = ne_eqb b 10 ne in
      let more : is_line bs ≡ true = sym (ap (λ (x : Bool). if x then is_nothing bs else is_line bs) t) ∙ h in
      ap (λ (x : Bool). if x then (10 ∷ []) ∷ lines_in (bs ++ rest) else put_front b (lines_in (bs ++ rest))) t ∙ ap (put_front b) (cut_line bs rest more)
]

-- ---- what may stand in front of the rest of a line
hex_no_newline : (n : ℕ) → (hex_digit n == 10) ≡ false
hex_no_newline n = grind (arith, nat_tests)

glyph_first : (d : ℕ) (ds rest : List ℕ) → is_line ((digit_glyph false d ∷ ds) ++ rest) ≡ is_line (ds ++ rest)
glyph_first d ds rest = ap (λ (x : Bool). if x then is_nothing (ds ++ rest) else is_line (ds ++ rest)) (hex_no_newline d)

-- in each case it computes, or is given
either_first : (t : Bool) (xs ys rest more : List ℕ) → is_line (xs ++ rest) ≡ is_line more → is_line (ys ++ rest) ≡ is_line more
    → is_line ((if t then xs else ys) ++ rest) ≡ is_line more
either_first t xs ys rest more x y = search arith

onto_first : (k n : ℕ) (ds rest : List ℕ) → is_line (digits_onto k 10 false n ds ++ rest) ≡ is_line (ds ++ rest)
onto_first zero n ds rest = refl
onto_first (suc k) n ds rest =
    let d : ℕ = digit_glyph false (n % 10) in
    either_first (n / 10 == 0) (d ∷ ds) (digits_onto k 10 false (n / 10) (d ∷ ds)) rest (ds ++ rest) (glyph_first (n % 10) ds rest)
    (onto_first k (n / 10) (d ∷ ds) rest ∙ glyph_first (n % 10) ds rest)

-- A text with a number in front is a line exactly where it is one without.
pub number_first : (n : ℕ) (rest : List ℕ) → is_line (decimal n ++ rest) ≡ is_line rest
unfolding digits
number_first n rest = onto_first 64 n [] rest

hex_first : (k n : ℕ) (rest : List ℕ) → is_line (hex_digits k n ++ rest) ≡ is_line rest
hex_first zero n rest = refl
hex_first (suc k) n rest = ap (λ (x : Bool). if x then is_nothing (hex_digits k n ++ rest) else is_line (hex_digits k n ++ rest))
    (hex_no_newline (n / 16 ^ k % 16)) ∙ hex_first k n rest

name_first : (name : Name) (rest : List ℕ) → is_line (name_text name ++ rest) ≡ is_line rest
name_first name rest = hex_first 8 (address_of name) (codes " turn " ++ (decimal name.turn ++ rest)) ∙ number_first name.turn rest

-- A text with the name of a kind in front is a line exactly where it is one without.
pub kind_first : (kind : Kind) (rest : List ℕ) → is_line (kind_text kind ++ rest) ≡ is_line rest
kind_first kind rest = search (arith, number_first)

-- ---- the line of a record
event_line : (e : Event) → is_line (line_of_event e) ≡ true
event_line (Event.Deed k page d) =
    simp (number_first, kind_first)
event_line (Event.Back k page) = number_first k (codes " back page " ++ (decimal page ++ codes "\n")) ∙ number_first page (codes "\n")
event_line (Event.Unback k page epoch) =
    simp number_first
event_line (Event.Give k block) =
    number_first k (codes " give" ++ (name_text block.name ++ (codes " room " ++ (decimal block.room ++ (codes " heap " ++ (decimal block.heap ++ codes "\n"))))))
    ∙ name_first block.name (codes " room " ++ (decimal block.room ++ (codes " heap " ++ (decimal block.heap ++ codes "\n"))))
    ∙ number_first block.room (codes " heap " ++ (decimal block.heap ++ codes "\n")) ∙ number_first block.heap (codes "\n")
event_line (Event.End k name epoch) =
    number_first k (codes " freed" ++ (name_text name ++ (codes " epoch " ++ (decimal epoch ++ codes "\n"))))
    ∙ name_first name (codes " epoch " ++ (decimal epoch ++ codes "\n")) ∙ number_first epoch (codes "\n")
event_line (Event.Reject k name Why.Ended) = number_first k (codes " ended" ++ (name_text name ++ codes "\n")) ∙ name_first name (codes "\n")
event_line (Event.Reject k name Why.NoBlock) = number_first k (codes " no-block" ++ (name_text name ++ codes "\n")) ∙ name_first name (codes "\n")
event_line (Event.Reject k name (Why.SizeDiffers room)) =
    number_first k (codes " size-differs" ++ (name_text name ++ (codes " asked " ++ (decimal room ++ codes "\n"))))
    ∙ name_first name (codes " asked " ++ (decimal room ++ codes "\n")) ∙ number_first room (codes "\n")

-- Words between two numbers make a line where the last number does.
numbered : (k : ℕ) (words : List ℕ) (n : ℕ) → is_line (words ++ (decimal n ++ codes "\n")) ≡ is_line (decimal n ++ codes "\n")
    → is_line (decimal k ++ (words ++ (decimal n ++ codes "\n"))) ≡ true
numbered k words n passes = number_first k (words ++ (decimal n ++ codes "\n")) ∙ passes ∙ number_first n (codes "\n")

said_line : (k : ℕ) (said : Said) → is_line (line_of_answer k said) ≡ true
said_line k (Said.NoSpace name) = numbered k (codes " no-space name ") name refl
said_line k (Said.Held page name) =
    simp number_first
said_line k (Said.Outside block) = number_first k (codes " outside" ++ (name_text block ++ codes "\n")) ∙ name_first block (codes "\n")
said_line k (Said.Unaligned block) = number_first k (codes " unaligned" ++ (name_text block ++ codes "\n")) ∙ name_first block (codes "\n")
said_line k (Said.Skipped name) = numbered k (codes " skipped name ") name refl
said_line k (Said.Tick epoch) = numbered k (codes " tick ") epoch refl
said_line k (Said.Pass epoch) = numbered k (codes " pass ") epoch refl
said_line k (Said.Bare page) = numbered k (codes " bare page ") page refl
said_line k (Said.Young page stamp) =
    simp number_first
said_line k (Said.InUse page word value) =
    simp (number_first, hex_first)
said_line k (Said.NotOffered page) = numbered k (codes " not-offered page ") page refl
said_line k (Said.Stopped thread) = numbered k (codes " stopped ") thread refl
said_line k (Said.Guarded low high name) =
    simp number_first
said_line k (Said.Kept block name) =
    number_first k (codes " kept" ++ (name_text block ++ (codes " name " ++ (decimal name ++ codes "\n"))))
    ∙ name_first block (codes " name " ++ (decimal name ++ codes "\n")) ∙ number_first name (codes "\n")
said_line k (Said.Lowered low high) =
    simp number_first

-- The line of each record is one line.
pub record_line : (r : Record) → is_line (line_of r) ≡ true
record_line r = search (arith, event_line, said_line, number_first)

-- .. and that of the totals
pub totals_end : (totals : Totals) → is_line (totals_text totals) ≡ true
totals_end totals = simp number_first

-- THE LINES of records in front of a text
pub cut_records : (rs : List Record) (rest : List ℕ) → lines_in (lines_of rs ++ rest) ≡ map line_of rs ++ lines_in rest
cut_records [] rest = refl
cut_records (r ∷ rs) rest = ap lines_in (append_assoc (line_of r) (lines_of rs) rest) ∙ cut_line (line_of r) (lines_of rs ++ rest) (record_line r)
    ∙ ap (λ ls. line_of r ∷ ls) (cut_records rs rest)

-- ---- a text that is read byte by byte
-- no newline stands in these bytes: they are at the front of a line, whatever follows
abbrev pub IsFront : List ℕ → Type 0
IsFront xs = (rest : List ℕ) → is_line (xs ++ rest) ≡ is_line rest

-- the bytes before the first newline
pub front_before : (text : List ℕ) (n : ℕ) → Nowhere (Passes (is_byte 10) text) 0 n → IsFront (take n text)
front_before text zero none rest = refl
front_before [] (suc n) none rest = refl
front_before (b ∷ bs) (suc n) none rest =
    let t : (b == 10) ≡ false = false_from_ne_true (b == 10) (none 0 (omega arith) (omega arith)) in
    ap (λ (x : Bool). if x then is_nothing (take n bs ++ rest) else is_line (take n bs ++ rest)) t
    ∙ front_before bs n (λ k low high. none (suc k) (omega arith) (omega (arith, high))) rest

-- A text without a line feed, with one behind it, is a line.
pub front_ends : (xs : List ℕ) (b : ℕ) → IsFront xs → b ≡ 10 → is_line (xs ++ b ∷ []) ≡ true
front_ends xs b front e = front (b ∷ []) ∙ ap (λ c. is_line (c ∷ [])) e

-- A text with a last byte isn't nothing.
something : (bs : List ℕ) (c : ℕ) → is_nothing (bs ++ c ∷ []) ≡ false
something [] c = refl
something (b ∷ bs) c = refl

-- a text without a newline is one line
head_isnt : (b : ℕ) (bs : List ℕ) → IsFront (b ∷ bs) → (b == 10) ≡ false
head_isnt b bs front = elim (cases_eq b 10) [
  | inl e ↦
      let t : (b == 10) ≡ true = eq-eqb b 10 e in
      absurd (false≢true (sym (something bs 10) ∙ sym (ap (λ (x : Bool). if x then is_nothing (bs ++ 10 ∷ []) else is_line (bs ++ 10 ∷ [])) t) ∙ front (10 ∷ [])))
  | inr ne ↦ ne_eqb b 10 ne
]

tail_front : (b : ℕ) (bs : List ℕ) → IsFront (b ∷ bs) → IsFront bs
tail_front b bs front more = sym (ap (λ (x : Bool). if x then is_nothing (bs ++ more) else is_line (bs ++ more)) (head_isnt b bs front)) ∙ front more

only_front : (b : ℕ) (bs : List ℕ) → IsFront (b ∷ bs) → lines_in (b ∷ bs) ≡ (b ∷ bs) ∷ []
only_front b [] front = ap (λ (x : Bool). if x then (10 ∷ []) ∷ [] else put_front b []) (head_isnt b [] front)
only_front b (c ∷ cs) front =
    ap (λ (x : Bool). if x then (10 ∷ []) ∷ lines_in (c ∷ cs) else put_front b (lines_in (c ∷ cs))) (head_isnt b (c ∷ cs) front)
    ∙ ap (put_front b) (only_front c cs (tail_front b (c ∷ cs) front))

-- A text without a line feed is its own only line.
pub all_front : (text : List ℕ) → 0 < length text → IsFront text → lines_in text ≡ text ∷ []
all_front [] some front = absurd (omega (arith, some))
all_front (b ∷ bs) some front = only_front b bs front

-- the first line of a text
pub cut_first : (n : ℕ) (text : List ℕ) → is_line (take n text) ≡ true → lines_in text ≡ take n text ∷ lines_in (drop n text)
cut_first n text is = ap lines_in (sym (take-append-drop n text)) ∙ cut_line (take n text) (drop n text) is

-- ---- a line that is wanted
pub line_some : (line : List ℕ) → is_line line ≡ true → 0 < length line
line_some [] is = absurd (false≢true is)
line_some (b ∷ bs) is = omega arith

-- where the text goes on with it, it is the next line
pub cut_here : (text wanted : List ℕ) (b : ℕ) → drop b text ≡ wanted ++ drop (length wanted) (drop b text) → is_line wanted ≡ true
    → lines_in (drop b text) ≡ wanted ∷ lines_in (drop (b + length wanted) text)
cut_here text wanted b starts is = cc (cut_line wanted (drop (length wanted) (drop b text)) is, drop-drop (length wanted) b text)

-- the text goes on with its next line
pub goes_on_with : (text line : List ℕ) (rest : List (List ℕ)) → lines_in text ≡ line ∷ rest → text ≡ line ++ concat rest
goes_on_with text line rest has = sym (all_lines text) ∙ ap concat has
