-- PASSES as acts: what a pass does in the text, page by page; then the pages that were hinted come to the outcomes of the text, and their hints and offers are those
-- of the text afterwards.
use Rattle.pas_same_text.proofs.{PassOrder.{past_words, IsPast, falling, falling_skips, rising}, Common.{false≢true, or_cases, or_left, not_from_false}}
use Rattle.pas_same_text.proofs.Common.{cases_Bool, false_from_ne_true, reverse_onto, reverse-append, reverse-reverse, fun_ext, find, filter, Event, Outcome}
use Rattle.pas_same_text.proofs.Common.{Profile, Directory, Word, backed_in, epoch_in, unbacks_in, outcomes_in, all_tried, Progress, Record, Said, numbers_from}
use Rattle.pas_same_text.proofs.Common.{Act, World, each, says, acts_on, IsBetween, IsTaken, AreEndsStamped, page_numbers, is_free, is_hinted, is_empty}
use Rattle.pas_same_text.proofs.Common.{is_offered, outcome_backed, outcome_of, has_number, lives_in, IsSame, HasSame, AreSameCaches, number_of, IsValid}
use Rattle.pas_same_text.proofs.Common.{IsPage, IsDirectoryOf, same_from_deed_word, made, triples, part, word_after, visible, Legal, Made, Look, same_truth}
use Rattle.pas_same_text.proofs.{Common.{empty_bit, eligible_bit, legal_earlier, deed_same, offered_deed, hinted_page}, CacheLists.all_locals}
use Rattle.pas_same_text.proofs.{Tests.{filtered_has, has_filtered}, Flushes.{visible_steps, map_reverse}, StepMarks.{OffersPage, offered_by, epoch_stays_by}}
use Rattle.pas_same_text.proofs.{FreeGrains.{guards_as, still_unguarded}, GivenBack.{free_kept, empty_kept, is_idle, page_there}, PassOutcomes.pair}
use Rattle.pas_same_text.proofs.{PassOutcomes.{stays_hinted, WasOffered, has_same}, RestingPages.{open_grows, page_idle, idle_hinted, is_open, had_open}}
use Rattle.pas_same_text.{proofs.RestingPages.{offered_bit, bit_offered}, specs.Passes.{passes, free_bits, comes_to, examines}}
use Rattle.pas_profile.specs.Profiles.{vector_words}
use Rattle.std.proofs.Common.{◌≡◌, ℕ, zero, suc, ◌+◌, ◌*◌, ◌^◌, ◌≤◌, ◌==◌, Bool, true, false, not, if◌then◌else◌, List, [], ◌∷◌, ◌++◌, map, reverse}
use Rattle.std.proofs.Common.{append_assoc, append-nil, Option, None, Some, refl, ap, sym, ◌∙◌, subst, arith, true≢false, eq-eqb, eqb-true, ne_eqb, ◌&&◌, inl}
use Rattle.std.proofs.{Common.inr, lemmas.{List.{Concat.flat_map-append, Elements.filter_agree}, Simd.map-map}}
use Rattle.pas_scavenger.specs.{Pages.unback_of, Passes.{passing, PassSteps}}
use Rattle.pas_answers.specs.{PassRecords.record_of, Answers.after_pass}

-- ---- what the outcome of a page rests on
bits_same : (w v : World) (page word : ℕ) → ((b : ℕ) → is_free v page b ≡ is_free w page b) → (n : ℕ) → free_bits v page word n ≡ free_bits w page word n
unfolding free_bits
bits_same w v page word same zero = refl
bits_same w v page word same (suc n) =
    ap (λ (x : ℕ). x + (if is_free v page (64 * word + n) then 2 ^ n else 0)) (bits_same w v page word same n)
    ∙ ap (λ (t : Bool). free_bits w page word n + (if t then 2 ^ n else 0)) (same (64 * word + n))

find_same : (test other : ℕ → Bool) (xs : List ℕ) → ((x : ℕ) → test x ≡ other x) → find test xs ≡ find other xs
find_same test other xs agree = ap (λ (t : ℕ → Bool). find t xs) (fun_ext agree)

record JudgesSame (page : ℕ) (w v : World) : Type 0 where
  backed : backed_in v.events page ≡ backed_in w.events page
  ended : epoch_in v.events page ≡ epoch_in w.events page
  live : v.live ≡ w.live
  caches : v.caches ≡ w.caches
  epoch : v.epoch ≡ w.epoch

module _ (f : Profile) (page : ℕ) (w v : World) (s : JudgesSame page w v) where
  -- both come to the outcome by the same words, and who keeps the page is read of the caches alone
  backed_same : (o : Option ℕ) → outcome_backed f v page o ≡ outcome_backed f w page o
  backed_same (Some word) = ap (λ (n : ℕ). Outcome.InUse word n) (bits_same w v page word (λ b. free_kept w v page b s.live (ap all_locals s.caches)) 64)
  backed_same None = search arith

  outcome_same : outcome_of f v page ≡ outcome_of f w page
  outcome_same = search (arith, find_same, free_kept, backed_same)

-- ---- a page comes to an outcome
come_events : (page : ℕ) (o : Outcome) (w : World) → (comes_to page o w).events ≡ unback_of 0 w.epoch page o ++ w.events
come_events page Outcome.Unbacked w = refl
come_events page o w = refl

come_records : (page : ℕ) (o : Outcome) (w : World) → (comes_to page o w).records ≡ record_of 0 w.epoch page o ∷ w.records
come_records page Outcome.Unbacked w = refl
come_records page o w = refl

come_hinted : (page : ℕ) (o : Outcome) (w : World) → (comes_to page o w).hinted ≡ (if stays_hinted o then w.hinted else filter (λ p. not (p == page)) w.hinted)
come_hinted page Outcome.Unbacked w = refl
come_hinted page o w = refl

-- what else a state has
pub record HasLeft (w v : World) : Type 0 where
  pub live : v.live ≡ w.live
  pub lives : lives_in v.events ≡ lives_in w.events
  pub names : v.names ≡ w.names
  pub caches : v.caches ≡ w.caches
  pub guards : v.guards ≡ w.guards
  pub epoch : v.epoch ≡ w.epoch
  pub read : v.read ≡ w.read

come_left : (page : ℕ) (o : Outcome) (w : World) → HasLeft w (comes_to page o w)
come_left page o w = search arith

-- ---- hints: the page loses its own where its outcome ends it
hint_was : (page : ℕ) (stays : Bool) (hinted : List ℕ) (q : ℕ) → has_number (if stays then hinted else filter (λ p. not (p == page)) hinted) q ≡ true
    → has_number hinted q ≡ true
hint_was page stays hinted q h = search (arith, filtered_has)

hint_so : (page : ℕ) (stays : Bool) (hinted : List ℕ) → has_number (if stays then hinted else filter (λ p. not (p == page)) hinted) page ≡ true → stays ≡ true
hint_so page stays hinted h = search (arith, true≢false, filtered_has, eq-eqb)

hint_still : (page : ℕ) (stays : Bool) (hinted : List ℕ) (q : ℕ) → has_number hinted q ≡ true → (page ≡ q → stays ≡ true)
    → has_number (if stays then hinted else filter (λ p. not (p == page)) hinted) q ≡ true
hint_still page stays hinted q h so = search (arith, has_filtered, not_from_false, ne_eqb, false≢true)

-- ==== PAGES COME to these outcomes, one after the other
pub record HasCome (out : ℕ → Outcome) (pages : List ℕ) (w v : World) : Type 0 where
  pub events : v.events ≡ unbacks_in 0 w.epoch (reverse (map (λ q. pair q (out q)) pages)) ++ w.events
  pub records : v.records ≡ reverse (map (λ q. record_of 0 w.epoch q (out q)) pages) ++ w.records
  pub left : HasLeft w v
  pub backed : (q : ℕ) → stays_hinted (out q) ≡ true → backed_in v.events q ≡ backed_in w.events q
  pub hinted_was : (q : ℕ) → is_hinted v q ≡ true → is_hinted w q ≡ true
  pub hinted_so : (q : ℕ) → has_number pages q ≡ true → is_hinted v q ≡ true → stays_hinted (out q) ≡ true
  pub hinted_still : (q : ℕ) → is_hinted w q ≡ true → (has_number pages q ≡ true → stays_hinted (out q) ≡ true) → is_hinted v q ≡ true

last_unback : (epoch page : ℕ) (o : Outcome) (pairs : List (ℕ × Outcome)) (es : List Event)
    → unbacks_in 0 epoch (reverse pairs) ++ (unback_of 0 epoch page o ++ es) ≡ unbacks_in 0 epoch (reverse (pair page o ∷ pairs)) ++ es
last_unback epoch page o pairs es =
    sym (append_assoc (unbacks_in 0 epoch (reverse pairs)) (unback_of 0 epoch page o) es)
    ∙ ap (λ (xs : List Event). xs ++ es)
    (ap (λ (xs : List Event). unbacks_in 0 epoch (reverse pairs) ++ xs) (sym (append-nil (unback_of 0 epoch page o)))
    ∙ (sym (flat_map-append _ (reverse pairs) (pair page o ∷ [])) ∙ ap (unbacks_in 0 epoch) (sym (reverse_onto pairs (pair page o) []))))

last_record : (r : Record) (rs ws : List Record) → reverse rs ++ (r ∷ ws) ≡ reverse (r ∷ rs) ++ ws
last_record r rs ws = sym (append_assoc (reverse rs) (r ∷ []) ws) ∙ ap (λ (xs : List Record). xs ++ ws) (sym (reverse_onto rs r []))

all_come : (out : ℕ → Outcome) (pages : List ℕ) (w : World) → HasCome out pages w (each (λ q. comes_to q (out q)) pages w)
all_come out [] w = search (arith, false≢true)
all_come out (page ∷ pages) w =
    let x : World = comes_to page (out page) w in
    let v : World = each (λ q. comes_to q (out q)) pages x in
    let r : HasCome out pages x v = all_come out pages x in
    let a : HasLeft w x = come_left page (out page) w in
    let hints : x.hinted ≡ (if stays_hinted (out page) then w.hinted else filter (λ p. not (p == page)) w.hinted) = come_hinted page (out page) w in
    record {
      events = cc (come_events page (out page) w, last_unback w.epoch page (out page) (map (λ q. pair q (out q)) pages) w.events);
      records = search (arith, come_records, last_record);
      left = search arith;
      backed = λ q stays. r.backed q stays
          ∙ (let it : backed_in (comes_to page (out page) w).events q ≡ backed_in w.events q = search (arith, ne_eqb, false≢true) in it);
      hinted_was = λ q h. hint_was page (stays_hinted (out page)) w.hinted q (sym (ap (λ (hs : List ℕ). has_number hs q) hints) ∙ r.hinted_was q h);
      hinted_so = search (arith, or_cases, eqb-true, hint_so);
      hinted_still = search (arith, hint_still, or_left, eq-eqb);
    }

-- ==== each page has the outcome that it had before the first of them
module _ (f : Profile) (w : World) (test : ℕ → Bool) where
  abbrev out : ℕ → Outcome
  out q = outcome_of f w q

  one_examined : (v : World) (k : ℕ) (xs : List ℕ) (t : Bool) → outcome_of f v k ≡ out k
      → each (examines f) xs (comes_to k (out k) v) ≡ each (λ q. comes_to q (out q)) xs (comes_to k (out k) v)
      → each (examines f) xs v ≡ each (λ q. comes_to q (out q)) xs v
      → each (examines f) (if t then k ∷ xs else xs) v ≡ each (λ q. comes_to q (out q)) (if t then k ∷ xs else xs) v
  one_examined v k xs t agree after before = search arith

  all_examined : (n k : ℕ) (v : World) → ((q : ℕ) → k ≤ q → outcome_of f v q ≡ out q)
      → each (examines f) (filter test (numbers_from k n)) v ≡ each (λ q. comes_to q (out q)) (filter test (numbers_from k n)) v
  all_examined zero k v agree = refl
  all_examined (suc n) k v agree =
      let x : World = comes_to k (out k) v in
      one_examined v k (filter test (numbers_from (k + 1) n)) (test k) (agree k (omega arith))
      (all_examined n (k + 1) x (λ q low. outcome_same f q v x (search (arith, ne_eqb, false≢true)) ∙ agree q (omega (arith, low))))
      (all_examined n (k + 1) v (λ q low. agree q (omega (arith, low))))

-- ==== PASSES as acts: the pages that were hinted come to the outcomes of the text, and their hints and offers are those of the text afterwards.
-- ---- lists
module _ (f : Profile) (p : Progress) (w : World) (epoch : ℕ) (found : List (ℕ × Outcome)) (steps : List Made) (valid : IsValid f) (before : IsBetween f p)
    (same : IsSame f p w) (stamped : AreEndsStamped p.list)
    (order : PassSteps f 0 epoch found steps) (after : IsBetween f (after_pass p epoch found steps)) where
  abbrev p' : Progress
  p' = after_pass p epoch found steps

  abbrev v : World
  v = passes f w

  abbrev look : List Made
  look = made (Look Word.Epoch) epoch ∷ []

  abbrev hinted : ℕ → Bool
  hinted q = empty_bit p.list q

  abbrev told : ℕ → ℕ × Outcome
  told q = pair q (outcome_of f w q)

  abbrev pages : List ℕ
  pages = filter (is_hinted w) (page_numbers f)

  abbrev bound : ℕ
  bound = 64 * vector_words f.pages

  -- The list with the pass's steps is legal.
  whole : Legal f (triples 0 (order.read ++ look) ++ p.list)
  whole = subst (λ (ms : List Made). Legal f (triples 0 ms ++ p.list)) order.steps_are after.legal

  -- The pass reads the text's epoch.
  now : epoch ≡ w.epoch
  now = let first : Legal f (triples 0 look ++ p.list) = legal_earlier f 0 order.read look p.list whole in first.0.answer_is ∙ sym same.epoch

  -- What the pass read so far is so in the text.
  past : IsPast f w p.list bound (order.read ++ look) (outcomes_in (all_tried order.words))
  past = past_words f p w valid before same stamped epoch now (vector_words f.pages) order.words order.read
      (made (Look Word.Epoch) epoch ∷ []) order.numbers_are order.order whole (search arith)

  -- Each outcome of the pass comes in the text.
  come : HasCome (outcome_of f w) pages (says (Record.Said 0 (Said.Pass w.epoch)) w) v
  come = let v : World = says (Record.Said 0 (Said.Pass w.epoch)) w in
      subst (HasCome (outcome_of f w) (filter (is_hinted w) (page_numbers f)) v)
      (sym (all_examined f w (is_hinted w) f.pages 1 v
      (λ q low. outcome_same f q w v (record { backed = refl; ended = refl; live = refl; caches = refl; epoch = refl }))))
      (all_come (outcome_of f w) (filter (is_hinted w) (page_numbers f)) v)

  -- ---- the pages, and what was found
  found_are : found ≡ map told pages
  found_are =
      sym (reverse-reverse found)
      ∙ (ap reverse (order.found_are ∙ past.found_are)
      ∙ (sym (map_reverse told (falling hinted bound)) ∙ ap (map told) (sym (filter_agree (is_hinted w) hinted same.pages.hinted (page_numbers f)
      ∙ (rising hinted (false_from_ne_true (hinted 0) (λ bit. let is = hinted_page f p.list before.legal 0 bit in omega (arith, is.0))) f.pages
      ∙ ap reverse (sym (falling_skips hinted (suc f.pages) bound (omega arith)
      (λ q low high. false_from_ne_true (hinted q) (λ bit. let is = hinted_page f p.list before.legal q bit in omega (arith, is.1, low))))))))))

  -- ---- events, blocks and caches
  events : v.events ≡ visible p'.list
  events =
      come.events
      ∙ (ap (λ (ps : List (ℕ × Outcome)). unbacks_in 0 w.epoch (reverse ps) ++ w.events) (sym found_are)
      ∙ (ap (λ (e : ℕ). unbacks_in 0 e (reverse found) ++ w.events) (sym now)
      ∙ (ap (λ (es : List Event). unbacks_in 0 epoch (reverse found) ++ es) same.pages.events
      ∙ (ap (λ (es : List Event). es ++ visible p.list) (sym (order.events (part 0 p.list))) ∙ sym (visible_steps 0 steps p.list)))))

  -- Afterwards the replay has what the text has.
  has : HasSame f p' v
  has =
      let caches = subst (AreSameCaches f p.caches) (sym come.left.caches) same.caches in
      assumption (events, come.left.live ∙ (same.pages.live ∙ sym come.left.lives), caches, guards_as p.books w v come.left.guards same.guards)

  free_is : (page b : ℕ) → is_free v page b ≡ is_free w page b
  free_is page b = free_kept w v page b come.left.live (ap all_locals come.left.caches)

  -- ---- hints
  to_bit : (q : ℕ) → is_hinted v q ≡ true → empty_bit p'.list q ≡ true
  to_bit q h =
      let old : is_hinted w q ≡ true = come.hinted_was q h in
      let bit : hinted q ≡ true = sym (same.pages.hinted q) ∙ old in
      let of : IsPage f q = hinted_page f p.list before.legal q bit in
      let there : has_number pages q ≡ true = has_filtered (is_hinted w) (page_numbers f) q old (page_there f q of) in
      let stays : stays_hinted (outcome_of f w q) ≡ true = come.hinted_so q there h in
      let idle : is_idle w q ≡ true = page_idle f p w valid before (has_same f p w valid before same stamped) q (past.idle q (omega (arith, of.1)) bit stays) in
      let still : is_idle v q ≡ is_idle w q =
      ap (λ (t : Bool). t && is_empty v q) (come.backed q stays) ∙ ap (λ (t : Bool). backed_in w.events q && t) (empty_kept w v q (λ b small. free_is q b)) in
      idle_hinted f p' v valid after has q (still ∙ idle)

  from_bit : (q : ℕ) → empty_bit p'.list q ≡ true → is_hinted v q ≡ true
  from_bit q bit = elim (cases_Bool (is_hinted v q)) [
    | inl is ↦ is
    | inr none ↦
        let of : IsPage f q = hinted_page f p'.list after.legal q bit in
        let gone : (hinted q ≡ true → stays_hinted (outcome_of f w q) ≡ false) = λ old. false_from_ne_true (stays_hinted (outcome_of f w q)) (λ stays.
        false≢true (sym none ∙ come.hinted_still q (same.pages.hinted q ∙ old) (λ there. stays))) in
        let clear = ap (λ (ms : List Made). empty_bit (triples 0 ms ++ p.list) q) order.steps_are ∙ past.bits q (omega (arith, of.1)) gone in
        absurd (false≢true (sym clear ∙ bit))
  ]

  -- ---- offers
  was_open : (q : ℕ) (d : Directory) → IsDirectoryOf f d → eligible_bit p.list (number_of d) q ≡ true → is_open v d q ≡ true
  was_open q d of bit = open_grows w v d q (still_unguarded w v q come.left.guards) (λ b small h. free_is q b ∙ h) (had_open w d q (same.pages.offered q d of ∙ bit))

  -- ---- records
  lines : p'.records ≡ reverse v.records
  lines =
      let shown : List Record = map (λ q. record_of 0 w.epoch q (outcome_of f w q)) pages in
      let line : ℕ → Record = λ e. Record.Said 0 (Said.Pass e) in
      let are : map (λ (x : ℕ × Outcome). record_of 0 w.epoch x.0 x.1) found ≡ shown =
      ap (map (λ (x : ℕ × Outcome). record_of 0 w.epoch x.0 x.1)) found_are ∙ map-map (λ (x : ℕ × Outcome). record_of 0 w.epoch x.0 x.1) told pages in
      ap (λ (rs : List Record). rs ++ (line epoch ∷ map (λ (x : ℕ × Outcome). record_of 0 epoch x.0 x.1) found)) same.records
      ∙ (ap (λ (e : ℕ). reverse w.records ++ (line e ∷ map (λ (x : ℕ × Outcome). record_of 0 e x.0 x.1) found)) now
      ∙ (ap (λ (rs : List Record). reverse w.records ++ (line w.epoch ∷ rs)) are
      ∙ (sym (cc (
        reverse-append (reverse shown) ((line w.epoch) ∷ w.records),
        reverse-reverse shown,
        reverse_onto w.records (line w.epoch) [],
        append_assoc (reverse w.records) ((line w.epoch) ∷ []) shown,
      )) ∙ ap reverse (sym come.records))))

  pass_to : IsSame f p' v
  pass_to =
      let hinted = λ (q : ℕ). same_truth (is_hinted v q) (empty_bit p'.list q) (to_bit q) (from_bit q) in
      let offered = λ (q : ℕ) (d : Directory) (of : IsDirectoryOf f d).
      same_truth (is_offered v d q) (eligible_bit p'.list (number_of d) q) (offered_bit f p' v valid after has q d of)
      (λ bit. bit_offered f p' v valid after has q d of bit (elim (offered_by 0 steps p.list (number_of d) q bit) [
        | inl old ↦ was_open q d of old
        | inr offer ↦
            let o : WasOffered f p.list q = past.offers q (subst (OffersPage q) order.steps_are offer) in
            let word : word_after p'.list (Word.Deed q) ≡ word_after p.list (Word.Deed q) = deed_same passing refl 0 steps p.list q order.kinds in
            let is : o.directory ≡ d = same_from_deed_word o.directory d o.of_profile.kind of.kind
            (sym (offered_deed f p.list o.directory q o.of_profile before.legal o.offered) ∙ (sym word ∙ offered_deed f p'.list d q of after.legal bit)) in
            subst (λ (e : Directory). is_open v e q ≡ true) is (was_open q o.directory o.of_profile o.offered)
      ])) in
      let epoch = come.left.epoch ∙ (same.epoch ∙ sym (epoch_stays_by passing refl 0 steps p.list order.kinds)) in
      assumption (has, hinted, offered, lines, epoch, come.left.names ∙ same.names, come.left.read ∙ same.read)

-- THE ACT
pub pass_same : (f : Profile) (p p' : Progress) (w : World) → AreEndsStamped p.list → IsTaken f Act.MakesPass p p' w → IsSame f p' (acts_on f Act.MakesPass w)
pass_same f p next w stamped taken =
    let epoch : ℕ = taken.advances.0 in
    let found : List (ℕ × Outcome) = taken.advances.1 in
    let steps : List Made = taken.advances.2 in
    let after : IsBetween f (after_pass p epoch found steps) = subst (IsBetween f) taken.advances.4 taken.after in
    subst (λ (q : Progress). IsSame f q (passes f w)) (sym taken.advances.4) (pass_to f p w epoch found steps taken.valid taken.before taken.same stamped taken.advances.3 after)
