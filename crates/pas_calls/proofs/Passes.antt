-- The lines of a pass: what came of its pages; and those of a sweep, by which a keeper lowers guards.
use Rattle.std.proofs.Common.{◌≡◌, ◌≢◌, ℕ, ◌-◌, ◌^◌, ◌<◌, Bool, true, false, List, [], ◌∷◌, ◌++◌, Option, Some, None, inl, inr, refl, ap, ◌∙◌, subst, arith}
use Rattle.std.proofs.{Common.{zero, suc, ◌+◌, ◌*◌, ◌≤◌, if◌then◌else◌, sym, append-nil, map, reverse, ◌/◌, ◌%◌, ◌||◌, not}, lemmas.List.map-append}
use Rattle.std.{proofs.lemmas.List.{reverse-append, reverse-reverse}, specs.List.filter}
use Rattle.pas_profile.specs.{Directories.deed_word_of, Profiles.{IsValid, vector_words}, Blocks.address_of, Lives.turn_of, Guards.{guards_of, raised_by}}
use Rattle.pas_profile.specs.declared.{directory.Directory.Directory, event.Outcome.{Outcome, TheVariants.{Unbacked, Bare, Young, InUse, NotOffered}}}
use Rattle.pas_profile.specs.declared.{event.Event.Event, profile.Profile.Profile, word.Word.Word, guard.{Raised.Raised, Guard.Guard}}
use Rattle.pas_profile.proofs.Codecs.{deed_word_of-positive}
use Rattle.pas_machine.specs.{Machine.Run, State.{backed_in, deed_in, epoch_in, ends_in, gives_in, live_in}}
use Rattle.pas_core.{specs.Good.{word_of_backed, word_of_deed}, proofs.{Deeds.{backed_of, deed_of}, MachineRuns.runs, OneActor.legal_earlier}}
use Rattle.pas_core.proofs.Lives.{stamps_are_ends, words_fit, life_at, turn_is}
use Rattle.pas_steps.specs.{Desks.{made, triples, triple}, Views.{all_ones, known_epoch}, InTurn.{InTurn, numbers_below}, Effects.life_word_at, Kinds.Only}
use Rattle.pas_steps.specs.{Kinds.{Taking, LookLife, LookFree}, Lists.{Legal, Whole, part, visible, word_after}, declared.step.Made.Made}
use Rattle.pas_steps.{specs.declared.step.Step.TheVariants.{Look, Unhint, Take}, proofs.Apart.{no_events, only_both, only_within, epoch_same}}
use Rattle.pas_steps.proofs.{Parts.part_of_own, Adding.triples_append}
use Rattle.pas_rights.{specs.{Takes.takes, Looks.{AreUsed, IsUsed, looks_until}, Words.ones, PutsBack.giving_back}, proofs.Orders.until_only}
use Rattle.pas_scavenger.specs.{Readings.takes_until, Judgements.used_at, Pages.{EndsWith, EndsWithout, ExamineSteps, first_looks, quiet, unback_of, examining}}
use Rattle.pas_scavenger.specs.Passes.{TriedSteps, TrySteps, Tried, WordRead, WordSteps, all_tried, outcomes_in, pages_set, trying, with_outcome, PassSteps}
use Rattle.pas_scavenger.{specs.Passes.passing, proofs.Examinations.{asks_sized, examine_event, taken_on, takes_are, examine_sized, outcomes_append}}
use Rattle.pas_answers.{proofs.{Consequences.{parts_kept, tidy_piece, Tidy, tidy_over, look_tidy, sweep_tidy}, Reached.Each}, specs.PassRecords.record_of}
use Rattle.pas_answers.specs.{PassRecords.records_of_pass, Answers.{Progress, after_pass}, Guarding.{IsLowered, after_lowering}}
use Rattle.pas_check.specs.{States.{Examines, Stand, with_due, Does, Task, Due}, Takes.{MayCome, after_outcome, record_of as allowed_record}}
use Rattle.pas_check.{specs.Begins.{lowered_due, lowered_record, goes_down, sweeping}, proofs.Ticks.epoch_kept}
use Rattle.pas_bits.specs.Bits.{has_bit}
use Rattle.pas_trace.specs.Acts.{MakesPass, Lowers}
use Rattle.pas_guard.specs.Sweeps.{Swept, SweptOne, is_over, life_look, lowered_record as lowered_by, sweeping as sweeping_kinds}
use Rattle.pas_records.specs.{Lines.line_of, declared.record.{Record.Record, Said.Said}}
use Rattle.pas_calls.proofs.Telling.{visible_piece, LeadsOn, on_as, on_both, on_line, on_same, lines_both, lines_by, on_past, on_task, Comes, Tells, AreAligned}
use Rattle.pas_calls.proofs.Telling.{going, is_down, staying, booked_sweep, going_told}

-- ---- What comes of a page in a pass may come there
-- steps without an event leave what is visible
quiet_visible : (steps : List Made) (l : Whole) → Only quiet steps → visible (triples 0 steps ++ l) ≡ visible l
quiet_visible steps l only = visible_piece 0 steps l ∙ ap (λ es. es ++ visible l) (no_events quiet refl 0 (part 0 l) steps only)

-- ---- what a word that was read says
none_backed : (b : Bool) → 0 ≡ word_of_backed b → b ≡ false
none_backed b is = search arith

bare_at : (f : Profile) (l : Whole) (page : ℕ) → Legal f l → 0 ≡ word_after l (Word.Backed page) → backed_in (visible l) page ≡ false
bare_at f l page legal read = none_backed (backed_in (visible l) page) (read ∙ backed_of f l legal page)

some_deed : (o : Option Directory) (d : Directory) → deed_word_of d ≡ word_of_deed o → o ≢ None
some_deed o d read none = deed_word_of-positive d (read ∙ ap word_of_deed none)

deed_at : (f : Profile) (l : Whole) (page : ℕ) (d : Directory) → Legal f l → deed_word_of d ≡ word_after l (Word.Deed page) → deed_in (visible l) page ≢ None
deed_at f l page d legal read = some_deed (deed_in (visible l) page) d (read ∙ deed_of f l legal page)

used_small : (f : Profile) (l : Whole) (page word value : ℕ) → IsValid f → Legal f l → value ≢ all_ones → value ≡ word_after l (Word.Free page word)
    → value < 2 ^ 64 - 1
used_small f l page word value valid legal some read = omega (arith, words_fit f l valid legal (Word.Free page word), some, read)

-- ---- in a pass
-- where this is the last page that had an outcome, and these are the steps so far
abbrev pub at_pass : Stand → Whole → ℕ → Stand
at_pass s l last = record s { events = visible l; due = Examines last ∷ [] }

pub record MayPass (s : Stand) (l : Whole) : Type 0 where
  pub tidy : Each Tidy l
  pub known : known_epoch (part 0 l) ≡ Some s.epoch

first_quiet : (page b : ℕ) → Only quiet (first_looks page b None)
first_quiet page b = only_both quiet (looks_until page None) (made (Look (Word.Backed page)) b ∷ []) (only_within (LookFree ∷ []) quiet (looks_until page None) refl (until_only page None)) (refl, tt)

module _ (f : Profile) (valid : IsValid f) (s : Stand) (l : Whole) (may : MayPass s l) (page last : ℕ) (after : List Made)
    (legal : Legal f (triples 0 after ++ l)) where
  -- what was made before these steps
  since : (ys xs : List Made) → after ≡ ys ++ xs → Legal f (triples 0 xs ++ l)
  since ys xs is = legal_earlier f 0 ys xs l (subst (λ ms. Legal f (triples 0 ms ++ l)) is legal)

  -- ---- without the page's right
  without : (outcome : Outcome) → EndsWithout page outcome after → MayCome f (at_pass s l last) page outcome
  without outcome h = search (arith, since, bare_at, used_small, quiet_visible, first_quiet, deed_at)

  -- ---- with it
  module _ (outcome : Outcome) (h : EndsWith f.age s.epoch page outcome after) where
    rest_quiet : Only quiet (takes_until page h.takes.used ++ h.asked)
    rest_quiet = only_both quiet (takes_until page h.takes.used) h.asked (only_within (Taking ∷ []) quiet (takes_until page h.takes.used) refl
        (takes_are page h.takes.used)) (asks_sized page h.directory true h.asked h.asks).only

    -- The steps of an examination, in their parts.
    taken : (judged : List Made) → h.takes.after ≡ judged → after ≡ h.takes.back ++ (judged ++ (takes_until page h.takes.used ++ h.asked))
    taken judged is = taken_on f.age s.epoch page outcome after h ∙ ap (λ ms. h.takes.back ++ (ms ++ (takes_until page h.takes.used ++ h.asked))) is

  with_right : (outcome : Outcome) → EndsWith f.age s.epoch page outcome after → Run f (visible (triples 0 after ++ l))
      → visible (triples 0 after ++ l) ≡ unback_of 0 s.epoch page outcome ++ visible l → MayCome f (at_pass s l last) page outcome
  with_right Unbacked h run shown = (subst (Run f) shown run).0
  with_right Bare h run shown =
      let rest : List Made = takes_until page h.takes.used ++ h.asked in
      let at = since h.takes.back (made (Look (Word.Backed page)) 0 ∷ rest) (taken Bare h (made (Look (Word.Backed page)) 0 ∷ []) h.takes.judged.1) in
      subst (λ es. backed_in es page ≡ false) (quiet_visible rest l (rest_quiet Bare h)) (bare_at f (triples 0 rest ++ l) page at.1 at.0.answer_is)
  with_right (Young stamp) h run shown =
      let j = h.takes.judged in
      let look : Made = made (Look (Word.Backed page)) j.0 in
      let rest : List Made = look ∷ (takes_until page h.takes.used ++ h.asked) in
      let only : Only quiet rest = (refl, rest_quiet (Young stamp) h) in
      let at = since h.takes.back (made (Look (Word.Stamp page)) stamp ∷ rest) (taken (Young stamp) h (made (Look (Word.Stamp page)) stamp ∷ look ∷ []) j.4) in
      let tidy : Each Tidy (triples 0 rest ++ l) = tidy_piece 0 rest l may.tidy (tidy_over quiet refl rest (part 0 l) only (may.tidy 0)) in
      let stamped : word_after (triples 0 rest ++ l) (Word.Stamp page) ≡ epoch_in (visible (triples 0 rest ++ l)) page
      = stamps_are_ends f (triples 0 rest ++ l) valid at.1 (parts_kept (triples 0 rest ++ l) (λ k. (tidy k).kept)) page (λ k. (tidy k).stamped page) in
      (at.0.answer_is ∙ stamped ∙ ap (λ es. epoch_in es page) (quiet_visible rest l only), j.3)
  with_right (InUse word value) h run shown =
      let j = h.takes.judged in
      let used : IsUsed (used_at word value) = subst AreUsed j.0 h.takes.are in
      let before : List Made = takes page ones ones word ++ h.asked in
      let at = since h.takes.back (made (Take page word all_ones) value ∷ before) (taken (InUse word value) h [] j.1 ∙ ap (λ u. h.takes.back ++ (takes_until page u ++ h.asked)) j.0) in
      (used.within, used_small f (triples 0 before ++ l) page word value valid at.1 used.some at.0.answer_is)
  with_right NotOffered h run shown = absurd h.takes.judged

  -- its event
  outcome_shown : (outcome : Outcome) → ExamineSteps f.age s.epoch page outcome after
      → visible (triples 0 after ++ l) ≡ unback_of 0 s.epoch page outcome ++ visible l
  outcome_shown outcome h = visible_piece 0 after l ∙ ap (λ es. es ++ visible l) (examine_event 0 f.age s.epoch page outcome after (part 0 l) h may.known)

  -- THE OUTCOME of the page
  outcome_may : (outcome : Outcome) → ExamineSteps f.age s.epoch page outcome after → MayCome f (at_pass s l last) page outcome
  outcome_may outcome given = search (arith, without, with_right, runs, outcome_shown)

-- ---- The pages of a pass, tried one after the other: their outcomes rise, and each may come
-- ---- what a pass keeps
both_pieces : (k : ℕ) (ys xs : List Made) (l : Whole) → triples k (ys ++ xs) ++ l ≡ triples k ys ++ (triples k xs ++ l)
both_pieces k [] xs l = refl
both_pieces k (y ∷ ys) xs l = ap (λ (w : Whole). triple k y ∷ w) (both_pieces k ys xs l)

pass_on : (s : Stand) (l : Whole) (steps : List Made) → Only trying steps → MayPass s l → MayPass s (triples 0 steps ++ l)
pass_on s l steps only may = record {
  tidy = tidy_piece 0 steps l may.tidy (tidy_over trying refl steps (part 0 l) only (may.tidy 0));
  known = ap known_epoch (part_of_own 0 steps l) ∙ epoch_same trying refl steps (part 0 l) only ∙ may.known;
}

-- ---- the lines of outcomes, which stand with the newest first
abbrev pub outcome_lines : ℕ → List (ℕ × Outcome) → List (List ℕ)
outcome_lines epoch found = lines_by (map (λ p. record_of 0 epoch p.0 p.1) (reverse found))

outcomes_both : (epoch : ℕ) (xs ys : List (ℕ × Outcome)) → outcome_lines epoch (xs ++ ys) ≡ outcome_lines epoch ys ++ outcome_lines epoch xs
outcomes_both epoch xs ys =
    let record_by : ℕ × Outcome → Record = λ p. record_of 0 epoch p.0 p.1 in
    simp (reverse-append, map-append, lines_both)

outcome_more : (epoch page : ℕ) (o : Option Outcome) (found : List (ℕ × Outcome))
    → outcome_lines epoch (with_outcome page o found) ≡ outcome_lines epoch found ++ outcome_lines epoch (with_outcome page o [])
outcome_more epoch page None found = sym (append-nil (outcome_lines epoch found))
outcome_more epoch page (Some o) found = outcomes_both epoch (with_outcome page (Some o) []) found

-- ---- one page
-- the last page that had an outcome then
abbrev last_after : Option Outcome → ℕ → ℕ → ℕ
last_after None page last = last
last_after (Some o) page last = page

record IsTried (f : Profile) (s : Stand) (l : Whole) (page last : ℕ) (o : Option Outcome) (steps : List Made) : Type 0 where
  only : Only trying steps
  leads : LeadsOn f (at_pass s l last) (outcome_lines s.epoch (with_outcome page o [])) (at_pass s (triples 0 steps ++ l) (last_after o page last))

-- in each case it computes, or is given
same_record : (epoch page : ℕ) (o : Outcome) → record_of 0 epoch page o ≡ allowed_record epoch page o
same_record epoch page o = search arith

-- in each case it computes, or is given
then_is : (s : Stand) (page : ℕ) (o : Outcome) → after_outcome s page o ≡ record s { events = unback_of 0 s.epoch page o ++ s.events }
then_is s page o = search arith

try_page : (f : Profile) → IsValid f → (s : Stand) (l : Whole) (page last : ℕ) (o : Option Outcome) (steps : List Made) → MayPass s l → (1 ≤ page → last < page)
    → Legal f (triples 0 steps ++ l) → TrySteps f.age s.epoch page o steps
    → IsTried f s l page last o steps
try_page f valid s l page last None steps may rises legal h = search (arith, on_same)
try_page f valid s l page last (Some o) steps may rises legal h =
    let unhint : List Made = made (Unhint page) h.0 ∷ [] in
    let l1 : Whole = triples 0 unhint ++ l in
    let there : triples 0 steps ++ l ≡ triples 0 h.2 ++ l1 = ap (λ ms. triples 0 ms ++ l) h.4 ∙ both_pieces 0 h.2 unhint l in
    let legal1 : Legal f (triples 0 h.2 ++ l1) = subst (Legal f) there legal in
    let first = legal_earlier f 0 h.2 unhint l (subst (λ ms. Legal f (triples 0 ms ++ l)) h.4 legal) in
    let may1 : MayPass s l1 = pass_on s l unhint (refl, tt) may in
    let of_region = first.0.of_region in
    let shown : visible (triples 0 steps ++ l) ≡ unback_of 0 s.epoch page o ++ visible l = ap visible there ∙ outcome_shown f valid s l1 may1 page last h.2 legal1 o h.3 in
    record {
      only = subst (Only trying) (sym h.4) (only_both trying h.2 unhint (only_within examining trying h.2 refl (examine_sized f.age s.epoch page o h.2 h.3).only) (refl, tt));
      leads = on_line (inl record {
        page = page;
        rises = rises of_region.0;
        of_region = of_region;
        outcome = o;
        may = outcome_may f valid s l1 may1 page last h.2 legal1 o h.3;
        line_is = ap line_of (same_record s.epoch page o);
        next_is = ap (λ es. record s { events = es; due = Examines page ∷ [] }) shown ∙ sym (ap (λ u. with_due u (Examines page ∷ [])) (then_is (at_pass s l last) page o));
      });
    }

-- ---- several pages of rising numbers
-- any page from this number on is past the last one that had an outcome
abbrev pub Below : ℕ → ℕ → Type 0
Below bound last = (x : ℕ) → bound ≤ x → 1 ≤ x → last < x

-- numbers from the one to below the other, the greatest first
abbrev Descends : ℕ → ℕ → List ℕ → Type 0
Descends low high [] = Unit {0}
Descends low high (x ∷ xs) = (low ≤ x) × (x < high) × Descends low x xs

pub record Passed (f : Profile) (s : Stand) (l : Whole) (first high : ℕ) (found : List (ℕ × Outcome)) (steps : List Made) : Type 0 where
  pub last : ℕ
  pub below : Below high last
  pub only : Only trying steps
  pub leads : LeadsOn f (at_pass s l first) (outcome_lines s.epoch found) (at_pass s (triples 0 steps ++ l) last)

-- in each case it computes, or is given
below_after : (o : Option Outcome) (page last high : ℕ) → page < high → Below page last → Below high (last_after o page last)
below_after None page last high lt below x le some = below x (omega (arith, lt, le)) some
below_after (Some o) page last high lt below x le some = omega (arith, lt, le)

none_passed : (f : Profile) (s : Stand) (l : Whole) (first high : ℕ) (steps : List Made) → Below high first → steps ≡ [] → Passed f s l first high [] steps
none_passed f s l first high steps below none = record {
  last = first;
  below = below;
  only = subst (Only trying) (sym none) tt;
  leads = on_same (ap (λ ms. at_pass s (triples 0 ms ++ l) first) (sym none));
}

tries_pass : (f : Profile) → IsValid f → (s : Stand) (l : Whole) (first low high : ℕ) (tried : List Tried) (steps : List Made) → MayPass s l
    → Legal f (triples 0 steps ++ l) → low ≤ high → Below low first
    → Descends low high (map (λ t. t.page) tried) → InTurn (TriedSteps f.age s.epoch) tried steps → Passed f s l first high (outcomes_in tried) steps
tries_pass f valid s l first low high [] steps may legal le below falls h = none_passed f s l first high steps (λ x more some. below x (omega (arith, le, more)) some) h
tries_pass f valid s l first low high (t ∷ earlier) steps may legal le below falls h =
    let piece : List Made = h.0 in
    let before : List Made = h.1 in
    let whole : Legal f (triples 0 (piece ++ before) ++ l) = subst (λ ms. Legal f (triples 0 ms ++ l)) h.4 legal in
    let old : Passed f s l first t.page (outcomes_in earlier) before
    = tries_pass f valid s l first low t.page earlier before may (legal_earlier f 0 piece before l whole) falls.0 below falls.2 h.3 in
    let l1 : Whole = triples 0 before ++ l in
    let one : IsTried f s l1 t.page old.last t.outcome piece
    = try_page f valid s l1 t.page old.last t.outcome piece (pass_on s l before old.only may) (old.below t.page (omega arith)) (subst (Legal f) (both_pieces 0 piece before l) whole) h.2 in
    let last : ℕ = last_after t.outcome t.page old.last in
    record {
      last = last;
      below = below_after t.outcome t.page old.last high falls.1 old.below;
      only = subst (Only trying) (sym h.4) (only_both trying piece before one.only old.only);
      leads = on_as (outcome_more s.epoch t.page t.outcome (outcomes_in earlier))
          (ap (λ w. at_pass s w last) (ap (λ ms. triples 0 ms ++ l) h.4 ∙ both_pieces 0 piece before l))
          (on_both old.leads one.leads);
    }

-- ---- the words
raised : (low high more : ℕ) (xs : List ℕ) → high ≤ more → Descends low high xs → Descends low more xs
raised low high more [] le falls = tt
raised low high more (x ∷ xs) le falls = (falls.0, (omega (arith, falls.1, le)), falls.2)

set_more : (t : Bool) (n m : ℕ) (xs : List ℕ) → Descends (64 * n) (64 * n + m) xs → Descends (64 * n) (64 * n + suc m) (if t then (64 * n + m) ∷ xs else xs)
set_more t n m xs falls = search (arith, raised)

set_falls : (n value m : ℕ) → Descends (64 * n) (64 * n + m) (pages_set n value m)
set_falls n value zero = tt
set_falls n value (suc m) = set_more (has_bit value m) n m (pages_set n value m) (set_falls n value m)

same_head : {A : Type 0} {x y : A} {xs ys : List A} → x ∷ xs ≡ y ∷ ys → x ≡ y
same_head same = cc

-- The pages of a pass are tried upwards, each once, and each outcome may come.
words_pass : (f : Profile) → IsValid f → (s : Stand) (l : Whole) (n : ℕ) (words : List WordRead) (steps : List Made) → MayPass s l
    → Legal f (triples 0 steps ++ l) → map (λ w. w.number) words ≡ numbers_below n
    → InTurn (WordSteps f.age s.epoch) words steps → Passed f s l 0 (64 * n) (outcomes_in (all_tried words)) steps
words_pass f valid s l zero [] steps may legal numbers h = none_passed f s l 0 (64 * 0) steps (λ x le some. some) h
words_pass f valid s l zero (w ∷ words) steps may legal numbers h = absurd (cc)
words_pass f valid s l (suc n) [] steps may legal numbers h = absurd (cc)
words_pass f valid s l (suc n) (w ∷ words) steps may legal numbers h =
    let piece : List Made = h.0 in
    let before : List Made = h.1 in
    let look : List Made = made (Look (Word.Empty w.number)) w.value ∷ [] in
    let after : List Made = h.2.after in
    let whole : Legal f (triples 0 (piece ++ before) ++ l) = subst (λ ms. Legal f (triples 0 ms ++ l)) h.4 legal in
    let old : Passed f s l 0 (64 * n) (outcomes_in (all_tried words)) before = words_pass f valid s l n words before may (legal_earlier f 0 piece before l whole) (cc) h.3 in
    let l1 : Whole = triples 0 before ++ l in
    let l2 : Whole = triples 0 look ++ l1 in
    let there : triples 0 piece ++ l1 ≡ triples 0 after ++ l2 = ap (λ ms. triples 0 ms ++ l1) h.2.steps_are ∙ both_pieces 0 after look l1 in
    let legal2 : Legal f (triples 0 after ++ l2) = subst (Legal f) (both_pieces 0 piece before l ∙ there) whole in
    let may2 : MayPass s l2 = pass_on s l1 look (refl, tt) (pass_on s l before old.only may) in
    let falls : Descends (64 * n) (64 * suc n) (map (λ (t : Tried). t.page) w.tried)
    = raised (64 * n) (64 * n + 64) (64 * suc n) (map (λ (t : Tried). t.page) w.tried) (omega arith)
    (subst (Descends (64 * n) (64 * n + 64)) (sym (h.2.pages_are ∙ ap (λ m. pages_set m w.value 64) (same_head numbers))) (set_falls n w.value 64)) in
    let new : Passed f s l2 old.last (64 * suc n) (outcomes_in w.tried) after
    = tries_pass f valid s l2 old.last (64 * n) (64 * suc n) w.tried after may2 legal2 (omega arith) old.below falls h.2.tries in
    record {
      last = new.last;
      below = new.below;
      only = subst (Only trying) (sym (h.4 ∙ ap (λ ms. ms ++ before) h.2.steps_are)) (only_both trying (after ++ look) before (only_both trying after look new.only (refl, tt)) old.only);
      leads = on_as
          (ap (outcome_lines s.epoch) (outcomes_append w.tried (all_tried words)) ∙ outcomes_both s.epoch (outcomes_in w.tried) (outcomes_in (all_tried words)))
          (ap (λ x. at_pass s x new.last) (ap (λ ms. triples 0 ms ++ l) h.4 ∙ both_pieces 0 piece before l ∙ there))
          (on_both old.leads new.leads);
    }

-- ---- A pass: its first line says the greatest tick, and then come its outcomes
module _ (f : Profile) (valid : IsValid f) (p : Progress) (s : Stand) (ts : List Task) (tells : Tells p s) (due : s.due ≡ [])
    (left : s.left ≡ Does MakesPass ∷ ts) where
  -- by the epoch that the check knows
  passed : (found : List (ℕ × Outcome)) (steps : List Made) → PassSteps f 0 s.epoch found steps → Legal f (triples 0 steps ++ p.list)
      → Comes f s (records_of_pass 0 s.epoch found) (after_pass p s.epoch found steps) ts
  passed found steps h legal =
      let look : List Made = made (Look Word.Epoch) s.epoch ∷ [] in
      let l1 : Whole = triples 0 look ++ p.list in
      let examined : Stand = record s { due = Examines 0 ∷ []; left = ts } in
      let there : triples 0 steps ++ p.list ≡ triples 0 h.read ++ l1 = ap (λ ms. triples 0 ms ++ p.list) h.steps_are ∙ both_pieces 0 h.read look p.list in
      let may : MayPass examined l1 = record { tidy = tidy_piece 0 look p.list tells.tidy (look_tidy Word.Epoch s.epoch (part 0 p.list) refl (tells.tidy 0)); known = refl } in
      let all : Passed f examined l1 0 (64 * vector_words f.pages) (outcomes_in (all_tried h.words)) h.read
      = words_pass f valid examined l1 (vector_words f.pages) h.words h.read may (subst (Legal f) there legal) h.numbers_are h.order in
      let last : Stand = at_pass examined (triples 0 h.read ++ l1) all.last in
      let end : Stand = with_due last [] in
      let head : List ℕ = line_of (Record.Said 0 (Said.Pass s.epoch)) in
      let first : LeadsOn f s (head ∷ []) examined = on_both (on_task due left) (on_line (inr (refl, refl))) in
      let next : LeadsOn f examined [] (at_pass examined l1 0) = on_same (ap (λ es. record examined { events = es }) tells.events) in
      let found_is : found ≡ reverse (outcomes_in (all_tried h.words)) = sym (reverse-reverse found) ∙ ap reverse h.found_are in
      let outs : LeadsOn f (at_pass examined l1 0) (lines_by (map (λ p. record_of 0 s.epoch p.0 p.1) found)) last
      = on_as (ap (λ ps. lines_by (map (λ p. record_of 0 s.epoch p.0 p.1) ps)) found_is) refl all.leads in
      let pass : LeadsOn f examined (lines_by (map (λ p. record_of 0 s.epoch p.0 p.1) found)) end
      = on_both next
      (on_as (sym (append-nil (lines_by (map (λ p. record_of 0 s.epoch p.0 p.1) found)))) refl (on_both outs (on_past f last all.last refl))) in
      record {
        end = end;
        leads = on_both first pass;
        tells = record {
          events = ap visible (sym there);
          names = tells.names;
          logs = tells.logs;
          idle_since = tells.idle_since;
          epoch = tells.epoch ∙ sym (epoch_kept passing refl 0 steps p.list h.kinds);
          books = tells.books;
          tidy = tidy_piece 0 steps p.list tells.tidy (tidy_over passing refl steps (part 0 p.list) h.kinds (tells.tidy 0));
        };
      }

  -- THE PASS
  pub pass_comes : (epoch : ℕ) (found : List (ℕ × Outcome)) (steps : List Made) → PassSteps f 0 epoch found steps → Legal f (triples 0 steps ++ p.list)
      → Comes f s (records_of_pass 0 epoch found) (after_pass p epoch found steps) ts
  pass_comes epoch found steps h legal = search (arith, legal_earlier, passed)

-- ---- A keeper's sweep lowers just the guards whose blocks have ended, or all; and it makes no event
-- ---- their lines
lowered_lead : (f : Profile) (u : Stand) (guards : List Raised) (more : List Due)
    → LeadsOn f (record u { due = map lowered_due guards ++ more }) (lines_by (map lowered_record guards)) (record u { due = more })
lowered_lead f u [] more = on_same refl
lowered_lead f u (guard ∷ guards) more = on_both (on_line (inr (refl, refl))) (lowered_lead f u guards more)

-- the records are those of the check
lowered_are : (keeper : ℕ) (guards : List Guard) → map (lowered_by keeper) guards ≡ map lowered_record (map (raised_by keeper) guards)
lowered_are keeper [] = refl
lowered_are keeper (guard ∷ guards) = ap (λ (rs : List Record). lowered_by keeper guard ∷ rs) (lowered_are keeper guards)

-- ---- what goes down
-- of a guard that is in both lists or in neither the rest decides
one_is : (es : List Event) (all t : Bool) (k : ℕ) (guard : Guard) (guards : List Guard) (first : List Made) (kept after : List Guard) (said more : List Record)
    → t ≡ is_down es all guard → SweptOne t k guard first kept after said more
    → after ≡ staying es all guards → more ≡ map (lowered_by k) (going es all guards)
    → (kept ≡ staying es all (guard ∷ guards)) × (said ≡ map (lowered_by k) (going es all (guard ∷ guards)))
one_is es all t k guard guards first kept after said more down one stay go = search arith

pub record IsSwept (es : List Event) (k : ℕ) (all : Bool) (guards kept : List Guard) (said : List Record) (steps : List Made) (l : Whole) : Type 0 where
  pub stay : kept ≡ staying es all guards
  pub go : said ≡ map (lowered_by k) (going es all guards)
  -- The events so far are those of the list.
  pub shown : visible (triples k steps ++ l) ≡ es

module _ (f : Profile) (valid : IsValid f) (k : ℕ) where
  -- the life word of a guard's block tells how many blocks ended at its address
  word_tells : (l : Whole) (guard : Guard) (word : ℕ) → Legal f (triples k (life_look guard word) ++ l) → address_of guard.block.name % 16 ≡ 0
      → turn_of word ≡ ends_in (visible l) (address_of guard.block.name)
  word_tells l guard word legal aligned =
      let a : ℕ = address_of guard.block.name in
      let page : a / 4096 ≡ a / 16 / 256 = omega arith in
      let grain : a % 4096 / 16 ≡ a / 16 % 256 = omega arith in
      let here : word ≡ word_after l (life_word_at (a / 16)) = legal.0.answer_is ∙ (λ i. word_after l (Word.Life (page i) (grain i))) in
      ap turn_of here
      ∙ turn_is f (a / 16) (word_after l (life_word_at (a / 16))) (live_in (visible l) a) (gives_in (visible l) a) (ends_in (visible l) a) (life_at f l valid legal.1 a aligned)

  -- looks and what is given back are no events
  quiet_one : (t : Bool) (guard : Guard) (first : List Made) (kept after : List Guard) (said more : List Record) (word : ℕ) (l : Whole)
      → SweptOne t k guard first kept after said more → visible (triples k (first ++ life_look guard word) ++ l) ≡ visible l
  quiet_one true guard first kept after said more word l one =
      ap visible (sym (triples_append k first (life_look guard word) l)) ∙ visible_piece k first (triples k (life_look guard word) ++ l)
      ∙ ap (λ (es : List Event). es ++ visible (triples k (life_look guard word) ++ l)) (no_events giving_back refl k (part k (triples k (life_look guard word) ++ l)) first one.0.kinds)
      ∙ visible_piece k (life_look guard word) l ∙ ap (λ (es : List Event). es ++ visible l) (no_events (LookLife ∷ []) refl k (part k l) (life_look guard word) (refl, tt))
  quiet_one false guard first kept after said more word l one =
      simp (one.0, visible_piece, no_events)

  -- THE SWEEP
  pub swept_is : (all : Bool) (guards kept : List Guard) (said : List Record) (steps : List Made) (l : Whole) (es : List Event) → visible l ≡ es
      → AreAligned guards → Swept all k guards kept said steps → Legal f (triples k steps ++ l)
      → IsSwept es k all guards kept said steps l
  swept_is all [] kept said steps l es shown aligned h legal = record { stay = h.0; go = h.1; shown = ap (λ (ms : List Made). visible (triples k ms ++ l)) h.2 ∙ shown }
  swept_is all (guard ∷ guards) kept said steps l es shown aligned h legal =
      let word : ℕ = h.0 in
      let first : List Made = h.1 in
      let rest : List Made = h.2 in
      let look : List Made = life_look guard word in
      let all_legal : Legal f (triples k (rest ++ (first ++ look)) ++ l) = subst (λ (ms : List Made). Legal f (triples k ms ++ l)) h.7 legal in
      let first_legal : Legal f (triples k (first ++ look) ++ l) = legal_earlier f k rest (first ++ look) l all_legal in
      let look_legal : Legal f (triples k look ++ l) = legal_earlier f k first look l first_legal in
      let l2 : Whole = triples k (first ++ look) ++ l in
      let quiet : visible l2 ≡ es = quiet_one (all || is_over guard word) guard first kept h.3 said h.4 word l h.5 ∙ shown in
      let more = swept_is all guards h.3 h.4 rest l2 es quiet aligned.1 h.6 (subst (Legal f) (sym (triples_append k rest (first ++ look) l)) all_legal) in
      search (arith, word_tells, one_is, triples_append)

-- ---- the lines of a sweep
-- the guards that stay up
abbrev pub up_after : Stand → ℕ → Bool → List Raised
up_after s keeper all = filter (λ guard. not (goes_down s.events keeper all guard)) s.guards

pub sweep_leads : (f : Profile) (s : Stand) (keeper : ℕ) (all : Bool) (more : List Due) (ts : List Task) (book : List Guard) (said : List Record)
    → guards_of keeper s.guards ≡ map (raised_by keeper) book
    → said ≡ map (lowered_by keeper) (going s.events all book)
    → LeadsOn f (record (sweeping s keeper all more) { left = ts }) (lines_by said) (record s { guards = up_after s keeper all; due = more; left = ts })
sweep_leads f s keeper all more ts book said told are =
    let u : Stand = record s { guards = up_after s keeper all; left = ts } in
    let gone : List Raised = filter (goes_down s.events keeper all) s.guards in
    on_as
    (cc (lowered_are keeper (going s.events all book), going_told s.events keeper all s.guards book told)) refl
    (lowered_lead f u gone more)

-- ---- THE CLOSE of a keeper
module _ (f : Profile) (valid : IsValid f) (p : Progress) (s : Stand) (ts : List Task) (tells : Tells p s) (due : s.due ≡ []) (keeper : ℕ) where
  -- The lines of the guards that a keeper lowers at the close lead the check to what the act comes to.
  pub lowered_comes : (steps : List Made) (said : List Record) → IsLowered f keeper (part keeper p.list) (p.books keeper) steps said
      → Legal f (triples keeper steps ++ p.list) → s.left ≡ Does (Lowers keeper) ∷ ts
      → Comes f s said (after_lowering p keeper steps said) ts
  lowered_comes steps said h legal left =
      let swept = swept_is f valid keeper true (p.books keeper) [] said steps p.list s.events (sym tells.events) (tells.books.aligned keeper) h.sweep.swept legal in
      let end : Stand = record s { guards = up_after s keeper true; due = []; left = ts } in
      record {
        end = end;
        leads = on_both (on_task due left) (sweep_leads f s keeper true [] ts (p.books keeper) said (tells.books.told keeper) swept.go);
        tells = record {
          events = sym swept.shown;
          names = tells.names;
          logs = tells.logs;
          idle_since = tells.idle_since;
          epoch = tells.epoch ∙ sym (epoch_kept sweeping_kinds refl keeper steps p.list h.sweep.kinds);
          books = booked_sweep p.books s.events keeper true s.guards [] swept.stay tells.books;
          tidy = tidy_piece keeper steps p.list tells.tidy (sweep_tidy f keeper true (p.books keeper) [] said steps (part keeper p.list) h.sweep (tells.tidy keeper));
        };
      }
