-- A KEEPER'S SEARCH for a run whose outer pages aren't backed, where no other actor makes a step: which runs failed in it, of which pages it made deeds, and
-- that the text tries the same runs.
use Rattle.std.proofs.Common.{◌≡◌, ◌≢◌, ℕ, ◌+◌, ◌*◌, ◌/◌, ◌≤◌, ◌==◌, Bool, true, false, if◌then◌else◌, List, [], ◌∷◌, ◌++◌, ◌⊎◌, inl, inr, refl, ap, sym, ◌∙◌}
use Rattle.std.proofs.Common.{subst, arith, eqb-true, ◌<◌, nat_le, not, ◌&&◌, ◌||◌, Option, Some, eq-eqb}
use Rattle.pas_core.proofs.{Rights.{free_without_deed, DeedFits, no_deed, spot_of}, OneActor.deed_none, Deeds.deed_kept}
use Rattle.pas_same_text.proofs.Common.{IsLone, never_fails, fewer, once_lone, false≢true, eqb-false, false_from_ne_true, fun_ext, and-false, AllByRecursion}
use Rattle.pas_same_text.proofs.Common.{IsValid, IsDirectoryOf, number_of, Directory, Profile, Word, Event, triple, triples, target, Only, Once, Always, View}
use Rattle.pas_same_text.proofs.Common.{holds, known_deed, Agreed, events_by, Whole, part, word_after, Legal, visible, Made, Step, Look, Deed, part_of_own}
use Rattle.pas_same_text.proofs.Common.{always_map, deed_has_page, deed_of, backed_of, known_is, spotted, deeds_known, lends_none, IsInRun, ReturnsDuly}
use Rattle.pas_same_text.proofs.Common.{DeedsRise, MayFind, IsUsableRun, MadeOf, span_in, seeking, SoughtNone, large_of, is_usable, is_run, serves_pages}
use Rattle.pas_same_text.proofs.Common.{deed_word_of-positive, all_map, Run, deed_in, backed_in, word_of_deed, runs, one_backed, agreed_steps, Progress, World}
use Rattle.pas_same_text.proofs.Common.{are_bare, raises, raises_from, IsSame, HasSame, IsBetween, free_bit, page_numbers, each_of, is_none, is_same, is_free}
use Rattle.pas_same_text.proofs.{Common.{is_empty, is_kept}, StepMarks.backed_stays, FreeGrains.{free_unheld, bit_free, keeper}, KeepersRest.bare_since}
use Rattle.pas_same_text.proofs.{KeepersRest.bare_events, Flushes.visible_steps, GivenBack.each_all, SearchedPages.{run_usable, usable_run}, Pieces.has_same}
use Rattle.pas_same_text.proofs.RunsFound.{shown, shown_events, shown_rest, with_deed, deeded, deeds_of, deeded_falls, deeded_events, deeds_live}
use Rattle.pas_same_text.proofs.{RestingPages.{open_from, is_open, owned_is, unowned_by}, RaiseWalk.{below, below_all, IsOfRun, IsWalked, found_text}}
use Rattle.pas_same_text.proofs.RaiseWalk.{none_text}
use Rattle.pas_guard.specs.{Seeks.{HasSpan, SoughtRun}, Evidence.{HoldsRunWhole, OuterBackedHere, IsBad, OuterFailsHere, HasFailedOnce}}
use Rattle.pas_large.{specs.Evidence.{AllUsable, DeedsOf}, proofs.Told.{run_was, bad_run}}

-- ---- runs of n + 2 pages
-- a run of the region that was usable
pub record IsRunOf (f : Profile) (heap n : ℕ) (l : Whole) (first : ℕ) : Type 0 where
  pub of_region : (1 ≤ first) × (first + (n + 2) ≤ f.pages + 1)
  pub usable : IsUsableRun (large_of heap) (n + 2) l first

-- an outer page of it was backed, and each of its pages has a deed after the search
pub record IsBackedRun (n : ℕ) (l end : Whole) (first : ℕ) : Type 0 where
  pub backed : (word_after l (Word.Backed first) ≡ 1) ⊎ (word_after l (Word.Backed (first + n + 1)) ≡ 1)
  pub deeds : (q : ℕ) → IsInRun first (n + 2) q → word_after end (Word.Deed q) ≢ 0

-- the page had no deed, and is of a run of which this holds
pub record IsMadeOf (n : ℕ) (l : Whole) (Good : ℕ → Type 0) (page : ℕ) : Type 0 where
  pub bare : word_after l (Word.Deed page) ≡ 0
  pub run : ℕ
  pub within : IsInRun run (n + 2) page
  pub good : Good run

module _ (f : Profile) (k heap n : ℕ) (l : Whole) (valid : IsValid f) (of : IsDirectoryOf f (large_of heap)) (met : MayFind (large_of heap) (part k l)) where
  abbrev d : Directory
  d = large_of heap

  -- a run that is held whole is of the region, and each of its pages has a deed
  module _ (xs : List Made) (legal : Legal f (triples k xs ++ l)) (first : ℕ) (whole : HoldsRunWhole (part k l) n first xs) where
    whole_deed : (q : ℕ) → IsInRun first (n + 2) q → word_after (triples k xs ++ l) (Word.Deed q) ≢ 0
    whole_deed q here none =
        let on : 256 * q / 256 ≡ q = omega arith in
        let free = free_without_deed f (triples k xs ++ l) legal (256 * q) (ap (λ (x : ℕ). word_after (triples k xs ++ l) (Word.Deed x)) on ∙ none) in
        false≢true (sym (free_unheld f (triples k xs ++ l) valid legal (256 * q) free k)
        ∙ (ap (λ (v : View). holds v (256 * q)) (part_of_own k xs l) ∙ whole (256 * q) (subst (IsInRun first (n + 2)) (sym on) here)))

    whole_region : (1 ≤ first) × (first + (n + 2) ≤ f.pages + 1)
    whole_region =
        let high = deed_has_page f (triples k xs ++ l) legal (first + n + 1) (whole_deed (first + n + 1) (omega arith, omega arith)) in
        let a = (deed_has_page f (triples k xs ++ l) legal first (whole_deed first (omega arith, omega arith))).0 in (a, omega (arith, high.1))

  -- A run that failed in a keeper's search was a usable run of the region before it.
  failed_run : (xs : List Made) → IsLone f k l xs → (first : ℕ) → HasFailedOnce (part k l) d n first xs → IsRunOf f heap n l first
  failed_run xs lone first (inl h) = absurd (never_fails f k l d (n + 2) of.kind met first xs lone h)
  failed_run xs lone first (inr h) = (once_lone (OuterFailsHere (part k l) d n first) (IsRunOf f heap n l first) f k l (λ m xs lone h.
      record { of_region = whole_region xs lone.legal.1 first h.1.0; usable = run_was f k l d (n + 2) of.kind met first xs (fewer lone) h.0 })) xs lone h

  -- ---- a usable run that served not had a backed outer page
  outer_backed : (xs : List Made) → Legal f (triples k xs ++ l) → Only seeking xs → (first : ℕ) → Once (OuterBackedHere (part k l) n first) xs
      → IsBackedRun n l (triples k xs ++ l) first
  outer_backed [] legal kinds first h = absurd h
  outer_backed (m ∷ xs) legal kinds first (inr h) = search (arith, outer_backed xs legal.1 kinds.1 first h)
  outer_backed (m ∷ xs) legal kinds first (inl h) = record {
    backed = elim h.1 [ inl low ↦ inl (read first low.0 low.1) | inr high ↦ inr (read (first + n + 1) high.0 high.1) ];
    deeds = λ q here none. whole_deed xs legal.1 first h.0 q here (sym (deed_kept (triples k xs ++ l) (triple k m) q (whole_deed xs legal.1 first h.0 q here)) ∙ none);
  }
    where
      -- A page that was read as backed is backed.
      read : (q : ℕ) → m.step ≡ Look (Word.Backed q) → m.answer ≡ 1 → word_after l (Word.Backed q) ≡ 1
      read q is one =
          sym (backed_stays seeking refl k xs l q kinds.1) ∙ (sym (legal.0.answer_is ∙ ap (λ (s : Step). word_after (triples k xs ++ l) (target s)) is) ∙ one)

  -- A run that a search found bad has a backed outer page, and each of its pages has a deed afterwards.
  backed_run : (Chosen : ℕ → Type 0) (xs : List Made) → IsLone f k l xs → Only seeking xs → DeedsOf d (n + 2) Chosen xs → (first : ℕ) → IsRunOf f heap n l first
      → IsBad (part k l) d n first xs → IsBackedRun n l (triples k xs ++ l) first
  backed_run Chosen xs lone kinds deeds first run (inr h) = outer_backed xs lone.legal kinds first h
  backed_run Chosen xs lone kinds deeds first run (inl bad) = absurd (bad_run f k l d (n + 2) of.kind met Chosen first xs lone deeds bad run.usable)

  -- ---- THE DEEDS that were made, of pages that had none
  module _ (Chosen Good : ℕ → Type 0) (each : (first : ℕ) → Chosen first → Good first) where
    by_answer : (t : Bool) (q : ℕ) (qs : List ℕ) → (t ≡ true → IsMadeOf n l Good q) → AllByRecursion (IsMadeOf n l Good) qs
        → AllByRecursion (IsMadeOf n l Good) (if t then q ∷ qs else qs)
    by_answer t q qs is rest = search arith

    -- Each page that got its deed from a search had none before, and is of a chosen run.
    made_pages : (xs : List Made) → Legal f (triples k xs ++ l) → DeedsOf d (n + 2) Chosen xs → AllByRecursion (IsMadeOf n l Good) (deeded xs)
    made_pages [] legal deeds = tt
    made_pages (m ∷ xs) legal deeds = one m.step m.answer legal.0.answer_is deeds.0 (made_pages xs legal.1 deeds.1)
      where
        one : (s : Step) (a : ℕ) → a ≡ word_after (triples k xs ++ l) (target s)
            → ((page : ℕ) (e : Directory) → s ≡ Deed page e → a ≡ 0
            → (e ≡ d) × ((first : ℕ) × IsInRun first (n + 2) page × AllUsable d (n + 2) first xs × Chosen first))
            → AllByRecursion (IsMadeOf n l Good) (deeded xs) → AllByRecursion (IsMadeOf n l Good) (with_deed s a (deeded xs))
        one (Deed q e) a answer is rest = by_answer (a == 0) q (deeded xs) (λ zero.
            let none : a ≡ 0 = eqb-true a 0 zero in
            let at = is q e refl none in
            record { bare = deed_none k l q xs (sym answer ∙ none); run = at.1.0; within = at.1.1; good = each at.1.0 at.1.3 }) rest
        one s a answer is rest = rest

-- ==== THE SEARCH OF A KEEPER beside the runs that it tries in the text: the same runs fail, the same one serves, if any, and the same pages get deeds.
-- what is read of a page for a run, where this is its deed
abbrev usable_in : Directory → Option Directory → World → ℕ → Bool
usable_in d o w page = is_none o || ((is_same d o && (not (is_kept w page) && is_open w d page)) && is_empty w page)

all_true : (d : Directory) (kept room empty : Bool) → kept ≡ false → room ≡ true → empty ≡ true
    → (false || (((number_of d == number_of d) && (not kept && room)) && empty)) ≡ true
all_true d kept room empty none some full = search (arith, eq-eqb)

-- A keeper's search for a run of n pages between two guards: actor k went on from rest by these steps, which came onto a legal list, and whose deeds rise. The text's
-- state was w.
pub record IsSought (f : Profile) (k heap n : ℕ) (p : Progress) (w : World) (xs : List Made) : Type 0 where
  pub valid : IsValid f
  pub between : IsBetween f p
  pub same : IsSame f p w
  pub of : IsDirectoryOf f (large_of heap)
  pub legal : Legal f (triples k xs ++ p.list)
  pub kinds : Only seeking xs
  pub rise : DeedsRise xs
  pub due : Always ReturnsDuly xs
  pub met : MayFind (large_of heap) (part k p.list)

module _ {f : Profile} {k heap n : ℕ} {p : Progress} {w : World} {xs : List Made} (s : IsSought f k heap n p w xs) where
  abbrev pub large : Directory
  large = large_of heap

  abbrev mine : List ℕ → World
  mine qs = shown (deeds_of k large qs) w

  -- The search came onto the state of the replay.
  lone : IsLone f k p.list xs
  lone = record { legal = s.legal; lends_none = lends_none seeking refl xs s.kinds; returns = s.due }

  -- Before the search the replay has what the text has.
  old : HasSame f p w
  old = has_same s.same

  -- ---- A PAGE THAT NOBODY HAS is empty, nobody keeps it, and no guard has it
  pub unowned_free : (page b : ℕ) → word_after p.list (Word.Deed page) ≡ 0 → b < 256 → free_bit p.list (256 * page + b) ≡ true
  unowned_free page b none small = search (arith, free_without_deed)

  -- ---- deeds of such pages change no page's use
  same_use : (o : Option Directory) (qs : List ℕ) (page : ℕ) → usable_in large o (mine qs) page ≡ usable_in large o w page
  same_use o qs page =
      let r = shown_rest (deeds_of k large qs) w in
      simp (deeds_live, r.caches, r.guards)

  -- the page got a deed, or its deed is as it was
  deed_or : (page : ℕ) (qs : List ℕ) → AllByRecursion (λ q. word_after p.list (Word.Deed q) ≡ 0) qs
      → ((deed_in (deeds_of k large qs ++ w.events) page ≡ Some large) × (word_after p.list (Word.Deed page) ≡ 0))
      ⊎ (deed_in (deeds_of k large qs ++ w.events) page ≡ deed_in w.events page)
  deed_or page [] bare = inr refl
  deed_or page (q ∷ qs) bare = search (arith, eqb-true, deed_or page qs bare.1)

  usable_still : (qs : List ℕ) → AllByRecursion (λ q. word_after p.list (Word.Deed q) ≡ 0) qs → (page : ℕ)
      → is_usable (mine qs) heap page ≡ is_usable w heap page
  usable_still qs bare page = elim (deed_or page qs bare) [
    | inl made ↦ cc (
      shown_events _ w,
      same_use _ qs page,
      all_true large _ _ _ (false_from_ne_true (is_kept w page) (λ kept.
          let by = keeper f p w s.valid s.between old page kept in
          let at = spotted f p.list s.between.legal page in
          false≢true (cc (no_deed (spot_of p.list page) (subst (DeedFits (spot_of p.list page)) made.1 at.deed), at.has by.0))))
          (open_from f p w s.valid s.between old large page 0 (omega arith) refl (unowned_free page 0 made.1 (omega arith)))
          (each_all 256 0 (is_free w page) (λ b low high. bit_free f p w s.valid s.between old page b high (unowned_free page b made.1 high))),
      unowned_by (deed_in w.events page) (sym (owned_is f p.list w s.between.legal s.same.pages.events page) ∙ made.1),
    )
    | inr still ↦ simp (shown_events, still, same_use)
  ]

  -- ---- runs in words and in the text
  run_of : (r : ℕ) → 1 ≤ r → is_run f w heap (n + 2) r ≡ true → IsRunOf f heap n p.list r
  run_of r some h = let u = run_usable f p w s.valid s.between s.same.pages old heap s.of (n + 2) r h in record { of_region = (some, u.0); usable = u.1 }

  is_run_of : (r : ℕ) → IsRunOf f heap n p.list r → is_run f w heap (n + 2) r ≡ true
  is_run_of r run = usable_run f p w s.valid s.between s.same.pages old heap s.of (n + 2) r run.of_region.1 run.usable

  backed_told : (page : ℕ) → backed_in w.events page ≡ backed_in (visible p.list) page
  backed_told page = ap (λ (es : List Event). backed_in es page) s.same.pages.events

  not_bare : (end : Whole) (r : ℕ) → IsBackedRun n p.list end r → are_bare w r n ≡ false
  not_bare end r run = search (arith, backed_told, one_backed, backed_of, and-false)

  -- ==== THE SEARCH, whose deeds are of pages of these runs below the end; each page of such a run has its deed then
  abbrev mid : Whole
  mid = triples k xs ++ p.list

  abbrev made : List ℕ
  made = deeded xs

  -- what is said of the deeds
  record AreOfRuns (end : ℕ) (Chosen : ℕ → Type 0) : Type 0 where
    deeds : DeedsOf large (n + 2) Chosen xs
    each : (r : ℕ) → Chosen r → IsRunOf f heap n p.list r × (r < end)
    all : (r : ℕ) → IsRunOf f heap n p.list r → r < end → (q : ℕ) → IsInRun r (n + 2) q → word_after mid (Word.Deed q) ≢ 0

  pub made_by : (Chosen : ℕ → Type 0) → DeedsOf large (n + 2) Chosen xs → MadeOf large xs
  made_by Chosen deeds = always_map _ _ xs (λ m before h x e is zero. (h x e is zero).0) deeds

  -- The events of a search that made deeds alone of a directory are those deeds.
  pub made_events : MadeOf large xs → events_by k (part k p.list) xs ≡ deeds_of k large made
  made_events of_heap = deeded_events k large (part k p.list) xs s.kinds of_heap

  -- What a list shows after a search that made deeds alone of a directory are those deeds before the text's events.
  pub visible_mid : MadeOf large xs → visible mid ≡ deeds_of k large made ++ w.events
  visible_mid of_heap = visible_steps k xs _ ∙ (ap (λ es. es ++ visible p.list) (made_events of_heap) ∙ ap (λ es. deeds_of k large made ++ es) (sym s.same.pages.events))

  abbrev IsMadeBelow : ℕ → ℕ → Type 0
  IsMadeBelow end = IsMadeOf n p.list (λ r. IsRunOf f heap n p.list r × (r < end))

  -- The text walks over the same pages.
  walked : (end : ℕ) (Chosen : ℕ → Type 0) → AreOfRuns end Chosen → IsWalked f k heap n w made end
  walked end Chosen runs_are =
      let of_heap : MadeOf large xs = made_by Chosen runs_are.deeds in
      let pages : AllByRecursion (IsMadeBelow end) made = made_pages f k heap n p.list s.valid s.of s.met Chosen _ runs_are.each xs s.legal runs_are.deeds in
      record {
        falls = deeded_falls k large xs s.rise;
        run = subst (Run f) (visible_mid of_heap) (runs f mid s.valid s.legal);
        of_runs = all_map (IsMadeBelow end) (IsOfRun f heap n w end) made
            (λ q h. (h.run, h.within, (h.good.0.of_region.0, h.good.1, is_run_of h.run h.good.0))) pages;
        all = λ r some lt h q here none. runs_are.all r (run_of r some h) lt q here
            (deed_of f mid s.legal q ∙ ap word_of_deed (ap (λ es. deed_in es q) (visible_mid of_heap) ∙ none));
        still = λ e r. (ap (λ (test : ℕ → Bool). nat_le (r + (n + 2)) (f.pages + 1) && each_of r (n + 2) test) (fun_ext (usable_still (below e made) (below_all e (λ q. word_after p.list (Word.Deed q) ≡ 0) made (all_map (IsMadeBelow end) (λ q. word_after p.list (Word.Deed q) ≡ 0) made (λ q h. h.bare) pages)))));
      }

  -- The search's answers agree with the keeper's view.
  pub agreed : Agreed f (part k p.list) xs
  agreed = agreed_steps f k p.list xs s.valid s.legal

  -- ---- a run serves
  module _ (first : ℕ) (found : SoughtRun f large n xs first) where
    abbrev pub FoundOrFailed : ℕ → Type 0
    FoundOrFailed r = (r ≡ first) ⊎ ((r < first) × HasFailedOnce (part k p.list) large n r xs)

    run_first : IsRunOf f heap n p.list first
    run_first = record { of_region = found.of_region; usable = run_was f k p.list large (n + 2) s.of.kind s.met first xs lone found.usable }

    lower_backed : (r : ℕ) → r < first → IsRunOf f heap n p.list r → IsBackedRun n p.list mid r
    lower_backed r lt run =
        backed_run f k heap n p.list s.valid s.of s.met FoundOrFailed xs lone s.kinds (found.deeds _ s.met agreed) r run (found.lower _ s.met agreed r run.of_region.0 lt)

    -- each of its pages has its deed
    got_deed : (q : ℕ) → IsInRun first (n + 2) q → known_deed (part k mid) q ≢ 0
    got_deed q here none =
        let got : HasSpan large first (first + (n + 2)) (part k p.list) (xs ++ part k p.list) = found.got.from (part k p.list) s.met agreed in
        deed_word_of-positive large (sym (got.got.deeds q (span_in first (first + (n + 2)) q here.0 here.1)) ∙ (ap (λ (v : View). known_deed v q) (sym (part_of_own k xs p.list)) ∙ none))

    of_runs_found : AreOfRuns (first + 1) FoundOrFailed
    of_runs_found = record {
      deeds = found.deeds (part k p.list) s.met agreed;
      each = λ r h. elim h [
        | inl this ↦ (subst (IsRunOf f heap n p.list) (sym this) run_first, omega (arith, this))
        | inr lower ↦ (failed_run f k heap n p.list s.valid s.of s.met xs lone r lower.1, omega (arith, lower.0))
      ];
      all = λ r run lt q here. by_place r run q here (r == first) refl (λ ne. omega (arith, lt, ne));
    }
      where
        by_place : (r : ℕ) → IsRunOf f heap n p.list r → (q : ℕ) → IsInRun r (n + 2) q → (t : Bool) → (r == first) ≡ t → ((r ≡ first → ⊥) → r < first)
            → word_after mid (Word.Deed q) ≢ 0
        by_place r run q here true e lower = (λ none. let here = subst (λ (x : ℕ). IsInRun x (n + 2) q) (eqb-true r first e) here in
            got_deed q here (known_is (known_deed (part k mid) q) _ (deeds_known f mid s.legal k q) (got_deed q here) ∙ none))
        by_place r run q here false e lower = (lower_backed r (lower (eqb-false r first e)) run).deeds q here

    -- THE TEXT raises a guard there
    pub sought_text : (j name : ℕ) → raises_from f k j name heap n (page_numbers f) w ≡ raises k name heap first n (mine made)
    sought_text j name =
        let low = found.of_region.0 in
        let high = found.of_region.1 in
        found_text f k j name heap n w made (first + 1) (walked (first + 1) _ of_runs_found) first refl (low, omega (arith, high)) (is_run_of first run_first)
        (let since = found.bare (part k p.list) s.met agreed in
        let bare : (q : ℕ) → word_after mid _ ≡ 0 → backed_in w.events q ≡ false =
        λ q zero. backed_told q ∙ bare_events f p.list q s.valid s.between.legal (sym (backed_stays seeking refl k xs p.list q s.kinds) ∙ zero) in
        ap (λ (t : Bool). not t && not (backed_in w.events (first + n + 1))) (bare first (bare_since f k first (part k p.list) xs p.list s.legal since.0))
        ∙ ap (λ (t : Bool). not t) (bare (first + n + 1) (bare_since f k (first + n + 1) (part k p.list) xs p.list s.legal since.1)))
        (λ r some lt h. not_bare mid r (lower_backed r lt (run_of r some h)))

    -- the pages that got deeds had none before, and are of usable runs
    pub found_pages : AllByRecursion (IsMadeOf n p.list (λ r. IsRunOf f heap n p.list r × (r < first + 1))) made
    found_pages = made_pages f k heap n p.list s.valid s.of s.met FoundOrFailed _ of_runs_found.each xs s.legal of_runs_found.deeds

  -- ---- none does
  module _ (found : SoughtNone f large n xs) where
    abbrev Failed : ℕ → Type 0
    Failed r = HasFailedOnce (part k p.list) large n r xs

    -- A search that sought a run and found none made deeds of its directory alone.
    pub none_made : MadeOf large xs
    none_made = made_by Failed (found.deeds (part k p.list) s.met agreed)

    none_backed : (r : ℕ) → IsRunOf f heap n p.list r → IsBackedRun n p.list mid r
    none_backed r run =
        backed_run f k heap n p.list s.valid s.of s.met Failed xs lone s.kinds (found.deeds _ s.met agreed) r run (found.bad _ s.met agreed r run.of_region.0 run.of_region.1)

    of_runs_none : AreOfRuns (f.pages + 1) Failed
    of_runs_none = record {
      deeds = found.deeds (part k p.list) s.met agreed;
      each = λ r h. let run = failed_run f k heap n p.list s.valid s.of s.met xs lone r h in (run, omega (arith, run.of_region.1));
      all = λ r run lt q here. (none_backed r run).deeds q here;
    }

    -- THE TEXT raises none, and makes the request as any
    pub missed_text : (j name : ℕ) → raises_from f k j name heap n (page_numbers f) w ≡ serves_pages f j name heap n (mine made)
    missed_text j name = none_text f k j name heap n w made (f.pages + 1) (walked (f.pages + 1) Failed of_runs_none) refl (λ r some lt h. not_bare mid r (none_backed r (run_of r some h)))

    -- Each deed of a search that found no run is of a page of a usable run of the region.
    pub none_pages : AllByRecursion (IsMadeOf n p.list (λ r. IsRunOf f heap n p.list r × (r < f.pages + 1))) made
    none_pages = made_pages f k heap n p.list s.valid s.of s.met Failed _ of_runs_none.each xs s.legal of_runs_none.deeds
