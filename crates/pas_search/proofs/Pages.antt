-- For back ends: a page that was read with its right, and of which some grains were taken, is backed and kept, also where a part of it alone is taken; or it
-- is left, since nothing fits.
use Rattle.std.proofs.Common.{◌≡◌, ℕ, ◌+◌, ◌*◌, ◌/◌, ◌%◌, ◌<◌, ◌≤◌, ◌==◌, Bool, true, false, ◌&&◌, if◌then◌else◌, List, [], ◌∷◌, ◌++◌, length, None, Some, refl}
use Rattle.std.proofs.{Common.{ap, sym, ◌∙◌, subst, arith, inl, inr, append_assoc, length-append, eq-eqb, eqb-true, true≢false}, lemmas.Bool.and_from}
use Rattle.std.proofs.lemmas.Bool.{and_right, cond_both, and_parts}
use Rattle.pas_profile.{specs.{Profiles.IsPage, declared.directory.Directory.Directory}, proofs.Codecs.deed_word_of-positive}
use Rattle.pas_rights.specs.{Leaves.{MayLeave, Leaves}, PutsBack.{taking_grains, GivesDuly}, Looks.{looks, ReadsPage}, Puts.masked, Words.words, Takes.taken}
use Rattle.pas_rights.{specs.Takes.{HasRight, takes, TakesMask}, proofs.Orders.{leave_lacks, looks_only, looks_on, looks_held, looks_free, looks_know}}
use Rattle.pas_rights.proofs.{Orders.{looks_read, bit_of, bit_on, keeps_by, since_kept}, Puts.{due_both, leave_due, due_none, MayTakeAll, takes_always}}
use Rattle.pas_rights.proofs.Puts.{takes_only, takes_on, takes_keep, takes_few, takes_known}
use Rattle.pas_steps.specs.{Agreement.Agreed, Allowed.Allowed, Events.{with_event, events_by}, Past.{Once, Always, Since}, Frames.{IsOnPage, OnlyOn}}
use Rattle.pas_steps.specs.{Frames.KeepsRight, Evidence.{ShowsHere, KeptHere, GetsHere, Readings, UnfitHere}, Views.{View, has_right, known_free, holds}}
use Rattle.pas_steps.specs.{Views.KnowsDeed, Calls.{Calls, Leads, Kept, Gained, Lost, ClearAfter, Does, nothing}, Desks.{Standing, CanCall, made, Makes}}
use Rattle.pas_steps.specs.{Desks.CanMake, Kinds.{Backing, Only, kind_of, is_in, Kinds, LookFree, Taking}, declared.step.{Made.Made, Step.TheVariants.Back}}
use Rattle.pas_steps.proofs.{Adding.{agreed_later, adds_under}, Frames.{any_from, returns_on, rights_stay}, Sets.kept_kept, Called.{call_then, next_call}}
use Rattle.pas_steps.proofs.{Called.{call_knows, call_step, next_step}, Calls.{does_after_nothing, does_as, does_idly, does_then, returns_are, kept_first}}
use Rattle.pas_steps.proofs.{Past.{always_both, always_map, once_later, since_once}, Apart.{in_apart, only_within, only_both, holds_same, no_event, no_events}}
use Rattle.pas_steps.proofs.Apart.{rights_same}
use Rattle.pas_search.specs.{Kinds.{serving, KeepsMarks, AreQuiet}, Serving.{Rule, MayServe, HoldsNone, GotBefore, right_of, Keeps, ReadsNoneHeld, ServeSteps}}
use Rattle.pas_search.specs.{Serving.{ServesPage, IsJustGot}, Choices.{Choice, IsUnfit, IsChosen, TakesKept, choosing}, Placements.{Placement, IsPlacement}}
use Rattle.pas_search.{specs.{Placements.{IsPlaced, IsFit, by_run}, declared.placing.Run.Run}, proofs.{ForBackEnds.unfit_left, PagesThatServe.keeps_marks}}
use Rattle.pas_bits.{specs.{declared.mask.Mask4.Mask4, Bits.has_bit, Masks.is_set, Runs.in_run}, proofs.{Words.at_word, Runs.first_of_run}}

-- Takes and puts of grains make no event.
pub quiet_by : (steps : List Made) → Only taking_grains steps → AreQuiet steps
quiet_by steps = search (arith, always_map, no_event, in_apart)

-- the grain, a number of the region, is of the page and one of these of it
abbrev pub on_page : ℕ → (ℕ → Bool) → ℕ → Bool
on_page page kept g = (page == g / 256) && kept (g % 256)

-- These grains were taken and no others, and the right was kept. Each free word was read with the right, and no grain that was held is one of the readings.
-- Where some are taken, the page is neither offered, parked nor hinted.
pub record Prepares (page : ℕ) (d : Directory) (r : Readings) (kept : ℕ → Bool) (desk desk' : Standing) : Type 0 where
  pub steps : List Made
  pub calls : Calls desk desk' (MayServe page d) (Does (taken (on_page page kept))) steps
  pub kinds : Only taking_grains steps
  pub on : OnlyOn page steps
  pub keeps : KeepsRight page steps
  pub read : (before : List Made) → GotBefore page before → (word : ℕ) → word < 4 → Since (ShowsHere page word r) (KeptHere page) (steps ++ before)
  pub held : Leads desk.seat.profile (MayServe page d) (ReadsNoneHeld page r) steps
  pub due : Always GivesDuly steps
  pub marks : (b : ℕ) × (b < 256) × (kept b ≡ true) → Always (KeepsMarks page) steps

module _ {Found : Type 0} (rule : Rule Found) (page : ℕ) (d : Directory) (r : Readings) (kept : ℕ → Bool) {σ σ1 : Standing} (p : Prepares page d r kept σ σ1)
  where
    -- the grains are got, and the deed is known still
    prepared : Calls σ σ1 (MayServe page d) (λ v w. Does (taken (on_page page kept)) v w × KnowsDeed page d w) p.steps
    prepared = call_knows page d p.calls (λ v met. met.deed)

    may_leave : (v : View) → MayServe page d v → Does (taken (on_page page kept)) v (p.steps ++ v) × KnowsDeed page d (p.steps ++ v)
        → MayLeave page d (p.steps ++ v)
    may_leave v met after = record { right = after.0.right page ∙ met.right; deed = after.1 }

    -- A page that was prepared may be left.
    pub can_leave : CanCall σ (MayServe page d) → CanCall σ1 (MayLeave page d)
    can_leave can = next_call prepared can may_leave

    -- ---- nothing fits, and nothing is held
    module _ (none : (b : ℕ) → b < 256 → kept b ≡ false) (unfit : rule.no_fit r)
        (empty : (before : List Made) → GotBefore page before → HoldsNone page (p.steps ++ before))
        (not_free : (v : View) → MayServe page d v → Agreed σ.seat.profile v p.steps → ((g : ℕ) → g / 256 ≡ page → known_free v g ≡ true) → ⊥)
        (short : length p.steps + 11 ≤ rule.steps) {σ2 : Standing} (left : Leaves page d σ1 σ2) where
      left_call : Calls σ σ2 (MayServe page d) (Does (right_of page Lost)) (left.steps ++ p.steps)
      left_call = call_then (Does (right_of page Lost)) prepared left.calls may_leave (λ v met a b. does_as (right_of page Lost) (does_then a.0 b.does)
          (λ g. inl (ap (λ t. if t then Gained else Kept) (and_right (page == g / 256) (kept (g % 256)) (none (g % 256) (omega arith))))) (λ q. kept_first _)
          (λ q h. subst (λ t. ClearAfter t q v (left.steps ++ (p.steps ++ v))) (kept_kept (page == q)) h))

      -- A page of which nothing is kept, as nothing fits, was left.
      pub leaves_page : ServesPage rule page d σ σ2 None
      leaves_page = record {
        steps = left.steps ++ p.steps;
        adds = left_call.adds;
        serves = record {
          only = record {
            kinds = only_within taking_grains serving (left.steps ++ p.steps) refl (search (arith, only_both, only_within, returns_are));
            on = always_both _ (λ m before. IsOnPage page m.step) left.steps p.steps (λ m before h. h) (returns_on page left.steps left.returns) p.on;
          };
          due = due_both left.steps p.steps (leave_due page d left.steps left.order) p.due;
          few = λ k v. subst (λ es. length es ≤ rule.events) (sym (no_events taking_grains refl k v (left.steps ++ p.steps) (search (arith, only_both, only_within, returns_are)))) (omega arith);
          short = let all = length-append left.steps p.steps in omega (arith, all, left.few, short);
          outcome = record {
            leaves = left_call.leads;
            left = record { before = p.steps; leave = left.steps; order = left.order; steps_are = refl };
            quiet = quiet_by (left.steps ++ p.steps) (search (arith, only_both, only_within, returns_are));
            untouched = search (arith, append_assoc, leave_lacks, holds_same, returns_are);
            unfit = λ before got. subst (Once (UnfitHere rule.no_fit page)) (sym (append_assoc left.steps p.steps before)) (unfit_left _ page _ _ left.left
                (rights_stay p.steps before page p.keeps got.right) (once_later _ p.steps before got.got) r unfit (p.read before got));
            not_free = λ v met agreed free. not_free v met (agreed_later σ.seat.profile v left.steps p.steps agreed) free;
          };
        };
      }

    -- ---- some grains are held
    module _ (some : (b : ℕ) × (b < 256) × (kept b ≡ true)) where
      first_held : (v w : View) → Does (taken (on_page page kept)) v w → holds w (page * 256 + some.0) ≡ true
      first_held v w does = search (arith, and_from, eq-eqb)

      may_back : (v : View) → MayServe page d v → Does (taken (on_page page kept)) v (p.steps ++ v) × KnowsDeed page d (p.steps ++ v)
          → Allowed σ.seat.profile (p.steps ++ v) (Back page)
      may_back v met after = ((page * 256 + some.0, omega (arith, some.1), first_held v (p.steps ++ v) after.0), λ z. deed_word_of-positive d (sym after.1 ∙ z))

      -- A page of which something is kept may be backed.
      pub can_back : CanCall σ (MayServe page d) → IsPage σ.seat.profile page → CanMake σ1 (Back page)
      can_back can of = next_step prepared can of may_back

      module _ (found : Found) (same : (b : ℕ) → b < 256 → kept b ≡ rule.kept found b) (keeps_right : rule.keeps_right found ≡ true) {σ2 : Standing} (a : ℕ)
          (back : Makes σ1 σ2 (Back page) a) where
        abbrev all : List Made
        all = made (Back page) a ∷ p.steps

        back_call : Calls σ σ2 (MayServe page d) (Keeps rule page found) all
        back_call = call_step (Keeps rule page found) prepared back may_back (λ v met after agrees.
            let does = does_as (taken (on_page page (rule.kept found))) (does_then after.0 (does_idly σ.seat.profile (Backing ∷ []) refl (made (Back page) a ∷ []) (p.steps ++ v) (refl, tt) (agrees, tt)))
            (λ g. inl (ap (λ t. if (page == g / 256) && t then Gained else Kept) (same (g % 256) (omega arith)))) (λ q. refl) (λ q h. h) in
            record {
              does = search (arith, eqb-true);
              backed = search (arith, and_from, eq-eqb, any_from, first_held);
            })

        -- Each free word of a page was once read as its readings show.
        pub once_read : (before : List Made) → GotBefore page before → (word : ℕ) → word < 4
            → Once (ShowsHere page word r) ((made (Back page) a ∷ p.steps) ++ before)
        once_read before got word lt = inr (since_once (ShowsHere page word r) (KeptHere page) (p.steps ++ before) (p.read before got word lt))

        -- A page of which something is kept was backed, and serves.
        pub keeps_page : (rule.no_fit r → ⊥) → ((b : ℕ) → b < 256 → kept b ≡ true → r b ≡ true)
            → ((before : List Made) → GotBefore page before → rule.serves page ((made (Back page) a ∷ p.steps) ++ before) found)
            → 1 ≤ rule.events → length p.steps + 1 ≤ rule.steps → ServesPage rule page d σ σ2 (Some found)
        keeps_page fits took serves one short = record {
          steps = all;
          adds = back_call.adds;
          serves = record {
            only = record { kinds = (refl, only_within taking_grains serving p.steps refl p.kinds); on = (IsOnPage.Backs, p.on) };
            due = (((λ q same. cc), (λ q word mask g same here. cc)), p.due);
            few = λ k v. let none : length (events_by k v p.steps) ≡ 0 = ap length (no_events taking_grains refl k v p.steps p.kinds) in
                cond_both (a == 0) _ None (λ o. length (with_event o (events_by k v p.steps)) ≤ rule.events) (λ made. omega (arith, none, one)) (λ silent. omega (arith, none));
            short = omega (arith, short);
            outcome = search (arith, back_call, once_read);
          };
        }

-- ---- the grains that steps take
-- takes of these grains alone
takes_kept : (page : ℕ) (grains : Mask4) (kept : ℕ → Bool) → ((b : ℕ) → b < 256 → is_set grains b ≡ kept b) → (answers : ℕ → ℕ) (n : ℕ)
    → Always (λ m before. TakesKept kept page m) (takes page (words grains) answers n)
takes_kept page grains kept exactly answers = takes_always page (words grains) answers (TakesKept kept page) (λ taken word mask g same here.
    let word_is : taken ≡ word = cc in
    let mask_is : words grains taken ≡ mask = cc in
    let at = and_parts ((word == g / 64 % 4) && (page == g / 256)) (has_bit mask (g % 64)) here in
    sym (exactly (g % 256) (omega arith)) ∙ sym (bit_of grains taken g
    (word_is ∙ eqb-true word (g / 64 % 4) (and_parts (word == g / 64 % 4) (page == g / 256) at.0).0)) ∙ ap (λ w. has_bit w (g % 64)) mask_is ∙ at.1)

-- what holds of each step since the right was got
since_got : (P : Made → Type 0) (page : ℕ) (steps before : List Made) → Always (λ m past. P m) steps → IsJustGot page before
    → Since (GetsHere page) (λ m past. P m) (steps ++ before)
since_got P page [] [] each got = got
since_got P page [] (m ∷ before) each got = inl got
since_got P page (s ∷ steps) before each got = inr (each.0, since_got P page steps before each.1 got)

abbrev looking_and_taking : Kinds
looking_and_taking = LookFree ∷ Taking ∷ []

module _ {Found : Type 0} (choice : Choice Found) (page : ℕ) (d : Directory) {σ σ1 : Standing} (free : Mask4) (reads : ReadsPage page σ σ1 free) where
  abbrev looked : List Made
  looked = looks page (words free) 4

  looked_only : Only (LookFree ∷ []) looked
  looked_only = looks_only page (words free) 4

  looked_read : (before : List Made) → GotBefore page before → (word : ℕ) → word < 4
      → Since (ShowsHere page word (is_set free)) (KeptHere page) (looked ++ before)
  looked_read before got word lt = looks_read page (words free) (is_set free) (λ w b small. at_word free w b small) before got.right got.none 4 word lt lt

  -- No grain that the looks read as free is held.
  unheld : Leads σ.seat.profile (MayServe page d) (ReadsNoneHeld page (is_set free)) looked
  unheld = search (arith, bit_of, looks_held)

  -- nothing changed, and what was read as free is known as free
  look_call : Calls σ σ1 (MayServe page d) (λ v w. Does nothing v w × ((g : ℕ) → masked page free g ≡ true → known_free w g ≡ true)) looked
  look_call = record {
    adds = adds_under reads (λ v l stood met. tt);
    leads = record {
      from = λ v met agreed. (
        does_idly σ.seat.profile (LookFree ∷ []) refl looked v looked_only agreed,
        λ g here.
            let at = and_parts (page == g / 256) (is_set free (g % 256)) here in
            looks_know page (words free) 4 v g at.0 (ap (has_right v) (sym (eqb-true page (g / 256) at.0)) ∙ met.right) (omega arith) (bit_of free (g / 64 % 4) g refl ∙ at.1),
      );
    };
  }

  -- its right is had still
  pub can_take : CanCall σ (MayServe page d) → CanCall σ1 (HasRight page)
  can_take can = next_call look_call can (λ v met after. after.0.right page ∙ met.right)

  -- ---- nothing fits
  -- After the looks at a page its free grains are known, and nothing is taken.
  pub looked_at : Prepares page d (is_set free) (λ b. false) σ σ1
  looked_at = record {
    steps = looked;
    calls = record { adds = look_call.adds; leads = record { from = λ v met agreed. (search (arith, does_as, and_right, (look_call.leads.from v met agreed).0)) } };
    kinds = only_within (LookFree ∷ []) taking_grains looked refl looked_only;
    on = looks_on page (words free) 4;
    keeps = keeps_by page (LookFree ∷ []) looked refl looked_only;
    read = looked_read;
    held = unheld;
    due = due_none (LookFree ∷ []) looked refl looked_only;
    marks = λ some. keeps_marks (LookFree ∷ []) page looked refl looked_only;
  }

  -- A page that doesn't fit and was left serves nothing.
  pub leaves_unfit : {σ2 : Standing} → IsUnfit choice (is_set free) → Leaves page d σ1 σ2 → ServesPage (choosing choice) page d σ σ2 None
  unfolding looked_at
  leaves_unfit unfit left = leaves_page (choosing choice) page d (is_set free) (λ b. false) looked_at (λ b lt. refl) unfit.none
      (λ before got g at. holds_same (LookFree ∷ []) refl g looked before looked_only ∙ got.none g at)
      (λ v met agreed known. unfit.used (λ b lt.
      let g = page * 256 + b in let at : g / 256 ≡ page = omega (arith, lt) in sym (bit_on free page b lt) ∙ looks_free page (words free) σ.seat.profile 4 v agreed g at (omega arith) (known g at)))
      (omega arith) left

  -- These are its steps.
  pub leaves_steps : {σ2 : Standing} → IsUnfit choice (is_set free) → (left : Leaves page d σ1 σ2)
      → ServeSteps (choosing choice) σ.seat.profile page d (left.steps ++ looks page (words free) 4) None
  unfolding leaves_unfit leaves_page looked_at
  leaves_steps unfit left = (leaves_unfit unfit left).serves

  -- ---- this was chosen
  module _ (found : Found) (grains : Mask4) (is : IsChosen choice (is_set free) found grains) where
    may_take : (v : View) → MayServe page d v → Does nothing v (looked ++ v) × ((g : ℕ) → masked page free g ≡ true → known_free (looked ++ v) g ≡ true)
        → MayTakeAll page grains (looked ++ v)
    may_take v met after = record { right = after.0.right page ∙ met.right; free = λ g here. after.1 g (search (arith, and_parts, and_from)) }

    module _ {σ2 : Standing} (got : Mask4) (took : TakesMask page grains σ1 σ2 got) where
      abbrev ts : List Made
      ts = takes page (words grains) (words took.answers) 4

      ts_only : Only (Taking ∷ []) ts
      ts_only = takes_only page (words grains) (words took.answers) 4

      take_call : Calls σ σ2 (MayServe page d) (Does (taken (on_page page (choice.kept found)))) (ts ++ looked)
      take_call = call_then (Does (taken (on_page page (choice.kept found)))) look_call (takes_known page grains got took) may_take (λ v met a b.
          does_as _ (does_after_nothing (taken (masked page grains)) a.0 b) (λ g. inl (ap (λ t. if (page == g / 256) && t then Gained else Kept) (is.exactly (g % 256) (omega arith)))) (λ q. refl) (λ q h. h))

      -- Takes of just the chosen grains of a page leave it prepared with them.
      pub taken_from : Prepares page d (is_set free) (choice.kept found) σ σ2
      taken_from = record {
        steps = ts ++ looked;
        calls = take_call;
        kinds = only_both taking_grains ts looked (only_within (Taking ∷ []) taking_grains ts refl ts_only) (only_within (LookFree ∷ []) taking_grains looked refl looked_only);
        on = always_both _ _ ts looked (λ m before h. h) (takes_on page (words grains) (words took.answers) 4) (looks_on page (words free) 4);
        keeps = always_both _ _ ts looked (λ m before h. h) (takes_keep page (words grains) (words took.answers) 4) (keeps_by page (LookFree ∷ []) looked refl looked_only);
        read = λ before got word lt. rw append_assoc (since_kept _ page ts _ (takes_keep page (words grains) (words took.answers) 4)
            (rights_same (LookFree ∷ []) refl page looked before looked_only ∙ got.right) (looked_read before got word lt));
        held = record { from = λ v met agreed. unheld.from v met (agreed_later σ.seat.profile v ts looked agreed) };
        due = due_none looking_and_taking (ts ++ looked) refl (search (arith, only_both, only_within, ts_only, looked_only));
        marks = λ some. keeps_marks looking_and_taking page (ts ++ looked) refl (search (arith, only_both, only_within, ts_only, looked_only));
      }

      takes_all : Always (λ m before. TakesKept (choice.kept found) page m) (ts ++ looked)
      takes_all = always_both (λ m before. TakesKept (choice.kept found) page m) (λ m before. TakesKept (choice.kept found) page m) ts looked (λ m before h. h)
          (takes_kept page grains (choice.kept found) is.exactly (words took.answers) 4)
          (always_map _ (λ m before. TakesKept (choice.kept found) page m) looked (λ m before. (λ is word mask g same here. let none = sym is ∙ ap (λ s. is_in (LookFree ∷ []) (kind_of s)) same in absurd (true≢false none))) looked_only)

      -- A page of which the chosen grains were taken, and which was backed, serves and keeps them.
      pub keeps_chosen : {σ3 : Standing} (a : ℕ) → Makes σ2 σ3 (Back page) a → ServesPage (choosing choice) page d σ σ3 (Some found)
      unfolding taken_from
      keeps_chosen a back =
          let few = takes_few page (words grains) (words took.answers) 4 in let all = length-append ts looked in
          keeps_page (choosing choice) page d (is_set free) (choice.kept found) taken_from is.some found (λ b lt. refl) refl a back is.fits is.within
          (λ before got. record {
            readings = is_set free;
            read = once_read (choosing choice) page d (is_set free) (choice.kept found) taken_from is.some found (λ b lt. refl) refl a back before got;
            chosen = is.chosen;
            takes = since_got (TakesKept (choice.kept found) page) page (made (Back page) a ∷ (ts ++ looked)) before ((λ word mask g same here. cc), takes_all) got.newest;
          }) (omega arith) (omega (arith, few, all))

-- What a placement chose of the free grains of a page.
module _ (p : Placement) (is : IsPlacement p) (asked : p.asked) where
  -- A run that is placed fits.
  pub placed_fits : (r : Readings) (run : Run) → IsPlaced p r run → IsFit p.no_fit r run
  placed_fits r run so = subst (IsFit p.no_fit r) (sym so.run_is) (is.is_fit r so.found asked so.chosen)

  module _ (free : Mask4) where
    -- an empty page would have a fit
    pub unfit : p.no_fit (is_set free) → IsUnfit (by_run p) (is_set free)
    unfit none = record { none = none; used = λ all. is.empty asked (is.fewer (is_set free) (λ g. true) (λ b lt one. all b lt) none) }

    pub run_chosen : (run : Run) (grains : Mask4) → IsPlaced p (is_set free) run → ((g : ℕ) → is_set grains g ≡ in_run run.first run.grains g)
        → IsChosen (by_run p) (is_set free) run grains
    run_chosen run grains so are = let fit = placed_fits (is_set free) run so in search (arith, first_of_run, fit.free)
