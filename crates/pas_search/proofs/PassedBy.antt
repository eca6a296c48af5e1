-- A placement passes pages by that are short of its least run: the steps of its back end on such a page are known beforehand.
use Rattle.std.proofs.Common.{◌≡◌, ℕ, zero, suc, ◌<◌, Bool, true, false, not, inl, inr, List, Option, MatchOption, refl, ap, ◌∙◌, arith}
use Rattle.std.proofs.lemmas.Bool.{cases_Bool, cases_eq, not-true, not-false}
use Rattle.pas_bits.specs.Masks.{is_set}
use Rattle.pas_profile.specs.declared.{directory.Directory.Directory, profile.Profile.Profile}
use Rattle.pas_rights.{specs.{Looks.looks, Words.words}, proofs.Orders.leaves_offered}
use Rattle.pas_steps.specs.{Desks.{Standing, Adds}, Views.{View, usable_by_kind}, declared.step.Made.Made}
use Rattle.pas_search.specs.{Passing.PassesBy, Placements.{IsLeastRun, IsPlacement, Placement, by_run, placing}, declared.placing.LeastRun.LeastRun}
use Rattle.pas_search.proofs.Pages.{leaves_steps, unfit}

-- a number below n passes the test, if not all of them fail it
some_below : (n : ℕ) (test : ℕ → Bool) → (((g : ℕ) → g < n → test g ≡ false) → ⊥) → (g : ℕ) × (g < n) × (test g ≡ true)
some_below zero test some = absurd (some (λ g lt. absurd (omega (arith, lt))))
some_below (suc n) test some = elim (cases_Bool (test n)) [
  | inl set ↦ (n, omega arith, set)
  | inr clear ↦
      let less = some_below n test (λ none. some (λ g lt. elim (cases_eq g n) [ inl e ↦ ap test e ∙ clear | inr ne ↦ none g (omega (arith, lt, ne)) ])) in
      (less.0, omega (arith, less.1), less.2)
]

-- A desk that stands for nothing takes each call.
abbrev nowhere : Profile → Standing
nowhere f = record { seat = record { actor = 0; profile = f; room = 0 }; stands = λ v l. ⊥ }

nowhere_adds : (f : Profile) {C : View → Type 0} (steps : List Made) → Adds (nowhere f) (nowhere f) C steps
nowhere_adds f steps = record { seat_is = refl; added = λ v l stood met. absurd stood; agreed = λ v l stood met. absurd stood }

module _ (p : Placement) (is : IsPlacement p) (asked : p.asked) (d : Directory) (kind : d.kind ≡ p.kind) where
  passes_by : (run : LeastRun) → IsLeastRun p run → PassesBy (placing p) d run
  passes_by run least = record {
    steps = λ f page free offered of short.
        let unfits = unfit p is asked free (least.unfit (is_set free) short.none) in
        let one = some_below 256 (is_set free) short.some in
        let used = some_below 256 (λ g. not (is_set free g)) (λ none. unfits.used (λ b lt. not-false (is_set free b) (none b lt))) in
        let left = leaves_offered {σ = nowhere f} {σ' = nowhere f} page d free offered of (one.0, one.1, one.2, ap (λ k. usable_by_kind k one.0) kind ∙ least.usable one.0)
        (used.0, used.1, not-true (is_set free used.0) used.2) (nowhere_adds f _) in
        rw left.1 at (leaves_steps (by_run p) page d free (nowhere_adds f (looks page (words free) 4)) unfits left.0);
  }

  -- So does one that says its least run, if any.
  pub passes_where : (o : Option LeastRun) → MatchOption o (Unit {0}) (IsLeastRun p) → MatchOption o (Unit {0}) (PassesBy (placing p) d)
  passes_where found is = search (arith, passes_by)
