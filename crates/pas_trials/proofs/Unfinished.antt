-- What is still owed after a call that ends too early, and that it is owed with reason.
use Rattle.std.proofs.Common.{◌≡◌, ℕ, zero, suc, ◌<◌, ◌==◌, ◌&&◌, not, Bool, true, false, if◌then◌else◌, true≢false, ◌++◌, refl, ap, sym, ◌∙◌, arith, eq-eqb}
use Rattle.pas_profile.specs.{Profiles.IsValid, declared.profile.Profile.Profile}
use Rattle.pas_steps.specs.{Lists.{Whole, Legal}, Views.{View, all_ones, owes_check, owes_hint}}
use Rattle.pas_rights.specs.{Looks.looks, Words.ones}
use Rattle.pas_core.{specs.{Hints.IsEmptyBacked, Rights.{parked_bit, empty_bit, IsUsableFree, IsRightOffered, AllClear}}, proofs.Offers.parked_is_owed}
use Rattle.pas_core.proofs.Offers.{each_clear, hinted_at_rest}
use Rattle.pas_trials.specs.Unfinished.{ParkingOwes, LookingOwes}

-- ---- a parking without looks
pub parking_owes : ParkingOwes
parking_owes page n a answers v owes =
    true≢false (sym (ap (λ t. if t then true else owes_check (looks page answers n ++ v) page 0) (eq-eqb page page refl)) ∙ owes.checks 0 (omega arith))

-- A parked page with a usable free grain isn't offered, and its actors aren't all clear.
pub parked_with_room : (f : Profile) (l : Whole) → Legal f l → (page word bit : ℕ) → word < 4 → parked_bit l page ≡ true → IsUsableFree l page word bit
    → (IsRightOffered f l page → ⊥) × (AllClear f l → ⊥)
parked_with_room f l legal page word bit small parked free = (
  λ offered. true≢false (sym parked ∙ offered.not_parked),
  λ clear.
      let owed = parked_is_owed f l legal page word bit parked free in
      true≢false (sym owed.owes ∙ (((each_clear f l legal clear owed.actor).on page).owes.checks word small)),
)

-- ---- looks without a hint
-- the debt is kept by a look that shows each grain as free
kept : (same full owed : Bool) → full ≡ true → (if same && not full then false else owed) ≡ owed
kept same full owed is = grind arith

-- Looks at a page leave a hint owed that was.
looked : (page n : ℕ) (v : View) → owes_hint v page ≡ true → owes_hint (looks page ones n ++ v) page ≡ true
looked page zero v owed = owed
looked page (suc n) v owed = kept (page == page) (all_ones == all_ones) (owes_hint (looks page ones n ++ v) page) (eq-eqb all_ones all_ones refl) ∙ looked page n v owed

-- .. and by one that shows the page as backed
backed : (same owed : Bool) → (if same && false then false else owed) ≡ owed
backed same owed = grind arith

-- An actor that owes a page's hint still does after looks alone that showed it as backed and empty.
pub looking_owes : LookingOwes
looking_owes page n v owed owes = true≢false (sym (backed (page == page) (owes_hint (looks page ones n ++ v) page) ∙ looked page n v owed) ∙ owes.hint)

-- Where a page is backed and empty but its empty bit is clear, not all actors are clear.
pub empty_unhinted : (f : Profile) (l : Whole) → IsValid f → Legal f l → (page : ℕ) → IsEmptyBacked l page → empty_bit l page ≡ false → AllClear f l → ⊥
empty_unhinted f l valid legal page empty unhinted clear = true≢false (sym (hinted_at_rest f l valid legal clear page empty) ∙ unhinted)
