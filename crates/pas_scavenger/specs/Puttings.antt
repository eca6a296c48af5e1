-- All grains that an actor holds are put back, and their page is left.
use Rattle.std.specs.Prelude.{ℕ, ◌≡◌, ◌≢◌, ◌==◌, ◌&&◌, Bool, true, false, List, ◌++◌}
use Rattle.pas_bits.specs.declared.mask.Mask4.{Mask4}
use Rattle.pas_profile.specs.declared.directory.Directory.{Directory}
use Rattle.pas_rights.specs.{Leaves.LeaveSteps, Puts.{masked, PutsBelow}, Returns.ReturnSteps}
use Rattle.pas_steps.specs.{Calls.Calls, Clear.{OwesNothing, HasNothing}, Desks.Standing, Views.{View, holds, has_right, KnowsDeed, is_unstamped, examines}}
use Rattle.pas_steps.specs.declared.step.Made.{Made}

-- the grains are put, what is owed then is done, and the page is left
pub record BackSteps (page : ℕ) (d : Directory) (grains : Mask4) (steps : List Made) : Type 0 where
  pub puts : List Made
  pub order : PutsBelow page grains 4 puts
  pub after : List Made
  pub returns : ReturnSteps page d after
  pub left : List Made
  pub leaves : LeaveSteps page d left
  pub steps_are : steps ≡ left ++ (after ++ puts)

-- ---- of private functions
-- The actor holds just these grains, and has the right of the page alone, or none. Nothing is unstamped or owed, and no other page is examined.
pub record IsAt (page : ℕ) (grains : ℕ → Bool) (right : Bool) (v : View) : Type 0 where
  pub held : (g : ℕ) → holds v g ≡ grains g
  pub rights : (q : ℕ) → has_right v q ≡ (right && (page == q))
  pub stamped : (q : ℕ) → is_unstamped v q ≡ false
  pub owes : (q : ℕ) → OwesNothing q v
  pub examined : (q : ℕ) → q ≢ page → examines v q ≡ false

abbrev pub none : ℕ → Bool
none g = false

-- with these grains of a page, whose deed is known and which is no longer examined
pub record MayPutBack (page : ℕ) (d : Directory) (grains : Mask4) (v : View) : Type 0 where
  pub at : IsAt page (masked page grains) true v
  pub ended : examines v page ≡ false
  pub deed : KnowsDeed page d v

pub record PutsBack (page : ℕ) (d : Directory) (grains : Mask4) (desk desk' : Standing) : Type 0 where
  pub steps : List Made
  pub calls : Calls desk desk' (MayPutBack page d grains) (λ v w. HasNothing w) steps
  pub order : BackSteps page d grains steps
