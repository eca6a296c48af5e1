-- Grains of a page that are put back, and what follows: the page is kept or left.
use Rattle.std.specs.Prelude.{ℕ, ◌≤◌, ◌≡◌, ◌==◌, ◌⊎◌, Bool, true, false, if◌then◌else◌, List, [], ◌∷◌, ◌++◌, length}
use Rattle.pas_profile.specs.declared.directory.Directory.{Directory}
use Rattle.pas_bits.specs.{declared.mask.Mask4.Mask4, Masks.{IsEmpty, HasMember}}
use Rattle.pas_steps.specs.{Agreement.Agreed, Clear.IsClearOn, Desks.Standing, Frames.{OnlyOn, KeepsRight}, Past.Once, Calls.{Calls, Effect, Kept, Lost, Does}}
use Rattle.pas_steps.specs.{Calls.freed, Kinds.{Kinds, Taking, Putting, Only, returning}, Views.{View, holds, has_right, KnowsDeed}, declared.step.Made.Made}
use Rattle.pas_rights.specs.{Leaves.{LeaveSteps, LosesHere}, Looks.HintsEmpty, Returns.ReturnSteps, Puts.{masked, MayPut, PutsBelow, PutsTaken}}

-- what is done where grains are put back, and where some were taken before
abbrev pub giving_back : Kinds
giving_back = Putting ∷ returning

abbrev pub taking_grains : Kinds
taking_grains = Taking ∷ giving_back

-- the step hints no page but one that these steps read as empty, and puts no grain but one that they took, and hold
abbrev pub GivesDuly : Made → List Made → Type 0
GivesDuly m before = HintsEmpty m before × PutsTaken m before

-- ---- what every actor does that put grains back
pub record MayPutAndReturn (page : ℕ) (directory : Directory) (mask : Mask4) (v : View) : Type 0 where
  pub deed : KnowsDeed page directory v
  pub puts : MayPut page mask v

-- Nothing where the mask is empty. Otherwise at most four puts, and then what follows them.
abbrev pub BackSteps : ℕ → Directory → Mask4 → List Made → Type 0
BackSteps page directory mask steps =
    (IsEmpty mask × (steps ≡ []))
    ⊎ (HasMember mask × (puts : List Made) × (after : List Made) × PutsBelow page mask 4 puts × ReturnSteps page directory after × (steps ≡ after ++ puts))

-- these grains are put, and what is clear stays so
abbrev pub given_back : (ℕ → Bool) → Effect
given_back grains = freed grains (λ page. false)

-- The grains of the mask are put back. An actor that has the page's right keeps it all the while.
pub record PutsAndReturns (page : ℕ) (directory : Directory) (mask : Mask4) (desk desk' : Standing) : Type 0 where
  pub steps : List Made
  pub calls : Calls desk desk' (MayPutAndReturn page directory mask) (Does (given_back (masked page mask))) steps
  pub order : BackSteps page directory mask steps
  pub kinds : Only giving_back steps
  pub on : OnlyOn page steps
  pub few : length steps ≤ 12
  pub keeps : (v : View) → Agreed desk.seat.profile v steps → has_right v page ≡ true → KeepsRight page steps

-- ---- the page is left
-- the page's right and these of its grains are the actor's
pub record MayPutAndLeave (page : ℕ) (d : Directory) (grains : ℕ → Bool) (v : View) : Type 0 where
  pub right : has_right v page ≡ true
  pub deed : KnowsDeed page d v
  pub held : (g : ℕ) → grains g ≡ true → holds v g ≡ true
  pub clear : IsClearOn page v

abbrev pub put_and_left : ℕ → (ℕ → Bool) → Effect
put_and_left page grains = record { grains = λ g. if grains g then Lost else Kept; rights = λ q. if page == q then Lost else Kept; clears = λ q. Kept }

pub record PutsAndLeaves (page : ℕ) (d : Directory) (mask : Mask4) (desk desk' : Standing) : Type 0 where
  pub puts : List Made
  pub after : List Made
  pub calls : Calls desk desk' (MayPutAndLeave page d (masked page mask)) (Does (put_and_left page (masked page mask))) (after ++ puts)
  pub on : OnlyOn page (after ++ puts)
  pub kinds : Only giving_back (after ++ puts)
  pub few : length (after ++ puts) ≤ 15
  pub put_order : PutsBelow page mask 4 puts
  pub order : LeaveSteps page d after
  pub left : Once (LosesHere page) after
  pub lacks : (before : List Made) → has_right ((after ++ puts) ++ before) page ≡ false
