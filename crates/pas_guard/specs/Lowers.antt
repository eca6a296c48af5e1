-- A guard is lowered: its outer pages are put back.
use Rattle.std.specs.Prelude.{ℕ, ◌/◌, ◌≤◌, ◌≡◌, true, if◌then◌else◌, List, ◌++◌, length}
use Rattle.pas_profile.specs.declared.{profile.Profile.Profile, guard.Guard.Guard}
use Rattle.pas_rights.specs.{PutsBack.{giving_back, BackSteps}, Words.full}
use Rattle.pas_scan.specs.Runs.{large_directory}
use Rattle.pas_steps.specs.{Calls.{Calls, Effect, Kept, Lost, Does}, Clear.IsClear, Desks.Standing, Frames.OnlyOn, Kinds.Only, Views.{View, holds}}
use Rattle.pas_steps.specs.declared.step.Made.{Made}
use Rattle.pas_guard.specs.Books.{is_outer_of, IsGuardOf, KnowsGuard}

pub record MayLower (f : Profile) (guard : Guard) (v : View) : Type 0 where
  pub of : IsGuardOf f guard
  pub knows : KnowsGuard v guard
  pub held : (g : ℕ) → is_outer_of guard (g / 256) ≡ true → holds v g ≡ true
  pub clear : IsClear v

abbrev pub lowered : Guard → Effect
lowered guard = record { grains = λ g. if is_outer_of guard (g / 256) then Lost else Kept; rights = λ q. Kept; clears = λ q. Kept }

-- All grains of the low page are put, and what follows a return is done; then so for the high page.
pub record LowerSteps (guard : Guard) (steps : List Made) : Type 0 where
  pub low : List Made
  pub high : List Made
  pub low_order : BackSteps guard.low (large_directory guard.block.heap) full low
  pub high_order : BackSteps guard.high (large_directory guard.block.heap) full high
  pub on_low : OnlyOn guard.low low
  pub on_high : OnlyOn guard.high high
  pub kinds : Only giving_back steps
  pub few : length steps ≤ 24
  pub steps_are : steps ≡ high ++ low

pub record Lowers (guard : Guard) (desk desk' : Standing) : Type 0 where
  pub steps : List Made
  pub calls : Calls desk desk' (MayLower desk.seat.profile guard) (Does (lowered guard)) steps
  pub order : LowerSteps guard steps
