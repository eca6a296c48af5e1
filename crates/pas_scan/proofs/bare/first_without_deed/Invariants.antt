use Rattle.std.proofs.Common.{◌≡◌, ℕ, ◌-◌, length, ◌≤◌, ◌<◌, ◌+◌, List}
use Rattle.pas_steps.specs.{declared.step.Made.Made, Desks.{AnyView, Adds}, Past.Once, Evidence.DeedHere}
use Rattle.pas_scan.specs.Scan.{deed_looks}
use Rattle.pas_scan.proofs.bare.first_without_deed.Given as goal

-- the deed word of each page from the first to below this one was read as not 0
abbrev pub invariant-loop-page : goal.invariant-loop-page
invariant-loop-page g l = let D = g.D.Desk in record {
  steps : List Made;
  adds : Adds (D.standing l.fn.desk) (D.standing l.desk) AnyView steps;
  deeds : (p : ℕ) → l.from ≤ p → p < l.page → Once (DeedHere p) steps;
  answers : List ℕ;
  order : steps ≡ deed_looks l.from answers;
  at : l.from + length answers ≡ l.page;
  few : length answers ≤ (D.standing l.fn.desk).seat.profile.pages + 1 - l.from;
  home : D.home l.desk ≡ D.home l.fn.desk;
}
