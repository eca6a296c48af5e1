use Rattle.std.proofs.Common.{ℕ, ◌≤◌, ◌<◌}
use Rattle.pas_profile.specs.declared.word.Word.{Word}
use Rattle.pas_steps.specs.Told.{TellsWord}
use Rattle.pas_scan.proofs.passed.first_other_deed.Given as goal

-- the desk tells that each page below this one has the deed word
abbrev pub invariant-loop-page : goal.invariant-loop-page
invariant-loop-page g l = (p : ℕ) → l.from ≤ p → p < l.page → TellsWord g.D.Desk.tells (g.D.Desk.standing l.desk) (Word.Deed p) l.deed
