use Rattle.std.proofs.Common.{◌≡◌}
use Rattle.pas_rights.specs.{Takes.{HasRight, takes}, Words.ones}
use Rattle.pas_steps.specs.Desks.{Adds}
use Rattle.pas_scavenger.proofs.taking.take_grains.Given as goal

-- the words so far were whole
abbrev pub invariant-loop-word : goal.invariant-loop-word
invariant-loop-word g l = let D = g.D.Desk in record {
  adds : Adds (D.standing l.fn.desk) (D.standing l.desk) (HasRight l.page) (takes l.page ones ones l.word);
  home : D.home l.desk ≡ D.home l.fn.desk;
}
