use Rattle.std.proofs.Common.{◌≡◌}
use Rattle.pas_steps.specs.Desks.{AnyView, Adds}
use Rattle.pas_rights.specs.{Looks.looks, Words.ones}
use Rattle.pas_rights.proofs.reading.first_used.Given as goal

-- the words so far are all ones
abbrev pub invariant-loop-word : goal.invariant-loop-word
invariant-loop-word g l = let D = g.D.Desk in record {
  adds : Adds (D.standing l.fn.desk) (D.standing l.desk) AnyView (looks l.page ones l.word);
  home : D.home l.desk ≡ D.home l.fn.desk;
}
