use Rattle.std.proofs.Common.{◌≡◌, List}
use Rattle.pas_steps.specs.{Calls.{Calls, Does, put}, declared.step.Made.Made}
use Rattle.pas_rights.{specs.Puts.{MayPut, PutsBelow}, proofs.Puts.masked_below}
use Rattle.pas_rights.proofs.putting.put.Given as goal

-- the grains of the words below this one were put back
abbrev pub invariant-loop-word : goal.invariant-loop-word
invariant-loop-word g l = let D = g.D.Desk in record {
  steps : List Made;
  order : PutsBelow l.page l.mask l.word steps;
  calls : Calls (D.standing l.fn.desk) (D.standing l.desk) (MayPut l.page l.mask) (Does (put (masked_below l.page l.mask l.word) l.page)) steps;
  home : D.home l.desk ≡ D.home l.fn.desk;
}
