use Rattle.std.proofs.Common.{◌≡◌, ◌≤◌, ◌-◌, ℕ, List, length}
use Rattle.pas_io.specs.{Inputs.HasRead, declared.reach.Reach.TheVariants.Within}
use Rattle.pas_io.proofs.pieces.fill.Given as goal

abbrev pub invariant-loop-taken : goal.invariant-loop-taken
invariant-loop-taken g l = record {
  within : l.taken ≤ length l.buffer;
  told : (told : List ℕ) → HasRead told (g.S.Source.rest l.fn.source) l.fn.buffer l.fn.start → HasRead told (g.S.Source.rest l.source) l.buffer l.taken;
  reach : g.S.Source.reach l.fn.source ≡ Within → g.S.Source.reach l.source ≡ Within;
  count : g.S.Source.faults l.source ≡ g.S.Source.faults l.fn.source;
}

abbrev pub decreases-loop-taken : goal.decreases-loop-taken
decreases-loop-taken g l = length l.buffer - l.taken
