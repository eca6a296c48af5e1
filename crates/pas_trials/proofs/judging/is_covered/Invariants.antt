use Rattle.std.{proofs.Common.{◌≡◌, false, take}, specs.List.list_any}
use Rattle.pas_trials.specs.Judging.{covers}
use Rattle.pas_trials.proofs.judging.is_covered.Given as goal

-- no block so far covers the grain
abbrev pub invariant-loop-block : goal.invariant-loop-block
invariant-loop-block l = list_any (covers l.grain) (take l.block-index l.live) ≡ false
