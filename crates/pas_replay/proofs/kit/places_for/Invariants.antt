-- the passes that were placed and those that are left are all
use Rattle.std.proofs.Common.{◌≡◌, ◌≤◌, ◌+◌, ◌++◌, Some, length, map, reverse, vec_capacity}
use Rattle.pas_replay.proofs.kit.places_for.Given as goal

abbrev pub invariant-loop-pass : goal.invariant-loop-pass
invariant-loop-pass l = record {
  placed : l.places.items ++ map Some (reverse l.passes.items) ≡ map Some l.fn.passes.items;
  reserved : length l.places.items + length l.passes.items ≤ vec_capacity l.places;
}

abbrev pub decreases-loop-pass : goal.decreases-loop-pass
decreases-loop-pass l = length l.passes.items
