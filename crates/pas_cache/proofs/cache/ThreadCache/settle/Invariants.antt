use Rattle.std.proofs.Common.{take}
use Rattle.pas_cache.specs.Calls.{SettlesEach}
use Rattle.pas_cache.proofs.cache.ThreadCache.settle.Given as goal

-- the runs so far were handed on
abbrev pub invariant-loop-run : goal.invariant-loop-run
invariant-loop-run g l = SettlesEach g.O.Door.settles (take l.run-index l.run-items) l.fn.door l.door
