-- The seat of a thread's cache.
use Rattle.std.specs.Prelude.{ℕ}
use Rattle.pas_utility.specs.declared.seat.CacheSeat.{CacheSeat}

-- the thread whose cache has the seat
abbrev pub thread_of : CacheSeat → ℕ
thread_of seat = seat.actor
