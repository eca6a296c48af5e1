-- Calls that fail on purpose.
use Rattle.std.specs.{Prelude.{ℕ, ◌≡◌, ◌+◌, ◌-◌, ◌^◌, min}, List.Contains}
use Rattle.pas_io.specs.declared.schedule.Schedule.{Schedule}

-- the number of the next call, counted from 1, which stays at 2^64 - 1 once it is there
abbrev pub next_call : Schedule → ℕ
next_call schedule = min (schedule.calls + 1) (2 ^ 64 - 1)

-- the next call is one that is listed
abbrev pub CallFails : Schedule → Type 0
CallFails schedule = Contains schedule.fails.items (next_call schedule)

-- one call was counted, and the same calls are listed
pub record Called (before after : Schedule) : Type 0 where
  pub calls : after.calls ≡ next_call before
  pub fails : after.fails ≡ before.fails
