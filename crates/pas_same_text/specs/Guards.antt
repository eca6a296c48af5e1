-- GUARDED REQUESTS: a block of whole pages between two pages that nobody else gets and that get no memory, as long as its guard is up. A keeper raises guards and
-- lowers them; it is an actor of its own, has no cache, and says so in lines of its own.
use Rattle.std.specs.{Prelude.{ℕ, ◌+◌, ◌*◌, ◌/◌, ◌==◌, nat_lt, Bool, not, ◌&&◌, if◌then◌else◌, List, [], ◌∷◌, ◌++◌, Option, None, Some}, List.filter}
use Rattle.pas_profile.specs.{Blocks.address_of, Requests.room_in, Guards.{guards_of, raised_by}, declared.{profile.Profile.Profile, guard.Guard.Guard}}
use Rattle.pas_profile.specs.declared.guard.Raised.{Raised}
use Rattle.pas_machine.specs.State.{backed_in, ends_in}
use Rattle.pas_trace.specs.declared.item.Request.{Request}
use Rattle.pas_records.specs.declared.record.{Record.Record, Said.Said}
use Rattle.pas_same_text.specs.{State.{World, each, says}, Pages.{page_numbers, minds}, Searches.{address_on, name_at}, Runs.{is_run, deeds_run, gives_run}}
use Rattle.pas_same_text.specs.Runs.{serves_pages}

-- ---- guards are lowered
-- its block has ended: more blocks ended at the address than its turn
abbrev pub is_over : World → Raised → Bool
is_over w r = nat_lt r.guard.block.name.turn (ends_in w.events (address_of r.guard.block.name))

-- one is up no longer; no page is an outer one of two guards
abbrev pub without_guard : Raised → World → World
without_guard r w = record w { guards = filter (λ h. not (h.guard.low == r.guard.low)) w.guards }

-- LOWERED: the grains of both pages come back, and that is said
abbrev pub lowers : Raised → World → World
lowers r w = says (Record.Said r.keeper (Said.Lowered r.guard.low r.guard.high)) (minds r.guard.high (minds r.guard.low (without_guard r w)))

-- a keeper lowers its guards whose blocks have ended; at the close all
abbrev pub lowers_ended : ℕ → World → World
lowers_ended keeper w = each lowers (filter (is_over w) (guards_of keeper w.guards)) w

abbrev pub lowers_all : ℕ → World → World
lowers_all keeper w = each lowers (guards_of keeper w.guards) w

-- ---- a guard goes up
-- the outer pages of the n + 2 from this one on have no memory
abbrev pub are_bare : World → ℕ → ℕ → Bool
are_bare w first n = not (backed_in w.events first) && not (backed_in w.events (first + n + 1))

-- .. and the block on its inner pages
abbrev pub guard_on : World → ℕ → ℕ → ℕ → Guard
guard_on w heap first n =
    record { low = first; high = first + n + 1; block = record { name = name_at w (address_on (first + 1) 0); room = 4096 * n; heap = heap } }

abbrev pub with_guard : Raised → World → World
with_guard r w = record w { guards = w.guards ++ r ∷ [] }

-- RAISED: the inner pages get memory, their block is given, the guard is up, and that is said
abbrev pub raises : ℕ → ℕ → ℕ → ℕ → ℕ → World → World
raises keeper name heap first n w =
    says (Record.Said keeper (Said.Guarded first (first + n + 1) name))
    (with_guard (raised_by keeper (guard_on w heap first n)) (gives_run keeper name heap (first + 1) n w))

-- The runs of n + 2 pages are tried from the lowest up: all pages of one that is usable get deeds, and it serves where its outer pages have no memory. Where none
-- serves, no guard goes up, and thread k makes the request as any other.
abbrev pub raises_from : Profile → ℕ → ℕ → ℕ → ℕ → ℕ → List ℕ → World → World
raises_from f keeper k name heap n [] w = serves_pages f k name heap n w
raises_from f keeper k name heap n (p ∷ ps) w = if is_run f w heap (n + 2) p
    then (if are_bare w p n then raises keeper name heap p n (deeds_run keeper heap p (n + 2) w) else raises_from f keeper k name heap n ps (deeds_run keeper heap p (n + 2) w))
    else raises_from f keeper k name heap n ps w

-- A GUARDED REQUEST of thread k
abbrev pub guards : Profile → ℕ → ℕ → Option Request → World → World
guards f keeper k None w = w
guards f keeper k (Some r) w = raises_from f keeper k r.name r.heap (room_in f r.size r.align / 4096) (page_numbers f) (lowers_ended keeper w)
