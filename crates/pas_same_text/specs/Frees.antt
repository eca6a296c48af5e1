-- FREES, FLUSHES AND STOPS.
use Rattle.std.specs.Prelude.{ℕ, ◌+◌, ◌*◌, ◌%◌, ◌==◌, nat_le, nat_lt, Bool, not, ◌&&◌, if◌then◌else◌, List, [], ◌∷◌, ◌++◌, length, Option, None, Some}
use Rattle.std.specs.List.{filter}
use Rattle.pas_bits.specs.Runs.{meets_page}
use Rattle.pas_profile.specs.{Blocks.{address_of, grain_of, length_of}, Entries.{sized_entry, is_sized}, declared.event.{Event.Event, FreeFault.FreeFault}}
use Rattle.pas_profile.specs.declared.{event.Why.Why, name.{Block.Block, Name.Name}, profile.Profile.Profile, entry.Entry.Entry}
use Rattle.pas_machine.specs.State.{ends_in}
use Rattle.pas_records.specs.declared.record.{Record.Record, Said.Said}
use Rattle.pas_answers.specs.Answers.{said_of_fault, standing_for}
use Rattle.pas_same_text.specs.{State.{World, each, block_at, shows, says, locals_of, log_of, set_log}, Indexes.notes, Pages.{page_numbers, minds}}
use Rattle.pas_same_text.specs.Classes.{gives_up}

-- ---- a flush
-- the pages of a block, in order
abbrev pub pages_of : Profile → Block → List ℕ
pages_of f b = filter (meets_page (grain_of b.name) (length_of b)) (page_numbers f)

-- why a name has no effect: more blocks ended at its address than its turn, or its block was never given
abbrev pub reason : World → Name → Why
reason w name = if nat_lt name.turn (ends_in w.events (address_of name)) then Why.Ended else Why.NoBlock

-- the free named another room than the block has
abbrev pub is_other_room : Entry → Block → Bool
is_other_room entry b = is_sized entry && not (b.room == entry.room)

-- the block ends, its pages are noted where it is large, and its grains come back to their pages
abbrev pub ends_block : Profile → ℕ → Name → Block → World → World
ends_block f k name b w = each minds (pages_of f b) (notes k b (shows (Event.End k name w.epoch) w))

-- it has no effect, for this reason
abbrev pub rejects : ℕ → Name → Why → World → World
rejects k name why w = shows (Event.Reject k name why) w

-- the block that its name names lives, and ends, unless the free named another room
abbrev pub ends_if : Profile → ℕ → Entry → Block → World → World
ends_if f k entry b w = if is_other_room entry b then rejects k entry.name (Why.SizeDiffers entry.room) w else ends_block f k entry.name b w

-- a logged free takes effect, where this block lives at its address
abbrev pub takes_effect : Profile → ℕ → Entry → Option Block → World → World
takes_effect f k entry (Some b) w = if b.name.turn == entry.name.turn then ends_if f k entry b w else rejects k entry.name (reason w entry.name) w
takes_effect f k entry None w = rejects k entry.name (reason w entry.name) w

-- .. of the block at its address
abbrev pub ends : Profile → ℕ → Entry → World → World
ends f k entry w = takes_effect f k entry (block_at w (address_of entry.name)) w

-- A FLUSH: the logged frees take effect in order, and the log is empty
abbrev pub flushes : Profile → ℕ → World → World
flushes f k w = each (ends f k) (log_of w k) (set_log k [] w)

-- ---- a stop: a flush, and then all local allocators go
abbrev pub gives_up_all : ℕ → World → World
gives_up_all k w = each (gives_up k) (locals_of w k) w

abbrev pub stops : Profile → ℕ → World → World
stops f k w = gives_up_all k (flushes f k w)

-- ---- a free
-- the entry is the last one of the log
abbrev pub adds : ℕ → Entry → World → World
adds k entry w = set_log k (log_of w k ++ entry ∷ []) w

-- a log has room for 64 entries: where it has as many, it is flushed first
abbrev pub logs : Profile → ℕ → Entry → World → World
logs f k entry w = adds k entry (if nat_le 64 (length (log_of w k)) then flushes f k w else w)

-- the free is answered at once, since no block can have the address
abbrev pub refuses_free : ℕ → Name → FreeFault → World → World
refuses_free k name fault w = says (Record.Said k (said_of_fault name fault)) w

-- A FREE OF A BLOCK is logged, unless no block can have its address: it is on no page of the region, or isn't that of a grain
abbrev pub frees : Profile → ℕ → Entry → World → World
frees f k entry w = if nat_le 4096 (address_of entry.name) && nat_lt (address_of entry.name) (4096 * (f.pages + 1))
    then (if address_of entry.name % 16 == 0 then logs f k entry w else refuses_free k entry.name FreeFault.Unaligned w)
    else refuses_free k entry.name FreeFault.Outside w

-- A free by a name of the trace, which stands for a block, or for nothing where its request was refused. It names a room, or none (0). A trace has no name
-- that was never asked for
abbrev pub frees_what : Profile → ℕ → ℕ → ℕ → Option (Option Block) → World → World
frees_what f k name room (Some (Some block)) w = frees f k (sized_entry block.name room) w
frees_what f k name room (Some None) w = says (Record.Said k (Said.Skipped name)) w
frees_what f k name room None w = w

abbrev pub frees_named : Profile → ℕ → ℕ → ℕ → World → World
frees_named f k name room w = frees_what f k name room (standing_for w.names name) w
