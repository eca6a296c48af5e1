-- The state of the machine, as it follows from the events so far. Lists of events have the NEWEST FIRST, so that what one more event does
-- is one equation. Each part of the state is a map: a function of the events. For each part one table says what an event does to it, an
-- event a line, and the state is the table applied event by event to the empty state.
use Rattle.std.specs.Prelude.{ℕ, ◌+◌, ◌/◌, ◌==◌, max, Bool, true, false, if◌then◌else◌, List, [], ◌∷◌, Option, None, Some}
use Rattle.pas_profile.specs.{declared.{directory.Directory.Directory, name.Block.Block, event.Event.Event}, Blocks.{address_of, length_of}}
use Rattle.pas_bits.specs.Runs.{meets_page}

-- a live block, beside the address that it is found by
pub record Live : Type 0 where
  pub actor : ℕ
  pub block : Block

-- ---- deeds: the directory of each page that has one
abbrev pub deed_after : Event → ℕ → Option Directory → Option Directory
deed_after (Event.Deed k p d) page old = if p == page then Some d else old
deed_after (Event.Back k p) page old = old
deed_after (Event.Unback k p e) page old = old
deed_after (Event.Give k block) page old = old
deed_after (Event.End k name e) page old = old
deed_after (Event.Reject k name why) page old = old

abbrev pub deed_in : List Event → ℕ → Option Directory
deed_in [] page = None
deed_in (e ∷ es) page = deed_after e page (deed_in es page)

-- ---- the backed pages
abbrev pub backed_after : Event → ℕ → Bool → Bool
backed_after (Event.Deed k p d) page old = old
backed_after (Event.Back k p) page old = if p == page then true else old
backed_after (Event.Unback k p e) page old = if p == page then false else old
backed_after (Event.Give k block) page old = old
backed_after (Event.End k name e) page old = old
backed_after (Event.Reject k name why) page old = old

abbrev pub backed_in : List Event → ℕ → Bool
backed_in [] page = false
backed_in (e ∷ es) page = backed_after e page (backed_in es page)

-- ---- the live blocks, by their address
abbrev pub live_after : Event → ℕ → Option Live → Option Live
live_after (Event.Deed k p d) address old = old
live_after (Event.Back k p) address old = old
live_after (Event.Unback k p e) address old = old
live_after (Event.Give k block) address old = if address_of block.name == address then Some record { actor = k; block = block } else old
live_after (Event.End k name e) address old = if address_of name == address then None else old
live_after (Event.Reject k name why) address old = old

abbrev pub live_in : List Event → ℕ → Option Live
live_in [] address = None
live_in (e ∷ es) address = live_after e address (live_in es address)

-- ---- how many blocks were given at an address, and how many ended there
abbrev pub gives_after : Event → ℕ → ℕ → ℕ
gives_after (Event.Deed k p d) address old = old
gives_after (Event.Back k p) address old = old
gives_after (Event.Unback k p e) address old = old
gives_after (Event.Give k block) address old = if address_of block.name == address then old + 1 else old
gives_after (Event.End k name e) address old = old
gives_after (Event.Reject k name why) address old = old

abbrev pub gives_in : List Event → ℕ → ℕ
gives_in [] address = 0
gives_in (e ∷ es) address = gives_after e address (gives_in es address)

abbrev pub ends_after : Event → ℕ → ℕ → ℕ
ends_after (Event.Deed k p d) address old = old
ends_after (Event.Back k p) address old = old
ends_after (Event.Unback k p e) address old = old
ends_after (Event.Give k block) address old = old
ends_after (Event.End k name e) address old = if address_of name == address then old + 1 else old
ends_after (Event.Reject k name why) address old = old

abbrev pub ends_in : List Event → ℕ → ℕ
ends_in [] address = 0
ends_in (e ∷ es) address = ends_after e address (ends_in es address)

-- ---- the greatest epoch of an end on each page: that of an end counts for every page of the block's run
abbrev pub touches : Option Live → ℕ → Bool
touches None page = false
touches (Some b) page = meets_page (address_of b.block.name / 16) (length_of b.block) page

abbrev pub epoch_after : Event → List Event → ℕ → ℕ → ℕ
epoch_after (Event.Deed k p d) es page old = old
epoch_after (Event.Back k p) es page old = old
epoch_after (Event.Unback k p e) es page old = old
epoch_after (Event.Give k block) es page old = old
epoch_after (Event.End k name e) es page old = if touches (live_in es (address_of name)) page then max old e else old
epoch_after (Event.Reject k name why) es page old = old

abbrev pub epoch_in : List Event → ℕ → ℕ
epoch_in [] page = 0
epoch_in (e ∷ es) page = epoch_after e es page (epoch_in es page)
