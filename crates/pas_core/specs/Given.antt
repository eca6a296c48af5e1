-- Blocks that were given.
use Rattle.std.specs.Prelude.{◌<◌, ◌≡◌, List, Some}
use Rattle.pas_profile.specs.{declared.{name.Block.Block, event.Event.Event}, Blocks.address_of}
use Rattle.pas_machine.specs.State.{Live, live_in, gives_in}

-- the block was given: its turn is past, and while its name lives it is this block, of this room and heap
pub record WasGiven (es : List Event) (block : Block) : Type 0 where
  pub earlier : block.name.turn < gives_in es (address_of block.name)
  pub same : (b : Live) → live_in es (address_of block.name) ≡ Some b → b.block.name.turn ≡ block.name.turn → b.block ≡ block
