-- What the names of a trace stand for, in the replay's table.
use Rattle.std.specs.Prelude.{ℕ, ◌+◌, ◌*◌, ◌^◌, ◌%◌, ◌<◌, ◌≤◌, ◌≡◌, ◌==◌, if◌then◌else◌, Option, None, Some, MatchOption, slice_index_or, length}
use Rattle.pas_profile.specs.{Blocks.address_of, declared.name.Block.Block}
use Rattle.pas_answers.specs.declared.names.{Meaning.Meaning, Names.Names}

-- the block that begins at this grain of the page, where there is such a page; turn and number of grains stand in two parts
abbrev pub block_in : Meaning → Option Block
block_in m = if m.page == 0 then None else Some record {
  name = record { address = record { 0 = m.page * 4096 + m.grain * 16 }; turn = m.later_turn * 2 ^ 32 + m.turn };
  room = (m.more_grains * 2 ^ 16 + m.grains) * 16;
  heap = m.heap;
}

-- the meaning of a name that stands for nothing
abbrev pub nothing : Meaning
nothing = record { page = 0; grain = 0; heap = 0; turn = 0; grains = 0; more_grains = 0; later_turn = 0 }

abbrev pub block_named : Names → ℕ → Option Block
block_named names name = block_in (slice_index_or names.meanings.items name nothing)

-- for how many names there is room, from 0 on
abbrev pub names_held : Names → ℕ
names_held names = length names.meanings.items

-- A meaning has the parts of the block: it begins at a grain of a page, from page 1 on, has whole grains, and its parts have room there. Each block of a
-- region is so.
pub record IsPackable (block : Block) : Type 0 where
  pub first : 4096 ≤ address_of block.name
  pub last : address_of block.name < 2 ^ 28
  pub aligned : address_of block.name % 16 ≡ 0
  pub whole : block.room % 16 ≡ 0
  pub room : block.room < 2 ^ 28
  pub turn : block.name.turn < 2 ^ 40

-- nothing, or such a block
abbrev pub MayPack : Option Block → Type 0
MayPack found = MatchOption found (Unit {0}) IsPackable
