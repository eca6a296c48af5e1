-- Where a block stands. A grain of the region is the number `page * 256 + grain`, which is its address divided by 16, so that grains follow
-- each other over the end of a page. The grains of one page are numbered alike, from 0 on.
use Rattle.std.specs.Prelude.{ℕ, ◌/◌}
use Rattle.pas_profile.specs.declared.name.{Name.Name, Block.Block}

-- the address of a name, in bytes
abbrev pub address_of : Name → ℕ
address_of name = name.address.0

-- the first grain of a name's block
abbrev pub grain_of : Name → ℕ
grain_of name = address_of name / 16

-- the number of grains of a block
abbrev pub length_of : Block → ℕ
length_of block = block.room / 16
