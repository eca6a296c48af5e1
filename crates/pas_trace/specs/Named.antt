-- What the names of a trace stand for, and what a line that reallocates asks of the block behind one.
use Rattle.std.specs.Prelude.{ℕ, ◌%◌, ◌==◌, ◌&&◌, Bool, nat_le, if◌then◌else◌, List, [], ◌∷◌, max, Option, None, Some}
use Rattle.pas_profile.specs.{Blocks.address_of, declared.name.Block.Block}
use Rattle.pas_trace.specs.declared.item.Request.{Request}

-- a block, or nothing where the request was refused; in a list the newest stands first
pub record Named : Type 0 where
  pub name : ℕ
  pub block : Option Block

abbrev pub named : ℕ → Option Block → Named
named name block = record { name = name; block = block }

-- what the name stands for; None where no request had it
abbrev pub standing_for : List Named → ℕ → Option (Option Block)
standing_for [] name = None
standing_for (n ∷ names) name = if n.name == name then Some n.block else standing_for names name

-- ---- another size for a block
-- whether the block has room for so many bytes, where none count as one, and stands at a multiple of the alignment
abbrev pub suits : Block → ℕ → ℕ → Bool
suits old size align = nat_le (max size 1) old.room && (address_of old.name % align == 0)

-- the request that is made where the block doesn't suit: for another block of its heap
abbrev pub request_for : Block → ℕ → ℕ → ℕ → Request
request_for old name size align = record { name = name; heap = old.heap; size = size; align = align }
