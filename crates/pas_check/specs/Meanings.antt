-- What a check keeps of a name.
use Rattle.std.specs.Prelude.{ℕ, List, Option, None, Some, slice_index_or}
use Rattle.pas_profile.specs.declared.name.Block.{Block}
use Rattle.pas_check.specs.declared.naming.Meaning.{Meaning, TheVariants.{Unasked, Refused, Given}}

-- what the name stands for; None where no request had it
abbrev pub meaning_of : Meaning → Option (Option Block)
meaning_of Unasked = None
meaning_of Refused = Some None
meaning_of (Given block) = Some (Some block)

abbrev pub meaning_at : List Meaning → ℕ → Meaning
meaning_at meanings name = slice_index_or meanings name Unasked

-- the heap of the block, or 0 where there is none
abbrev pub heap_in : Meaning → ℕ
heap_in Unasked = 0
heap_in Refused = 0
heap_in (Given block) = block.heap
