use Rattle.std.{proofs.Common.{◌≡◌, ℕ, ◌<◌, length, get_or}, specs.Slots.slots_items}
use Rattle.pas_shared.proofs.closing.copy.Given as goal

abbrev pub invariant-loop-i : goal.invariant-loop-i
invariant-loop-i l = (length l.words.items ≡ length l.initial.words.items) × ((k : ℕ) → k < l.i → get_or l.words.items k 0 ≡ get_or (slots_items l.closed.words) k 0)
