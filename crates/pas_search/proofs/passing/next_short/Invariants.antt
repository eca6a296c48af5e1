use Rattle.std.proofs.Common.{◌≡◌, ℕ, ◌*◌, ◌/◌, ◌%◌, ◌<◌, ◌≤◌, false}
use Rattle.pas_bits.specs.Bits.{has_bit}
use Rattle.pas_profile.specs.{Directories.number_of, declared.word.Word.Word}
use Rattle.pas_steps.specs.{Lists.{Whole, word_after}, Views.View}
use Rattle.pas_search.proofs.passing.next_short.Given as goal

-- no page from `next` on to the ones of this block is offered
abbrev pub invariant-loop-block : goal.invariant-loop-block
invariant-loop-block g l = (v : View) (w : Whole) → (g.D.Desk.standing l.desk).stands v w → (p : ℕ) → l.next ≤ p → p < 64 * l.block
    → has_bit (word_after w (Word.Eligible (number_of l.fn.directory) (p / 64))) (p % 64) ≡ false
