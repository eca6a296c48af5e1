-- Distinct words have distinct places, and every place is below the number of words.
use Rattle.std.proofs.{Common.{◌≡◌, ◌≢◌, ℕ, ◌*◌, ◌<◌, ◌==◌, true, false, if◌then◌else◌, refl, arith, eqb-true, eq-eqb}, Math.Nat.mul_comm}
use Rattle.std.proofs.lemmas.{Nat.{mul-add-lt, same_from_place}, Bool.{and_parts, and_from}}
use Rattle.pas_profile.specs.{declared.word.Word.Word, Profiles.{IsWordIn, vector_words}, Layouts.{index_of, words_of, same_word, word_kind, word_minor}}
use Rattle.pas_profile.specs.Layouts.{word_major}

-- two words with one kind and the same two numbers are the same
both : (x y : Word) → word_kind x ≡ word_kind y → word_minor x ≡ word_minor y → word_major x ≡ word_major y → same_word x y ≡ true
both x y k i j = search (arith, and_from, eq-eqb)

-- two words that are the same by their numbers are equal
pub same_word-true : (x y : Word) → same_word x y ≡ true → x ≡ y
same_word-true x y h = search (arith, and_parts, eqb-true)

-- every place is below the number of words
pub index_lt : (pages heaps : ℕ) (w : Word) → IsWordIn pages heaps w → index_of pages w < words_of pages heaps
index_lt pages heaps Word.Epoch h = omega arith
index_lt pages heaps (Word.Eligible d j) h = omega (arith, h, mul-add-lt d (vector_words pages) j (23 * heaps) h.0 h.1, mul_comm (vector_words pages) (23 * heaps))
index_lt pages heaps w h = omega (arith, h)

same_place : (pages heaps : ℕ) (x y : Word) → IsWordIn pages heaps x → IsWordIn pages heaps y → index_of pages x ≡ index_of pages y → same_word x y ≡ true
same_place pages heaps Word.Epoch Word.Epoch hx hy e = refl
same_place pages heaps Word.Epoch y hx hy e = absurd (omega (arith, hy, e))
same_place pages heaps x Word.Epoch hx hy e = absurd (omega (arith, hx, e))
same_place pages heaps (Word.Free a b) (Word.Free c d) hx hy e = both (Word.Free a b) (Word.Free c d) refl (omega (arith, hx, hy, e)) (omega (arith, hx, hy, e))
same_place pages heaps (Word.Life a b) (Word.Life c d) hx hy e = both (Word.Life a b) (Word.Life c d) refl (omega (arith, hx, hy, e)) (omega (arith, hx, hy, e))
same_place pages heaps (Word.Deed a) (Word.Deed c) hx hy e = both (Word.Deed a) (Word.Deed c) refl refl (omega (arith, hx, hy, e))
same_place pages heaps (Word.Backed a) (Word.Backed c) hx hy e = both (Word.Backed a) (Word.Backed c) refl refl (omega (arith, hx, hy, e))
same_place pages heaps (Word.Stamp a) (Word.Stamp c) hx hy e = both (Word.Stamp a) (Word.Stamp c) refl refl (omega (arith, hx, hy, e))
same_place pages heaps (Word.Parked a) (Word.Parked c) hx hy e = both (Word.Parked a) (Word.Parked c) refl refl (omega (arith, hx, hy, e))
same_place pages heaps (Word.Empty a) (Word.Empty c) hx hy e = both (Word.Empty a) (Word.Empty c) refl refl (omega (arith, hx, hy, e))
same_place pages heaps (Word.Eligible a b) (Word.Eligible c d) hx hy e = let s = same_from_place a b c d (vector_words pages) hx.1 hy.1 (omega (arith, e)) in
    both (Word.Eligible a b) (Word.Eligible c d) refl s.0 s.1
same_place pages heaps x y hx hy e = absurd (omega (arith, hx, hy, e))

-- distinct words have distinct places
pub other_place : (pages heaps : ℕ) (x y : Word) → IsWordIn pages heaps x → IsWordIn pages heaps y → same_word x y ≡ false → index_of pages x ≢ index_of pages y
other_place pages heaps x y hx hy h e = let t : same_word x y ≡ true = same_place pages heaps x y hx hy e in cc

-- Two words of a region with the same place are one.
pub word_from_place : (pages heaps : ℕ) (x y : Word) → IsWordIn pages heaps x → IsWordIn pages heaps y → index_of pages x ≡ index_of pages y → x ≡ y
word_from_place pages heaps x y hx hy e = same_word-true x y (same_place pages heaps x y hx hy e)
