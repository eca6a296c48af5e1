-- Lines that were added one after the other.
use Rattle.std.proofs.Common.{◌≡◌, ℕ, List, ◌++◌, append_assoc, ap, ◌∙◌}
use Rattle.pas_telling.specs.Summaries.{line_text}

-- A line that is written in two pieces is the one before with both.
pub one_more : (b b' l r x : List ℕ) → b' ≡ b ++ l → x ≡ b' ++ r → x ≡ b ++ (l ++ r)
one_more b b' l r x e h = h ∙ (ap (λ (s : List ℕ). s ++ r) e ∙ append_assoc b l r)

-- A line of words and a number is the one before with that line.
pub counted : (b b' words r x : List ℕ) (n m : ℕ) → b' ≡ b ++ line_text words n → n ≡ m → x ≡ b' ++ r → x ≡ b ++ (line_text words m ++ r)
counted b b' words r x n m e same h = one_more b b' (line_text words m) r x (e ∙ ap (λ k. b ++ line_text words k) same) h
