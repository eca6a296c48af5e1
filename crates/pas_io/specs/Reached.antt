-- How far a source was read.
use Rattle.std.specs.Prelude.{ℕ, ◌≤◌, ◌≡◌, ◌≢◌, ◌⊎◌, List, []}
use Rattle.pas_io.specs.declared.reach.Reach.{Reach, TheVariants.{Within, AtEnd, Beyond}}

-- after one more read that met the end
abbrev pub HasMet : Reach → Reach → Type 0
HasMet Within after = after ≡ AtEnd
HasMet AtEnd after = after ≡ Beyond
HasMet Beyond after = after ≡ Beyond

-- after one more read that met no end
abbrev pub HasGone : Reach → Reach → Type 0
HasGone Within after = after ≡ Within
HasGone AtEnd after = after ≡ Beyond
HasGone Beyond after = after ≡ Beyond

-- after one more read, which answered n into this buffer: it met the end where it had a place there and no byte came
pub record HasRun (before after : Reach) (buffer : List ℕ) (n : ℕ) : Type 0 where
  pub ends : n ≡ 0 → buffer ≢ [] → HasMet before after
  pub goes : (1 ≤ n) ⊎ (buffer ≡ []) → HasGone before after

-- no read was made after one that met the end
abbrev pub StopsAtEnd : Reach → Type 0
StopsAtEnd reach = (reach ≡ Within) ⊎ (reach ≡ AtEnd)
