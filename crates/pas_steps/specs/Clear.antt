-- When an actor is clear, and when it has nothing left.
use Rattle.std.specs.Prelude.{ℕ, ◌<◌, ◌≡◌, false}
use Rattle.pas_steps.specs.Views.{View, holds, has_right, is_unstamped, owes_check, owes_hint, examines}

-- the actor owes neither a check nor the hint of the page
pub record OwesNothing (page : ℕ) (v : View) : Type 0 where
  pub checks : (word : ℕ) → word < 4 → owes_check v page word ≡ false
  pub hint : owes_hint v page ≡ false

-- the page is clear: it isn't unstamped for the actor, who owes nothing on it and doesn't examine it
pub record IsClearOn (page : ℕ) (v : View) : Type 0 where
  pub stamped : is_unstamped v page ≡ false
  pub owes : OwesNothing page v
  pub examined : examines v page ≡ false

-- the actor is clear: each page is
pub record IsClear (v : View) : Type 0 where
  pub on : (page : ℕ) → IsClearOn page v

-- the actor holds no grain, has no right and is clear
pub record HasNothing (v : View) : Type 0 where
  pub grains : (g : ℕ) → holds v g ≡ false
  pub rights : (page : ℕ) → has_right v page ≡ false
  pub clear : IsClear v
