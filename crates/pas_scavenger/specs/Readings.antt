-- Free words of a page that are taken in order until one isn't all ones.
use Rattle.std.specs.Prelude.{ℕ, ◌/◌, ◌%◌, ◌==◌, nat_lt, Bool, ◌&&◌, ◌||◌, List, ◌∷◌, Option, None, Some}
use Rattle.pas_bits.specs.Bits.{has_bit}
use Rattle.pas_rights.specs.{Looks.AreUsed, Takes.{HasRight, takes}, Words.ones, declared.reading.Used.Used}
use Rattle.pas_steps.specs.{Desks.{Standing, Adds, made}, Views.all_ones, declared.step.{Made.Made, Step.TheVariants.Take}}

-- the grain of the page, 0 to 255, was read as free: by a word before this one, or by this one
abbrev pub was_free : Option Used → ℕ → Bool
was_free None g = nat_lt (g / 64) 4
was_free (Some used) g = nat_lt (g / 64) used.word || ((used.word == g / 64) && has_bit used.value (g % 64))

-- takes of all grains of the words up to this one, and of all words where there is none
abbrev pub takes_until : ℕ → Option Used → List Made
takes_until page None = takes page ones ones 4
takes_until page (Some used) = made (Take page used.word all_ones) used.value ∷ takes page ones ones used.word

-- ---- of private functions
pub record TakesUntilUsed (page : ℕ) (desk desk' : Standing) (used : Option Used) : Type 0 where
  pub are : AreUsed used
  pub adds : Adds desk desk' (HasRight page) (takes_until page used)
