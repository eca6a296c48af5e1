-- A run of grains is given as a block.
use Rattle.std.specs.Prelude.{ℕ, ◌+◌, ◌*◌, ◌/◌, ◌^◌, ◌<◌, ◌≡◌, true, false, List, [], ◌∷◌}
use Rattle.pas_profile.specs.{Lives.turn_of, declared.{name.Block.Block, profile.Profile.Profile, word.Word.Word}}
use Rattle.pas_bits.specs.Runs.{in_run}
use Rattle.pas_steps.specs.{Allowed.KnowsBearing, Calls.{Calls, Does, freed}, Desks.{Standing, made}, Views.{View, holds}, declared.step.Made.Made}
use Rattle.pas_steps.specs.declared.step.Step.TheVariants.{Look, Give}

-- the grain, a number of the region, is one of the n from this one of the page on
abbrev pub in_piece : ℕ → ℕ → ℕ → ℕ → Type 0
in_piece page first n g = in_run (page * 256 + first) n g ≡ true

-- the run's grains are held, and its pages are known to bear blocks of the heap
pub record MayGive (f : Profile) (heap page first grains : ℕ) (v : View) : Type 0 where
  pub held : (g : ℕ) → in_piece page first grains g → holds v g ≡ true
  pub bears : (g : ℕ) → in_piece page first grains g → KnowsBearing f v heap (g / 256)

-- the block of the run, with the turn of the life word that was read
abbrev pub block_of : ℕ → ℕ → ℕ → ℕ → ℕ → Block
block_of heap page first grains word = record { name = record { address = record { 0 = page * 4096 + first * 16 }; turn = turn_of word }; room = grains * 16; heap = heap }

-- a look at the life word of the first grain, and the give
abbrev pub give_steps : ℕ → ℕ → Block → ℕ → ℕ → List Made
give_steps page first block word answer = made (Give block) answer ∷ made (Look (Word.Life page first)) word ∷ []

-- the run's grains are held no longer, and all else is as it was
pub record GaveRun (page first grains : ℕ) (block : Block) (v w : View) : Type 0 where
  pub does : Does (freed (in_run (page * 256 + first) grains) (λ page. false)) v w
  pub turn : block.name.turn < 2 ^ 37

pub record GivesRun (heap page first grains : ℕ) (block : Block) (desk desk' : Standing) : Type 0 where
  pub word : ℕ
  pub answer : ℕ
  pub block_is : block ≡ block_of heap page first grains word
  pub calls : Calls desk desk' (MayGive desk.seat.profile heap page first grains) (GaveRun page first grains block) (give_steps page first block word answer)
