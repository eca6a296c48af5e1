-- A sweep over the guards that are up.
use Rattle.std.specs.Prelude.{ℕ, ◌/◌, ◌%◌, ◌*◌, ◌≤◌, ◌≡◌, nat_lt, Bool, true, false, ◌||◌, List, [], ◌∷◌, ◌++◌, length}
use Rattle.pas_profile.specs.{Lives.turn_of, Blocks.address_of, declared.{profile.Profile.Profile, word.Word.{Word as TheWord, Word}, guard.Guard.Guard}}
use Rattle.pas_records.specs.declared.record.{Record.Record, Said.Said}
use Rattle.pas_rights.specs.PutsBack.{giving_back}
use Rattle.pas_steps.specs.{Calls.Leads, Kinds.{Kinds, LookLife, Only}, Desks.{Standing, AnyView, Adds, made}, declared.step.{Made.Made, Step.TheVariants.Look}}
use Rattle.pas_guard.specs.{Books.FitsBook, Lowers.LowerSteps}

-- the life word of the block's first grain
abbrev pub life_word_of : Guard → TheWord
life_word_of guard = Word.Life (address_of guard.block.name / 4096) (address_of guard.block.name % 4096 / 16)

-- by this life word the block has ended: more blocks ended at its address than before it was given
abbrev pub is_over : Guard → ℕ → Bool
is_over guard word = nat_lt guard.block.name.turn (turn_of word)

-- the look at the life word
abbrev pub life_look : Guard → ℕ → List Made
life_look guard word = made (Look (life_word_of guard)) word ∷ []

-- whether the guard goes down: its block has ended, or all are to
pub record LooksOver (all : Bool) (guard : Guard) (desk desk' : Standing) (down : Bool) : Type 0 where
  pub word : ℕ
  pub adds : Adds desk desk' AnyView (life_look guard word)
  pub down_is : down ≡ (all || is_over guard word)

abbrev pub lowered_record : ℕ → Guard → Record
lowered_record k guard = Record.Said k (Said.Lowered guard.low guard.high)

-- ---- one guard: it is lowered, which is said, or stays up; then those after it follow, with these steps, guards and records
abbrev pub SweptOne : Bool → ℕ → Guard → List Made → List Guard → List Guard → List Record → List Record → Type 0
SweptOne true k guard first kept after said more = LowerSteps guard first × (kept ≡ after) × (said ≡ lowered_record k guard ∷ more)
SweptOne false k guard first kept after said more = (first ≡ []) × (kept ≡ guard ∷ after) × (said ≡ more)

-- The guards, in the order in which they went up: each has one look at its life word, and is lowered where its block has ended, or all are to be. The others stay
-- up, in their order.
abbrev pub Swept : Bool → ℕ → List Guard → List Guard → List Record → List Made → Type 0
Swept all k [] kept said steps = (kept ≡ []) × (said ≡ []) × (steps ≡ [])
Swept all k (guard ∷ guards) kept said steps = (word : ℕ) × (first : List Made) × (rest : List Made) × (after : List Guard) × (more : List Record)
    × SweptOne (all || is_over guard word) k guard first kept after said more × Swept all k guards after more rest × (steps ≡ rest ++ (first ++ life_look guard word))

-- ---- the sweep
-- what a sweep does, none of which is an event
abbrev pub sweeping : Kinds
sweeping = LookLife ∷ giving_back

-- What a sweep of actor k does, in its own steps. The actor fits the book before and afterwards. At most 25 steps for each guard.
pub record SweepSteps (f : Profile) (k : ℕ) (all : Bool) (guards guards' : List Guard) (said : List Record) (steps : List Made) : Type 0 where
  pub fits : Leads f (FitsBook f guards) (λ v w. FitsBook f guards' w) steps
  pub swept : Swept all k guards guards' said steps
  pub kinds : Only sweeping steps
  pub few : length steps ≤ 25 * length guards

pub record Sweeps (all : Bool) (guards guards' : List Guard) (said said' : List Record) (desk desk' : Standing) : Type 0 where
  pub steps : List Made
  pub more : List Record
  pub adds : Adds desk desk' (FitsBook desk.seat.profile guards) steps
  pub sweep : SweepSteps desk.seat.profile desk.seat.actor all guards guards' more steps
  pub added : said' ≡ said ++ more
