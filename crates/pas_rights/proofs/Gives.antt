-- A run of grains is given as a block.
use Rattle.std.proofs.Common.{◌≡◌, ℕ, ◌+◌, ◌*◌, ◌/◌, ◌^◌, ◌<◌, ◌≤◌, true, false, if◌then◌else◌, [], ◌∷◌, Some, refl, ap, sym, ◌∙◌, arith, inl, eq-eqb}
use Rattle.std.proofs.lemmas.Bool.{and_from}
use Rattle.pas_profile.specs.{Lives.turn_of, Profiles.{IsPage, IsDirectoryOf}, Blocks.{grain_of, length_of}, declared.directory.Directory.Directory}
use Rattle.pas_profile.specs.declared.{name.Block.Block, profile.Profile.Profile, word.Word.Word}
use Rattle.pas_bits.{specs.Runs.in_run, proofs.Runs.{run_of, first_of_run}}
use Rattle.pas_steps.specs.{Agreement.Agreed, Allowed.{IsBlockOf, KnowsBearing, MayGiveNow}, Lists.Whole, Calls.{Kept, Lost}, Desks.{Standing, made, Makes}}
use Rattle.pas_steps.specs.{Desks.{CanMake, CanCall, Adds}, Views.{View, holds, knows_backed, known_life, KnowsDeed, is_unstamped}}
use Rattle.pas_steps.{specs.declared.step.Step.TheVariants.{Look, Give}, proofs.{Adding.{adds_none, adds_step, can_step, room_left}, Frames.backed_holds}}
use Rattle.pas_steps.proofs.{Frames.given_le, Calls.{does_as, does_step, does_then}, SpareRoom.Spares}
use Rattle.pas_rights.specs.Gives.{in_piece, MayGive, block_of, give_steps, GaveRun, GivesRun}

-- ---- what may be given
-- the page is known to bear the directory's blocks
pub bears_by : {f : Profile} {v : View} (d : Directory) (page : ℕ) → IsDirectoryOf f d → KnowsDeed page d v → knows_backed v page ≡ true
    → is_unstamped v page ≡ false → KnowsBearing f v d.heap page
bears_by d page of_profile deed backed stamped = search arith

-- a run on one page
pub may_give_on : {f : Profile} {v : View} (d : Directory) (page first n : ℕ) → IsDirectoryOf f d → first + n ≤ 256
    → ((g : ℕ) → in_piece page first n g → holds v g ≡ true) → KnowsDeed page d v → knows_backed v page ≡ true → is_unstamped v page ≡ false
    → MayGive f d.heap page first n v
may_give_on {f} {v} d page first n of_profile within held deed backed stamped = search (arith, run_of, bears_by)

-- ---- the block and its grains
-- The turn is named otherwise on the two sides, and nothing else is.
pub block_is : (heap page first n word turn : ℕ) → turn ≡ turn_of word
    → record { name = record { address = record { 0 = page * 4096 + first * 16 }; turn = turn }; room = n * 16; heap = heap } ≡ block_of heap page first n word
block_is heap page first n word turn t = search arith

-- they are those of the run
run_is : (heap page first n word g : ℕ)
    → in_run (grain_of (block_of heap page first n word).name) (length_of (block_of heap page first n word)) g ≡ in_run (page * 256 + first) n g
run_is heap page first n word g =
    search arith

-- The block of a run covers just the grains of the run.
pub covers : (heap page first n word : ℕ) (block : Block) → block ≡ block_of heap page first n word → (g : ℕ)
    → in_run (grain_of block.name) (length_of block) g ≡ in_run (page * 256 + first) n g
covers heap page first n word block is g = ap (λ (b : Block). in_run (grain_of b.name) (length_of b) g) is ∙ run_is heap page first n word g

module _ (heap page first n word : ℕ) where
  abbrev block : Block
  block = block_of heap page first n word

  module _ {σ σ1 : Standing} (spare : ℕ) (of_region : IsPage σ.seat.profile page) (of_heap : heap < σ.seat.profile.heaps) (some : 1 ≤ n)
      (within : page * 256 + first + n ≤ 256 * (σ.seat.profile.pages + 1))
      (spares : Spares σ spare) (limit : σ.seat.room < 2 ^ 32) (small : first < 256) (look : Makes σ σ1 (Look (Word.Life page first)) word) where
    abbrev f : Profile
    f = σ.seat.profile

    of_the_region : IsBlockOf f block
    of_the_region = record { first = omega (arith, of_region.0); last = omega (arith, within); heap = of_heap; turn = omega arith }

    module _ (v : View) (may : MayGive f heap page first n v) where
      abbrev looked : View
      looked = made (Look (Word.Life page first)) word ∷ v

      life_read : known_life looked (page * 256 + first) ≡ Some word
      life_read = search (arith, and_from, eq-eqb, may.held (page * 256 + first) (first_of_run (page * 256 + first) n (omega (arith, some))))

      -- What is known of a page as bearing the heap's blocks is known after the look.
      bears : (q : ℕ) → KnowsBearing f v heap q → KnowsBearing f looked heap q
      bears q b = search (arith, and_from, backed_holds)

      may_give : (l : Whole) → σ.stands v l → MayGiveNow f looked block
      may_give l stood = record {
        aligned = omega arith;
        whole = omega arith;
        some = omega (arith, some);
        held = λ g inside. may.held g (sym (run_is heap page first n word g) ∙ inside);
        bears = λ g inside. bears (g / 256) (may.bears g (sym (run_is heap page first n word g) ∙ inside));
        word = word;
        known = ap (known_life looked) (omega arith) ∙ life_read;
        turn_is = refl;
        few = let room = spares v l stood in let le = given_le σ.seat.actor v in omega (arith, room, le, limit);
      }

    look_adds : Adds σ σ1 (MayGive f heap page first n) (made (Look (Word.Life page first)) word ∷ [])
    look_adds = adds_step {step = Look (Word.Life page first)} adds_none look (λ v l stood met. tt)

    -- After the look at its life word, the block of a run may be given.
    pub can_give : (given : Block) → given ≡ block_of heap page first n word → CanCall σ (MayGive σ.seat.profile heap page first n) → CanMake σ1 (Give given)
    can_give given is can = search (arith, can_step, look_adds, of_the_region, may_give)

    -- After the look at a life word there is still room for the event of the give.
    pub room_to_give : {spare1 : ℕ} → Spares σ1 spare1 → 1 ≤ spare → CanCall σ (MayGive σ.seat.profile heap page first n) → 1 ≤ spare1
    room_to_give {spare1} spares1 one can = search (arith, room_left, look_adds)

    -- After the steps of a give the run was given.
    gave : (answer : ℕ) (v : View) → Agreed f v (give_steps page first block word answer)
        → GaveRun page first n block v (made (Give block) answer ∷ made (Look (Word.Life page first)) word ∷ v)
    gave answer v agreed = record {
      does = does_as _ (does_then (does_step f _ word v refl agreed.1.0) (does_step f _ answer _ refl agreed.0))
          (λ g. inl ((grind arith) ∙ ap (λ t. if t then Lost else Kept) (run_is heap page first n word g))) (λ q. refl) (λ q h. h);
      turn = agreed.1.0.turn;
    }

    -- A look at the life word, and then the give, give the run.
    pub gives_run : {σ2 : Standing} (answer : ℕ) (given : Block) → given ≡ block_of heap page first n word → Makes σ1 σ2 (Give given) answer
        → GivesRun heap page first n given σ σ2
    gives_run {σ2} answer given is give = rw is (record { word = word; answer = answer; block_is = refl; calls = search (arith, adds_step, look_adds, may_give, gave) })
