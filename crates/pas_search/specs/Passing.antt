-- Pages that are passed by: nothing fits on them, and their visits are told to the desk and not made.
use Rattle.std.specs.Prelude.{ℕ, ◌+◌, ◌*◌, ◌/◌, ◌%◌, ◌^◌, ◌-◌, ◌<◌, ◌≤◌, ◌≡◌, ◌≢◌, min, Bool, true, false, List, ◌∷◌, ◌++◌, None}
use Rattle.pas_bits.specs.{declared.mask.Mask4.Mask4, Bits.{has_bit, count_below}, Masks.is_set}
use Rattle.pas_profile.specs.{Directories.{IsDirectory, number_of}, declared.{directory.Directory.Directory, profile.Profile.Profile, word.Word.Word}}
use Rattle.pas_rights.specs.{Looks.looks, Words.words}
use Rattle.pas_steps.specs.{Lists.{Whole, word_after}, Views.View, Told.{AreShort, IsShort, TellsWord}, Desks.{Standing, AnyView, Adds, made}}
use Rattle.pas_steps.specs.declared.step.{Made.Made, Step.TheVariants.Offer}
use Rattle.pas_search.specs.{Serving.{Rule, ServeSteps}, Searches.GoesOn, declared.{passing.Passed.Passed, placing.LeastRun.LeastRun}}

-- the steps of a back end on a page where nothing fits: looks at its four free words, the same looks as it is left, and the offer
abbrev pub leaving_steps : ℕ → Directory → Mask4 → ℕ → List Made
leaving_steps page d free offered = made (Offer page d) offered ∷ (looks page (words free) 4 ++ looks page (words free) 4)

-- Where no such run is free and some grain is, these are the steps of the back end.
pub record PassesBy {F : Type 0} (rule : Rule F) (d : Directory) (run : LeastRun) : Type 0 where
  pub steps : (f : Profile) (page : ℕ) (free : Mask4) (offered : ℕ) → IsDirectory d → IsShort (is_set free) run.grains run.align
      → ServeSteps rule f page d (leaving_steps page d free offered) None

-- Of the pages from `next` on these of one block are offered, each is short of such a run, and no other up to the highest of them is offered. `word` is the
-- block's word of the directory, which the desk tells.
pub record MayPass (tells : Bool) (desk : Standing) (d : Directory) (next : ℕ) (run : LeastRun) (passed : Passed) : Type 0 where
  pub some : passed.pages ≢ 0
  pub block : (next / 64 ≤ passed.block) × (passed.block ≤ desk.seat.profile.pages / 64)
  pub word : ℕ
  pub fits : word < 2 ^ 64
  pub told : TellsWord tells desk (Word.Eligible (number_of d) passed.block) word
  pub before : (v : View) (l : Whole) → desk.stands v l → (p : ℕ) → next ≤ p → p < 64 * passed.block
      → has_bit (word_after l (Word.Eligible (number_of d) (p / 64))) (p % 64) ≡ false
  pub from_next : (b : ℕ) → b < 64 → has_bit passed.pages b ≡ true → next ≤ 64 * passed.block + b
  pub offered : (b : ℕ) → b < 64 → has_bit passed.pages b ≡ true → has_bit word b ≡ true
  pub lower : (b c : ℕ) → b < 64 → has_bit passed.pages b ≡ true → c < b → next ≤ 64 * passed.block + c → has_bit word c ≡ true → has_bit passed.pages c ≡ true
  pub short : AreShort desk run.grains run.align passed.block passed.pages

-- how many steps the visits are of these pages of a block, on so many pages, where `next` is the next page to be looked at
abbrev pub passed_steps : ℕ → ℕ → ℕ → ℕ → ℕ
passed_steps pages next block bits =
    let row_end = min (8 * (block / 8 + 1)) (pages / 64 + 1) in
    (row_end - next / 64 + 10) + (count_below 64 (has_bit bits) - 1) * (row_end - block + 10)

-- The search went on from one page to another over pages that are marked since, by steps that the desk took.
pub record PassesPages {F : Type 0} (rule : Rule F) (d : Directory) (next next' : ℕ) (marks marks' : List ℕ) (desk desk' : Standing) : Type 0 where
  pub steps : List Made
  pub adds : Adds desk desk' AnyView steps
  pub goes : (before : List Made) → GoesOn rule desk.seat.profile d next marks before → GoesOn rule desk.seat.profile d next' marks' (steps ++ before)
