-- The grains of a block that ended, stamped and put back.
use Rattle.std.specs.Prelude.{ℕ, ◌+◌, ◌-◌, ◌*◌, ◌/◌, ◌≡◌, min, max, true, false, List, [], ◌∷◌, ◌++◌}
use Rattle.pas_profile.specs.{Directories.deed_word_of, declared.{directory.Directory.Directory, word.Word.Word}}
use Rattle.pas_bits.specs.{Runs.{in_run, meets_page}, declared.mask.Mask4.Mask4}
use Rattle.pas_steps.specs.{Views.{View, holds, examines, EndedOn}, Desks.{Standing, made}, Calls.{Does, Calls}, InTurn.InTurn, declared.step.Made.Made}
use Rattle.pas_steps.specs.declared.step.Step.TheVariants.{Look, Stamp}
use Rattle.pas_rights.specs.{Puts.{masked, PutsBelow}, Returns.ReturnSteps}
use Rattle.pas_free_log.specs.{Conditions.KnowsEpoch, Stamps.{page_count, pages_from}, Frames.{run_freed, PutsBack}}

-- ---- a page of a block that ended
-- the actor holds the grains of the run, ended a block on each of its pages, examines none of them, and read the epoch
pub record MayReturn (g n : ℕ) (v : View) : Type 0 where
  pub held : (x : ℕ) → in_run g n x ≡ true → holds v x ≡ true
  pub ended : (page : ℕ) → meets_page g n page ≡ true → EndedOn v page
  pub examined : (page : ℕ) → meets_page g n page ≡ true → examines v page ≡ false
  pub epoch : KnowsEpoch v

-- The steps for a run on one page: a look at its deed word, the stamp, and only then the grains are put back; and then what is owed on the page.
pub record PageSteps (g n : ℕ) (steps : List Made) : Type 0 where
  pub directory : Directory
  pub stamped : ℕ
  pub mask : Mask4
  pub grains : (x : ℕ) → masked (g / 256) mask x ≡ in_run g n x
  pub puts : List Made
  pub order : PutsBelow (g / 256) mask 4 puts
  pub after : List Made
  pub returns : ReturnSteps (g / 256) directory after
  pub steps_are : steps ≡ after ++ (puts ++ (made (Stamp (g / 256)) stamped ∷ made (Look (Word.Deed (g / 256))) (deed_word_of directory) ∷ []))

pub record ReturnsPage (g n : ℕ) (desk desk' : Standing) : Type 0 where
  pub steps : List Made
  pub calls : Calls desk desk' (MayReturn g n) (Does (run_freed g n)) steps
  pub order : PageSteps g n steps
  pub back : PutsBack g n steps

-- ---- all pages of the block
-- the part of the run of n grains from g that lies on a page: its first grain, and how many there are
abbrev pub first_on : ℕ → ℕ → ℕ
first_on g page = max g (256 * page)

abbrev pub count_on : ℕ → ℕ → ℕ → ℕ
count_on g n page = min (g + n) (256 * page + 256) - first_on g page

-- the steps for the first so many pages of the run, page by page from the lowest one
abbrev pub PagesSteps : ℕ → ℕ → ℕ → List Made → Type 0
PagesSteps k g n steps = InTurn (λ page piece. PageSteps (first_on g page) (count_on g n page) piece) (pages_from (g / 256) k) steps

abbrev pub RunSteps : ℕ → ℕ → List Made → Type 0
RunSteps g n steps = PagesSteps (page_count g n) g n steps

pub record ReturnsRun (g n : ℕ) (desk desk' : Standing) : Type 0 where
  pub steps : List Made
  pub calls : Calls desk desk' (MayReturn g n) (Does (run_freed g n)) steps
  pub order : RunSteps g n steps
  pub back : PutsBack g n steps
