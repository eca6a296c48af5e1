-- What is chosen of the free grains of a page.
use Rattle.std.specs.Prelude.{ℕ, ◌%◌, ◌<◌, ◌≡◌, Bool, true, List}
use Rattle.pas_profile.specs.declared.directory.Kind.{Kind}
use Rattle.pas_bits.specs.{declared.mask.Mask4.Mask4, Masks.is_set}
use Rattle.pas_steps.specs.{Effects.in_mask, Past.{Once, Since}, Evidence.{Readings, ShowsHere, GetsHere}, declared.step.{Made.Made, Step.TheVariants.Take}}
use Rattle.pas_search.specs.Serving.{Rule}

pub record Choice (Found : Type 0) : Type 1 where
  pub asked : Type 0  -- what is asked of the request
  pub kind : Kind  -- of which kind its pages are
  pub no_fit : Readings → Type 0  -- nothing fits, where the grains of a page that were read as free are these
  pub chosen : Readings → Found → Type 0  -- what is chosen among them
  pub kept : Found → ℕ → Bool  -- whether it has this grain of the page, from 0 to 255

-- nothing fits, so some grain isn't free
pub record IsUnfit {Found : Type 0} (choice : Choice Found) (free : Readings) : Type 0 where
  pub none : choice.no_fit free
  pub used : ((b : ℕ) → b < 256 → free b ≡ true) → ⊥

-- something fits, and this is chosen: some of the free grains, and the mask has them and no others
pub record IsChosen {Found : Type 0} (choice : Choice Found) (free : Readings) (found : Found) (grains : Mask4) : Type 0 where
  pub chosen : choice.chosen free found
  pub fits : choice.no_fit free → ⊥
  pub within : (b : ℕ) → b < 256 → choice.kept found b ≡ true → free b ≡ true
  pub some : (b : ℕ) × (b < 256) × (choice.kept found b ≡ true)
  pub exactly : (b : ℕ) → b < 256 → is_set grains b ≡ choice.kept found b

-- the step takes no grain of the page but these, numbered from 0 to 255
abbrev pub TakesKept : (ℕ → Bool) → ℕ → Made → Type 0
TakesKept kept page m = (word mask g : ℕ) → m.step ≡ Take page word mask → in_mask page word mask g ≡ true → kept (g % 256) ≡ true

-- Each free word of the page was read with its right, and this was chosen by these readings. Since the right was got no other grain of the page was taken,
-- not even to be put back.
pub record TookChosen {Found : Type 0} (choice : Choice Found) (page : ℕ) (steps : List Made) (found : Found) : Type 0 where
  pub readings : Readings
  pub read : (word : ℕ) → word < 4 → Once (ShowsHere page word readings) steps
  pub chosen : choice.chosen readings found
  pub takes : Since (GetsHere page) (λ m before. TakesKept (choice.kept found) page m) steps

-- What is chosen is taken and nothing else, and the page's right is kept. One event, when the page is backed. At most four looks and eleven
-- steps of a leave, or four looks, four takes and the backing.
abbrev pub choosing : {Found : Type 0} → Choice Found → Rule Found
choosing choice = record {
  suits = λ d. choice.asked × (d.kind ≡ choice.kind);
  no_fit = choice.no_fit;
  kept = choice.kept;
  keeps_right = λ found. true;
  serves = TookChosen choice;
  events = 1;
  steps = 15;
}
