-- An actor gives the right of a page back. `Leaves` is what `leave` promises.
use Rattle.std.specs.Prelude.{ℕ, ◌≤◌, ◌≡◌, Bool, true, false, List, [], ◌∷◌, ◌++◌, length, MatchBool}
use Rattle.pas_bits.specs.declared.mask.Mask4.{Mask4}
use Rattle.pas_profile.specs.declared.directory.Directory.{Directory}
use Rattle.pas_steps.specs.{Calls.{Calls, Lost}, Desks.{Standing, Adds, made}, Frames.{AreLooks, OnlyReturns, GivesUp}, Past.Once, Views.{View, has_right}}
use Rattle.pas_steps.specs.{Views.KnowsDeed, declared.step.{Made.Made, Step.TheVariants.{Offer, Park}}}
use Rattle.pas_rights.specs.{Looks.{looks, HasUsable, HasNoUsable, IsAllFree, HasUsed, HintsWhere}, Returns.{ReofferSteps, Settles}, Words.words}

-- the page's deed is known, and the right is the actor's
pub record MayLeave (page : ℕ) (directory : Directory) (v : View) : Type 0 where
  pub right : has_right v page ≡ true
  pub deed : KnowsDeed page directory v

-- ---- the steps
-- the offer, and the hint where each grain was read as free
pub record OfferSteps (page : ℕ) (directory : Directory) (all_free : Bool) (steps : List Made) : Type 0 where
  pub offered : ℕ
  pub after : List Made
  pub hints : HintsWhere all_free page after
  pub steps_are : steps ≡ after ++ (made (Offer page directory) offered ∷ [])

-- the page is taken back and offered where the looks showed a usable grain, and stays parked otherwise
abbrev pub ReoffersWhere : Bool → ℕ → Directory → List Made → Type 0
ReoffersWhere true page directory steps = ReofferSteps page directory steps
ReoffersWhere false page directory steps = steps ≡ []

-- the parking, four looks, and what they call for
pub record ParkSteps (page : ℕ) (directory : Directory) (steps : List Made) : Type 0 where
  pub parked : ℕ
  pub later : Mask4
  pub usable : Bool
  pub usable_is : MatchBool usable (HasUsable directory later) (HasNoUsable directory later)
  pub after : List Made
  pub reoffers : ReoffersWhere usable page directory after
  pub steps_are : steps ≡ after ++ (looks page (words later) 4 ++ (made (Park page) parked ∷ []))

-- where the looks showed a usable grain the page is offered, otherwise it is parked
abbrev pub EndsLeave : Bool → ℕ → Directory → Bool → List Made → Type 0
EndsLeave true page directory all_free steps = OfferSteps page directory all_free steps
EndsLeave false page directory all_free steps = ParkSteps page directory steps

-- four looks, and what they call for
pub record LeaveSteps (page : ℕ) (directory : Directory) (steps : List Made) : Type 0 where
  pub free : Mask4
  pub usable : Bool
  pub usable_is : MatchBool usable (HasUsable directory free) (HasNoUsable directory free)
  pub all_free : Bool
  pub all_free_is : MatchBool all_free (IsAllFree free) (HasUsed free)
  pub after : List Made
  pub ends : EndsLeave usable page directory all_free after
  pub steps_are : steps ≡ after ++ looks page (words free) 4

-- this step gives the right up, and only looks stand before it
abbrev pub LosesHere : ℕ → Made → List Made → Type 0
LosesHere page m before = GivesUp page m.step × AreLooks before

-- The actor leaves the page: it hasn't the right then, and owes nothing there.
pub record Leaves (page : ℕ) (directory : Directory) (desk desk' : Standing) : Type 0 where
  pub steps : List Made
  pub calls : Calls desk desk' (MayLeave page directory) (Settles page Lost) steps
  pub order : LeaveSteps page directory steps
  pub returns : OnlyReturns page steps
  pub left : Once (LosesHere page) steps
  pub few : length steps ≤ 11

-- ---- of private functions: the two ends of a leave
pub record OffersPage (page : ℕ) (directory : Directory) (all_free : Bool) (desk desk' : Standing) : Type 0 where
  pub steps : List Made
  pub order : OfferSteps page directory all_free steps
  pub adds : Adds desk desk' (MayLeave page directory) steps

pub record ParksPage (page : ℕ) (directory : Directory) (desk desk' : Standing) : Type 0 where
  pub steps : List Made
  pub order : ParkSteps page directory steps
  pub adds : Adds desk desk' (MayLeave page directory) steps
