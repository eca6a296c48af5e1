-- What a call does to what its actor holds, has and owes. That it still knows each deed that it knew is a law of all steps, and no matter of calls.
use Rattle.std.specs.Prelude.{ℕ, ◌/◌, ◌≡◌, ◌==◌, Bool, true, false, ◌&&◌, if◌then◌else◌, List, ◌++◌}
use Rattle.pas_profile.specs.{declared.profile.Profile.Profile, Blocks.grain_of}
use Rattle.pas_bits.specs.Runs.{meets_page}
use Rattle.pas_steps.specs.{Agreement.Agreed, Clear.IsClearOn, Desks.{Standing, Adds}, Effects.succeeds, Views.{View, Move, Stays, Gets, Puts, Gives, Ends}}
use Rattle.pas_steps.specs.Views.{grain_move, holds, Way, Rests, ByDeed, FromOffer, FromParked, ToOffer, ToParked, way, has_right, knows_backed}
use Rattle.pas_steps.specs.declared.step.Step.{Step, TheVariants.{Look, Deed, Back, Take, Put, Give, End, EndSized, TakeRight, Offer, Park, Unpark, Stamp}}
use Rattle.pas_steps.specs.declared.step.{Step.TheVariants.{Hint, Tick, Unback, Unhint}, Made.Made}

-- ---- calls
-- from each view that meets Before, these steps lead to one to which it stands in the relation Change
pub record Leads (f : Profile) (Before : View → Type 0) (Change : View → View → Type 0) (steps : List Made) : Type 0 where
  pub from : (v : View) → Before v → Agreed f v steps → Change v (steps ++ v)

-- a call made these steps: they were added to each view that meets Before, and lead to one to which it stands in the relation Change
pub record Calls (desk desk' : Standing) (Before : View → Type 0) (Change : View → View → Type 0) (steps : List Made) : Type 0 where
  pub adds : Adds desk desk' Before steps
  pub leads : Leads desk.seat.profile Before Change steps

-- ---- fates: what becomes of one thing that the actor has or hasn't
pub data Fate : Type 0 where
  Kept : Fate  -- it is as it was
  Gained : Fate
  Lost : Fate

-- whether the actor has it now, from whether it had it
abbrev pub now : Fate → Bool → Bool
now Kept had = had
now Gained had = true
now Lost had = false

-- the one, and the other later
abbrev pub later : Fate → Fate → Fate
later first Kept = first
later first Gained = Gained
later first Lost = Lost

-- ---- effects
pub record Effect : Type 0 where
  pub grains : ℕ → Fate  -- whether the actor holds the grain
  pub rights : ℕ → Fate  -- whether the right of the page is the actor's
  pub clears : ℕ → Fate  -- whether the page is clear. Where that is lost, nothing is said

-- all is as it was
abbrev pub nothing : Effect
nothing = record { grains = λ x. Kept; rights = λ page. Kept; clears = λ page. Kept }

-- these grains are put, and the page isn't clear
abbrev pub put : (ℕ → Bool) → ℕ → Effect
put grains page = record { grains = λ x. if grains x then Lost else Kept; rights = λ q. Kept; clears = λ q. if page == q then Lost else Kept }

-- these grains are put, and these pages are clear
abbrev pub freed : (ℕ → Bool) → (ℕ → Bool) → Effect
freed grains pages = record { grains = λ x. if grains x then Lost else Kept; rights = λ page. Kept; clears = λ page. if pages page then Gained else Kept }

-- of one page only the right and whether it is clear
abbrev pub on_page : ℕ → Fate → Fate → Effect
on_page page right clear = record { grains = λ x. Kept; rights = λ q. if page == q then right else Kept; clears = λ q. if page == q then clear else Kept }

abbrev pub and_then : Effect → Effect → Effect
and_then d e = record { grains = λ x. later (d.grains x) (e.grains x); rights = λ page. later (d.rights page) (e.rights page); clears = λ page. later (d.clears page) (e.clears page) }

abbrev pub ClearAfter : Fate → ℕ → View → View → Type 0
ClearAfter Kept page v w = IsClearOn page v → IsClearOn page w
ClearAfter Gained page v w = IsClearOn page w
ClearAfter Lost page v w = Unit {0}

-- the grain is held, and its page is known as backed
pub record Bears (v : View) (x : ℕ) : Type 0 where
  pub held : holds v x ≡ true
  pub backed : knows_backed v (x / 256) ≡ true

-- Between the two views this became of each grain and each page. A page of which a grain was kept is known as backed if it was.
pub record Does (e : Effect) (v w : View) : Type 0 where
  pub held : (x : ℕ) → holds w x ≡ now (e.grains x) (holds v x)
  pub right : (page : ℕ) → has_right w page ≡ now (e.rights page) (has_right v page)
  pub clear : (page : ℕ) → ClearAfter (e.clears page) page v w
  pub backed : (x : ℕ) → e.grains x ≡ Kept → Bears v x → Bears w x

-- ---- one step
abbrev pub grain_fate : Move → Fate
grain_fate Stays = Kept
grain_fate Gets = Gained
grain_fate Puts = Lost
grain_fate (Gives b) = Lost
grain_fate (Ends b) = Gained

abbrev pub way_fate : Way → Fate
way_fate Rests = Kept
way_fate ByDeed = Gained
way_fate (FromOffer number) = Gained
way_fate FromParked = Gained
way_fate (ToOffer number) = Lost
way_fate ToParked = Lost

abbrev pub right_fate : Step → ℕ → ℕ → Fate
right_fate step a page = way_fate (way step a page)

-- the page may be clear no longer
abbrev pub opens : Step → ℕ → ℕ → Bool
opens (Look word) a page = false
opens (Deed q directory) a page = false
opens (Back q) a page = false
opens (Take q word mask) a page = false
opens (Put q word mask) a page = q == page
opens (Give block) a page = false
opens (End name guess) a page = succeeds name guess a && meets_page (grain_of name) guess page
opens (EndSized name room) a page = succeeds name (room / 16) a && meets_page (grain_of name) (room / 16) page
opens (TakeRight q directory) a page = false
opens (Offer q directory) a page = false
opens (Park q) a page = q == page
opens (Unpark q) a page = false
opens (Stamp q) a page = false
opens (Hint q) a page = false
opens (Tick raised) a page = false
opens (Unback q) a page = false
opens (Unhint q) a page = q == page

abbrev pub step_effect : Step → ℕ → Effect
step_effect s a = record { grains = λ x. grain_fate (grain_move s a x); rights = λ page. right_fate s a page; clears = λ page. if opens s a page then Lost else Kept }
