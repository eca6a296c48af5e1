-- Steps of an actor that is alone at a plain region, one after the other.
use Rattle.std.specs.Prelude.{◌≡◌, List, [], ◌∷◌}
use Rattle.pas_profile.specs.declared.profile.Profile.{Profile}
use Rattle.pas_steps.specs.{Allowed.{Allowed, IsStepOf}, Desks.triples, Effects.target, Lists.word_after, Views.View, declared.step.Made.Made}
use Rattle.pas_plain.specs.{Plain.{profile_of, actor_of, room_of_pass}, Seats.{region_of, pass_of, DeskStands}, declared.desk.PlainDesk.PlainDesk}

-- a region of three pages and one thread
abbrev pub lone_region : Profile
lone_region = record { pages = 3; threads = 1; age = 1; heaps = 1; shared = 0; classes = 16 }

-- the thread of such a region made these steps, the newest first, and no other actor made one. Its room holds 16 events in all
pub record HasMade (v : View) (desk : PlainDesk) : Type 0 where
  pub stood : DeskStands desk v (triples 1 v)
  pub actor : actor_of (pass_of desk) ≡ 1
  pub profile : profile_of (region_of desk) ≡ lone_region
  pub room : room_of_pass (pass_of desk) ≡ 16

-- each step is allowed by those before it, and has the answer that they give
abbrev pub MayFollow : View → List Made → Type 0
MayFollow v [] = Unit {0}
MayFollow v (m ∷ more) = IsStepOf lone_region m.step × Allowed lone_region v m.step
    × (m.answer ≡ word_after (triples 1 v) (target m.step)) × MayFollow (m ∷ v) more

-- the view once they were made
abbrev pub view_with : View → List Made → View
view_with v [] = v
view_with v (m ∷ more) = view_with (m ∷ v) more
