-- What a pass and a desk show, and what a closed region comes to.
use Rattle.std.specs.Prelude.{◌≡◌, ℕ, ◌+◌, List, [], ◌∷◌, All}
use Rattle.atomic_table.specs.Seated.{TableId}
use Rattle.pas_profile.specs.{Profiles.IsWordOf, Rooms.{size_of_room, EventRoom}, declared.{profile.Profile.Profile, word.Word.Word}}
use Rattle.pas_steps.specs.{Views.View, Desks.{Seat, Standing}, States.{profile_of as the_profile_of, word_in}, Noted.room_of_notes, Lists.{Whole, part}}
use Rattle.pas_steps.specs.{Lists.{word_after, Legal}, declared.state.State.State}
use Rattle.pas_shared.specs.{Ruled.{view_in, parts_in, HasPart}, declared.{rule.Roster.Roster, region.{SharedRegion.SharedRegion, Opening.Opening}}}
use Rattle.pas_shared.specs.declared.{pass.SharedPass.SharedPass, desk.SharedDesk.SharedDesk}

abbrev pub profile_of : SharedRegion → Profile
profile_of region = region.profile

abbrev pub profile_of_opening : Opening → Profile
profile_of_opening opening = opening.region.profile

-- the list of the actor's own steps
abbrev pub view_of : SharedPass → View
view_of pass = view_in pass.place.seat.me.0

-- the actor, the region's profile and the size of the room
abbrev pub seat_of : SharedPass → Seat
seat_of pass = record { actor = pass.place.actor; profile = pass.profile; room = room_of_notes pass.notes }

-- the pass is of the table of this name, and of this profile
abbrev pub IsOfTable : TableId → Profile → SharedPass → Type 0
IsOfTable id f pass = (pass.place.seat.table_id ≡ id) × (pass.profile ≡ f)

-- the pass is one of the region
abbrev pub IsPassOf : SharedRegion → SharedPass → Type 0
IsPassOf region pass = IsOfTable region.table.shared.table_id region.profile pass

-- .. its actor made no step, and its room is for so many events
pub record IsFreshPass (region : SharedRegion) (events : ℕ) (pass : SharedPass) : Type 0 where
  pub of_region : IsPassOf region pass
  pub no_steps : view_of pass ≡ []
  pub room : (seat_of pass).room ≡ events

-- the pass of this actor, with this room, that made no step
pub record IsFresh (id : TableId) (f : Profile) (actor : ℕ) (room : EventRoom) (pass : SharedPass) : Type 0 where
  pub of_table : IsOfTable id f pass
  pub actor_is : (seat_of pass).actor ≡ actor
  pub room_is : (seat_of pass).room ≡ size_of_room room
  pub view_is : view_of pass ≡ []

-- a pass for each room, of the actors from this one on
abbrev pub AreFresh : TableId → Profile → ℕ → List EventRoom → List SharedPass → Type 0
AreFresh id f k [] [] = Unit {0}
AreFresh id f k [] (pass ∷ passes) = ⊥
AreFresh id f k (room ∷ rooms) [] = ⊥
AreFresh id f k (room ∷ rooms) (pass ∷ passes) = IsFresh id f k room pass × AreFresh id f (k + 1) rooms passes

abbrev pub AreFreshOf : SharedRegion → List EventRoom → List SharedPass → Type 0
AreFreshOf region rooms passes = AreFresh region.table.shared.table_id region.profile 0 rooms passes

-- the seat names the pass's actor, with the pass's list
abbrev pub IsNamed : Roster → SharedPass → Type 0
IsNamed u pass = HasPart (parts_in u) pass.place.actor (view_of pass)

-- the words are those after one legal list, whose part of the actor of each pass is the view of the pass
pub record AreWordsOf (f : Profile) (passes : List SharedPass) (value : Word → ℕ) : Type 0 where
  pub whole : Whole
  pub legal : Legal f whole
  pub parts : All (λ pass. part (seat_of pass).actor whole ≡ view_of pass) passes
  pub words : (word : Word) → IsWordOf f word → value word ≡ word_after whole word

-- the state has these words
pub record EndsWith (f : Profile) (passes : List SharedPass) (state : State) : Type 0 where
  pub profile : the_profile_of state ≡ f
  pub after : AreWordsOf f passes (word_in state)

-- a desk at a shared region stands for the view of its pass and for no other, beside any list
abbrev pub standing_of : SharedDesk → Standing
standing_of desk = record { seat = seat_of desk.pass; stands = λ v l. view_of desk.pass ≡ v }
