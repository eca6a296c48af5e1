-- The passes of a region that nobody used yet.
use Rattle.std.proofs.{Common.{◌≡◌, ℕ, ◌+◌, List, [], ◌∷◌, All, refl, ◌∙◌}, lemmas.List.Elements.{All-cons, All-nil}}
use Rattle.pas_profile.specs.Rooms.{size_of_room, EventRoom}
use Rattle.pas_shared.{specs.{Passes.{AreFresh, IsFreshPass}, declared.{region.SharedRegion.SharedRegion, pass.SharedPass.SharedPass}}, proofs.Pops.first_is}
use Rattle.pas_shared.proofs.Pops.{others_are}

pub fresh_passes : (region : SharedRegion) (events k : ℕ) (rooms : List EventRoom) (passes : List SharedPass)
    → AreFresh region.table.shared.table_id region.profile k rooms passes → All (λ room. size_of_room room ≡ events) rooms
    → All (IsFreshPass region events) passes
fresh_passes region events k [] [] h sized = All-nil (IsFreshPass region events)
fresh_passes region events k [] (pass ∷ passes) h sized = absurd h
fresh_passes region events k (room ∷ rooms) [] h sized = absurd h
fresh_passes region events k (room ∷ rooms) (pass ∷ passes) h sized =
    let of_size = λ (r : EventRoom). size_of_room r ≡ events in
    All-cons (IsFreshPass region events) pass passes
    (record { of_region = h.0.of_table; no_steps = h.0.view_is; room = h.0.room_is ∙ first_is of_size (room ∷ rooms) room rooms refl sized })
    (fresh_passes region events (k + 1) rooms passes h.1 (others_are of_size (room ∷ rooms) room rooms refl sized))
