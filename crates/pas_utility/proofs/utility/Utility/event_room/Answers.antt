use Rattle.std.proofs.{Common.{◌≡◌, ◌<◌, [], length, MatchOption, Option, Some, None, ap, sym, ◌∙◌, arith, slice_index_or}, lemmas.List.nil_from_length}
use Rattle.std.proofs.lemmas.List.{get_or_default}
use Rattle.pas_profile.specs.Rooms.{shown, size_of_room, EventRoom}
use Rattle.pas_utility.specs.Parts.{size_left, events_left}
use Rattle.pas_utility.proofs.utility.Utility.event_room.Goals as goal

-- the room that was there is handed out
handed : (there room : Option EventRoom) → events_left there ≡ 0 → room ≡ there
    → MatchOption room (size_left there ≡ None) (λ r. (size_left there ≡ Some (size_of_room r)) × (shown r ≡ []))
handed there None empty is = ap size_left (sym is)
handed there (Some room) empty is = (ap size_left (sym is), nil_from_length (shown room) (ap events_left is ∙ empty))

pub returns-clause-room : goal.returns-clause-room
returns-clause-room c =
    let rooms = c.args.self.now.rooms.items in
    let lt : c.args.actor < length rooms = omega arith in
    handed (slice_index_or rooms c.args.actor None) c.take.result (c.args.self.now.empty c.args.actor)
    (c.take.ensures.value ∙ c.index_mut.ensures.value ∙ get_or_default rooms c.args.actor c.index_mut.result.now None lt)
