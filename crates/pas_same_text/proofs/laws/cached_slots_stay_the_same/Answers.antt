-- A cached slot.
use Rattle.pas_same_text.proofs.CachedSlots.{request_taken, cached_answered}
use Rattle.pas_same_text.proofs.laws.cached_slots_stay_the_same.Goals as goal

pub returns : goal.returns
returns c = λ f line k name heap size align class is route p p' w has taken. request_taken f line k name heap size align is p p' w taken
    (cached_answered f k name heap size align class p taken.advances.0 w taken.listed route has)
