-- Requests of a class.
use Rattle.pas_same_text.proofs.{CachedSlots.request_taken, ClassRequests.class_answered}
use Rattle.pas_same_text.proofs.laws.class_requests_stay_the_same.Goals as goal

pub returns : goal.returns
returns c = λ f line k name heap size align class thread admitted route p p' w taken. request_taken f line k name heap size align thread p p' w taken
    (class_answered f k name heap size align class p _ w taken.listed admitted route)
