-- Bit-fit requests.
use Rattle.pas_same_text.proofs.{CachedSlots.request_taken, BitfitRequests.bitfit_answered}
use Rattle.pas_same_text.proofs.laws.bitfit_requests_stay_the_same.Goals as goal

pub returns : goal.returns
returns c = λ f line k name heap size align thread admitted route p p' w taken. request_taken f line k name heap size align thread p p' w taken
    (bitfit_answered f k name heap size align p taken.advances.0 w admitted route)
