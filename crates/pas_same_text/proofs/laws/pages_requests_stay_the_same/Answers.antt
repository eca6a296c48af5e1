-- Requests for whole pages.
use Rattle.pas_same_text.proofs.PagesRequests.{pages_same}
use Rattle.pas_same_text.proofs.laws.pages_requests_stay_the_same.Goals as goal

pub returns : goal.returns
returns c = λ f line k name heap size align indexes thread admitted route p p' w are taken named. pages_same f line k name heap size align indexes thread admitted route p p' w are taken named
