-- Requests.
use Rattle.pas_same_text.proofs.OneAct.{request_same}
use Rattle.pas_same_text.proofs.laws.requests_stay_the_same.Goals as goal

pub returns : goal.returns
returns c = λ f k r. request_same f k r
