use Rattle.pas_large.proofs.Allocates.{request_alone}
use Rattle.pas_large.proofs.laws.a_lone_request_finds_the_run_there_is.Goals as goal

pub returns : goal.returns
returns g c = λ heap n found answer call l lt legal met. request_alone heap n found g.D.Desk.tells answer call l (g.met.D.Desk.valid _) lt legal met
