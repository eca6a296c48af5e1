use Rattle.pas_cache.proofs.Alone.{takes_named}
use Rattle.pas_cache.proofs.laws.a_lone_request_takes_what_is_named.Goals as goal

pub returns : goal.returns
returns c = λ f heap size align k found c1 c2 l steps answer valid rest legal serves. takes_named f _ _ _ k _ c1 c2 l _ _ valid rest legal serves
