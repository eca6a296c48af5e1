use Rattle.pas_cache.proofs.Alone.{truly_refused}
use Rattle.pas_cache.proofs.laws.a_lone_refusal_is_true.Goals as goal

pub returns : goal.returns
returns c = λ f heap size align k found c1 c2 l steps room valid admitted rest legal serves. truly_refused f _ _ _ k _ c1 c2 l _ room valid admitted rest legal serves
