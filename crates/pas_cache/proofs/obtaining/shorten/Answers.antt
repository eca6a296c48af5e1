use Rattle.std.proofs.{lemmas.Bool.eqb-false, Common.{arith, sym, ◌∙◌}}
use Rattle.pas_cache.proofs.Obtained.{releases_none, shortens_full}
use Rattle.pas_cache.proofs.obtaining.shorten.Goals as goal

pub returns-then-is_full-clause-shortens : goal.returns-then-is_full-clause-shortens
returns-then-is_full-clause-shortens g c = shortens_full (sym c.is_full.ensures.value ∙ c.if-is_full.true) c.stop_at.ensures.stops

pub returns-else-is_full-clause-shortens : goal.returns-else-is_full-clause-shortens
returns-else-is_full-clause-shortens g c =
    releases_none _ _ (grind (arith, eqb-false))
