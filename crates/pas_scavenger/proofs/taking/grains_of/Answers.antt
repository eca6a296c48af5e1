use Rattle.std.proofs.Common.{sym, ap, ◌∙◌, subst, arith}
use Rattle.pas_rights.specs.Looks.{AreUsed}
use Rattle.pas_scavenger.{specs.Readings.was_free, proofs.Examinations.{all_grains, grains_before}}
use Rattle.pas_scavenger.proofs.taking.grains_of.Goals as goal

pub returns-in-None : goal.returns-in-None
returns-in-None c g = all_grains g ∙ sym (ap (λ u. was_free u g) c.in-None.is)

pub returns-in-Some : goal.returns-in-Some
returns-in-Some c g = grains_before _ c.in-Some.last.word c.in-Some.last.value (omega arith) (subst AreUsed c.in-Some.is c.requires).within c.run-grains.ensures g ∙ sym (ap (λ u. was_free u g) c.in-Some.is)
