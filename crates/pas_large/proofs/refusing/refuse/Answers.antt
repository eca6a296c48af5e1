use Rattle.pas_large.proofs.Refusals.{refuses_by}
use Rattle.pas_large.proofs.refusing.refuse.Goals as goal

pub returns-clause-refuses : goal.returns-clause-refuses
returns-clause-refuses g c = refuses_by _ _ _ _ c.begin-looked.ensures.directory c.mark_offered.ensures.directory c.mark_offered.ensures.marks _ c.verdict.ensures.judges
