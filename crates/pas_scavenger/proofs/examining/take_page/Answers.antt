use Rattle.std.proofs.Common.{[], ◌∷◌, refl, arith}
use Rattle.pas_steps.specs.Kinds.{Taking}
use Rattle.pas_scavenger.proofs.Examinations.{same_room, takes_are, took, can_judge, can_put, takes_page}
use Rattle.pas_scavenger.proofs.examining.take_page.Goals as goal

pub judge-outcome-requires-clause-can : goal.judge-outcome-requires-clause-can
judge-outcome-requires-clause-can g c = can_judge _ _ _ _ _ c.grains_of-grains.ensures c.take_grains-used.ensures.takes c.requires.can

pub judge-outcome-requires-clause-room : goal.judge-outcome-requires-clause-room
judge-outcome-requires-clause-room g c =
    let D = g.D.Desk in let t = c.take_grains-used.ensures.takes in let page = c.args.page in
    let same = same_room (Taking ∷ []) refl _ _ (took page _ _ _ _ c.grains_of-grains.ensures t) c.requires.can (takes_are page _)
    (λ v l stood. g.met.D.Desk.spares c.args.desk.now v l stood) (λ v l stood. g.met.D.Desk.spares c.take_grains-used.new.desk v l stood) in
    omega (arith, same, c.requires.room)

pub put_back-requires-clause-can : goal.put_back-requires-clause-can
put_back-requires-clause-can g c = can_put _ _ _ _ _ c.grains_of-grains.ensures c.take_grains-used.ensures.takes c.judge-outcome.ensures.judges c.requires.can

pub returns-clause-takes : goal.returns-clause-takes
returns-clause-takes g c = takes_page _ _ _ _ _ c.grains_of-grains.ensures c.take_grains-used.ensures.takes c.judge-outcome.ensures.judges c.put_back.ensures.puts
