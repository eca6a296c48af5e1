use Rattle.pas_segregated.{specs.Takes.fewer_slots, proofs.GivenUp.refill_alone}
use Rattle.pas_partial.specs.Refills.{shared_slots}
use Rattle.pas_partial.proofs.laws.a_lone_refill_finds_what_there_is.Goals as goal

pub returns : goal.returns
returns g c = λ heap class answer call l of legal may. refill_alone (shared_slots heap class) g.D.Desk.tells answer call l (g.met.D.Desk.valid c.args.desk.now) of (fewer_slots class) legal may
