-- What is written of a replay.
use Rattle.pas_same_text.proofs.{Common.{Profile, phases_of, replayed, plan_actors, IsTold}, AllActs.{told_by, own_told, order_told}}
use Rattle.pas_trace.specs.Acts.{keepers_of, region_of}
use Rattle.std.proofs.Common.{subst, arith}
use Rattle.pas_same_text.proofs.laws.replays_are_told.Goals as goal

pub returns-clause-acts : goal.returns-clause-acts
returns-clause-acts c = λ text plan whole records read is. told_by (region_of plan).threads text plan whole records (omega (arith, (plan_actors plan)))
    (omega arith) read is

pub returns-clause-own : goal.returns-clause-own
returns-clause-own c = λ text plan whole records read is. own_told text plan whole records read is

pub returns-clause-bytes : goal.returns-clause-bytes
returns-clause-bytes c = λ bytes plan whole records read is. order_told bytes plan whole records read is

pub returns-clause-unguarded : goal.returns-clause-unguarded
returns-clause-unguarded c = λ text plan whole records read is none. subst
    (λ (f : Profile). IsTold plan whole records (replayed f (keepers_of plan) (phases_of plan))) (search (arith, plan_actors))
    (own_told text plan whole records read is)
