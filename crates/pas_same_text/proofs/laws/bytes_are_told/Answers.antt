-- The text of bytes.
use Rattle.std.proofs.Common.{arith, ap, ◌∙◌}
use Rattle.pas_same_text.proofs.{Common.{Profile, plan_actors, phases_of, keepers_of, text_for}, TextOfBytes.{by_parts, replay_told, its_text}}
use Rattle.pas_same_text.proofs.laws.bytes_are_told.Goals as goal

pub returns-clause-text : goal.returns-clause-text
returns-clause-text c = λ bytes plan is. ap text_for is.read ∙ replay_told its_text bytes plan is

pub returns-clause-unguarded : goal.returns-clause-unguarded
returns-clause-unguarded c = λ bytes plan is none. ap text_for is.read ∙ replay_told its_text bytes plan is
    ∙ ap (λ (f : Profile). by_parts its_text f (keepers_of plan) (phases_of plan)) (search (arith, plan_actors))
