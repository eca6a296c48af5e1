use Rattle.std.proofs.Common.{ℕ, List, subst, inr, rules}
use Rattle.pas_io.specs.Inputs.{IsInput}
use Rattle.pas_answers.specs.Ways.{OnThreads}
use Rattle.pas_calls.{specs.Outputs.most_bytes, proofs.Headline.{can_write, tells_outcome}}
use Rattle.pas_top.proofs.running.run_input.Goals as goal

pub tell_outcome-requires : goal.tell_outcome-requires
tell_outcome-requires g c = let can = can_write OnThreads c.in-Ok-Whole.bytes.items c.in-Ok.outcome c.in-Ok.ensures in search (rules, can)

pub returns-in-Ok-clause-ends : goal.returns-in-Ok-clause-ends
returns-in-Ok-clause-ends g c =
    inr
    (inr
    (tells_outcome OnThreads _ _ _ _ _ _ c.in-Ok-Whole.bytes.items c.in-Ok.outcome c.in-Ok.ensures
    (λ bytes told. let input = subst (IsInput most_bytes bytes) c.in-Ok-Whole.field-0-is (c.in-Ok-Whole.ensures.input bytes told) in input) c.tell_outcome.ensures))
