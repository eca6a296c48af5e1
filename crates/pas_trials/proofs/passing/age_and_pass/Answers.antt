use Rattle.std.proofs.Common.{◌++◌, ap, sym, ◌∙◌, arith}
use Rattle.pas_scavenger.proofs.Examinations.{same_room}
use Rattle.pas_steps.proofs.Adding.{adds_call}
use Rattle.pas_trials.proofs.Ageing.{hint_and_tick, aged, may_pass}
use Rattle.pas_trials.proofs.passing.age_and_pass.Goals as goal

pub pass-requires-clause-can : goal.pass-requires-clause-can
pass-requires-clause-can g c = may_pass c.args.page c.hint.result c.args.epoch c.tick.result c.hint.ensures.makes c.tick.ensures.makes c.requires.can

pub pass-requires-clause-room : goal.pass-requires-clause-room
pass-requires-clause-room g c =
    search (arith, aged, same_room)

pub pass-requires-clause-places : goal.pass-requires-clause-places
pass-requires-clause-places g c = let a = aged c.args.page c.hint.result c.args.epoch c.tick.result c.hint.ensures.makes c.tick.ensures.makes in c.requires.places ∙ sym (ap (λ s. s.profile.pages) a.adds.seat_is)

pub returns : goal.returns
returns g c =
    let a = aged c.args.page c.hint.result c.args.epoch c.tick.result c.hint.ensures.makes c.tick.ensures.makes in let p = c.pass.ensures.passes in
    record {
      steps = record {
        steps = p.steps ++ hint_and_tick c.args.page c.hint.result c.args.epoch c.tick.result c.hint.ensures.makes c.tick.ensures.makes;
        adds = adds_call a.adds p.calls.adds (λ v l stood met. a.leads.from v met (a.adds.agreed v l stood met));
      };
    }
