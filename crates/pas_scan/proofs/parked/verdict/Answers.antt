use Rattle.std.proofs.Common.{◌+◌, ◌∷◌, ◌++◌, sym, ◌∙◌, subst, arith, length-append}
use Rattle.pas_profile.specs.declared.{word.Word.Word, profile.Profile.Profile}
use Rattle.pas_steps.{specs.{declared.step.Step.TheVariants.Look, Desks.made}, proofs.Adding.{adds_step, adds_call}}
use Rattle.pas_scan.{specs.Scan.IsMember, proofs.Reading.{turn_scans, turn_below, turn_single, turn_kinds, scans_append, block_scans, parked_more}}
use Rattle.pas_scan.proofs.Reading.{member_joined, held_bits, held_here}
use Rattle.pas_scan.proofs.parked.verdict.Goals as goal

pub loop-block-preserved : goal.loop-block-preserved
loop-block-preserved g c =
    let i = c.loop-block.invariant in let block = c.loop-block.block in let a = c.look-parked.result in let looked = c.args.looked.now in
    let m = c.members-members.ensures.members in let f : Profile = (g.D.Desk.standing c.args.desk.now).seat.profile in
    record {
      steps = made (Look (Word.Parked block)) a ∷ (m.steps ++ i.steps);
      adds = adds_step (adds_call i.adds m.adds (λ v l stood met. tt)) c.look-parked.ensures.makes (λ v l stood met. tt);
      scans = turn_scans block a m.steps i.steps m.deeds i.scans;
      single = turn_single block a m.steps i.steps m.deeds i.below m.single i.single;
      kinds = turn_kinds block a m.steps i.steps m.deeds i.kinds;
      below = turn_below block a m.steps i.steps m.deeds i.below;
      parked = parked_more f looked.unfit looked.directory block _ _ a m.steps i.steps c.look-parked.type_inv
          (scans_append m.steps i.steps (block_scans block m.steps m.deeds) i.scans) m.deeds i.parked
          (λ v p at is. m.members v p at (subst (λ s. IsMember s.profile looked.unfit looked.directory (m.steps ++ v) p) (sym i.adds.seat_is) is))
          (λ p some at lt. c.in_default.ensures p some at) (omega arith);
      few = (let n = length-append m.steps i.steps in omega (arith, n, m.few, i.few));
      home = c.look-parked.ensures.home ∙ c.members-members.ensures.home ∙ i.home;
    }

pub returns-in-Some-clause-judges : goal.returns-in-Some-clause-judges
returns-in-Some-clause-judges g c =
    let i = c.loop-block.invariant in let block = c.loop-block.block in let a = c.look-parked.result in let looked = c.args.looked.now in let m = c.members-members.ensures.members in
    let f : Profile = (g.D.Desk.standing c.args.desk.now).seat.profile in let page = c.in-Some.page in let e = c.in-Some.ensures in
    let bits = held_bits _ a page c.look-parked.type_inv e.set in
    record {
      steps = made (Look (Word.Parked block)) a ∷ (m.steps ++ i.steps);
      adds = adds_step (adds_call i.adds m.adds (λ v l stood met. tt)) c.look-parked.ensures.makes (λ v l stood met. tt);
      scans = turn_scans block a m.steps i.steps m.deeds i.scans;
      single = turn_single block a m.steps i.steps m.deeds i.below m.single i.single;
      kinds = turn_kinds block a m.steps i.steps m.deeds i.kinds;
      few = (let n = length-append m.steps i.steps in omega (arith, n, m.few, i.few, e.here));
      verdict = (
        λ v. member_joined f looked.unfit looked.directory block a page m.steps i.steps v (rw i.adds.seat_is at (m.only (i.steps ++ v) page e.here bits.0)),
        held_here page block a (m.steps ++ i.steps) (scans_append m.steps i.steps (block_scans block m.steps m.deeds) i.scans) e.here bits.1,
        parked_more f looked.unfit looked.directory block page _ a m.steps i.steps c.look-parked.type_inv
            (scans_append m.steps i.steps (block_scans block m.steps m.deeds) i.scans) m.deeds i.parked
            (λ v p inside is. m.members v p inside (subst (λ s. IsMember s.profile looked.unfit looked.directory (m.steps ++ v) p) (sym i.adds.seat_is) is))
            e.lowest (omega (arith, e.here)),
      );
    }
