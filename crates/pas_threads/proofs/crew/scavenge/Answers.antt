use Rattle.std.proofs.Common.{◌∙◌, refl, arith}
use Rattle.pas_threads.proofs.{Common.Op, ByCrew.{chore_sound, next_acts, skip_acts, crew_begins, crew_before, crew_goes_on, crew_skips, crew_ends}}
use Rattle.pas_threads.proofs.crew.scavenge.Goals.{in-Chore, in_default}
use Rattle.pas_trace.specs.declared.plan.What.TheVariants.{Alloc}
use Rattle.pas_threads.proofs.crew.scavenge.Goals as goal

abbrev past : Op
past = record { line = 0; actor = 0; what = Alloc 0 0 0 0 }

pub loop-op-init : goal.loop-op-init
loop-op-init g c = record { far = λ h s asked p home sound at. crew_begins c.args.ops.now at; number = omega arith; home = refl; many = refl }

pub overflow_add-number : goal.overflow_add-number
overflow_add-number g c =
    (omega (arith, c.loop-op.invariant.number, c.loop-op-test.true, c.requires.few))

pub scavenge_one-requires : goal.scavenge_one-requires
scavenge_one-requires g c =
    let m = c.requires.may in
    let s = m.1 in
    let ops = c.args.ops.now in
    let i = c.loop-op.op-index in
    let lt = c.loop-op-test.true in
    let so = c.loop-op.invariant.far m.0 s m.2 m.3 m.4 m.5 m.6 in
    let next = next_acts s.profile m.2 ops i past m.5 lt c.work.result c.work.ensures s.idle c.in-Chore.chore c.in-Chore.is in
    record { may = (m.0, s, _, so.done.came.reached, c.loop-op.invariant.home ∙ m.4, chore_sound s.profile m.2 ops i past m.5 lt c.work.result c.work.ensures c.in-Chore.chore c.in-Chore.is, crew_before ops i c.in-Chore.chore next so) }

pub loop-op-preserved : goal.loop-op-preserved
loop-op-preserved g c =
    let ops = c.args.ops.now in
    let i = c.loop-op.op-index in
    let lt = c.loop-op-test.true in
    elim c.match-work.branch [
      | in-Chore w ↦
          rw (w.desk-is, w.lent-is, w.outcomes-is, w.out-is, w.number-is) (record {
            far = λ h s asked p home sound at.
                let so = c.loop-op.invariant.far h s asked p home sound at in
                let next = next_acts s.profile asked ops i past sound lt c.work.result c.work.ensures s.idle w.in-Chore.chore w.in-Chore.is in
                crew_goes_on ops i w.in-Chore.chore next so at.lent.many (w.scavenge_one.ensures.did h s _ so.done.came.reached (c.loop-op.invariant.home ∙ home) (crew_before ops i w.in-Chore.chore next so));
            number = omega (arith, c.loop-op.invariant.number);
            home = w.scavenge_one.ensures.home ∙ c.loop-op.invariant.home;
            many = w.scavenge_one.ensures.many ∙ c.loop-op.invariant.many;
          })
      | in_default w ↦
          rw (w.desk-is, w.lent-is, w.outcomes-is, w.out-is, w.number-is) (record {
            far = λ h s asked p home sound at.
                let skips = skip_acts s.profile asked ops i past sound lt c.work.result c.work.ensures s.idle w.in_default.not-Chore in
                crew_skips ops i skips (c.loop-op.invariant.far h s asked p home sound at);
            number = omega (arith, c.loop-op.invariant.number);
            home = c.loop-op.invariant.home;
            many = c.loop-op.invariant.many;
          })
    ]

pub returns-clause-did : goal.returns-clause-did
returns-clause-did g c = λ h s asked p home sound at. crew_ends c.args.ops.now c.loop-op-test.false (c.loop-op.invariant.far h s asked p home sound at)
