use Rattle.std.proofs.Common.{◌∙◌, sym, arith}
use Rattle.pas_acts.proofs.{Common.{Op, Alloc}, Working.{begins, stands_before, goes_on, skips, ends}, own.work.Goals.{then-op-actor, else-op-actor}}
use Rattle.pas_acts.proofs.own.work.Goals as goal

abbrev past : Op
past = record { line = 0; actor = 0; what = Alloc 0 0 0 0 }

pub loop-op-init : goal.loop-op-init
loop-op-init g c = search (arith, begins)

-- by cases
pub overflow_add-number : goal.overflow_add-number
overflow_add-number g c = search arith

pub operate_by_kind-requires : goal.operate_by_kind-requires
operate_by_kind-requires g c =
    let st = c.requires.stands in
    let so = c.loop-op.invariant.far st.0 st.1 st.2 st.3 st.4 st.5 in
    record { stands = (st.0, st.1, _, st.2, st.3, so.2.reached, stands_before c.args.ops.now past c.loop-op-test.true (c.if-op-actor.true ∙ c.actor-actor.ensures) so) }

pub loop-op-preserved : goal.loop-op-preserved
loop-op-preserved g c = elim c.if-op-actor.branch [
  | then-op-actor w ↦
      rw (w.desk-is, w.cache-is, w.keeper-is, w.requests-is, w.out-is, w.number-is) (record {
        far = λ f keeper later more p at.
            let so = c.loop-op.invariant.far f keeper later more p at in
            goes_on c.args.ops.now past c.loop-op-test.true (w.if-op-actor.true ∙ c.actor-actor.ensures) so
            (w.operate_by_kind.ensures.works f keeper _ later more so.2.reached (stands_before c.args.ops.now past c.loop-op-test.true (w.if-op-actor.true ∙ c.actor-actor.ensures) so));
        number = omega (arith, c.loop-op.invariant.number);
        home = w.operate_by_kind.ensures.home ∙ c.loop-op.invariant.home;
        keeps_home = w.operate_by_kind.ensures.keeps_home ∙ c.loop-op.invariant.keeps_home;
      })
  | else-op-actor w ↦
      rw (w.desk-is, w.cache-is, w.keeper-is, w.requests-is, w.out-is, w.number-is) (record {
        far = λ f keeper later more p at. skips c.args.ops.now past c.loop-op-test.true (λ e. w.if-op-actor.false (e ∙ sym c.actor-actor.ensures)) (c.loop-op.invariant.far f keeper later more p at);
        number = omega (arith, c.loop-op.invariant.number);
        home = c.loop-op.invariant.home;
        keeps_home = c.loop-op.invariant.keeps_home;
      })
]

pub returns-clause-works : goal.returns-clause-works
returns-clause-works g c = λ f keeper later more p at. ends c.args.ops.now c.loop-op-test.false (c.loop-op.invariant.far f keeper later more p at)
