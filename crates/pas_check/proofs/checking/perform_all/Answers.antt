use Rattle.std.proofs.Common.{arith, ap, get_or, not, subst, sym, drop_of_length-le}
use Rattle.pas_bits.specs.Masks.{is_set}
use Rattle.pas_profile.specs.{Profiles.IsValid, declared.profile.Profile.Profile}
use Rattle.pas_machine.specs.Machines.{profile_of}
use Rattle.pas_trace.specs.Acts.{acts_of_op, threads_where}
use Rattle.pas_check.{specs.Tables.names_held, proofs.Actings.{sized_as_before, sized_on, stopped, taken_for, then_taken, acts_at, one_planned_as, ops_there}}
use Rattle.pas_check.proofs.Actings.{past}
use Rattle.pas_check.proofs.checking.perform_all.Goals as goal

pub perform-requires-clause-valid : goal.perform-requires-clause-valid
perform-requires-clause-valid c = subst IsValid (sym c.loop-op.invariant.sized.profile) c.requires.valid

pub perform-requires-clause-sized : goal.perform-requires-clause-sized
perform-requires-clause-sized c = sized_as_before c.loop-op.invariant.sized c.requires.sized

pub perform-requires-clause-planned : goal.perform-requires-clause-planned
perform-requires-clause-planned c =
    search (arith, one_planned_as, ops_there)

pub returns-then-not-perform-clause-taken : goal.returns-then-not-perform-clause-taken
returns-then-not-perform-clause-taken c = stopped (then_taken _ (acts_at _ c.args.ops.now c.loop-op.op-index c.loop-op-test.true) c.loop-op.invariant.far
    (taken_for (λ n. acts_of_op (threads_where (λ k. not (is_set c.args.awake k)) n) (get_or c.args.ops.now c.loop-op.op-index past))
    (ap (λ (f : Profile). f.threads) c.loop-op.invariant.sized.profile) c.if-not-perform.ensures.taken))

pub loop-op-preserved : goal.loop-op-preserved
loop-op-preserved c = record {
  sized = sized_on c.loop-op.invariant.sized c.if-not-perform.ensures.sized;
  within = c.if-not-perform.ensures.within;
  planned = (ops_there (profile_of c.args.judge.now.machine)
      (names_held c.args.judge.now.names) c.args.ops.now c.loop-op.op-index c.loop-op-test.true c.loop-op.invariant.planned).1;
  far = then_taken _ (acts_at _ c.args.ops.now c.loop-op.op-index c.loop-op-test.true) c.loop-op.invariant.far
      (taken_for (λ n. acts_of_op (threads_where (λ k. not (is_set c.args.awake k)) n) (get_or c.args.ops.now c.loop-op.op-index past))
      (ap (λ (f : Profile). f.threads) c.loop-op.invariant.sized.profile) c.if-not-perform.ensures.taken);
}

pub returns-clause-taken : goal.returns-clause-taken
returns-clause-taken c = rw (drop_of_length-le c.args.ops.now c.loop-op-test.false) at c.loop-op.invariant.far
