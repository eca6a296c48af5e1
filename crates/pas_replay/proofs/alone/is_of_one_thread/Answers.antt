use Rattle.std.proofs.Common.{◌≡◌, ℕ, List, length, ap, sym, ◌∙◌, arith, slice_index, eqb-true, eq-eqb}
use Rattle.pas_replay.proofs.{Common.{plan_bounds, phases_of, all_ops, every_plan, plan_planned}, PlansOfOne.{no_records, one_records}}
use Rattle.pas_replay.proofs.alone.is_of_one_thread.Goals.{then-plan-eq1, else-plan-eq1}
use Rattle.pas_replay.proofs.alone.is_of_one_thread.Goals as goal

pub bounds-as_slice : goal.bounds-as_slice
bounds-as_slice c =
    omega (arith, plan_bounds c.requires.1, ap (λ (bounds : List ℕ). length bounds) c.as_slice.ensures)

pub returns-then-plan-eq0 : goal.returns-then-plan-eq0
returns-then-plan-eq0 c =
    let plan = c.args.plan.now in
    let bounds = c.as_slice.result.now in
    let ops = all_ops (phases_of plan) in
    let first = ap (λ (ns : List ℕ). slice_index ns 0) c.as_slice.ensures in
    let scavenger = (every_plan c.requires.1).scavenger in
    let alone : (plan.profile.threads ≡ 1) × (plan.guard ≡ 0) = elim c.if-plan-eq1.branch [
      | then-plan-eq1 w ↦ (w.if-plan-eq1.true, eqb-true plan.guard 0 (sym w.value-is ∙ c.if-plan-eq0.true))
      | else-plan-eq1 w ↦
          absurd (omega (arith, w.if-plan-eq1.false, eqb-true plan.profile.threads 1 (sym w.value-is ∙ c.if-plan-eq0.true)))
    ] in (
      λ is. record {
        unguarded = alone.1;
        threads = alone.0;
        own = no_records plan.profile ops alone.0 (plan_planned c.requires.1) (sym scavenger ∙ sym first ∙ eqb-true (slice_index bounds 0) 0 is);
      },
      λ one. eq-eqb (slice_index bounds 0) 0 (first ∙ scavenger ∙ one_records plan.profile ops one.own),
    )
