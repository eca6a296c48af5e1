use Rattle.std.proofs.Common.{◌≡◌, ◌+◌, ℕ, ap, sym, ◌∙◌, subst, arith}
use Rattle.pas_acts.proofs.{Common.{IsValid, Profile, actors_by, every_plan, plan_actors}, Making.course_keepers, PlanFacts.plan_valid}
use Rattle.pas_acts.proofs.plan_keepers.region_by.Goals as goal

pub overflow_add-result : goal.overflow_add-result
overflow_add-result g c =
    let is = c.requires in
    let own = ap (λ (f : Profile). f.threads) is.same.profile in
    omega (arith, own, c.keepers_by.ensures ∙ course_keepers is.same, (every_plan is.read).actors, plan_actors is.plan)

pub returns-clause-valid : goal.returns-clause-valid
returns-clause-valid g c =
    let is = c.requires in
    let plan = is.plan in
    let own = ap (λ (f : Profile). f.threads) is.same.profile in
    let threads = c.args.course.now.profile.threads + c.keepers_by.result in
    let all : threads ≡ actors_by plan.guard plan.profile.threads = omega (arith, own, c.keepers_by.ensures ∙ course_keepers is.same, plan_actors plan) in
    subst (λ (f : Profile). IsValid (record f { threads = threads })) (sym is.same.profile)
    (subst (λ (n : ℕ). IsValid (record plan.profile { threads = n })) (sym all) (plan_valid is.read))
