-- What a replay goes by: a plan, in whatever form the operations of its phases stand.
use Rattle.std.specs.Prelude.{ℕ, ◌≡◌, List, map}
use Rattle.pas_trace.specs.{Plans.{bounds_of, ops_of, phases_of, IsPlanOf}, Scripts.without_lines, declared.{plan.{Op.Op, Plan.Plan}, course.Course.Course}}

-- the course has what the plan has, but for the lines of operations, where a phase has these
pub record IsCourseOf {P : Type 0} (said : P → List Op) (plan : Plan) (course : Course P) : Type 0 where
  pub profile : course.profile ≡ plan.profile
  pub guard : course.guard ≡ plan.guard
  pub bounds : course.bounds.now ≡ bounds_of plan.bounds
  pub total : course.total ≡ plan.total
  pub names : course.names_limit ≡ plan.names_limit
  pub phases : map said course.phases.now ≡ without_lines (map ops_of (phases_of plan.phases))

-- .. and that plan is one of some text
pub record IsCourse {P : Type 0} (said : P → List Op) (course : Course P) : Type 0 where
  pub text : List ℕ
  pub plan : Plan
  pub read : IsPlanOf text plan
  pub same : IsCourseOf said plan course
