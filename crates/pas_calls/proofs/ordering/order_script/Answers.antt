use Rattle.std.proofs.Common.{inr, arith, ◌≡◌, ◌≤◌, ℕ, List, length, Some}
use Rattle.pas_trace.specs.{Courses.IsCourseOf, Plans.IsPlanOf, declared.{course.Course.Course, plan.{Op.Op, Plan.Plan}}}
use Rattle.pas_records.specs.Rooms.{Records, room_of}
use Rattle.pas_replay.specs.{Kits.{IsKitOf, MayReplay}, Taking.room_for_taker, declared.kit.PlainKit.PlainKit}
use Rattle.pas_calls.proofs.Statuses.{order_told}
use Rattle.pas_calls.proofs.ordering.order_script.Goals as goal

-- A course of a plan of the text may be replayed with the plan's kit and as much room as was asked for.
may_replay : {P : Type 0} {said : P → List Op} {course : Course P} {kit : PlainKit} {text : List ℕ} {plan : Plan} {waiting : Records} → length text ≤ 16777216
    → IsPlanOf text plan → IsCourseOf said plan course → IsKitOf plan kit → room_of waiting ≡ room_for_taker (Some 1023) plan
    → MayReplay said (Some 1023) course kit text plan waiting
may_replay short read same fits size = record { short = short; read = read; same = same; fits = fits; room = omega (arith, size) }

pub records_for_taker-requires : goal.records_for_taker-requires
records_for_taker-requires g c =
    let is = c.requires.2 in
    record { text = c.requires.0; plan = is.plan; read = is.read; same = c.course-course.ensures is.plan is.same }

pub for_course-requires : goal.for_course-requires
for_course-requires g c =
    let is = c.requires.2 in
    record { text = c.requires.0; plan = is.plan; read = is.read; same = c.course-course.ensures is.plan is.same }

pub write_in_order-requires-clause-plan : goal.write_in_order-requires-clause-plan
write_in_order-requires-clause-plan g c =
    let is = c.requires.2 in
    let same = c.course-course.ensures is.plan is.same in
    let fits = c.in-Ok-for_course.ensures c.requires.0 is.plan is.read same in
    (c.requires.0, is.plan, may_replay c.requires.1 is.read same fits (c.in-Ok.ensures.room is.plan same))

pub returns-clause-told : goal.returns-clause-told
returns-clause-told g c rest text all is =
    let same = c.course-course.ensures is.plan is.same in
    let fits = c.in-Ok-for_course.ensures text is.plan is.read same in
    let may = may_replay all.short is.read same fits (c.in-Ok.ensures.room is.plan same) in
    inr (order_told text all is.read (c.write_in_order.ensures text is.plan may))

-- a replay that was written has another status
pub returns-clause-unheard : goal.returns-clause-unheard
returns-clause-unheard g c =
    let is = c.requires.2 in
    let same = c.course-course.ensures is.plan is.same in
    let fits = c.in-Ok-for_course.ensures c.requires.0 is.plan is.read same in
    let may = may_replay c.requires.1 is.read same fits (c.in-Ok.ensures.room is.plan same) in
    let tells = (c.write_in_order.ensures c.requires.0 is.plan may).tells in
    search (arith, tells)
