use Rattle.std.proofs.lemmas.Result.{IfOk-weaker}
use Rattle.pas_replay.proofs.Common.{IsKitOf}
use Rattle.pas_replay.proofs.kit.PlainKit.try_new.Goals as goal

pub for_course-requires : goal.for_course-requires
for_course-requires c = record { text = c.requires.0; plan = c.args.plan.now; read = c.requires.1; same = c.course.ensures }

pub returns : goal.returns
returns c =
    let plan = c.args.plan.now in
    IfOk-weaker c.for_course.result _ (λ kit. IsKitOf plan kit) (λ kit is. is c.requires.0 plan c.requires.1 c.course.ensures) c.for_course.ensures
