use Rattle.std.proofs.{Common.arith, lemmas.Simd.map-map}
use Rattle.pas_trace.proofs.plan.Plan.course.Goals as goal

pub returns : goal.returns
returns c = search (arith, map-map)
