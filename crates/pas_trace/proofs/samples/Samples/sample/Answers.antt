use Rattle.std.proofs.Common.{arith}
use Rattle.pas_trace.proofs.Telling.{sampled_small}
use Rattle.pas_trace.proofs.samples.Samples.sample.Goals as goal

pub returns-then-size-le-MOST_BITFIT-clause-guarded : goal.returns-then-size-le-MOST_BITFIT-clause-guarded
returns-then-size-le-MOST_BITFIT-clause-guarded c = (sampled_small c.args.self.now c.args.thread c.args.size (omega arith)).0

pub returns-then-size-le-MOST_BITFIT-clause-sampled : goal.returns-then-size-le-MOST_BITFIT-clause-sampled
returns-then-size-le-MOST_BITFIT-clause-sampled c = (sampled_small c.args.self.now c.args.thread c.args.size (omega arith)).1
