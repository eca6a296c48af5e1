use Rattle.std.proofs.Common.{arith}
use Rattle.pas_trials.proofs.Borrowed.{may_ask}
use Rattle.pas_trials.proofs.paging.reuse_pages.Goals as goal

pub alloc_large-answer-requires-clause-can : goal.alloc_large-answer-requires-clause-can
alloc_large-answer-requires-clause-can g c = may_ask 2 (omega arith) c.end_last_two.ensures.can
