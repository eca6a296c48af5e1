use Rattle.std.proofs.Common.{arith}
use Rattle.pas_check.proofs.Pages.{given_is}
use Rattle.pas_check.proofs.reporting.total.Goals as goal

pub overflow_sub-result : goal.overflow_sub-result
overflow_sub-result c = search (arith, given_is, c.count_live-live.ensures, c.count_given-given.ensures.given)

-- each field is what its count says, and what was given and doesn't live ended
pub returns : goal.returns
returns c = search (arith, given_is)
