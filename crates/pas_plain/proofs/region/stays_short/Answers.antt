use Rattle.std.proofs.{Common.{arith, true≢false}, lemmas.Bool.not-true}
use Rattle.pas_plain.proofs.ShortOnes.{got_none}
use Rattle.pas_plain.proofs.region.stays_short.Goals as goal

pub returns-then-new-old-eq0 : goal.returns-then-new-old-eq0
returns-then-new-old-eq0 c some = search (arith, got_none, not-true, true≢false)
