use Rattle.std.proofs.Common.{rules, arith, vec_len, take_at}
use Rattle.pas_records.proofs.Dealt.{round_is}
use Rattle.pas_records.proofs.filling.fill_batch.Goals as goal

pub returns : goal.returns
returns g c = search (arith, rules, take_at, vec_len, round_is)
