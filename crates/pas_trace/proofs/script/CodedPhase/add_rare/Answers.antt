use Rattle.std.proofs.{Common.arith, lemmas.Result.on_ok_weaker}
use Rattle.pas_trace.proofs.Gathering.{rare-added}
use Rattle.pas_trace.proofs.script.CodedPhase.add_rare.Goals as goal

pub returns : goal.returns
returns c =
    search (arith, on_ok_weaker, rare-added)
