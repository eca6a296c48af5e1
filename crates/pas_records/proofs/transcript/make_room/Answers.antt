use Rattle.std.proofs.Common.{arith, rules, ◌≡◌, ℕ, List, Option, ◌∙◌}
use Rattle.pas_records.{specs.Pieces.IsPutOut, proofs.Pieces.{front_out, put_all}}
use Rattle.pas_records.proofs.transcript.make_room.Goals as goal

pub returns-in_err-write_all-clause-front : goal.returns-in_err-write_all-clause-front
returns-in_err-write_all-clause-front g c =
    let waiting : c.as_bytes.result.now ≡ c.args.lines.now.bytes = c.as_bytes.ensures.value ∙ c.as_str.ensures.value in
    let wrote = rw waiting at c.in_err-write_all.ensures.front in
    let front = λ (before : Option (List ℕ)) (text : List ℕ) (out : IsPutOut before (g.K.Sink.held c.args.sink.now) c.args.lines.now.bytes text).
    front_out _ _ _ _ _ out wrote in
    search (rules, front)

pub returns-in_ok-write_all-clause-keeps : goal.returns-in_ok-write_all-clause-keeps
returns-in_ok-write_all-clause-keeps g c = search (arith, put_all, rules, c.clear.ensures)
