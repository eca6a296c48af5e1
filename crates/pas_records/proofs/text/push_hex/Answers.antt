use Rattle.std.proofs.Common.{rules, ◌∙◌, arith}
use Rattle.pas_records.proofs.Texts.{hex_more}
use Rattle.pas_records.proofs.text.push_hex.Goals as goal

pub loop-place-preserved : goal.loop-place-preserved
loop-place-preserved g c = record {
  whole = hex_more c.loop-place.place c.args.n c.loop-place.text.bytes c.push_str.new.self.bytes (omega arith) (search rules) ∙ c.loop-place.invariant.whole;
  room = search rules;
}
