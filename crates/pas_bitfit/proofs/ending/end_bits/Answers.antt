use Rattle.std.proofs.Common.{◌||◌, ◌∙◌, ap}
use Rattle.pas_bits.specs.Masks.{is_set}
use Rattle.pas_bitfit.{specs.Ends.ends_with, proofs.EndBits.one_more}
use Rattle.pas_bitfit.proofs.ending.end_bits.Goals as goal

pub loop-grain-preserved : goal.loop-grain-preserved
loop-grain-preserved c = record {
  ends = λ x lt. one_more c.args.state.now c.args.page c.loop-grain.grain x (is_set c.loop-grain.ends x) (is_set c.note_end.new.ends x) (c.note_end.ensures x lt
      ∙ ap (λ w. ends_with w c.loop-grain.grain x || is_set c.loop-grain.ends x) c.word-word.ensures) (c.loop-grain.invariant.ends x lt);
}
