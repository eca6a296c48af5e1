use Rattle.std.proofs.Common.{ℕ, ◌%◌, ◌==◌, Bool, ap, ◌∙◌}
use Rattle.pas_bits.specs.Bits.{has_bit}
use Rattle.pas_report.proofs.MarkBits.{with_bit, bits_set}
use Rattle.pas_report.proofs.marking.page_marks.Goals as goal

pub returns : goal.returns
returns c =
    bits_set _ _ _ _ _ _ _ _
    (c.set.ensures tt ∙ ap (λ (v : ℕ). with_bit (v == 1) 1 0) c.word.ensures)
    (c.set-2.ensures tt ∙ ap (λ (b : Bool). with_bit b 2 c.set.new.self.0) c.is_offered.ensures)
    (c.set-3.ensures tt ∙ ap (λ (b : Bool). with_bit b 4 c.set-2.new.self.0) (c.has_page.ensures ∙ ap (λ (v : ℕ). has_bit v (c.args.page % 64)) c.word-2.ensures))
    (c.set-4.ensures tt ∙ ap (λ (b : Bool). with_bit b 8 c.set-3.new.self.0) (c.has_page-2.ensures ∙ ap (λ (v : ℕ). has_bit v (c.args.page % 64)) c.word-3.ensures))
