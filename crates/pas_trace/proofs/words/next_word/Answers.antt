use Rattle.std.proofs.{Common.{drop, ap, ◌∙◌, arith}, Math.Seq.drop-length}
use Rattle.pas_trace.{specs.Texts.words_of, proofs.WordLines.{words-skip, from_word, word-last, word-found}}
use Rattle.pas_trace.proofs.words.next_word.Goals as goal

pub returns-then-start-line : goal.returns-then-start-line
returns-then-start-line c = words-skip c.args.line.now c.leading_spaces-start.result c.leading_spaces-start.ensures.spaces (omega (arith, c.if-start-line.true))
    ∙ ap (λ m. words_of (drop m c.args.line.now)) c.if-start-line.true ∙ ap words_of (drop-length c.args.line.now)

pub returns-then-length-from_word : goal.returns-then-length-from_word
returns-then-length-from_word c = search (arith, from_word, word-last, c.piece_length-length.ensures.before)

pub returns-else-length-from_word : goal.returns-else-length-from_word
returns-else-length-from_word c = search (arith, from_word, word-found)
