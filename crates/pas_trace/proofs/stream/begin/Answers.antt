use Rattle.std.proofs.Common.{ℕ, List, sym, subst, append-nil, arith, length-take}
use Rattle.pas_trace.specs.Streams.{AreLinesOf}
use Rattle.pas_trace.specs.declared.stream.Lines.TheVariants as kind
use Rattle.pas_trace.proofs.stream.begin.Goals as goal

pub returns-then-count-eq0 : goal.returns-then-count-eq0
returns-then-count-eq0 c = rw c.new.ensures.unread
    (record { within = omega arith; taken = λ before h. subst (λ (t : List ℕ). AreLinesOf t (kind.Unread c.args.alloc)) (sym (append-nil before)) h })

pub first_lines-lines-requires-clause-size : goal.first_lines-lines-requires-clause-size
first_lines-lines-requires-clause-size c = omega (arith, length-take c.whole_lines-count.result c.args.text.now, c.requires)

pub first_lines-lines-requires-clause-some : goal.first_lines-lines-requires-clause-some
first_lines-lines-requires-clause-some c = c.whole_lines-count.ensures.some (omega (arith, c.if-count-eq0.false))

pub returns : goal.returns
returns c = search arith
