use Rattle.std.proofs.{Common.{List, ◌∷◌, sym, ap, ◌∙◌, ◌++◌, append_assoc, arith, ◌≡◌, ◌+◌, ◌-◌, [], ℕ, subst, take, refl}, lemmas.List.take_more}
use Rattle.pas_trace.{proofs.WordLines.{lines-append, some-at}, specs.Texts.{lines_of, IsWhole}}
use Rattle.pas_trace.proofs.stream.whole_lines.Goals as goal

pub returns-then-text-end-eq10-clause-whole : goal.returns-then-text-end-eq10-clause-whole
returns-then-text-end-eq10-clause-whole c =
    let end = c.loop-end.end in
    let back : end - 1 + 1 ≡ end = omega arith in
    subst (λ (n : ℕ). IsWhole (take n c.args.text.now)) back (λ rest. let n = end - 1 in
    let front : take (n + 1) c.args.text.now ≡ take n c.args.text.now ++ 10 ∷ [] =
    take_more c.args.text.now n 0 (omega arith) ∙ ap (λ (b : ℕ). take n c.args.text.now ++ b ∷ []) c.if-text-end-eq10.true in
    ap (λ (t : List ℕ). lines_of (t ++ rest)) front ∙ ap lines_of (append_assoc (take n c.args.text.now) (10 ∷ []) rest)
    ∙ lines-append (take n c.args.text.now) rest
    ∙ ap (λ (t : List ℕ). lines_of t ++ lines_of rest) (sym front))

pub returns-then-text-end-eq10-clause-some : goal.returns-then-text-end-eq10-clause-some
returns-then-text-end-eq10-clause-some c above =
    search (arith, some-at)

pub returns-clause-whole : goal.returns-clause-whole
returns-clause-whole c = λ rest. refl
