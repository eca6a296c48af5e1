use Rattle.pas_trace.{proofs.LexedLines.{items-fault, left-is, lexed-now, after-lines, all-read, at-ok, none-of}, specs.{Texts.lines_of, Told.AreTaken}}
use Rattle.std.proofs.{Common.{◌≡◌, ◌++◌, [], ℕ, List, subst, sym, ap, ◌∙◌, arith, append-nil}, lemmas.Result.err_from_is_err_and}
use Rattle.pas_trace.proofs.rounds.read_pieces.Goals as goal

pub loop-rest-init : goal.loop-rest-init
loop-rest-init g c =
    search arith

pub take_lexed-requires-clause-tells : goal.take_lexed-requires-clause-tells
take_lexed-requires-clause-tells g c =
    search arith

pub take_lexed-requires-clause-lexed : goal.take_lexed-requires-clause-lexed
take_lexed-requires-clause-lexed g c =
    search (arith, lexed-now)

pub loop-rest-preserved : goal.loop-rest-preserved
loop-rest-preserved g c =
    let r = c.args.reader.now in
    let now = c.loop-rest.reader in
    let new = c.take_and_lex-took.new.reader in
    let lines = lines_of c.args.text.now in
    let h = c.loop-rest.invariant in
    let e = c.take_and_lex-took.ensures in
    let next = c.cut-in-loop-rest in
    let start = c.requires.tells in
    let same = (h.far start.0 start.1).header in
    let lexed = lexed-now r now h.piece _ _ _ same (sym c.deref.ensures.value) h.lexed in
    let few = at-ok _ _ e.few c.in_ok-took.was h.piece lexed in
    record {
      piece = next.result.0.now;
      lexed = lexed-now now r next.result.0.now _ _ _ (sym same) (sym (ap (λ v. v.items) c.swap.ensures.x_after)) e.next;
      far = λ told t.
          let far = h.far told t in
          let read = subst (λ result. AreTaken now far.items (lines_of h.piece) new result) c.in_ok-took.was (e.read far.items h.piece far.tells lexed) in
          left-is r new told lines (lines_of c.loop-rest.rest.now) (lines_of next.result.0.now ++ lines_of next.result.1.now) next.ensures.lines
          (after-lines r now new told lines _ _ far read);
      size = omega (arith, few, h.size, next.ensures.bytes);
    }

pub returns-in_err-took : goal.returns-in_err-took
returns-in_err-took g c told t =
    let p = err_from_is_err_and c.from_residual.result c.from_residual.ensures.1 in
    let h = c.loop-rest.invariant in
    let far = h.far told t in
    let now = c.loop-rest.reader in
    let new = c.take_and_lex-took.new.reader in
    let lexed = lexed-now c.args.reader.now now h.piece c.loop-rest.full.items _ c.loop-rest.left.now far.header (sym c.deref.ensures.value) h.lexed in
    let read = subst (λ result. AreTaken now far.items (lines_of h.piece) new result) c.in_err-took.was (c.take_and_lex-took.ensures.read far.items h.piece far.tells lexed) in
    rw (p.1, p.2) (search (arith, items-fault))

pub returns : goal.returns
returns g c told t =
    let h = c.loop-rest.invariant in
    let far = h.far told t in
    let lexed = lexed-now c.args.reader.now c.loop-rest.reader h.piece _ _ _ far.header (sym c.deref-2.ensures.value) h.lexed in
    let none : c.loop-rest.rest.now ≡ [] = none-of _ (grind arith) in
    let last : lines_of h.piece ++ lines_of c.loop-rest.rest.now ≡ lines_of h.piece = ap (λ (rest : List ℕ). lines_of h.piece ++ lines_of rest) none ∙ append-nil _ in
    all-read c.args.reader.now c.loop-rest.reader c.take_lexed.new.self told (lines_of c.args.text.now) (lines_of h.piece) _
    (left-is c.args.reader.now c.loop-rest.reader told (lines_of c.args.text.now) (lines_of h.piece ++ lines_of c.loop-rest.rest.now)
    (lines_of h.piece) last far) (c.take_lexed.ensures.read far.items h.piece far.tells lexed)
