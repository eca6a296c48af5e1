use Rattle.std.proofs.Common.{◌++◌, Err, sym, length, append_assoc, take, arith, ◌≡◌, ℕ, List, refl, subst}
use Rattle.pas_trace.specs.{Scripts.IsScripting, Streams.{AreLinesOf, TakesLines}, declared.{stream.Lines.Lines, reader.Reader.Reader}}
use Rattle.pas_trace.specs.declared.stream.Lines.TheVariants as kind
use Rattle.pas_trace.proofs.stream.ScriptReader.take.Goals as goal

pub begin-requires : goal.begin-requires
begin-requires c = omega (arith, c.requires.2)

pub go_on-requires : goal.go_on-requires
go_on-requires c = let h = subst (AreLinesOf c.requires.0) c.in-Read.is c.requires.1 in (c.requires.0, rw c.in-Read.is h, c.requires.2)

pub returns-in-Unread : goal.returns-in-Unread
returns-in-Unread c = rw c.in-Unread.is c.begin.ensures

takes-same : {r other : Reader} {text : List ℕ} {new : Lines} {count : ℕ} → TakesLines (kind.Read r) text new count → r ≡ other
    → TakesLines (kind.Read other) text new count
takes-same {r} {other} {text} {new} {count} takes same = subst (λ (s : Reader). TakesLines (kind.Read s) text new count) same takes

pub returns-in-Read : goal.returns-in-Read
returns-in-Read c = rw c.in-Read.is (takes-same c.go_on.ensures (rw c.in-Read.is refl))

pub returns-in-Faulty : goal.returns-in-Faulty
returns-in-Faulty c = rw c.in-Faulty.is (record {
  within = omega arith;
  taken = λ before wrong rest. subst (λ (t : List ℕ). IsScripting t (Err c.in-Faulty.fault))
      (sym (append_assoc before (take (length c.args.text.now) c.args.text.now) rest))
      (wrong (take (length c.args.text.now) c.args.text.now ++ rest));
})
