use Rattle.std.proofs.Common.{All, suc, length, ap, sym, subst, arith}
use Rattle.pas_threads.proofs.{Common.{names_held, IsWithin, HasTaken}, Performed.taken_first}
use Rattle.pas_threads.proofs.workers.+take_all.Goals as goal

pub take-requires : goal.take-requires
take-requires t c = record {
  within = (subst (All (IsWithin (names_held c.args.book.now.names))) c.in-Some.ensures.cases.0 c.requires 0 c.in-Some.worker.now (omega arith)).within;
}

pub take_all-requires : goal.take_all-requires
take_all-requires t c =
    let is = c.in-Some.ensures.cases.0 in (
      omega (arith, c.decreases, ap length is),
      λ i d lt. rw c.take.ensures.room (subst (All (IsWithin (names_held c.args.book.now.names))) is c.requires (suc i) d (omega (arith, lt))),
    )

pub returns-clause-taken : goal.returns-clause-taken
returns-clause-taken t c =
    subst (HasTaken c.args.book.now c.take_all.new.book) (sym c.in-Some.ensures.cases.0)
    (taken_first c.args.book.now c.take.new.self c.take_all.new.book c.in-Some.worker.now c.in-Some.others.now c.take.ensures.names c.take_all.ensures.taken)
