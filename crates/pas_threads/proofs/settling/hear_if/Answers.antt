use Rattle.std.proofs.Common.{◌∙◌, sym, subst}
use Rattle.pas_threads.proofs.{Common.{same_Some, AreEarlier, bases_in, rows_on, IsBenchOf, looks_of}, TakingTurns.looks_apart}
use Rattle.pas_threads.proofs.settling.hear_if.Goals as goal

pub hear-requires-clause-bench : goal.hear-requires-clause-bench
hear-requires-clause-bench c =
    let has = c.requires.bench c.if-not-busy.false in
    subst (IsBenchOf c.args.region.now) (same_Some has.bench c.in-Some.bench (sym has.present ∙ sym c.take.ensures.value ∙ c.in-Some.is)) has.of

pub returns-clause-saw : goal.returns-clause-saw
returns-clause-saw c =
    λ l first. (looks_apart (looks_of c.args.ledger.now) (bases_in (rows_on c.in-Some.bench)) l (subst (λ ls. AreEarlier ls l) c.hear.ensures.heard first)).0

pub returns-clause-heard : goal.returns-clause-heard
returns-clause-heard c = λ on bench is l first.
    subst (λ b. AreEarlier (bases_in (rows_on b)) l) (same_Some c.in-Some.bench bench (sym c.in-Some.is ∙ c.take.ensures.value ∙ is))
    (looks_apart (looks_of c.args.ledger.now) (bases_in (rows_on c.in-Some.bench)) l (subst (λ ls. AreEarlier ls l) c.hear.ensures.heard first)).1
