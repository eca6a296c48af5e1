use Rattle.std.proofs.Common.{arith, ◌∙◌}
use Rattle.pas_acts.proofs.{Common.{operations_of, every_plan, keepers_few}, Making.{no_books, same_books, course_guarded, course_keepers, course_within}}
use Rattle.pas_acts.proofs.Making.{guarded_few}
use Rattle.pas_acts.proofs.plan_keepers.books_by.Goals as goal

pub returns-then-keepers-eq0 : goal.returns-then-keepers-eq0
returns-then-keepers-eq0 g c = search (arith, same_books, no_books, course_keepers)

pub guarded_by_thread-requires-clause-actors : goal.guarded_by_thread-requires-clause-actors
guarded_by_thread-requires-clause-actors g c = course_within c.requires.same c.requires.read

pub guarded_by_thread-requires-clause-few : goal.guarded_by_thread-requires-clause-few
guarded_by_thread-requires-clause-few g c k =
    let is = c.requires in
    omega (arith, course_guarded is.same k, guarded_few is.plan.profile k (operations_of is.plan), is.same.total, (every_plan is.read).total)

pub books_of-requires : goal.books_of-requires
books_of-requires g c =
    let is = c.requires in
    omega (arith, c.keepers_by-keepers.ensures ∙ course_keepers is.same, keepers_few is.plan, (every_plan is.read).valid.threads)

pub returns : goal.returns
returns g c plan same = search (arith, same_books, course_keepers, course_guarded)
