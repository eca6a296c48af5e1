use Rattle.pas_threads.proofs.Benched.{looked_fresh, may_leave_first, fresh_then, sits_then, pair_rose}
use Rattle.pas_threads.proofs.workers.rise.Goals as goal

pub let_keeper_leave-keeper-requires-clause-fresh : goal.let_keeper_leave-keeper-requires-clause-fresh
let_keeper_leave-keeper-requires-clause-fresh c = looked_fresh c.look.ensures.looked

pub let_keeper_leave-keeper-requires-clause-sits : goal.let_keeper_leave-keeper-requires-clause-sits
let_keeper_leave-keeper-requires-clause-sits c = may_leave_first c.look.new.self c.requires.may c.look.ensures.looked

pub leave-pass-requires-clause-fresh : goal.leave-pass-requires-clause-fresh
leave-pass-requires-clause-fresh c = fresh_then c.look.new.self c.requires.may c.look.ensures.looked c.let_keeper_leave-keeper.ensures.left

pub leave-pass-requires-clause-sits : goal.leave-pass-requires-clause-sits
leave-pass-requires-clause-sits c = sits_then c.look.new.self c.requires.may c.look.ensures.looked c.let_keeper_leave-keeper.ensures.left

pub returns : goal.returns
returns c = record {
  rose = pair_rose c.look.new.self c.requires.may c.look.ensures.looked c.let_keeper_leave-keeper.new.bench c.leave-pass.new.self
      c.let_keeper_leave-keeper.ensures.left c.let_keeper_leave-keeper.ensures.keeper
      (record { of = c.leave-pass.ensures.pass; seat = c.leave-pass.ensures.seat; view = c.leave-pass.ensures.view }) c.leave-pass.ensures.of c.leave-pass.ensures.left;
}
