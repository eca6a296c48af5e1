use Rattle.std.proofs.Common.{arith, ◌≡◌, subst}
use Rattle.pas_threads.proofs.Common.{made_in, only_this, isnt, rows_of_only, seat_of, view_of, first_row, rows_on, seat_of_member, HasLooked, Member}
use Rattle.pas_threads.proofs.CrewSits.{all_may_leave, own_sits, all_rose}
use Rattle.pas_threads.proofs.scavenger.rise.Goals as goal

pub look-requires : goal.look-requires
look-requires c =
    search arith

pub let_lent_leave-requires-clause-may : goal.let_lent_leave-requires-clause-may
let_lent_leave-requires-clause-may c =
    let m = c.requires.may in
    let looked = subst (λ b. HasLooked (rows_on b) (rows_on c.look.new.self)) c.into_parts-bench.ensures.bench c.look.ensures.looked in
    (m.0, _, _, m.1, all_may_leave c.args.desk m.2 c.look.new.self looked)

pub leave-pass-requires : goal.leave-pass-requires
leave-pass-requires c =
    let m = c.requires.may in
    let looked = subst (λ b. HasLooked (rows_on b) (rows_on c.look.new.self)) c.into_parts-bench.ensures.bench c.look.ensures.looked in
    let have = c.let_lent_leave.ensures.left m.0 _ _ m.1 (all_may_leave c.args.desk m.2 c.look.new.self looked) in
    record {
      of = c.let_lent_leave.ensures.of;
      fresh = record { actors = have.actors; base = looked.base; is = have.fresh };
      profile = cc;
      sits = rw c.into_parts-bench.ensures.member (own_sits c.args.desk m.2 c.look.new.self c.let_lent_leave.new.bench looked have);
    }

pub returns-clause-rose : goal.returns-clause-rose
returns-clause-rose c = λ s p may.
    let desk = c.args.desk in
    let looked = subst (λ b. HasLooked (rows_on b) (rows_on c.look.new.self)) c.into_parts-bench.ensures.bench c.look.ensures.looked in
    let left = c.let_lent_leave.new.bench in
    let mine = c.into_parts-bench.ensures.member in
    let out = c.leave-pass.ensures in
    all_rose desk may c.look.new.self left looked (c.let_lent_leave.ensures.left s _ _ p (all_may_leave desk may c.look.new.self looked)) out.of out.pass
    (subst (λ x. seat_of c.leave-pass.result ≡ seat_of_member x) mine out.seat)
    (subst (λ (x : Member). view_of c.leave-pass.result ≡ made_in (first_row (rows_on left)) x.actor) mine out.view)
    (subst (λ (x : Member). rows_on c.leave-pass.new.self ≡ rows_of_only (isnt (only_this x.actor)) (rows_on left)) mine out.left)
