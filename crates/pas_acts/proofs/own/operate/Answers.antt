use Rattle.std.proofs.Common.{◌∙◌, sym, subst, arith}
use Rattle.pas_acts.proofs.{Common.{IsValid, known_in}, Working.{may_serve, no_chore, its_own, room_now, operated}}
use Rattle.pas_answers.proofs.SingleActs.{may_pack, own_what, freed_task, named_task}
use Rattle.pas_acts.proofs.own.operate.Goals as goal

pub freed-meant-requires : goal.freed-meant-requires
freed-meant-requires g c = its_own c.requires.stands.6.thread.names

pub serve-came-requires : goal.serve-came-requires
serve-came-requires g c =
    let st = c.requires.stands in
    let is = own_what c.args.op.what c.in-Own.task (sym c.work.ensures ∙ c.in-Own.is) in
    record { stands = (st.0, st.1, c.args.op, st.2, _, st.4, st.5, is, may_serve c.args.op is st.6 (c.freed-meant.ensures ∙ freed_task (known_in c.args.book.now c.args.requests.now) c.in-Own.task)) }

pub keep-requires-clause-room : goal.keep-requires-clause-room
keep-requires-clause-room g c = room_now c.args.op (own_what c.args.op.what c.in-Own.task (sym c.work.ensures ∙ c.in-Own.is)) c.requires.stands.6.thread.names

pub keep-requires-clause-packs : goal.keep-requires-clause-packs
keep-requires-clause-packs g c =
    let st = c.requires.stands in
    let is = own_what c.args.op.what c.in-Own.task (sym c.work.ensures ∙ c.in-Own.is) in
    let may = may_serve c.args.op is st.6 (c.freed-meant.ensures ∙ freed_task (known_in c.args.book.now c.args.requests.now) c.in-Own.task) in
    may_pack st.0 c.serve-came.result (subst IsValid st.6.thread.sits.profile (g.met.D.Desk.valid c.args.desk.now))
    (c.serve-came.ensures.serves st.0 st.1 c.args.op st.2 _ st.4 st.5 is may).1

pub returns-in-Own-clause-works : goal.returns-in-Own-clause-works
returns-in-Own-clause-works g c f k next later more p at =
    let op = c.args.op in
    let is = own_what op.what c.in-Own.task (sym c.work.ensures ∙ c.in-Own.is) in
    let may = may_serve op is at (c.freed-meant.ensures ∙ freed_task (known_in c.args.book.now c.args.requests.now) c.in-Own.task) in
    let did = c.serve-came.ensures.serves f k op next _ more p is may in
    operated op is at did.0 (search (arith, named_task)) did.1

pub returns-in_default-clause-works : goal.returns-in_default-clause-works
returns-in_default-clause-works g c = search (arith, no_chore)
