use Rattle.std.proofs.Common.{◌∙◌, Some, sym, subst}
use Rattle.pas_threads.proofs.{Common.{standing_on, MaySitOn, kept_seated, Seated}, Benched.{lent_at, thread_after, tried_at}}
use Rattle.pas_acts.specs.Keepers.{TriesAt}
use Rattle.pas_threads.proofs.keeper.BesideTriesBenchDesk.try_guarded.Goals as goal

pub replace-member-requires : goal.replace-member-requires
replace-member-requires c =
    let r = c.requires.stands in
    let desk = c.args.desk.now in
    let lent = c.replace-thread.new.self in
    let seated = c.in-Some.seated in
    let may = rw (sym c.take.ensures.value ∙ c.in-Some.is) at r.6 in
    let tries = c.try_guarded-block.ensures.tries r.0 r.1 r.2 r.3
    (lent_at desk lent seated c.replace-thread.ensures.bench c.replace-thread.ensures.member may) in
    subst (MaySitOn c.try_guarded-block.new.desk.region.now c.try_guarded-block.new.desk.place.bench) (sym c.replace-thread.ensures.risen)
    (thread_after desk lent c.try_guarded-block.new.desk seated c.replace-thread.ensures.region c.replace-thread.ensures.bench c.replace-thread.ensures.member tries c.try_guarded-block.ensures.home r.7 r.8).0

pub returns-clause-tries : goal.returns-clause-tries
returns-clause-tries c = λ f k later p may stood other.
    let desk = c.args.desk.now in
    let lent = c.replace-thread.new.self in
    let back = c.replace-member.new.self in
    let seated = c.in-Some.seated in
    let keeper = sym c.take.ensures.value ∙ c.in-Some.is in
    let after : Seated = record { member = c.replace-member.result; book = c.try_guarded-block.new.book; out = c.try_guarded-block.new.out } in
    let here = rw keeper at may in
    let tries = c.try_guarded-block.ensures.tries f k later p (lent_at desk lent seated c.replace-thread.ensures.bench c.replace-thread.ensures.member here) in
    subst (λ o. TriesAt f k (record { name = c.args.name; heap = c.args.heap; size = c.args.size; align = c.args.align }) c.try_guarded-block.result (standing_on desk.place.bench desk.place.member) (standing_on back.place.bench back.place.member) (kept_seated desk.region.now desk.place.bench o) (kept_seated back.region.now back.place.bench (Some after)) later p) (sym keeper)
    (tried_at desk lent c.try_guarded-block.new.desk seated c.replace-thread.ensures.region c.replace-thread.ensures.bench c.replace-thread.ensures.member tries c.try_guarded-block.ensures.home stood other
    back c.replace-member.result c.replace-member.ensures.region c.replace-member.ensures.bench (c.replace-member.ensures.member ∙ c.replace-thread.ensures.risen) c.replace-member.ensures.risen)
