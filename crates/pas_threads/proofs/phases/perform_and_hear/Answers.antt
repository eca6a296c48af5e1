use Rattle.std.proofs.Common.{◌∙◌, suc, length, get_or, refl, ap, sym, subst, arith, ◌≡◌}
use Rattle.pas_threads.proofs.{Common.{with_items_is, HasBench, is_set}, TakingTurns.{bench_left, heard_still, is_heard}}
use Rattle.pas_threads.proofs.phases.perform_and_hear.Goals as goal

pub hear_all-requires-clause-few : goal.hear_all-requires-clause-few
hear_all-requires-clause-few g c =
    let r = c.requires.ready in
    omega (arith, ap length c.deref_mut.ensures.value, (c.perform_all-team.ensures.done r.0 r.1 r.2 r.3 r.4).many, r.4.many, r.4.few)

pub hear_all-requires-clause-left : goal.hear_all-requires-clause-left
hear_all-requires-clause-left g c = λ i k d lt is on.
    let r = c.requires.ready in
    let acted = c.perform_all-team.ensures.done r.0 r.1 r.2 r.3 r.4 in
    let value = c.deref_mut.ensures.value in
    subst (λ ws. HasBench c.args.region.now (get_or ws i d).bench) (sym value)
    (bench_left ((acted.pieces (suc i)).left i d refl (omega (arith, lt, ap length value, acted.many))
    (sym (c.requires.awake (suc i)) ∙ ap (is_set c.args.awake) (let at : suc i ≡ k = omega (arith, is) in at) ∙ on)))

pub hear_if-requires-clause-bench : goal.hear_if-requires-clause-bench
hear_if-requires-clause-bench g c = λ on.
    let r = c.requires.ready in
    bench_left (((c.perform_all-team.ensures.done r.0 r.1 r.2 r.3 r.4).pieces 0).crew_left refl (sym (c.requires.awake 0) ∙ sym c.get-busy.ensures ∙ on))

pub returns-clause-saw : goal.returns-clause-saw
returns-clause-saw g c = λ l begins. c.hear_all.ensures.saw l (c.hear_if.ensures.saw l begins)

pub returns-clause-done : goal.returns-clause-done
returns-clause-done g c = λ s later more p ready.
    let acted = c.perform_all-team.ensures.done s later more p ready in
    let team = c.perform_all-team.result in
    let value = c.deref_mut.ensures.value in
    let now = with_items_is team.threads c.hear_all.new.workers (c.hear_all.ensures.many ∙ c.deref_mut.ensures.len) in
    let size = ap length value in
    is_heard _ c.hear_if.new.left acted
    (λ i d lt. search arith)
    (ap length now ∙ c.hear_all.ensures.many ∙ size) refl refl
    acted.places
    (λ i d lt on. heard_still c.hear_all.new.ledger c.hear_if.new.ledger c.hear_if.ensures.saw
    (rw value at (c.hear_all.ensures.heard i (suc i) d (omega (arith, lt, size)) (omega arith) (c.requires.awake (suc i) ∙ on))))
    (λ on. c.hear_if.ensures.heard (c.get-busy.ensures ∙ c.requires.awake 0 ∙ on))
