use Rattle.std.proofs.{Common.subst, lemmas.List.get_or_default}
use Rattle.pas_large.{specs.Spans.IsPlaceOf, proofs.Spans.{blank, looks_within, looks_more, looked}}
use Rattle.pas_large.proofs.searching.place_at.Goals as goal

pub loop-place-preserved : goal.loop-place-preserved
loop-place-preserved c = looks_more c.args.first c.args.pages _ _ blank c.requires.apart (looks_within c.args.first c.args.pages _ _ c.loop-place.invariant) c.loop-place-test.true c.loop-place.invariant

pub returns-clause-here : goal.returns-clause-here
returns-clause-here c d =
    let lt = looks_within c.args.first c.args.pages c.args.spans.now c.loop-place.place c.loop-place.invariant in
    subst (IsPlaceOf c.args.first c.args.pages) (get_or_default c.args.spans.now c.loop-place.place blank d lt)
    (looked c.args.first c.args.pages c.args.spans.now c.loop-place.place blank c.requires.apart lt c.loop-place-test.false c.loop-place.invariant)
