use Rattle.std.proofs.{Common.{◌∷◌, ◌∙◌, ap, append_assoc, append-nil, arith, refl, [], ◌++◌, sym}, lemmas.List.nil_from_length}
use Rattle.pas_cache.proofs.Obtained.{rests_call, releases_none, popped, stops_more}
use Rattle.pas_cache.proofs.stopping.stop_all.Goals as goal

pub loop-last-init : goal.loop-last-init
loop-last-init g c = record { stopped = []; whole = sym (append-nil _); releases = releases_none _ c.args.locals.now.items (record { order = refl; few = omega arith }); spare = refl; home = refl }

pub stop_at-requires-clause-can : goal.stop_at-requires-clause-can
stop_at-requires-clause-can g c = rests_call _ _ c.loop-last.invariant.releases c.requires.can

pub loop-last-preserved : goal.loop-last-preserved
loop-last-preserved g c =
    let i = c.loop-last.invariant in let h = c.stop_at.ensures.stops in
    record {
      stopped = h.slots ∷ i.stopped;
      whole = i.whole ∙ (ap (λ xs. xs ++ i.stopped) (popped (omega (arith, c.len.ensures.value, c.in-Some.ensures.0, c.in-Some.ensures.1)) h) ∙ append_assoc _ (h.slots ∷ []) i.stopped);
      releases = stops_more _ _ _ i.stopped i.releases h;
      spare = c.stop_at.ensures.spare ∙ i.spare;
      home = c.stop_at.ensures.home ∙ i.home;
    }

pub returns : goal.returns
returns g c = search (arith, nil_from_length)
