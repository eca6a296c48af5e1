use Rattle.std.proofs.Common.{◌≡◌, [], ◌∷◌, ◌++◌, get_or, refl, ◌∙◌, subst, arith, append_assoc, take_all}
use Rattle.pas_profile.specs.{declared.entry.Entry.Entry, Entries.entry_of}
use Rattle.pas_steps.{specs.{Views.{View, epoch_of}, Events.events_by, Kinds.LookEpoch, Clear.IsClear}, proofs.{Apart.only_both, Calls.{does_none, does_then}}}
use Rattle.pas_steps.proofs.{SpareRoom.spare_falls, Called.{call_none, call_idly, call_then, next_call}}
use Rattle.pas_free_log.{specs.{Frames.ending, Flushes.{Settled, event_for}}, proofs.AllEntries.{events_more, stamps_more, entries_more, noted_more}}
use Rattle.pas_free_log.proofs.AllEntries.{noted_none, ranges_more, may_end, flushed}
use Rattle.pas_free_log.proofs.flushing.flush.Goals as goal

pub loop-entry-init : goal.loop-entry-init
loop-entry-init g c =
    let D = g.D.Desk in
    let calls = call_idly (LookEpoch ∷ []) refl (call_none (λ v met. does_none v)) c.look.ensures.makes refl (λ v met d. tt) in
    record {
      epoch = c.look.result;
      settled = [];
      entries_are = refl;
      noted = noted_none _;
      ranges = λ are. are;
      entries = [];
      order = refl;
      calls = calls;
      kinds = tt;
      events = λ v is. refl;
      stamps = λ v is. refl;
      spare = spare_falls {C = IsClear} _ _ 0 calls.adds c.requires.can (λ v l stood. g.met.D.Desk.spares c.args.desk.now v l stood) (λ v l stood. g.met.D.Desk.spares c.look.new.self v l stood) refl;
      home = c.look.ensures.home;
    }

pub end_entry-run-requires-clause-can : goal.end_entry-run-requires-clause-can
end_entry-run-requires-clause-can g c =
    let i = c.loop-entry.invariant in
    next_call i.calls c.requires.can (λ v met d. may_end i.epoch i.entries v i.kinds d met)

pub loop-entry-preserved : goal.loop-entry-preserved
loop-entry-preserved g c =
    let D = g.D.Desk in let i = c.loop-entry.invariant in let s = c.end_entry-run.ensures.ends in let σ = D.standing c.args.desk.now in
    let index = c.loop-entry.entry-index in let logged = c.as_slice-entries.result.now in
    let blank : Entry = entry_of (record { address = record { 0 = 0 }; turn = 0 }) in
    let entry : Settled = record { entry = get_or logged index blank; outcome = s.outcome; directory = s.directory } in
    let event : (v : View) → events_by σ.seat.actor v s.steps ≡ event_for σ.seat.actor (epoch_of v) entry.entry s.outcome ∷ []
    = subst (λ t. (v : View) → events_by t.actor v s.steps ≡ event_for t.actor (epoch_of v) entry.entry s.outcome ∷ []) i.calls.adds.seat_is s.event in
    let before = i.spare in let one = c.end_entry-run.ensures.spare in
    record {
      epoch = i.epoch;
      settled = entry ∷ i.settled;
      entries_are = entries_more i.settled entry logged index blank c.loop-entry-test.true refl i.entries_are;
      noted = noted_more i.settled entry c.args.ended.now.items _ _ _ i.noted s.run_is c.note.ensures;
      ranges = λ are. ranges_more _ _ _ c.note.ensures s.range (i.ranges are);
      entries = s.steps ++ i.entries;
      order = (s.steps, i.entries, s.order, i.order, refl);
      calls = rw append_assoc (call_then _ i.calls s.calls (λ v met d. may_end i.epoch i.entries v i.kinds d met) (λ v met d e. does_then d e));
      kinds = only_both ending s.steps i.entries s.kinds i.kinds;
      events = events_more σ.seat.actor i.epoch entry i.settled s.steps i.entries i.kinds i.events event;
      stamps = stamps_more i.epoch entry i.settled s.steps i.entries i.kinds i.stamps s.stamps;
      spare = omega (arith, before, one);
      home = c.end_entry-run.ensures.home ∙ i.home;
    }

pub returns-clause-flushes : goal.returns-clause-flushes
returns-clause-flushes g c =
    let i = c.loop-entry.invariant in
    flushed i.epoch i.settled _ _ _ i.entries i.noted i.ranges (i.entries_are ∙ take_all c.loop-entry.entry-index c.as_slice-entries.result.now c.loop-entry-test.false ∙ c.as_slice-entries.ensures) i.order i.calls i.kinds i.events i.stamps
