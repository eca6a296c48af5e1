-- What a keeper has between its calls in a storm.
use Rattle.std.proofs.Common.{◌≡◌, ℕ, ◌+◌, ◌*◌, ◌≤◌, List, [], ◌∷◌, ◌++◌, length, Option, refl, ap, ◌∙◌, arith, length-append}
use Rattle.pas_profile.specs.declared.{event.Event.Event, guard.Guard.Guard, name.Block.Block, profile.Profile.Profile, word.Word.Word}
use Rattle.pas_steps.specs.{Calls.{Calls, Does, nothing}, Events.events_by, Lists.Whole, Unknown.unknown_pages, Views.View, Desks.{Seat, Standing, AnyView}}
use Rattle.pas_steps.{specs.{Desks.{CanCall, Makes, made, triples}, declared.step.{Made.Made, Step.TheVariants.Look}}, proofs.Adding.adds_under}
use Rattle.pas_steps.proofs.{Apart.{no_events, only_both}, Called.{call_none, call_idly, call_then, next_call}, Calls.{does_none, does_then}}
use Rattle.pas_steps.proofs.{Frames.knows_still, Noting.rest_length, Nothing.nothing_yet, SpareRoom.{Spares, spare_falls}, Unknown.unknown_no_more}
use Rattle.pas_records.specs.{Rooms.{records_in, Records, room_of}, declared.record.Record.Record}
use Rattle.pas_guard.{specs.{Books.{FitsBook, guards_in, size_of_book}, Seeks.backed_looks, declared.book.GuardBook.GuardBook}, proofs.Raises.fits_nothing}
use Rattle.pas_answers.specs.Keeping.{cost_of_try, owed_by_keeper, TriesRequest}
use Rattle.pas_tests.specs.Kept.{MayKeep, Looked, guarded_region, Begins}
use Rattle.pas_trials.proofs.Going.{few_below}
use Rattle.pas_plain.specs.{Plain.spare_in, Storms.{StormStands, seat_for}, declared.{pass.PlainPass.PlainPass, region.PlainRegion.PlainRegion}}

-- ---- looks at backed words
pub looked_none : {σ : Standing} → Looked σ σ
looked_none = record { steps = []; calls = call_none (λ v met. does_none v); kinds = tt }

-- A look at a backed word is looks alone.
pub looked_one : {σ σ' : Standing} (page a : ℕ) → Makes σ σ' (Look (Word.Backed page)) a → Looked σ σ'
looked_one page a makes = record {
  steps = made (Look (Word.Backed page)) a ∷ [];
  calls = call_idly backed_looks refl (call_none (λ v met. does_none v)) makes refl (λ v met does. tt);
  kinds = (refl, tt);
}

-- Looks after looks are looks alone,
pub looked_both : {σ σ1 σ2 : Standing} → Looked σ σ1 → Looked σ1 σ2 → Looked σ σ2
looked_both one two = record {
  steps = two.steps ++ one.steps;
  calls = call_then (Does nothing) one.calls two.calls (λ v met does. tt) (λ v met a b. does_then a b);
  kinds = only_both backed_looks two.steps one.steps two.kinds one.kinds;
}

-- .. and another may follow.
pub may_look : {σ σ' : Standing} → Looked σ σ' → CanCall σ AnyView → CanCall σ' AnyView
may_look looked can = next_call looked.calls can (λ v met does. tt)

-- ---- what a call leaves
-- After a call of a keeper it may keep its guards, where what the call took is that of the requests which it tried.
kept : {σ σ' : Standing} {book book' : GuardBook} {out out' : Records} {steps : List Made} {tried now rounds spare spare' : ℕ} (more : ℕ) → now ≡ tried + more
    → (can : CanCall σ (MayKeep σ.seat.profile book out tried rounds spare))
    → Calls σ σ' (FitsBook σ.seat.profile (guards_in book)) (λ v w. FitsBook σ.seat.profile (guards_in book') w) steps → Spares σ spare → Spares σ' spare'
    → size_of_book book' ≡ size_of_book book → room_of out' ≡ room_of out
    → length (events_by σ.seat.actor can.view steps) + unknown_pages σ.seat.profile (steps ++ can.view) ≤ 2 * more + unknown_pages σ.seat.profile can.view
    → owed_by_keeper σ.seat.profile (guards_in book') (steps ++ can.view) ≤ 4 * more + owed_by_keeper σ.seat.profile (guards_in book) can.view
    → length (records_in out') + owed_by_keeper σ.seat.profile (guards_in book') (steps ++ can.view)
    ≤ length (records_in out) + (4 * more + owed_by_keeper σ.seat.profile (guards_in book) can.view)
    → CanCall σ' (MayKeep σ'.seat.profile book' out' now rounds spare')
kept {σ} {book = book} {steps = steps} {spare = spare} {spare' = spare'} more is can calls law law' size room few owed said =
    let fits = can.met.fits in
    let fit : CanCall σ (FitsBook σ.seat.profile (guards_in book)) = record { view = can.view; whole = can.whole; stood = can.stood; met = fits } in
    let left = spare_falls {C = FitsBook σ.seat.profile (guards_in book)} spare spare' _ calls.adds fit law law' refl in
    record {
      view = steps ++ can.view;
      whole = triples σ.seat.actor steps ++ can.whole;
      stood = calls.adds.added can.view can.whole can.stood fits;
      met = rw calls.adds.seat_is (record {
        fits = calls.leads.from can.view fits (calls.adds.agreed can.view can.whole can.stood fits);
        places = omega (arith, can.met.places, owed, size, is);
        room = omega (arith, can.met.room, left, few, is);
        records = omega (arith, can.met.records, said, room, is);
      });
    }

-- After looks alone it may keep them as before.
pub keeps_after_looks : {σ σ' : Standing} {book : GuardBook} {out : Records} {tried rounds spare spare' : ℕ}
    → CanCall σ (MayKeep σ.seat.profile book out tried rounds spare) → Looked σ σ' → Spares σ spare → Spares σ' spare'
    → CanCall σ' (MayKeep σ'.seat.profile book out tried rounds spare')
keeps_after_looks {σ} {σ'} {book} can looked law law' =
    let f = σ.seat.profile in
    let xs = looked.steps in
    let calls : Calls σ σ' (FitsBook f (guards_in book)) (λ v w. FitsBook f (guards_in book) w) xs = record {
      adds = adds_under looked.calls.adds (λ v l stood fits. tt);
      leads = record {
        from = λ v fits agreed. fits_nothing f (guards_in book) v (xs ++ v) fits (looked.calls.leads.from v tt agreed)
            (λ p d. knows_still f d p xs v agreed);
      };
    } in
    let none = ap (λ (es : List Event). length es) (no_events backed_looks refl σ.seat.actor can.view xs looked.kinds) in
    let unknown = unknown_no_more f xs can.view (calls.adds.agreed can.view can.whole can.stood can.met.fits) in
    kept 0 (omega arith) can calls law law' refl refl (omega (arith, none, unknown)) (omega (arith, unknown)) (omega (arith, unknown))

-- what a try pays for
few_try : (block : Option Block) → cost_of_try 4096 block ≤ 4
few_try block = grind arith

-- After a try one request more was tried.
pub keeps_after_try : {σ σ' : Standing} {book book' : GuardBook} {out out' : Records} {tried now rounds spare spare' : ℕ} {block : Option Block} (name : ℕ)
    → now ≡ tried + 1 → CanCall σ (MayKeep σ.seat.profile book out tried rounds spare)
    → TriesRequest (record { name = name; heap = 0; size = 4096; align = 16 }) book book' out out' σ σ' block → Spares σ spare → Spares σ' spare'
    → CanCall σ' (MayKeep σ'.seat.profile book' out' now rounds spare')
keeps_after_try {out = out} {block = block} name is can t law law' =
    let fits = can.met.fits in
    let few = t.few can.view fits (t.calls.adds.agreed can.view can.whole can.stood fits) in
    let tried = t.tried can.view can.whole can.stood fits in
    let added = ap (λ (rs : List Record). length rs) tried.2 ∙ length-append (records_in out) tried.0 in
    let most = few_try block in
    kept 1 is can t.calls law law' t.size t.room (omega (arith, few)) (omega (arith, tried.3, most)) (omega (arith, added, tried.3, most))

-- ---- a storm begins
-- the storm's desk has the seat of the region's own actor
pub seat_profile : (σ : Standing) {region : PlainRegion} {own foreign : PlainPass} → Begins region own foreign 12 4000 → σ.seat ≡ seat_for region own
    → σ.seat.profile ≡ guarded_region 12
seat_profile σ begins seat = ap (λ (s : Seat). s.profile) seat ∙ begins.profile

-- The keeper of a new region may begin its work there, with a book of many places.
pub may_begin : (σ : Standing) {region : PlainRegion} {own foreign : PlainPass} → Begins region own foreign 12 4000 → σ.seat ≡ seat_for region own
    → {spare : ℕ} (book : GuardBook) (out : Records) → guards_in book ≡ [] → size_of_book book ≡ 40 → records_in out ≡ [] → room_of out ≡ 200
    → spare ≡ spare_in own
    → ((v : View) (w l : Whole) → StormStands region own foreign v w → σ.stands v l) → CanCall σ (MayKeep σ.seat.profile book out 0 4 spare)
may_begin σ begins seat book out empty size none room spare_is stands =
    let shown = rest_length begins.stands.own_part.shown in
    let pages : σ.seat.profile.pages ≡ 12 = ap (λ (f : Profile). f.pages) (seat_profile σ begins seat) in
    let few : unknown_pages σ.seat.profile [] ≤ σ.seat.profile.pages = few_below σ.seat.profile.pages [] in
    let guards = ap (λ (gs : List Guard). length gs) empty in
    let records = ap (λ (rs : List Record). length rs) none in
    record {
      view = [];
      whole = [];
      stood = stands [] [] [] begins.stands;
      met = record {
        fits = rw empty (record { apart = tt; of_region = tt; knows = tt; held = λ g. refl; rights = λ page. refl; clear = nothing_yet.clear });
        places = omega (arith, guards, few, pages, size);
        room = omega (arith, spare_is, shown, begins.room_of, few, pages);
        records = omega (arith, records, guards, few, pages, room);
      };
    }
