-- For crates above: a page on which nothing fits is left, after one reading of its free words; steps that make no event.
use Rattle.std.proofs.Common.{◌≡◌, ℕ, ◌+◌, ◌<◌, ◌≤◌, true, List, [], ◌∷◌, ◌++◌, length, length-append, refl, ap, ◌∙◌, arith, inl, inr}
use Rattle.pas_rights.specs.Leaves.{LosesHere}
use Rattle.pas_steps.specs.{Evidence.{Readings, ShowsHere, KeptHere, GetsHere, UnfitHere}, Frames.AreLooks, Past.{Once, Since}, Views.{View, has_right}}
use Rattle.pas_steps.specs.{Views.epoch_of, Desks.{Standing, Adds, CanCall}, Events.{with_event, events_of, events_by}, Lists.Whole, declared.step.Made.Made}
use Rattle.pas_steps.proofs.{Frames.{looks_read, right_reads, events_split}, Past.once_later, Adding.room_left}
use Rattle.pas_search.specs.Kinds.{AreQuiet}

since_looks : (P : Made → List Made → Type 0) (p : ℕ) (ys xs : List Made) → AreLooks ys → has_right xs p ≡ true → Since P (KeptHere p) xs
    → Since P (KeptHere p) (ys ++ xs)
since_looks P p [] xs looks right h = h
since_looks P p (y ∷ ys) xs looks right h = inr (right_reads p ys xs (looks_read ys looks.1) ∙ right, since_looks P p ys xs looks.1 right h)

-- the right was kept from one reading of the free words on, which shows no fit, and then the page was left
pub unfit_left : (no_fit : Readings → Type 0) (p : ℕ) (ys xs : List Made) → Once (LosesHere p) ys → has_right xs p ≡ true → Once (GetsHere p) xs
    → (r : Readings) → no_fit r → ((word : ℕ) → word < 4 → Since (ShowsHere p word r) (KeptHere p) xs) → Once (UnfitHere no_fit p) (ys ++ xs)
unfit_left no_fit p [] xs left right got r none read = absurd left
unfit_left no_fit p (y ∷ ys) xs (inl h) right got r none read =
    search (arith, since_looks, right_reads, looks_read, once_later)
unfit_left no_fit p (y ∷ ys) xs (inr h) right got r none read = inr (unfit_left no_fit p ys xs h right got r none read)

-- ---- events
pub events_quiet : (k : ℕ) (v : View) (steps : List Made) → AreQuiet steps → events_by k v steps ≡ []
events_quiet k v [] h = refl
events_quiet k v (m ∷ more) h = ap (λ o. with_event o (events_by k v more)) (h.0 k (epoch_of (more ++ v))) ∙ events_quiet k v more h.1

-- a desk that has room for these steps' events and n more keeps it for those n
pub room_after : {σ σ' : Standing} {C : View → Type 0} {xs : List Made} {spare spare' : ℕ} (n some : ℕ) → Adds σ σ' C xs → CanCall σ C
    → ((k : ℕ) (v : View) → length (events_by k v xs) ≤ some)
    → ((v : View) (l : Whole) → σ.stands v l → spare + length (events_of σ.seat.actor v) ≡ σ.seat.room)
    → ((v : View) (l : Whole) → σ'.stands v l → spare' + length (events_of σ'.seat.actor v) ≡ σ'.seat.room)
    → n + some ≤ spare → n ≤ spare'
room_after {σ} {xs = xs} {spare = spare} n some adds can few law law' fits =
    search (arith, events_split, length-append, room_left)

-- Steps that make no event leave the room of their desk as it was.
pub room_kept : {σ σ' : Standing} {C : View → Type 0} {xs : List Made} {spare spare' : ℕ} (n : ℕ) → Adds σ σ' C xs → CanCall σ C → AreQuiet xs
    → ((v : View) (l : Whole) → σ.stands v l → spare + length (events_of σ.seat.actor v) ≡ σ.seat.room)
    → ((v : View) (l : Whole) → σ'.stands v l → spare' + length (events_of σ'.seat.actor v) ≡ σ'.seat.room)
    → n ≤ spare → n ≤ spare'
room_kept {xs = xs} n adds can quiet law law' fits = room_after n 0 adds can (λ k v. let none = ap length (events_quiet k v xs quiet) in omega (arith, none)) law law' (omega (arith, fits))
