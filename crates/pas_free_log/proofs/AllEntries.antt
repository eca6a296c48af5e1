-- What a flush does for all entries of a log.
use Rattle.std.proofs.Common.{◌≡◌, ℕ, [], List, ◌∷◌, ◌++◌, refl, ap, sym, ◌∙◌, append_assoc, ◌+◌, ◌-◌, ◌/◌, ◌≤◌, Some, arith, suc, ◌*◌, ◌<◌, subst, Bool}
use Rattle.std.proofs.{Common.{append-nil, length, length-append, zero, take, get_or, map, reverse}, lemmas.List.{length-map, length-reverse, flat_map_more}}
use Rattle.std.{proofs.lemmas.List.{reverse-append, take_more, reverse-reverse, Elements.{All-append, All-take}}, specs.List.flat_map}
use Rattle.pas_steps.specs.{declared.step.{Made.Made, Step.TheVariants.{Stamp, Look}}, Kinds.Only, Views.{View, epoch_of, known_epoch}, Allowed.IsEpochKnown}
use Rattle.pas_steps.{specs.{Clear.IsClear, Calls.{nothing, Does, Calls}, Desks.{Standing, made}, Events.events_by}, proofs.Apart.{only_within, only_both}}
use Rattle.pas_steps.proofs.{Apart.epoch_same, Past.in_turn_length, Frames.events_append, Calls.still_clear}
use Rattle.pas_free_log.specs.{Stamps.stamps_by, Frames.{ending, freeing}, Returns.PageSteps, Conditions.MayEnd, Endings.{TriesBy, EndSteps}, Noted.IsRange}
use Rattle.pas_free_log.specs.{Noted.AreRanges, declared.{ending.Outcome.{Outcome, TheVariants.{Refused, Ended}}, noting.EndedRun.EndedRun}, Flushes.event_for}
use Rattle.pas_free_log.specs.Flushes.{Settled, stamps_by_outcome, stamps_for, AfterEnd, EntriesSteps, shown_for, noted_for, noted_after, Flushes, EndsName}
use Rattle.pas_free_log.proofs.OneEntry.{stamps_append}
use Rattle.pas_profile.specs.{Entries.entry_of, Directories.deed_word_of, Blocks.address_of, declared.{word.Word.Word, name.Name.Name, entry.Entry.Entry}}
use Rattle.pas_rights.proofs.{Orders.return_few, Puts.puts_few}

-- ==== How many steps it makes at most.

page_few : (g n : ℕ) (steps : List Made) → PageSteps g n steps → length steps ≤ 14
page_few g n steps h =
    let first = made (Stamp (g / 256)) h.stamped ∷ made (Look (Word.Deed (g / 256))) (deed_word_of h.directory) ∷ [] in
    let most = length-append h.puts first in
    let puts = puts_few _ h.mask h.puts h.order in
    let after = return_few _ h.directory h.after h.returns in
    omega (arith, ap length h.steps_are ∙ length-append h.after (h.puts ++ first), most, puts, after)

-- One step at most comes before an end: none, or the look.
by_few : (t : Bool) (entry : Entry) (first guess : ℕ) (before : List Made) → TriesBy t entry first guess before → length before ≤ 1
by_few t entry first guess before none = grind arith

end_few : (entry : Entry) (outcome : Outcome) (steps : List Made) → EndSteps entry outcome steps → length steps ≤ 3
end_few entry outcome steps h = let all = ap length h.steps_are in let n = length-append h.before
    (made (Look (Word.Deed (address_of entry.name / 4096))) h.deed ∷ []) in let few = by_few _ entry _ h.guess h.before h.tries in omega (arith, all, n, few)

after_few : (epoch : ℕ) (name : Name) (outcome : Outcome) (steps : List Made) → AfterEnd name outcome steps
    → length steps ≤ 14 * length (stamps_by_outcome epoch name outcome)
after_few epoch name (Ended grains) steps h =
    search (arith, in_turn_length, page_few, length-map)
after_few epoch name (Refused read) steps h = let none = ap length h in omega (arith, none)

entries_few : (epoch : ℕ) (settled : List Settled) (steps : List Made) → EntriesSteps settled steps
    → length steps ≤ 3 * length settled + 14 * length (flat_map (stamps_for epoch) settled)
entries_few epoch [] steps h = let none = ap length h in omega (arith, none)
entries_few epoch (entry ∷ earlier) steps h =
    let e = h.2 in
    let here = ap length e.steps_are ∙ length-append e.after e.ends in
    let ends = end_few entry.entry entry.outcome e.ends e.order in
    let after = after_few epoch entry.entry.name entry.outcome e.after e.returns in
    let stamps : length (flat_map (stamps_for epoch) (entry ∷ earlier)) ≡ length (stamps_for epoch entry) + length (flat_map (stamps_for epoch) earlier) = length-append _ _ in
    omega (arith, ap length h.4 ∙ length-append h.0 h.1, here, ends, after, entries_few epoch earlier h.1 h.3, stamps)

-- what came of each entry
settled_count : (settled : List Settled) (logged : List Entry) → reverse (map (λ s. s.entry) settled) ≡ logged → length settled ≡ length logged
settled_count settled logged are = sym (length-map settled (λ s. s.entry)) ∙ sym (length-reverse (map (λ s. s.entry) settled)) ∙ ap length are

-- ==== One entry more.

pub events_more : (k epoch : ℕ) (entry : Settled) (settled : List Settled) (ys xs : List Made) → Only ending xs
    → ((v : View) → epoch_of v ≡ epoch → events_by k v xs ≡ map (shown_for k epoch) settled)
    → ((v : View) → events_by k v ys ≡ event_for k (epoch_of v) entry.entry entry.outcome ∷ [])
    → (v : View) → epoch_of v ≡ epoch → events_by k v (ys ++ xs) ≡ map (shown_for k epoch) (entry ∷ settled)
events_more k epoch entry settled ys xs kinds before one v is =
    cc (events_append k ys xs v, one (xs ++ v), epoch_same ending refl xs v kinds, before v is)

-- The stamps for one entry more come behind those for the entries before.
pub stamps_more : (epoch : ℕ) (entry : Settled) (settled : List Settled) (ys xs : List Made) → Only ending xs
    → ((v : View) → epoch_of v ≡ epoch → stamps_by v xs ≡ flat_map (stamps_for epoch) settled)
    → ((v : View) → stamps_by v ys ≡ stamps_by_outcome (epoch_of v) entry.entry.name entry.outcome)
    → (v : View) → epoch_of v ≡ epoch → stamps_by v (ys ++ xs) ≡ flat_map (stamps_for epoch) (entry ∷ settled)
stamps_more epoch entry settled ys xs kinds before one v is =
    cc (stamps_append v ys xs, one (xs ++ v), epoch_same ending refl xs v kinds, before v is)

-- The entries that were settled, with one more, are the first ones of the log.
pub entries_more : (settled : List Settled) (entry : Settled) (logged : List Entry) (i : ℕ) (d : Entry) → i < length logged → entry.entry ≡ get_or logged i d
    → reverse (map (λ s. s.entry) settled) ≡ take i logged → reverse (map (λ s. s.entry) (entry ∷ settled)) ≡ take (i + 1) logged
entries_more settled entry logged i d lt is before = cc (reverse-append (entry.entry ∷ []) (map (λ s. s.entry) settled), take_more logged i d lt)

-- ---- the runs so far
-- those of the first list that have room, and then of the second, are those of both
take_both : {A : Type 0} (k : ℕ) (xs ys : List A) → take k xs ++ take (k - length (take k xs)) ys ≡ take k (xs ++ ys)
take_both zero xs ys = refl
take_both (suc k) [] ys = ap (λ n. take n ys) {y = suc k} (omega arith)
take_both (suc k) (x ∷ xs) ys = ap (λ n. x ∷ take k xs ++ take n ys) (omega arith) ∙ ap (λ zs. x ∷ zs) (take_both k xs ys)

noted_both : {A : Type 0} (n : ℕ) (es xs ys : List A)
    → (es ++ take (n - length es) xs) ++ take (n - length (es ++ take (n - length es) xs)) ys ≡ es ++ take (n - length es) (xs ++ ys)
noted_both n es xs ys = append_assoc es _ _ ∙ ap (λ k. es ++ (take (n - length es) xs ++ take k ys)) (omega (arith, length-append es (take (n - length es) xs)))
    ∙ ap (λ zs. es ++ zs) (take_both _ xs ys)

-- The runs that were noted for one entry more are those before and its own, as far as there is room.
pub noted_more : (settled : List Settled) (s : Settled) (es noted noted' runs : List EndedRun) → noted ≡ noted_after es settled → runs ≡ noted_for s
    → noted' ≡ noted ++ take (64 - length noted) runs
    → noted' ≡ noted_after es (s ∷ settled)
noted_more settled s es noted noted' runs before one more =
    let so_far = flat_map noted_for (reverse settled) in
    cc (noted_both 64 es so_far (noted_for s), flat_map_more noted_for [] (reverse settled) s, reverse-append (s ∷ []) settled)

-- Of no things none are taken.
pub take_none : {A : Type 0} (k : ℕ) → take {A = A} k [] ≡ []
take_none k = grind arith

-- Without an entry the noted runs are as they were.
pub noted_none : (es : List EndedRun) → es ≡ noted_after es []
noted_none es = sym (ap (λ xs. es ++ xs) (take_none (64 - length es)) ∙ append-nil es)

-- Noted runs with more of which each is a range are ranges.
pub ranges_more : (noted noted' runs : List EndedRun) → noted' ≡ noted ++ take (64 - length noted) runs → AreRanges runs → AreRanges noted → AreRanges noted'
ranges_more noted noted' runs is more before = subst AreRanges (sym is) (All-append (λ run. IsRange run.range) noted _ before (All-take (λ run. IsRange run.range) (64 - length noted) runs more))

-- ---- the whole flush
epoch_after_entries : (epoch : ℕ) (entries : List Made) (v : View) → Only ending entries
    → known_epoch ((entries ++ made (Look Word.Epoch) epoch ∷ []) ++ v) ≡ Some epoch
epoch_after_entries epoch entries v kinds = ap known_epoch (append_assoc entries _ v) ∙ epoch_same ending refl entries _ kinds

-- the next entry may be ended
pub may_end : (epoch : ℕ) (entries : List Made) (v : View) → Only ending entries → Does nothing v ((entries ++ made (Look Word.Epoch) epoch ∷ []) ++ v)
    → IsClear v → MayEnd ((entries ++ made (Look Word.Epoch) epoch ∷ []) ++ v)
may_end epoch entries v kinds does clear = record { epoch = subst IsEpochKnown (sym (epoch_after_entries _ _ v kinds)) tt; examined = λ page. ((still_clear does clear).on page).examined }

-- The epoch that was read, and then the steps for each entry, flush the log.
pub flushed : {σ σ' : Standing} (epoch : ℕ) (settled : List Settled) (logged : List Entry) (ended ended' : List EndedRun) (entries : List Made)
    → ended' ≡ noted_after ended settled → (AreRanges ended → AreRanges ended') → reverse (map (λ s. s.entry) settled) ≡ logged → EntriesSteps settled entries
    → Calls σ σ' IsClear (Does nothing) (entries ++ made (Look Word.Epoch) epoch ∷ []) → Only ending entries
    → ((v : View) → epoch_of v ≡ epoch → events_by σ.seat.actor v entries ≡ map (shown_for σ.seat.actor epoch) settled)
    → ((v : View) → epoch_of v ≡ epoch → stamps_by v entries ≡ flat_map (stamps_for epoch) settled)
    → Flushes logged ended ended' σ σ'
flushed {σ} {σ'} epoch settled logged ended ended' entries noted ranges entries_are order calls kinds events stamps =
    let look : List Made = made (Look Word.Epoch) epoch ∷ [] in
    record {
      epoch = epoch;
      settled = settled;
      entries_are = entries_are;
      noted = noted;
      ranges = ranges;
      steps = entries ++ look;
      entries = entries;
      order = order;
      steps_are = refl;
      calls = calls;
      kinds = only_both freeing entries look (only_within ending freeing entries refl kinds) (refl, tt);
      events = λ v. events_append σ.seat.actor entries look v ∙ append-nil _ ∙ events (look ++ v) refl;
      stamps = λ v. stamps_append v entries look ∙ append-nil _ ∙ stamps (look ++ v) refl;
      few = (let few = entries_few epoch _ _ order in let n = length-append entries look in let count = settled_count settled _ entries_are in omega (arith, few, n, count));
      epoch_known = λ v. epoch_after_entries epoch entries v kinds;
    }

-- ---- a list of one
one_settled : (settled : List Settled) (entry : Entry) → map (λ (s : Settled). s.entry) settled ≡ entry ∷ []
    → (s : Settled) × (settled ≡ s ∷ []) × (s.entry ≡ entry)
one_settled [] entry e = absurd (let none : [] ≡ entry ∷ [] = e in cc)
one_settled (s ∷ []) entry e = (s, refl, (let one : s.entry ∷ [] ≡ entry ∷ [] = e in cc))
one_settled (s ∷ t ∷ more) entry e = absurd (let two : s.entry ∷ t.entry ∷ map (λ (s : Settled). s.entry) more ≡ entry ∷ [] = e in cc)

-- ---- the flush
pub ends_name : {σ σ' : Standing} (name : Name) (logged : List Entry) (before after : List EndedRun) → logged ≡ entry_of name ∷ [] → before ≡ []
    → Flushes logged before after σ σ' → EndsName name σ σ'
ends_name {σ} {σ'} name logged before after is none flushed =
    let all : Flushes (entry_of name ∷ []) [] after σ σ' =
    subst (λ (z : List Entry × List EndedRun). Flushes z.0 z.1 after σ σ') (λ i. (is i, none i)) flushed in
    let one = one_settled all.settled _ (sym (reverse-reverse _) ∙ ap reverse all.entries_are) in
    let settled : Entry → List Settled = λ e. record { entry = e; outcome = one.0.outcome; directory = one.0.directory } ∷ [] in
    record {
      noted = after;
      flushes = all;
      outcome = one.0.outcome;
      directory = one.0.directory;
      settled_is = one.1 ∙ ap settled one.2;
      event = λ v. cc (all.events v);
    }
