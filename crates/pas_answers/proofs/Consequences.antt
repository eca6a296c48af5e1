-- What answers an operation leaves its actor's view tidy: no epoch is learned between an end and its stamps, a page is stamped only where it is unstamped,
-- and at the end none is.
use Rattle.std.proofs.Common.{[], ◌≡◌, ℕ, zero, suc, ◌+◌, ◌-◌, ◌/◌, ◌^◌, ◌<◌, ◌≤◌, ◌==◌, nat_le, Bool, true, false, ◌&&◌, if◌then◌else◌, List, ◌∷◌, ◌++◌}
use Rattle.std.proofs.Common.{length, Option, Some, None, Result, Ok, Err, MatchResult, inl, inr, refl, ap, sym, ◌∙◌, subst, arith, append_assoc, true≢false}
use Rattle.std.proofs.{Common.{eq-eqb, ne_eqb, ◌*◌, length-append, MatchOption, All}, lemmas.Bool.{eqb-false, false_from_ne_true, cond-false, and_left}}
use Rattle.pas_answers.proofs.Common.{cases_eq, deed_word_of, address_of, grain_of, IsValid, IsAdmitted, entry_of, Profile, NoRoom, Block, Name, Word, Entry}
use Rattle.pas_answers.proofs.Common.{Guard, View, IsStepOf, made, Standing, triples, events_by, HasNothing, Whole, part, Legal, Made, Step, Look, Tick, Only}
use Rattle.pas_answers.proofs.Common.{kind_of, is_in, LookEpoch, returning, part_of_own, part_of_others, EndedRun, Cached, TakesEntry, AllocatesPages}
use Rattle.pas_answers.proofs.Common.{EmptiesFull, What, Alloc, Guarded, Remake, Plan, Op, Request, Act, Operates, Guards, Settles, Ticks, MakesPass}
use Rattle.pas_answers.proofs.Common.{ReadsEpoch, StopsIdle, MarksPhase, Wakes, MarksClose, Ends, Lowers, request_in, asked_after, Said, Record, CanShow}
use Rattle.pas_answers.proofs.Common.{AreOfRegion, Having, Answer, standing_for, entry_with, IsRemadeBy, IsAnswered, wanted_by, records_of, Progress, having}
use Rattle.pas_answers.proofs.Common.{said_by, Named, epoch_look, request_for, Tried, IsTried, after_trying, AreInPhases, GoByStages, AreOfThreads, IsFitWhat}
use Rattle.pas_answers.proofs.Common.{AnswersTried, AnswersGuarded, Reaches, Advances, at_start, acts_of_plan, stages_of_plan, region_of, Way, IsOneOrder}
use Rattle.pas_answers.proofs.Common.{arranged, give_steps, large_directory, seeking, IsRaised, RaiseSteps, MakesCalls, sweeping, Swept, raised_backs}
use Rattle.pas_answers.proofs.{Common.raised_leaves, Reached.{of_front, of_back, was_so, tried_on, pieces_back, Each, same_parts, legal_part, of_rest}}
use Rattle.pas_answers.proofs.{Reached.calls_alone, OwnRecords.{EachShown, shown_both, records_shown, each_arranged, piece_shown, pass_shown, all_shown}}
use Rattle.pas_answers.{proofs.{OwnRecords.{swept_all, try_all}, Requests.known_directory}, specs.Replays.{threads_of, keepers_of, phases_of, IsReplay}}
use Rattle.pas_answers.specs.{Ways.{InOrder, OnThreads}, Guarding.{try_steps, guarded_steps}, Reaching.AnswersOp, Answers.{IsFreed, IsFreedBy, IsServed}}
use Rattle.pas_answers.specs.{Answers.{IsStopped, stopped, after_stop}, Fit.AreFit, Rests.RestBetween, Indexes.{GoByIndexes, TriedTakesItsRun}}
use Rattle.pas_answers.specs.{Indexes.{GuardedTakesItsRun, AllTakeTheirRuns}, Refusals.{AreRefusalsTrue, Served, request_in_answer, request_in_remade}}
use Rattle.pas_answers.specs.Refusals.{TriedRefusesTruly, GuardedRefusesTruly, AllRefuseTruly}
use Rattle.pas_guard.specs.{Sweeps.SweepSteps, Raises.IsNotRaised}
use Rattle.pas_profile.specs.{Directories.directory_read, Entries.{sized_entry, is_sized}, Lives.live_word}
use Rattle.pas_steps.specs.{Views.is_unstamped, declared.step.Step.TheVariants.Stamp, Kinds.{Kinds, look_kind, apart, Ending, Stamping, Ticking, looking}}
use Rattle.pas_steps.{specs.Kinds.{place_of, unstamping, Backing, Giving, LookLife}, proofs.Apart.{holds_over, only_both, only_within, unstamped_same}}
use Rattle.pas_steps.proofs.{Apart.{unstamped_step_same, out_within}, Calls.returns_are}
use Rattle.pas_free_log.specs.{declared.ending.Outcome.{Outcome, TheVariants.{Ended, Refused}}, Endings.{guess_by, last_step, IsEndOf, EndSteps}}
use Rattle.pas_free_log.specs.{Stamps.page_count, Returns.{PageSteps, PagesSteps, first_on, count_on}, Flushes.{Settled, AfterEnd, EntrySteps, EntriesSteps}}
use Rattle.pas_free_log.proofs.OneEntry.{count_some, guess_is, not_ended}
use Rattle.pas_cache.{specs.{Changes.EmptiesLog, Kinds.{releasing, allocating}, Refusals.{IsTrulyRefused, TakesWhatIsNamed}}, proofs.Alone.truly_refused}
use Rattle.pas_cache.proofs.Alone.{takes_named}
use Rattle.pas_records.{specs.Rests.AreStamped, proofs.MarksAtRest.true_marks}
use Rattle.pas_rights.proofs.{Orders.return_returns, Puts.puts_kinds}
use Rattle.pas_bits.{specs.Runs.meets_page, proofs.Runs.{to_meet, met_by}}
use Rattle.pas_core.{specs.Stamps.{AllStamped, KeepsToEnds, AllKeepToEnds}, proofs.{Lives.stamps_are_ends, MachineRuns.runs, OneActor.legal_before}}
use Rattle.pas_core.proofs.OneActor.{legal_earlier}
use Rattle.pas_large.specs.Named.{missed_steps}

-- ---- tidy views: all steps kept to ends, and nothing is unstamped
abbrev pub KeptPart : View → Type 0
KeptPart [] = Unit {0}
KeptPart (m ∷ v) = KeepsToEnds v m.step × KeptPart v

pub record Tidy (v : View) : Type 0 where
  pub kept : KeptPart v
  pub stamped : AllStamped v

-- kinds of steps that keep to ends only on a condition
abbrev bound : Kinds
bound = LookEpoch ∷ Stamping ∷ Ticking ∷ []

kept_over : (ks : Kinds) → apart ks bound ≡ true → (steps : List Made) (v : View) → Only ks steps → KeptPart v → KeptPart (steps ++ v)
kept_over ks w = holds_over KeptPart bound ks (λ m v h kept. (search (arith, true≢false), kept)) w

-- kinds of steps after which a tidy view may not be tidy
abbrev untidy : Kinds
untidy = Ending ∷ Stamping ∷ Ticking ∷ []

-- Steps of kinds that learn no epoch, end nothing and stamp nothing leave a view tidy.
pub tidy_over : (ks : Kinds) → apart ks untidy ≡ true → (steps : List Made) (v : View) → Only ks steps → Tidy v → Tidy (steps ++ v)
tidy_over ks w = holds_over Tidy untidy ks
    (λ m v h tidy. record { kept = (search (arith, true≢false), tidy.kept); stamped = λ p. unstamped_step_same m.step m.answer p (is_unstamped v p) (out_within unstamping untidy (place_of (kind_of m.step)) refl h) ∙ tidy.stamped p }) w

-- A look at another word than the epoch leaves a view tidy.
pub look_tidy : (word : Word) (a : ℕ) (v : View) → is_in looking (look_kind word) ≡ true → Tidy v → Tidy (made (Look word) a ∷ v)
look_tidy word a v is = tidy_over looking refl (made (Look word) a ∷ []) v (is, tt)

-- a tick keeps to ends too, since nothing is unstamped for its actor
pub tick_tidy : (asked a : ℕ) (v : View) → Tidy v → Tidy (made (Tick asked) a ∷ v)
tick_tidy asked a v tidy = record { kept = (tidy.stamped, tidy.kept); stamped = tidy.stamped }

-- Where no step was made, a view stays tidy.
tidy_none : (steps : List Made) (v : View) → steps ≡ [] → Tidy v → Tidy (steps ++ v)
tidy_none steps v none tidy = subst (λ ms. Tidy (ms ++ v)) (sym none) tidy

-- Steps in two parts leave a view tidy where the parts do, one after the other.
tidy_both : (steps ys xs : List Made) (v : View) → steps ≡ ys ++ xs → Tidy (ys ++ (xs ++ v)) → Tidy (steps ++ v)
tidy_both steps ys xs v is tidy = subst (λ ms. Tidy (ms ++ v)) (sym is) (subst Tidy (sym (append_assoc ys xs v)) tidy)

-- ---- the pages of a block
-- the steps for a page that is unstamped: afterwards it isn't, and the others are as they were
record PageDone (p : ℕ) (v w : View) : Type 0 where
  kept : KeptPart w
  stamps : (q : ℕ) → is_unstamped w q ≡ (if p == q then false else is_unstamped v q)

page_done : (g n : ℕ) (steps : List Made) (v : View) → PageSteps g n steps → KeptPart v → is_unstamped v (g / 256) ≡ true → PageDone (g / 256) v (steps ++ v)
page_done g n steps v h kept un =
    let first : List Made = made (Stamp (g / 256)) h.stamped ∷ made (Look (Word.Deed (g / 256))) (deed_word_of h.directory) ∷ [] in
    let more : List Made = h.after ++ h.puts in
    let only : Only releasing more = search (arith, only_both, only_within, returns_are, return_returns, puts_kinds) in
    subst (PageDone (g / 256) v) (sym (ap (λ ms. ms ++ v) (h.steps_are ∙ sym (append_assoc h.after h.puts first)) ∙ append_assoc more first v)) record {
      kept = kept_over releasing refl more (first ++ v) only (un, (tt, kept));
      stamps = λ q. unstamped_same releasing refl q more (first ++ v) only;
    }

-- of the pages that the run meets just those from the kth on are unstamped
record IsPending (g n k : ℕ) (v : View) : Type 0 where
  only : (p : ℕ) → is_unstamped v p ≡ true → (meets_page g n p ≡ true) × (g / 256 + k ≤ p)
  rest : (p : ℕ) → meets_page g n p ≡ true → g / 256 + k ≤ p → is_unstamped v p ≡ true

record PagesDone (g n k : ℕ) (v : View) : Type 0 where
  kept : KeptPart v
  pending : IsPending g n k v

-- The first grain of a run on a page so many behind its first is on that page.
pub first_page : (g k : ℕ) → first_on g (g / 256 + k) / 256 ≡ g / 256 + k
first_page g k = omega arith

other_stays : (x was : Bool) → x ≡ false → was ≡ true → (if x then false else was) ≡ true
other_stays x was e h = ap (λ t. if t then false else was) e ∙ h

pages_done : (k g n : ℕ) (steps : List Made) (v : View) → 1 ≤ n → g / 256 + k ≤ (g + n - 1) / 256 + 1 → PagesDone g n 0 v → PagesSteps k g n steps
    → PagesDone g n k (steps ++ v)
pages_done zero g n steps v some few was h = subst (λ ms. PagesDone g n 0 (ms ++ v)) (sym h) was
pages_done (suc k) g n steps v some few was h =
    let before : PagesDone g n k (h.1 ++ v) = pages_done k g n h.1 v some (omega (arith, few)) was h.3 in
    let meets : meets_page g n (g / 256 + k) ≡ true = to_meet g n (g / 256 + k) (omega arith) (omega (arith, few, some)) in
    let un : is_unstamped (h.1 ++ v) (first_on g (g / 256 + k) / 256) ≡ true = ap (is_unstamped (h.1 ++ v)) (first_page g k) ∙ before.pending.rest (g / 256 + k) meets (omega arith) in
    let page : PageDone (g / 256 + k) (h.1 ++ v) (h.0 ++ (h.1 ++ v))
    = subst (λ p. PageDone p (h.1 ++ v) (h.0 ++ (h.1 ++ v))) (first_page g k) (page_done (first_on g (g / 256 + k)) (count_on g n (g / 256 + k)) h.0 (h.1 ++ v) h.2 before.kept un) in
    let pending : IsPending g n (suc k) (h.0 ++ (h.1 ++ v)) = search (arith, eqb-false, other_stays, ne_eqb) in
    subst (PagesDone g n (suc k)) (sym (ap (λ ms. ms ++ v) h.4 ∙ append_assoc h.0 h.1 v)) record { kept = page.kept; pending = pending }

run_tidy : (g n : ℕ) (steps : List Made) (v : View) → 1 ≤ n → PagesDone g n 0 v → PagesSteps (page_count g n) g n steps → Tidy (steps ++ v)
run_tidy g n steps v some was h =
    let count : g / 256 + page_count g n ≡ (g + n - 1) / 256 + 1 = omega (arith, count_some g n some, some) in
    let at : PagesDone g n (page_count g n) (steps ++ v) = pages_done (page_count g n) g n steps v some (omega (arith, count)) was h in
    record {
      kept = at.kept;
      stamped = search (arith, false_from_ne_true, met_by);
    }

-- ---- an entry of the log
misses : (z y was : Bool) → z ≡ false → (if z && y then true else was) ≡ was
misses z y was h = cond-false (z && y) true was (and_left z y h)

met_from : (g n p : ℕ) → meets_page g n p ≡ true → g / 256 + 0 ≤ p
met_from g n p h = let low = (met_by g n p h).0 in omega (arith, low)

-- the pages of the block that an end with this answer ended
abbrev IsTidyTry : Name → Outcome → View → Type 0
IsTidyTry name (Ended grains) v = (1 ≤ grains) × PagesDone (grain_of name) grains 0 v
IsTidyTry name (Refused read) v = Tidy v

-- what the step of an end leaves unstamped, by a length or by a room
record MarksEnds (name : Name) (n : ℕ) (s : Step) : Type 0 where
  marks : (a p : ℕ) (u : View)
      → is_unstamped (made s a ∷ u) p ≡ (if (a == live_word name.turn n) && meets_page (grain_of name) n p then true else is_unstamped u p)
  keeps : (u : View) → KeepsToEnds u s

-- by cases
marks_by : (t : Bool) (entry : Entry) (n : ℕ) → (t ≡ true → n ≡ entry.room / 16) → MarksEnds entry.name n (last_step t entry n)
marks_by t entry n is = search arith

-- by cases
last_of : (f : Profile) (t : Bool) (entry : Entry) (n : ℕ) → (t ≡ true → n ≡ entry.room / 16) → IsStepOf f (last_step t entry n)
    → (entry.name.turn < 2 ^ 40 - 1) × (1 ≤ n)
last_of f t entry n is of = search arith

pending_now : (name : Name) (guess a : ℕ) (s : Step) (u : View) → MarksEnds name guess s → AllStamped u → a ≡ live_word name.turn guess
    → IsPending (grain_of name) guess 0 (made s a ∷ u)
pending_now name guess a s u h stamped hit = search (arith, eq-eqb, met_from)

end_done : (entry : Entry) (outcome : Outcome) (guess a : ℕ) (s : Step) (u : View) → MarksEnds entry.name guess s → Tidy u → entry.name.turn < 2 ^ 40 - 1
    → 1 ≤ guess → IsEndOf entry guess a outcome → IsTidyTry entry.name outcome (made s a ∷ u)
end_done entry (Ended grains) guess a s u marks tidy turn some h = search (arith, pending_now)
end_done entry (Refused read) guess a s u marks tidy turn some h = search (arith, misses, ne_eqb, not_ended)

-- ---- an entry, all entries, and a flush; the steps are of the region
ends_done : (f : Profile) (entry : Entry) (outcome : Outcome) (steps : List Made) (v : View) → AreOfRegion f steps → EndSteps entry outcome steps → Tidy v
    → IsTidyTry entry.name outcome (steps ++ v)
ends_done f entry outcome steps v of h tidy =
    let t : Bool = is_sized entry in
    let first : ℕ = guess_by (directory_read h.deed) in
    let look = made (Look (Word.Deed (address_of entry.name / 4096))) h.deed in
    let is : t ≡ true → h.guess ≡ entry.room / 16 = guess_is t entry first h.guess h.before h.tries in
    let last : (entry.name.turn < 2 ^ 40 - 1) × (1 ≤ h.guess) = last_of f t entry h.guess is ((subst (AreOfRegion f) h.steps_are of).0) in
    let tried : Tidy ((h.before ++ look ∷ []) ++ v) = tidy_both (h.before ++ look ∷ []) h.before (look ∷ []) v refl
    (search (arith, tidy_none, misses, ne_eqb)) in
    search (arith, end_done, marks_by)

after_tidy : (name : Name) (outcome : Outcome) (after : List Made) (v : View) → IsTidyTry name outcome v → AfterEnd name outcome after → Tidy (after ++ v)
after_tidy name (Ended grains) after v h run = run_tidy (grain_of name) grains after v h.0 h.1 run
after_tidy name (Refused read) after v h none = tidy_none after v none h

entry_tidy : (f : Profile) (entry : Settled) (steps : List Made) (v : View) → AreOfRegion f steps → EntrySteps entry steps → Tidy v → Tidy (steps ++ v)
entry_tidy f entry steps v of h tidy =
    let ends = of_back f h.after h.ends (subst (AreOfRegion f) h.steps_are of) in
    tidy_both steps h.after h.ends v h.steps_are (after_tidy entry.entry.name entry.outcome h.after (h.ends ++ v) (ends_done f entry.entry entry.outcome h.ends v ends h.order tidy) h.returns)

entries_tidy : (f : Profile) (settled : List Settled) (steps : List Made) (v : View) → AreOfRegion f steps → EntriesSteps settled steps → Tidy v
    → Tidy (steps ++ v)
entries_tidy f [] steps v of h tidy = tidy_none steps v h tidy
entries_tidy f (entry ∷ earlier) steps v of h tidy =
    let here : AreOfRegion f (h.0 ++ h.1) = subst (AreOfRegion f) h.4 of in
    tidy_both steps h.0 h.1 v h.4 (entry_tidy f entry h.0 (h.1 ++ v) (of_front f h.0 h.1 here) h.2 (entries_tidy f earlier h.1 v (of_back f h.0 h.1 here) h.3 tidy))

flush_tidy : (f : Profile) (k : ℕ) (logged : List Entry) (noted noted' : List EndedRun) (steps : List Made) (v : View) → AreOfRegion f steps
    → EmptiesLog k logged noted noted' steps → Tidy v → Tidy (steps ++ v)
flush_tidy f k logged noted noted' steps v of h tidy =
    let look = made (Look Word.Epoch) h.epoch in
    tidy_both steps h.entries (look ∷ []) v h.steps_are (entries_tidy f h.settled h.entries (look ∷ v)
    (of_front f h.entries (look ∷ []) (subst (AreOfRegion f) h.steps_are of)) h.order (look_tidy Word.Epoch h.epoch v refl tidy))

-- ---- operations
pub stop_tidy : (f : Profile) (k : ℕ) (c c' : Cached) (steps : List Made) (v : View) → AreOfRegion f steps → IsStopped k c c' steps → Tidy v → Tidy (steps ++ v)
stop_tidy f k c c' steps v of h tidy =
    let flushed = of_back f h.stopped h.flushed (subst (AreOfRegion f) h.steps_are of) in
    tidy_both steps h.stopped h.flushed v h.steps_are (tidy_over releasing refl h.stopped (h.flushed ++ v) h.kinds (flush_tidy f k c.log c.noted c'.noted h.flushed v flushed h.empties tidy))

full_tidy : (f : Profile) (k : ℕ) (full : Bool) (log log' : List Entry) (noted noted' : List EndedRun) (steps : List Made) (v : View) → AreOfRegion f steps
    → EmptiesFull full k log log' noted noted' steps → Tidy v → Tidy (steps ++ v)
full_tidy f k true log log' noted noted' steps v of h tidy = flush_tidy f k log noted noted' steps v of h.0 tidy
full_tidy f k false log log' noted noted' steps v of h tidy = tidy_none steps v h.0 tidy

-- a name is logged
taken_tidy : (f : Profile) (k : ℕ) (c c' : Cached) (entry : Entry) (steps : List Made) (v : View) → AreOfRegion f steps → TakesEntry f k c c' entry steps
    → Tidy v → Tidy (steps ++ v)
taken_tidy f k c c' entry steps v of h tidy = full_tidy f k (nat_le 64 (length c.log)) c.log h.logs.kept c.noted c'.noted steps v of h.logs.emptied tidy

free_tidy : (f : Profile) (k : ℕ) (c c' : Cached) (entry : Entry) (steps : List Made) (said : Option Said) (v : View) → AreOfRegion f steps
    → IsFreed f k c c' entry steps said → Tidy v → Tidy (steps ++ v)
free_tidy f k c c' entry steps said v of (inl h) tidy = taken_tidy f k c c' entry steps v of h.0 tidy
free_tidy f k c c' entry steps said v of (inr h) tidy = tidy_none steps v h.1.no_steps tidy

freed_tidy : (f : Profile) (k : ℕ) (c c' : Cached) (name : ℕ) (room : Option ℕ) (is : Option (Option Block)) (steps : List Made) (said : Option Said) (v : View)
    → AreOfRegion f steps → IsFreedBy f k c c' name room is steps said → Tidy v → Tidy (steps ++ v)
freed_tidy f k c c' name room None steps said v of h tidy = absurd h
freed_tidy f k c c' name room (Some None) steps said v of h tidy = tidy_none steps v h.0 tidy
freed_tidy f k c c' name room (Some (Some block)) steps said v of h tidy = free_tidy f k c c' (entry_with block.name room) steps said v of h tidy

-- .. or nothing was, since the request was refused
logged_tidy : (f : Profile) (k : ℕ) (answer : Result Block NoRoom) (c c' : Cached) (entry : Entry) (steps : List Made) (v : View) → AreOfRegion f steps
    → MatchResult answer (λ block. TakesEntry f k c c' entry steps) (λ room. (steps ≡ []) × (c' ≡ c)) → Tidy v → Tidy (steps ++ v)
logged_tidy f k (Ok block) c c' entry steps v of h tidy = taken_tidy f k c c' entry steps v of h tidy
logged_tidy f k (Err room) c c' entry steps v of h tidy = tidy_none steps v h.0 tidy

-- a block is kept or replaced
remade_tidy : (f : Profile) (k name size align : ℕ) (is : Option (Option Block)) (b : Having) (a : Answer) → IsRemadeBy f k name size align is b a
    → AreOfRegion f a.steps → Tidy b.view → Tidy (a.steps ++ b.view)
remade_tidy f k name size align None b a h of tidy = absurd h
remade_tidy f k name size align (Some None) b a h of tidy = tidy_none a.steps b.view h.0 tidy
remade_tidy f k name size align (Some (Some old)) b a (inl kept) of tidy = tidy_none a.steps b.view kept.no_steps tidy
remade_tidy f k name size align (Some (Some old)) b a (inr h) of tidy =
    let freed = of_front f h.freed h.placed.steps (subst (AreOfRegion f) h.steps_are of) in
    tidy_both a.steps h.freed h.placed.steps b.view h.steps_are
    (logged_tidy f k h.served.answer h.placed.cache a.cache (entry_of old.name) h.freed (h.placed.steps ++ b.view) freed h.logged (tidy_over allocating refl h.placed.steps b.view h.served.kinds tidy))

-- The steps that answer an operation leave their actor's view tidy.
pub answer_tidy : (f : Profile) (k : ℕ) (what : What) (b : Having) (a : Answer) → IsAnswered f k what b a → AreOfRegion f a.steps → Tidy b.view
    → Tidy (a.steps ++ b.view)
answer_tidy f k (What.Alloc name heap size align) b a h of tidy = tidy_over allocating refl a.steps b.view h.kinds tidy
answer_tidy f k (What.Guarded keeper name heap size align) b a h of tidy = tidy_over allocating refl a.steps b.view h.kinds tidy
answer_tidy f k (What.FreeSized name room) b a h of tidy = freed_tidy f k b.cache a.cache name (Some room) (standing_for b.names name) a.steps a.said b.view of h.0 tidy
answer_tidy f k (What.RawSized room block) b a h of tidy = free_tidy f k b.cache a.cache (sized_entry block room) a.steps a.said b.view of h.0 tidy
answer_tidy f k (What.Free name) b a h of tidy = freed_tidy f k b.cache a.cache name None (standing_for b.names name) a.steps a.said b.view of h.0 tidy
answer_tidy f k (What.Raw block) b a h of tidy = free_tidy f k b.cache a.cache (entry_of block) a.steps a.said b.view of h.0 tidy
answer_tidy f k (What.Remake name old heap size align) b a h of tidy = remade_tidy f k name size align (standing_for b.names old) b a h of tidy
answer_tidy f k What.Flush b a h of tidy = flush_tidy f k b.cache.log b.cache.noted a.cache.noted a.steps b.view of h.0.empties tidy
answer_tidy f k What.Stop b a h of tidy = stop_tidy f k b.cache a.cache a.steps b.view of h.0 tidy
answer_tidy f k what b a h of tidy = absurd h

-- ==== What a keeper's steps and records keep: they are tidy, and each record can be shown.

-- ---- tidy
pub sweep_tidy : (f : Profile) (k : ℕ) (all : Bool) (guards left : List Guard) (said : List Record) (steps : List Made) (v : View)
    → SweepSteps f k all guards left said steps → Tidy v → Tidy (steps ++ v)
sweep_tidy f k all guards left said steps v is tidy = tidy_over sweeping refl steps v is.kinds tidy

given_tidy : (f : Profile) (heap k : ℕ) (guards left : List Guard) (answer : Option Block) (searched after : List Made) (v : View)
    → MatchOption answer (IsNotRaised f (large_directory heap) k guards left searched after) (IsRaised f (large_directory heap) k guards left searched after)
    → Tidy v → Tidy (after ++ v)
given_tidy f heap k guards left None searched after v is tidy = tidy_none after v is.nothing tidy
given_tidy f heap k guards left (Some block) searched after v is tidy =
    let give = give_steps (is.first + 1) 0 block is.word is.answer in
    let backed = tidy_over (Backing ∷ []) refl is.backs v (raised_backs is) tidy in
    let given = tidy_over (Giving ∷ (LookLife ∷ [])) refl give (is.backs ++ v) (refl, (refl, tt)) backed in
    tidy_both after is.left (give ++ is.backs) v is.after_is (tidy_over returning refl is.left ((give ++ is.backs) ++ v) (raised_leaves is) (subst Tidy (sym (append_assoc give is.backs v)) given))

raise_tidy : (f : Profile) (heap k : ℕ) (guards left : List Guard) (answer : Option Block) (steps : List Made) (v : View)
    → RaiseSteps f heap k guards left answer steps → Tidy v → Tidy (steps ++ v)
raise_tidy f heap k guards left answer steps v is tidy = tidy_both steps is.after is.searched v is.steps_are
    (given_tidy f heap k guards left answer is.searched is.after (is.searched ++ v) is.outcome (tidy_over seeking refl is.searched v is.kinds tidy))

-- A keeper's try leaves its view tidy.
pub try_tidy : (f : Profile) (keeper : ℕ) (r : Request) (v : View) (guards : List Guard) (t : Tried) → IsTried f keeper r v guards t → Tidy v
    → Tidy (t.steps ++ v)
try_tidy f keeper r v guards t is tidy = search (arith, tidy_both, raise_tidy, sweep_tidy)

-- ---- shown
-- each line that a sweep says
swept_shown : (all : Bool) (k : ℕ) (guards kept : List Guard) (said : List Record) (steps : List Made) → Swept all k guards kept said steps → EachShown said
swept_shown all k = swept_all CanShow k (λ s. tt) all

-- ---- short
pub try_short : (f : Profile) (keeper : ℕ) (r : Request) (v : View) (guards : List Guard) (t : Tried) → IsTried f keeper r v guards t
    → length t.steps ≤ try_steps f r guards
try_short f keeper r v guards t is = search (arith, length-append)

-- by cases
missed_few : (found : Option ℕ) (n : ℕ) → missed_steps found n ≤ 48 * n
missed_few found n = search arith

-- A keeper's try and its thread's own request after it make at most as many steps as a guarded request may.
pub whole_short : {σ σ' : Standing} {tells found c c' answer : _} (keeper : ℕ) (r : Request) (v : View) (guards : List Guard) (t : Tried)
    → IsTried σ.seat.profile keeper r v guards t
    → (call : AllocatesPages (wanted_by σ.seat.profile r) found tells c c' σ σ' answer)
    → length t.steps + length call.steps ≤ guarded_steps σ.seat.profile r guards
whole_short {σ} {found = found} keeper r v guards t is call = search (arith, missed_few, try_short)

-- ==== What follows once the acts of a plan were answered by a legal list, at whose end all actors have nothing; and that refusals are true.

-- ---- the whole replay, by the parts of the actors
-- what steps of the region and their records leave tidy and to be shown
record Leaves (l l' : Whole) (rs rs' : List Record) : Type 0 where
  -- Each actor's steps are tidy.
  tidy : Each Tidy l → Each Tidy l'
  shown : EachShown rs → EachShown rs'

-- Steps of one actor that leave its own part tidy leave each actor's part of the list tidy.
pub tidy_piece : (k : ℕ) (steps : List Made) (l : Whole) → Each Tidy l → Tidy (steps ++ part k l) → Each Tidy (triples k steps ++ l)
tidy_piece k steps l all new j = search (arith, cases_eq, part_of_own, part_of_others)

leaves_piece : (f : Profile) (k : ℕ) (steps : List Made) (more : List Record) (l : Whole) (rs : List Record)
    → (AreOfRegion f steps → Tidy (part k l) → Tidy (steps ++ part k l)) → (AreOfRegion f steps → EachShown more)
    → Each (AreOfRegion f) (triples k steps ++ l) → Leaves l (triples k steps ++ l) rs (rs ++ more)
leaves_piece f k steps more l rs piece shows all_of =
    let own : AreOfRegion f steps = of_front f steps (part k l) (subst (AreOfRegion f) (part_of_own k steps l) (all_of k)) in
    record { tidy = λ all. tidy_piece k steps l all (piece own (all k)); shown = λ all. shown_both rs more all (shows own) }

leaves_mark : (mark : Record) (l : Whole) (rs : List Record) → CanShow mark → Leaves l l rs (rs ++ mark ∷ [])
leaves_mark mark l rs can = record { tidy = λ all. all; shown = λ all. shown_both rs (mark ∷ []) all (can, tt) }

-- one look at the epoch, without a record
leaves_look : (k epoch : ℕ) (l : Whole) (rs : List Record) → Leaves l (triples k (epoch_look epoch) ++ l) rs rs
leaves_look k epoch l rs = record { tidy = λ all. tidy_piece k (epoch_look epoch) l all (look_tidy Word.Epoch epoch (part k l) refl (all k)); shown = λ all. all }

-- nothing
leaves_all : (l : Whole) (rs : List Record) → Leaves l l rs rs
leaves_all l rs = record { tidy = λ all. all; shown = λ all. all }

-- ---- acts, the steps of which are of the region
abbrev AreLeft : Profile → Progress → Progress → Type 0
AreLeft f p q = Each (AreOfRegion f) q.list → Leaves p.list q.list p.records q.records

left_at : (f : Profile) (p : Progress) {q r : Progress} → q ≡ r → AreLeft f p r → AreLeft f p q
left_at f p is left = subst (λ (x : Progress). AreLeft f p x) (sym is) left

-- thread k was stopped, and something is said besides
left_stopped : (f : Profile) (p : Progress) (k : ℕ) (steps : List Made) (c : Cached) (said : List Record) → IsStopped k (p.caches k) c steps → EachShown said
    → AreLeft f p (after_stop p k steps c said)
left_stopped f p k steps c said is shown of =
    let v = part k p.list in
    leaves_piece f k steps (records_of (events_by k v steps) ++ said) p.list p.records (λ own tidy. stop_tidy f k (p.caches k) c steps v own is tidy)
    (λ own. shown_both (records_of (events_by k v steps)) said (records_shown f k steps v own) shown) of

-- a thread's operation
left_op : (f : Profile) (op : Op) (p q : Progress) → AnswersOp f op p q → AreLeft f p q
left_op f op p q did =
    let k = op.actor in
    let v = part k p.list in
    let a = did.0 in
    left_at f p did.2 (λ of. leaves_piece f k a.steps (records_of (events_by k v a.steps) ++ said_by k a.said) p.list p.records
    (answer_tidy f k op.what (having p.names v (p.caches k)) a did.1) (piece_shown f k a.steps a.said v) of)

-- what follows a keeper's try, and the try itself
left_tried : (f : Profile) (op : Op) (r : Request) (block : Option Block) (p q : Progress) → AnswersTried f op r block p q → AreLeft f p q
left_tried f op r (Some block) p q did = left_at f p did (λ of. leaves_all p.list p.records)
left_tried f op r None p q did = left_op f op p q did

-- what a keeper does and says where it tries a request
left_try : (f : Profile) (keeper : ℕ) (r : Request) (p : Progress) (t : Tried) → IsTried f keeper r (part keeper p.list) (p.books keeper) t
    → AreLeft f p (after_trying p keeper t)
left_try f keeper r p t is =
    leaves_piece f keeper t.steps t.records p.list p.records (λ own tidy. try_tidy f keeper r (part keeper p.list) (p.books keeper) t is tidy)
    (λ own. try_all CanShow keeper (λ s. tt) f r (part keeper p.list) (p.books keeper) t is
    (records_shown f keeper is.raised (is.swept ++ part keeper p.list) (of_front f is.raised is.swept (subst (AreOfRegion f) is.steps_are own))))

left_guarded : (f : Profile) (keeper : ℕ) (op : Op) (o : Option Request) (p q : Progress) → AnswersGuarded f keeper op o p q → AreLeft f p q
left_guarded f keeper op None p q did of = absurd did
left_guarded f keeper op (Some r) p q did of =
    let midway = after_trying p keeper did.0 in
    let on = tried_on f op r did.0.block midway q did.2 in
    let one = left_try f keeper r p did.0 did.1 (pieces_back (Each (AreOfRegion f)) (of_rest f) on.0 midway.list (subst (Each (AreOfRegion f)) on.1 of)) in
    let rest = left_tried f op r did.0.block midway q did.2 of in
    record { tidy = λ all. rest.tidy (one.tidy all); shown = λ all. rest.shown (one.shown all) }

left_one : (f : Profile) (act : Act) (p q : Progress) → Advances f act p q → AreLeft f p q
left_one f (MarksPhase n) p q did = left_at f p did (λ of. leaves_mark (Record.Phase n) p.list p.records tt)
left_one f MarksClose p q did = left_at f p did (λ of. leaves_mark Record.Close p.list p.records tt)
left_one f (Wakes k) p q did = left_at f p did.1 (λ of. leaves_look k did.0 p.list p.records)
left_one f (Operates op) p q did = left_op f op p q did
left_one f (Settles k) p q did = left_at f p did (λ of. leaves_all p.list p.records)
left_one f (Ticks asked) p q did = search (arith, left_at, leaves_piece, tick_tidy)
left_one f MakesPass p q did = search (arith, left_at, leaves_piece, tidy_over, pass_shown)
left_one f ReadsEpoch p q did = left_at f p did.1 (λ of. leaves_look 0 did.0 p.list p.records)
left_one f (StopsIdle k n) p q did = elim did [
  | inl so ↦ left_at f p so.4 (left_stopped f p k so.1 so.2 (stopped k) so.3 (tt, tt))
  | inr stays ↦ left_at f p stays.1 (λ of. leaves_all p.list p.records)
]
left_one f (Guards keeper op) p q did = left_guarded f keeper op (request_in op.what) p q did
left_one f (Lowers keeper) p q did = search (arith, left_at, leaves_piece, sweep_tidy, swept_shown)
left_one f (Ends k) p q did = left_at f p did.3 (left_stopped f p k did.0 did.1 [] did.2 tt)

-- one act leaves the part of each actor tidy, where it was
pub act_tidy : (f : Profile) (act : Act) (p q : Progress) → Advances f act p q → Legal f q.list → Each Tidy p.list → Each Tidy q.list
act_tidy f act p q did legal all = (left_one f act p q did (λ k. legal_part f q.list k legal)).tidy all

left_by : (f : Profile) (acts : List Act) (p q : Progress) → Reaches f acts p q → Each (AreOfRegion f) q.list → Leaves p.list q.list p.records q.records
left_by f [] p q is of = left_at f p is (λ same. leaves_all p.list p.records) of
left_by f (act ∷ acts) p q is of =
    let one = left_one f act p is.0 is.1 (was_so f (Each (AreOfRegion f)) (of_rest f) acts is.0 q is.2 of) in
    let rest = left_by f acts is.0 q is.2 of in
    record { tidy = λ all. rest.tidy (one.tidy all); shown = λ all. rest.shown (one.shown all) }

-- Where acts were answered by a legal list, each record up to there can be shown.
pub acts_shown : (f : Profile) (acts : List Act) (p q : Progress) → Reaches f acts p q → Legal f q.list → EachShown p.records → EachShown q.records
acts_shown f acts p q is legal = (left_by f acts p q is (λ k. legal_part f q.list k legal)).shown

-- Where a keeper tried a request, each record up to there can be shown.
pub tried_shown : (f : Profile) (keeper : ℕ) (r : Request) (p : Progress) (t : Tried) → IsTried f keeper r (part keeper p.list) (p.books keeper) t
    → Legal f (after_trying p keeper t).list → EachShown p.records → EachShown (after_trying p keeper t).records
tried_shown f keeper r p t is legal = (left_try f keeper r p t is (λ k. legal_part f (after_trying p keeper t).list k legal)).shown

-- by cases
later_kept : (t : Bool) (m : Made) (v : View) → KeptPart (if t then m ∷ v else v) → KeptPart v
later_kept t m v all = search arith

-- A list keeps stamps to the epochs of ends where each actor's part of it does.
pub parts_kept : (l : Whole) → ((k : ℕ) → KeptPart (part k l)) → AllKeepToEnds l
parts_kept [] all = tt
parts_kept (t ∷ l) all = (
  (subst (λ (b : Bool). KeptPart (if b then t.made ∷ part t.actor l else part t.actor l)) (eq-eqb t.actor t.actor refl) (all t.actor)).0,
  parts_kept l (λ k. later_kept (t.actor == k) t.made (part k l) (all k)),
)

module _ (way : Way) (f : Profile) (acts : List Act) (reached : Progress) (whole : Whole) (answers : Reaches f acts at_start reached)
    (one_order : IsOneOrder way reached.list whole) (legal : Legal f whole) where
  -- Each actor's part is the same in both lists.
  same : (k : ℕ) → part k whole ≡ part k reached.list
  same = same_parts way reached.list whole one_order

  -- What was reached is left as it is.
  left : Leaves [] reached.list [] reached.records
  left = left_by f acts at_start reached answers (λ k. subst (AreOfRegion f) (same k) (legal_part f whole k legal))

  tidy : Each Tidy reached.list
  tidy = left.tidy (λ k. record { kept = tt; stamped = λ p. refl })

  -- THE STAMP of each page is the greatest epoch of an end there
  stamps_are : IsValid f → AreStamped f whole
  stamps_are valid = record {
    stamp = λ page is. stamps_are_ends f whole valid legal (parts_kept whole (λ k. subst KeptPart (sym (same k)) (tidy k).kept)) page (λ k. subst AllStamped (sym (same k)) (tidy k).stamped page);
  }

  -- EACH RECORD can be shown
  are_shown : EachShown reached.records
  are_shown = left.shown tt

-- Each record of a replay can be shown as its line.
pub can_be_shown : {way : Way} {plan : Plan} {whole : Whole} {records : List Record} → IsReplay way plan whole records → All CanShow records
can_be_shown {way} {plan} {whole} {records} is = search (arith, are_shown, all_shown, each_arranged)

-- what is known of the acts of a replay in the order of the text besides its refusals, and on threads isn't: that they go by the indexes, with all actors at rest
-- between them
abbrev pub GoInOrder : (way : Way) (threads : ℕ) (f : Profile) (acts : List Act) (p p' : Progress) → Reaches f acts p p' → Type 0
GoInOrder InOrder threads f acts p p' is = GoByIndexes InOrder f acts p p' is × RestBetween InOrder threads f acts p p' is
GoInOrder OnThreads threads f acts p p' is = Unit {0}

-- Acts of a plan that were answered by a legal list, at whose end all actors have nothing, are a replay of the plan.
pub replays : (way : Way) (plan : Plan) (reached : Progress) (whole : Whole) (records : List Record) → IsValid (region_of plan)
    → (answers : Reaches (region_of plan) (acts_of_plan plan) at_start reached)
    → IsOneOrder way reached.list whole → AreInPhases (region_of plan) (acts_of_plan plan) at_start reached answers whole
    → GoByStages (region_of plan) (stages_of_plan plan) at_start reached [] whole
    → records ≡ arranged way (region_of plan).threads reached.records → Legal (region_of plan) whole → ((k : ℕ) → HasNothing (part k whole))
    → AreRefusalsTrue way (region_of plan) (acts_of_plan plan) at_start reached answers
    → GoInOrder way (threads_of plan) (region_of plan) (acts_of_plan plan) at_start reached answers
    → AreOfThreads (threads_of plan) (acts_of_plan plan) → IsReplay way plan whole records
replays way plan reached whole records valid answers one_order phases stages records_are legal nothing refusals go of = record {
  reached = reached;
  answers = answers;
  one_order = one_order;
  phases = phases;
  stages = stages;
  records_are = records_are;
  legal = legal;
  nothing = nothing;
  keepers = λ keeper lt.
      let calls = calls_alone (region_of plan) keeper (threads_of plan) (keepers_of plan) (phases_of plan) at_start reached lt of answers refl refl in
      (calls.0, calls.1, subst (λ (v : View). MakesCalls (region_of plan) keeper calls.0 calls.1 v) (sym (same_parts way reached.list whole one_order keeper)) calls.2);
  run = runs (region_of plan) whole valid legal;
  deeds = λ k page d of knows. known_directory (region_of plan) whole k page d valid legal of knows;
  stamps = stamps_are way (region_of plan) (acts_of_plan plan) reached whole answers one_order legal valid;
  marks = true_marks (region_of plan) whole valid legal nothing;
  refusals = refusals;
  -- in the order of the text `go` has both, and on threads nothing is said of them
  indexes = search arith;
  rests = search arith;
}

-- ---- one operation
-- Of a request that was made: its refusal is true, and a run that was named for it was taken exactly where it is whole.
module _ (f : Profile) (k : ℕ) (names : List Named) (c : Cached) (l : Whole) (valid : IsValid f) where
  abbrev b : Having
  b = having names (part k l) c

  abbrev IsTrue : Option (Served f k b) → Type 0
  IsTrue o = MatchOption o (Unit {0}) (λ s. MatchResult s.served.answer (λ block. Unit {0})
      (IsTrulyRefused f (wanted_by f s.request) c.locals l (triples k s.placed.steps ++ l)))
      × MatchOption o (Unit {0}) (λ s. TakesWhatIsNamed f (wanted_by f s.request) s.placed.found l s.placed.steps s.served.answer)

  request_true : (r : Request) (a : Answer) (is : IsServed f k r b a) → IsAdmitted f r.size r.align r.heap → Legal f (triples k a.steps ++ l)
      → IsTrue (Some (record { request = r; placed = a; served = is }))
  request_true r a is admitted legal =
      (search (arith, truly_refused), takes_named f r.heap r.size r.align k a.found c a.cache l a.steps is.answer valid is.rest legal is.serves)

  -- where a block is replaced, of a request in a heap of the region
  remade_true : (name size align : ℕ) (o : Option (Option Block)) (a : Answer) (is : IsRemadeBy f k name size align o b a)
      → ((heap : ℕ) → heap < f.heaps → IsAdmitted f size align heap) → Legal f (triples k a.steps ++ l)
      → IsTrue (request_in_remade f k name size align o b a is)
  remade_true name size align (Some (Some old)) a (inr h) admitted legal = request_true (request_for old name size align) h.placed h.served
      (admitted old.heap h.of_region) (legal_earlier f k h.freed h.placed.steps l (subst (λ (ms : List Made). Legal f (triples k ms ++ l)) h.steps_are legal))
  remade_true name size align (Some (Some old)) a (inl kept) admitted legal = (tt, tt)
  remade_true name size align (Some None) a is admitted legal = (tt, tt)
  remade_true name size align None a is admitted legal = (tt, tt)

  operation_true : (limit : ℕ) (asked : List ℕ) (what : What) (a : Answer) (is : IsAnswered f k what b a) → IsFitWhat f limit asked what
      → Legal f (triples k a.steps ++ l) → IsTrue (request_in_answer f k what b a is)
  operation_true limit asked (Alloc name heap size align) a is fit legal = request_true _ a is fit.1.0 legal
  operation_true limit asked (Guarded keeper name heap size align) a is fit legal = request_true _ a is fit.1.0 legal
  operation_true limit asked (Remake name old heap size align) a is fit legal = search (arith, remade_true)
  operation_true limit asked what a is fit legal = (tt, tt)

-- ---- an act: an operation, and a guarded request that its thread answers
op_true : (f : Profile) (limit : ℕ) (asked : List ℕ) (op : Op) (p q : Progress) (valid : IsValid f) → IsFitWhat f limit asked op.what → Legal f q.list
    → (is : AnswersOp f op p q) → IsTrue f op.actor p.names (p.caches op.actor) p.list valid (request_in_answer f op.actor op.what _ is.0 is.1)
op_true f limit asked op p q valid fit legal is = operation_true f op.actor p.names (p.caches op.actor) p.list valid limit asked op.what is.0 is.1 fit
    (subst (λ (s : Progress). Legal f s.list) is.2 legal)

tried_true : (f : Profile) (limit : ℕ) (asked : List ℕ) (op : Op) (r : Request) (block : Option Block) (p q : Progress) → IsValid f
    → IsFitWhat f limit asked op.what → Legal f q.list → (is : AnswersTried f op r block p q)
    → TriedRefusesTruly f op r block p q is × TriedTakesItsRun f op r block p q is
tried_true f limit asked op r (Some block) p q valid fit legal is = (tt, tt)
tried_true f limit asked op r None p q valid fit legal is = op_true f limit asked op p q valid fit legal is

guarded_true : (f : Profile) (keeper limit : ℕ) (asked : List ℕ) (op : Op) (o : Option Request) (p q : Progress) → IsValid f
    → IsFitWhat f limit asked op.what → Legal f q.list → (is : AnswersGuarded f keeper op o p q)
    → GuardedRefusesTruly f keeper op o p q is × GuardedTakesItsRun f keeper op o p q is
guarded_true f keeper limit asked op None p q valid fit legal is = absurd is
guarded_true f keeper limit asked op (Some r) p q valid fit legal is = tried_true f limit asked op r is.0.block
    (after_trying p keeper is.0) q valid fit legal is.2

-- ---- all acts
-- In a legal replay each refusal is true, and each run that was named for a request serves exactly where its pages are whole.
pub all_true : (f : Profile) (limit : ℕ) (asked : List ℕ) (acts : List Act) (p q : Progress) → IsValid f → AreFit f limit asked acts → Legal f q.list
    → (is : Reaches f acts p q) → AllRefuseTruly f acts p q is × AllTakeTheirRuns f acts p q is
all_true f limit asked [] p q valid fit legal is = (tt, tt)
all_true f limit asked (Operates op ∷ acts) p q valid fit legal is =
    let one = op_true f limit asked op p is.0 valid fit.1 (was_so f (Legal f) (legal_before f) acts is.0 q is.2 legal) is.1 in
    let rest = all_true f limit (asked_after op.what asked) acts is.0 q valid fit.2 legal is.2 in ((one.0, rest.0), (one.1, rest.1))
all_true f limit asked (Guards keeper op ∷ acts) p q valid fit legal is =
    let one = guarded_true f keeper limit asked op (request_in op.what) p is.0 valid fit.3 (was_so f (Legal f) (legal_before f) acts is.0 q is.2 legal) is.1 in
    let rest = all_true f limit (asked_after op.what asked) acts is.0 q valid fit.4 legal is.2 in ((one.0, rest.0), (one.1, rest.1))
all_true f limit asked (Ticks epoch ∷ acts) p q valid fit legal is = let rest = all_true f limit asked acts is.0 q valid fit.1 legal is.2 in
    ((tt, rest.0), (tt, rest.1))
all_true f limit asked (act ∷ acts) p q valid fit legal is = let rest = all_true f limit asked acts is.0 q valid fit legal is.2 in ((tt, rest.0), (tt, rest.1))
