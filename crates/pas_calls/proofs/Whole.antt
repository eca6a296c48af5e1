-- Each act of a replay in the order of the text, and so the whole: its transcript is accepted, its report line by line.
use Rattle.std.proofs.Common.{arith, ◌≡◌, ℕ, List, [], ◌∷◌, ◌++◌, None, Some, refl, ap, sym, ◌∙◌, Option, MatchResult, ◌+◌, max, nat_le, true, false, inl, inr}
use Rattle.std.proofs.{Common.{subst, append-nil, append_assoc, map, le-leb, leb-true, Bool, true≢false, zero, suc, ◌≤◌, codes}, lemmas.Bool.false_from_ne_true}
use Rattle.std.proofs.lemmas.Option.{none-some}
use Rattle.pas_profile.specs.{Profiles.IsValid, Entries.{sized_entry, entry_of}, declared.{profile.Profile.Profile, name.{Block.Block, Name.Name}}}
use Rattle.pas_profile.specs.declared.{word.Word.Word, event.Event.Event, directory.Directory.Directory}
use Rattle.pas_steps.specs.{Desks.triples, Events.events_by, Lists.{Legal, part, visible, word_after, Whole}, declared.step.Made.Made}
use Rattle.pas_free_log.specs.Frames.{freeing}
use Rattle.pas_cache.specs.{Caches.Cached, Refusals.IsTrulyRefused}
use Rattle.pas_trace.specs.declared.{item.Request.Request, plan.What.{What, TheVariants.{Alloc, Guarded, Free, FreeSized, Raw, RawSized, Remake, Flush, Stop}}}
use Rattle.pas_trace.specs.{declared.plan.{Op.Op, Chore.Chore, Work.Work, Plan.Plan}, Named.standing_for, Asked.{keeper_in, work_of, keeper_of, of_task}}
use Rattle.pas_trace.specs.Acts.{Act, Operates, Guards, Settles, Ticks, MakesPass, ReadsEpoch, StopsIdle, MarksPhase, Wakes, MarksClose, Ends, Lowers, act_kept}
use Rattle.pas_trace.specs.Acts.{acts_from, acts_of, acts_of_chore, acts_of_op, acts_of_ops, acts_of_work, close_acts, idle_stops, phase_acts, numbers_from}
use Rattle.pas_answers.specs.Answers.{Answer, IsAnswered, IsFreedBy, IsServed, Progress, after_answer, having, records_of, room_noted, said_by, wanted_by}
use Rattle.pas_answers.specs.Answers.{IsIdleFor, IsStopped, after_reading, after_settling, after_stop, after_tick, after_wake, epoch_look, stopped}
use Rattle.pas_answers.specs.{Answers.with_records, Refusals.{RefusesTruly, ActRefusesTruly, TriedRefusesTruly, AllRefuseTruly}, Guarding.{IsTried, Tried}}
use Rattle.pas_answers.specs.{Guarding.after_trying, Reaching.{Advances, AnswersTried, Reaches}, Ways.InOrder, Replays.{IsReplay, acts_of_plan, at_start}}
use Rattle.pas_answers.{specs.Replays.{keepers_of, phases_of, region_of, threads_of}, proofs.Consequences.{Tidy, answer_tidy, look_tidy, tick_tidy, tidy_piece}}
use Rattle.pas_answers.proofs.Reached.{was_so}
use Rattle.pas_check.specs.Begins.{begun_what, freeing_named, remaking_named, stopping, sweeping, after_task, begun, begun_act, begun_from, past_outcomes}
use Rattle.pas_check.specs.{Begins.{ready, ready_with, page_due, pages_due, settled_with}, States.{Serves, Stand, Task, Does, Due, Tries, Writes, with_at}}
use Rattle.pas_check.specs.{States.{Reports, at_first, Heads, Shows, Totals}, Accepted.{Goes, IsWhole, IsAccepted}, Lines.{lines_in, is_line}, Takes.IsFor}
use Rattle.pas_check.{specs.Takes.{Takes, TakesDue, TakesOutcome, TakesRequest, AreAllowedMarks, head_line, MayServe, kept_next}, proofs.Ticks.epoch_kept}
use Rattle.pas_check.proofs.Cuts.{cut_records, cut_line, kind_first, number_first, totals_end}
use Rattle.pas_core.proofs.OneActor.{legal_before}
use Rattle.pas_machine.specs.{Machine.{Admits, Bears}, State.deed_in}
use Rattle.pas_report.specs.{Reports.{report_text, machine_page, machine_pages, page_text, total_line}, Totals.totals_of}
use Rattle.pas_records.specs.{declared.record.{Record.Record, Said.Said}, Lines.lines_of, Marks.{Marked, marks_after, marks_text}, Rests.AreTrueMarks}
use Rattle.pas_calls.proofs.Telling.{flush_only, flush_leads, emptied, logs_with, stop_leads, stop_tells, LeadsOn, on_as, on_both, lines_by, Comes, Tells}
use Rattle.pas_calls.proofs.Telling.{piece_of, told_after, on_line, on_done, on_task, emptying, booked_as, lines_both, table_at, table_same, stop_only, on_same}
use Rattle.pas_calls.proofs.Requests.{free_comes, freed_comes, silent_lines, asked_tells, asked_then, remade_comes, request_leads, served_plain, given_comes}
use Rattle.pas_calls.proofs.{Requests.thread_comes, Passes.{pass_comes, lowered_comes}}

-- ---- A thread's operation, by what it asks for
module _ (f : Profile) (valid : IsValid f) (p : Progress) (s : Stand) (ts : List Task) (tells : Tells p s) (due : s.due ≡ []) (k : ℕ) (a : Answer)
    (legal : Legal f (triples k a.steps ++ p.list)) where
  -- the piece is tidy
  tidy_of : (what : What) → IsAnswered f k what (having p.names (part k p.list) (p.caches k)) a → Tidy (a.steps ++ part k p.list)
  tidy_of what is = answer_tidy f k what (having p.names (part k p.list) (p.caches k)) a is (piece_of f k a.steps p.list legal) (tells.tidy k)

  -- a free of what a name stands for
  named_comes : (name : ℕ) (room : Option ℕ) → IsFreedBy f k (p.caches k) a.cache name room (standing_for p.names name) a.steps a.said → a.names ≡ p.names
      → Tidy (a.steps ++ part k p.list)
      → LeadsOn f s [] (record (freeing_named f s k name (room_noted room) (standing_for s.names name)) { left = ts })
      → Comes f s (records_of (events_by k (part k p.list) a.steps) ++ said_by k a.said) (after_answer p k a) ts
  named_comes name room is same tidy begun = search (arith, freed_comes, on_as)

  -- a request
  request_comes : (r : Request) (is : IsServed f k r (having p.names (part k p.list) (p.caches k)) a)
      → MatchResult is.answer (λ block. Unit {0}) (IsTrulyRefused f (wanted_by f r) (p.caches k).locals p.list (triples k a.steps ++ p.list))
      → LeadsOn f s [] (record s { due = Serves k r None ∷ []; left = ts })
      → Comes f s (records_of (events_by k (part k p.list) a.steps) ++ said_by k a.said) (after_answer p k a) ts
  request_comes r is truly begun =
      let w : Stand = record s { left = ts } in
      let end : Stand = asked_then f p s ts tells k r a is legal in
      let rs : List Record = records_of (events_by k (part k p.list) a.steps) in
      record {
        end = end;
        leads = on_as (ap (λ o. lines_by (rs ++ said_by k o)) is.said_is) (sym (served_plain w k r is.answer (visible (triples k a.steps ++ p.list))))
            (on_both begun (request_leads f valid w k r None p.list a.steps tells.events legal (p.caches k).locals is.answer is.ends truly));
        tells = asked_tells f p s ts tells k r a is legal _;
      }

  -- THE OPERATION
  what_comes : (what : What) (is : IsAnswered f k what (having p.names (part k p.list) (p.caches k)) a)
      → RefusesTruly f k what (having p.names (part k p.list) (p.caches k)) a is p.list → LeadsOn f s [] (record (begun_what f s k what) { left = ts })
      → Comes f s (records_of (events_by k (part k p.list) a.steps) ++ said_by k a.said) (after_answer p k a) ts
  what_comes (Alloc name heap size align) is truly begun = request_comes (record { name = name; heap = heap; size = size; align = align }) is truly begun
  what_comes (Guarded keeper name heap size align) is truly begun = request_comes (record { name = name; heap = heap; size = size; align = align }) is truly begun
  what_comes (Free name) is truly begun = named_comes name None is.0 is.1 (tidy_of (Free name) is) begun
  what_comes (FreeSized name room) is truly begun = named_comes name (Some room) is.0 is.1 (tidy_of (FreeSized name room) is) begun
  what_comes (Raw block) is truly begun = free_comes f valid p s ts tells k a is.1 (tidy_of (Raw block) is) legal (entry_of block) is.0 begun
  what_comes (RawSized room block) is truly begun = free_comes f valid p s ts tells k a is.1 (tidy_of (RawSized room block) is) legal (sized_entry block room) is.0 begun
  what_comes (Remake name old heap size align) is truly begun =
      remade_comes f valid p s ts tells k a (tidy_of (Remake name old heap size align) is) legal name size align (standing_for p.names old) is truly
      (on_as refl (ap (λ x. record (remaking_named s k name size align x) { left = ts }) (sym (ap (λ ns. standing_for ns old) tells.names))) begun)
  what_comes Flush is truly begun =
      let end : Stand = emptied p s k a.steps [] [] ts in
      let h = is.0.empties in
      let rs : List Record = records_of (events_by k (part k p.list) a.steps) in
      record {
        end = end;
        leads = on_as (silent_lines k a.said rs is.1) refl (on_both begun (flush_leads f valid p s tells k (p.caches k).noted a.cache.noted a.steps h legal [] [] ts));
        tells = told_after p s end k a.steps a.cache a.names _ tells refl (tells.names ∙ sym is.2)
            (logs_with p s k a.cache [] tells (ap (λ (d : Cached). d.log) is.0.cache)) (ap (λ (d : Cached). d.idle_since) is.0.cache) refl refl refl
            (epoch_kept freeing refl k a.steps p.list (flush_only k (p.caches k).log (p.caches k).noted a.cache.noted a.steps h)) (tidy_of Flush is);
      }
  what_comes Stop is truly begun =
      let end : Stand = emptied p s k a.steps [] [] ts in
      let rs : List Record = records_of (events_by k (part k p.list) a.steps) in
      record {
        end = end;
        leads = on_as (silent_lines k a.said rs is.1) refl (on_both begun (stop_leads f valid p s tells k a.cache a.steps is.0 legal [] ts));
        tells = stop_tells f valid p s tells k a.cache a.steps is.0 legal a.names _ end refl (tells.names ∙ sym is.2) refl refl refl refl;
      }
  what_comes other is truly begun = absurd is

-- ---- Each act of a replay in the order of the text
-- an act whose records lead on to what it came to
abbrev pub Written : Profile → Progress → Stand → Progress → List Task → Type 0
Written f p s q ts = (rs : List Record) × (q.records ≡ p.records ++ rs) × Comes f s rs q ts

-- The epoch that the scavenger read is that of the word, where a thread may be stopped by it. A keeper acts only for requests whose guards it keeps.
abbrev pub IsInPlace : Act → Progress → Type 0
IsInPlace (StopsIdle k n) p = p.epoch ≡ word_after p.list Word.Epoch
IsInPlace (Guards keeper op) p = keeper_in op.what ≡ Some keeper
IsInPlace act p = Unit {0}

module _ (f : Profile) (valid : IsValid f) (p : Progress) (s : Stand) (ts : List Task) (tells : Tells p s) (due : s.due ≡ []) where
  -- ---- one look at the epoch
  look_tells : (k epoch : ℕ) (t : Stand) (caches : ℕ → Cached) (read : ℕ) → t.events ≡ s.events → t.names ≡ s.names
      → ((j : ℕ) → (caches j).log ≡ t.logs j) → ((j : ℕ) → t.idle_since j ≡ (caches j).idle_since) → t.epoch ≡ s.epoch → t.guards ≡ s.guards
      → Tells record { names = p.names; caches = caches; books = p.books; epoch = read; list = triples k (epoch_look epoch) ++ p.list; records = p.records } t
  look_tells k epoch t caches read events names logs since same guards = search (arith, booked_as, tidy_piece, look_tidy)

  woken_comes : (k epoch : ℕ) → s.left ≡ Does (Wakes k) ∷ ts → epoch ≡ word_after p.list Word.Epoch → Comes f s [] (after_wake p k epoch) ts
  woken_comes k epoch left is =
      let t : Stand = record s { idle_since = with_at s.idle_since k s.epoch; due = []; left = ts } in
      record {
        end = t;
        leads = on_done {t = record s { idle_since = with_at s.idle_since k s.epoch; left = ts }} due (on_task due left);
        tells = search (arith, table_same, table_at);
      }

  read_comes : (epoch : ℕ) → s.left ≡ Does ReadsEpoch ∷ ts → Comes f s [] (after_reading p epoch) ts
  read_comes epoch left =
      let t : Stand = record s { due = []; left = ts } in
      record { end = t; leads = on_done {t = record s { left = ts }} due (on_task due left); tells = look_tells 0 epoch t p.caches epoch refl refl tells.logs tells.idle_since refl refl }

  -- ---- what is handed on
  settled_comes : (k : ℕ) → s.left ≡ Does (Settles k) ∷ ts → Comes f s [] (after_settling p k) ts
  settled_comes k left = record {
    end = record s { left = ts };
    leads = on_done {t = record s { left = ts }} due (on_task due left);
    tells = search (arith, table_same);
  }

  -- ---- marks and ticks
  same_tells : (t : Stand) (records : List Record) → t.events ≡ s.events → t.names ≡ s.names → t.logs ≡ s.logs → t.idle_since ≡ s.idle_since → t.epoch ≡ s.epoch
      → t.guards ≡ s.guards
      → Tells (record p { records = records }) t
  same_tells t records events names logs since epoch guards = search (arith, booked_as)

  -- one line is written
  wrote : (act : Act) (item : Record) (t : Stand) → s.left ≡ Does act ∷ ts → LeadsOn f s [] (record t { due = Writes item ∷ [] })
      → LeadsOn f s (lines_by (item ∷ [])) (record t { due = [] })
  wrote act item t left begun =
      on_both begun (on_line (inr (refl, refl)))

  phase_comes : (n : ℕ) → s.left ≡ Does (MarksPhase n) ∷ ts → Comes f s (Record.Phase n ∷ []) (with_records p (Record.Phase n ∷ [])) ts
  phase_comes n left = search (arith, same_tells)

  close_comes : s.left ≡ Does MarksClose ∷ ts → Comes f s (Record.Close ∷ []) (with_records p (Record.Close ∷ [])) ts
  close_comes left = search (arith, same_tells)

  tick_comes : (asked answer : ℕ) → s.left ≡ Does (Ticks asked) ∷ ts → answer ≡ word_after p.list Word.Epoch
      → Comes f s (Record.Said 0 (Said.Tick (max answer asked)) ∷ []) (after_tick p asked answer) ts
  tick_comes asked answer left is =
      let same : max s.epoch asked ≡ max answer asked = ap (λ n. max n asked) (tells.epoch ∙ sym is) in
      let t : Stand = record s { epoch = max s.epoch asked; left = ts } in
      let end : Stand = record t { due = [] } in
      let item : Record = Record.Said 0 (Said.Tick (max s.epoch asked)) in
      record {
        end = end;
        leads = on_as (ap (λ n. lines_by (Record.Said 0 (Said.Tick n) ∷ [])) (sym same)) refl (wrote (Ticks asked) item t left (on_task due left));
        tells = search (arith, tidy_piece, tick_tidy);
      }

  -- ---- threads are stopped
  ended_comes : (k : ℕ) (steps : List Made) (c : Cached) → IsStopped k (p.caches k) c steps → Legal f (triples k steps ++ p.list) → s.left ≡ Does (Ends k) ∷ ts
      → Comes f s (records_of (events_by k (part k p.list) steps) ++ []) (after_stop p k steps c []) ts
  ended_comes k steps c h legal left =
      let end : Stand = emptied p s k steps [] [] ts in
      let rs : List Record = records_of (events_by k (part k p.list) steps) in
      record {
        end = end;
        leads = on_as (ap lines_by (append-nil rs)) refl (on_both (on_task due left) (stop_leads f valid p s tells k c steps h legal [] ts));
        tells = stop_tells f valid p s tells k c steps h legal p.names _ end refl tells.names refl refl refl refl;
      }

  idle_is : (k n : ℕ) → p.epoch ≡ word_after p.list Word.Epoch → IsIdleFor p k n → nat_le (s.idle_since k + n) s.epoch ≡ true
  idle_is k n reads idle = le-leb (s.idle_since k + n) s.epoch (omega (arith, idle, tells.idle_since k, tells.epoch, reads))

  idle_isnt : (k n : ℕ) → p.epoch ≡ word_after p.list Word.Epoch → (IsIdleFor p k n → ⊥) → nat_le (s.idle_since k + n) s.epoch ≡ false
  idle_isnt k n reads busy = search (arith, false_from_ne_true, leb-true)

  idle_comes : (k n : ℕ) (steps : List Made) (c : Cached) → p.epoch ≡ word_after p.list Word.Epoch → IsIdleFor p k n → IsStopped k (p.caches k) c steps
      → Legal f (triples k steps ++ p.list) → s.left ≡ Does (StopsIdle k n) ∷ ts
      → Comes f s (records_of (events_by k (part k p.list) steps) ++ stopped k) (after_stop p k steps c (stopped k)) ts
  idle_comes k n steps c reads idle h legal left =
      let item : Record = Record.Said 0 (Said.Stopped k) in
      let more : List Due = Writes item ∷ [] in
      let u : Stand = emptying s k [] more ts in
      let end : Stand = emptied p s k steps [] [] ts in
      let rs : List Record = records_of (events_by k (part k p.list) steps) in
      let begun : LeadsOn f s [] u = on_as refl (ap (λ t. record (stopping t s k) { left = ts }) (sym (idle_is k n reads idle))) (on_task due left) in
      record {
        end = end;
        leads = on_as (lines_both rs (stopped k)) refl
            (on_both (on_both begun (stop_leads f valid p s tells k c steps h legal more ts)) (on_line (inr (refl, refl))));
        tells = stop_tells f valid p s tells k c steps h legal p.names _ end refl tells.names refl refl refl refl;
      }

  busy_comes : (k n : ℕ) → p.epoch ≡ word_after p.list Word.Epoch → (IsIdleFor p k n → ⊥) → s.left ≡ Does (StopsIdle k n) ∷ ts → Comes f s [] p ts
  busy_comes k n reads busy left = record {
    end = record s { left = ts };
    leads = on_done {t = record s { left = ts }} due
        (on_as refl (ap (λ t. record (stopping t s k) { left = ts }) (sym (idle_isnt k n reads busy))) (on_task due left));
    tells = same_tells (record s { due = []; left = ts }) p.records refl refl refl refl refl refl;
  }

  -- ---- THE ACT
  at_end : (q r : Progress) → q ≡ r → Written f p s r ts → Written f p s q ts
  at_end q r same written = subst (λ (x : Progress). Written f p s x ts) (sym same) written

  legal_end : (q r : Progress) → q ≡ r → Legal f q.list → Legal f r.list
  legal_end q r same legal = subst (λ (x : Progress). Legal f x.list) same legal

  -- ---- a guarded request
  tried_written : (keeper : ℕ) (op : Op) (r : Request) (t : Tried) (is : IsTried f keeper r (part keeper p.list) (p.books keeper) t) (q : Progress) → LeadsOn f s [] (record (sweeping s keeper false (Tries keeper op.actor r false ∷ [])) { left = ts })
      → ((a : Answer) (so : IsAnswered f op.actor op.what (having p.names (part op.actor (after_trying p keeper t).list) (p.caches op.actor)) a)
      → RefusesTruly f op.actor op.what (having p.names (part op.actor (after_trying p keeper t).list) (p.caches op.actor)) a so (after_trying p keeper t).list
      → (served : IsServed f op.actor r (having p.names (part op.actor (after_trying p keeper t).list) (p.caches op.actor)) a)
      × MatchResult served.answer (λ block. Unit {0}) (IsTrulyRefused f (wanted_by f r) (p.caches op.actor).locals
      (after_trying p keeper t).list (triples op.actor a.steps ++ (after_trying p keeper t).list)))
      → (o : Option Block) → t.block ≡ o → (answers : AnswersTried f op r o (after_trying p keeper t) q) → TriedRefusesTruly f op r o
      (after_trying p keeper t) q answers → Legal f q.list → Written f p s q ts
  tried_written keeper op r t is q begun serve (Some block) gave answers truly legal =
      at_end q _ answers (t.records, refl, given_comes f valid p s ts tells keeper op.actor r t is (legal_end q _ answers legal) begun block gave)
  tried_written keeper op r t is q begun serve None none answers truly legal =
      let a : Answer = answers.0 in
      let there = legal_end q _ answers.2 legal in
      let so = serve a answers.1 truly in
      at_end q _ answers.2 (
        t.records ++ (records_of (events_by op.actor (part op.actor (after_trying p keeper t).list) a.steps) ++ said_by op.actor a.said),
        append_assoc p.records t.records _,
        thread_comes f valid p s ts tells keeper op.actor r t is (legal_before f op.actor a.steps (after_trying p keeper t).list there) begun none a so.0 so.1 there,
      )

  guarded_written : (keeper line k : ℕ) (what : What) (q : Progress) → keeper_in what ≡ Some keeper
      → s.left ≡ Does (Guards keeper (record { line = line; actor = k; what = what })) ∷ ts
      → (did : Advances f (Guards keeper (record { line = line; actor = k; what = what })) p q)
      → ActRefusesTruly f (Guards keeper (record { line = line; actor = k; what = what })) p q did → Legal f q.list → Written f p s q ts
  guarded_written keeper line k (What.Guarded own name heap size align) q kept left did truly legal =
      let op : Op = record { line = line; actor = k; what = What.Guarded own name heap size align } in
      tried_written keeper op (record { name = name; heap = heap; size = size; align = align }) did.0 did.1 q (on_task due left)
      (λ a so so_truly. (so, so_truly)) did.0.block refl did.2 truly legal
  guarded_written keeper line k what q kept left did truly legal = absurd (none-some keeper kept)

  -- The lines of an act of a replay lead a check from before it to after it.
  act_written : (act : Act) (q : Progress) → s.left ≡ Does act ∷ ts → (did : Advances f act p q) → ActRefusesTruly f act p q did → IsInPlace act p
      → Legal f q.list → Written f p s q ts
  act_written (MarksPhase n) q left did truly placed legal = at_end q _ did (Record.Phase n ∷ [], refl, phase_comes n left)
  act_written MarksClose q left did truly placed legal = at_end q _ did (Record.Close ∷ [], refl, close_comes left)
  act_written (Wakes k) q left did truly placed legal = at_end q _ did.1 ([], sym (append-nil p.records), woken_comes k did.0 left (legal_end q _ did.1 legal).0.answer_is)
  act_written (Operates op) q left did truly placed legal =
      at_end q _ did.2 (_, refl, what_comes f valid p s ts tells due op.actor did.0 (legal_end q _ did.2 legal) op.what did.1 truly (on_task due left))
  act_written (Guards keeper op) q left did truly placed legal = guarded_written keeper op.line op.actor op.what q placed left did truly legal
  act_written (Settles k) q left did truly placed legal = at_end q _ did ([], sym (append-nil p.records), settled_comes k left)
  act_written (Ticks asked) q left did truly placed legal = at_end q _ did.1 (_, refl, tick_comes asked did.0 left (legal_end q _ did.1 legal).0.answer_is)
  act_written MakesPass q left did truly placed legal = at_end q _ did.4 (_, refl, pass_comes f valid p s ts tells due left did.0 did.1 did.2 did.3 (legal_end q _ did.4 legal))
  act_written ReadsEpoch q left did truly placed legal = at_end q _ did.1 ([], sym (append-nil p.records), read_comes did.0 left)
  act_written (StopsIdle k n) q left (inl so) truly placed legal = at_end q _ so.4 (_, refl, idle_comes k n so.1 so.2 placed so.0 so.3 (legal_end q _ so.4 legal) left)
  act_written (StopsIdle k n) q left (inr stays) truly placed legal = at_end q p stays.1 ([], sym (append-nil p.records), busy_comes k n placed stays.0 left)
  act_written (Ends k) q left did truly placed legal = at_end q _ did.3 (_, refl, ended_comes k did.0 did.1 did.2 (legal_end q _ did.3 legal) left)
  act_written (Lowers keeper) q left did truly placed legal = at_end q _ did.3 (_, refl, lowered_comes f valid p s ts tells due keeper did.0 did.1 did.2 (legal_end q _ did.3 legal) left)

-- ---- The report of a replay is allowed line by line
-- ---- its lines
abbrev page_line : List Event → ℕ → Option Directory → Marked → List (List ℕ)
page_line es page None m = []
page_line es page (Some d) m = machine_page es page (Some d) m ∷ []

abbrev page_lines : List Event → (ℕ → Marked) → ℕ → List (List ℕ)
page_lines es marks zero = []
page_lines es marks (suc n) = page_lines es marks n ++ page_line es (suc n) (deed_in es (suc n)) (marks (suc n))

abbrev pub report_lines : Profile → List Event → (ℕ → Marked) → List (List ℕ)
report_lines f es marks = head_line ∷ (page_lines es marks f.pages ++ total_line f es ∷ [])

-- in each case it computes, or is given
marks_end : (b o p h : Bool) → is_line (marks_text record { backed = b; offered = o; parked = p; hinted = h } ++ codes "\n") ≡ true
marks_end b o p h = search arith

page_ends : (page : ℕ) (d : Directory) (live free stamp : ℕ) (m : Marked) → is_line (page_text page d live free stamp m) ≡ true
page_ends page d live free stamp m = search (arith, number_first, kind_first, marks_end)

cut_page : (es : List Event) (page : ℕ) (o : Option Directory) (m : Marked) (rest : List ℕ)
    → lines_in (machine_page es page o m ++ rest) ≡ page_line es page o m ++ lines_in rest
cut_page es page o m rest = search (arith, cut_line, page_ends)

cut_pages : (es : List Event) (marks : ℕ → Marked) (n : ℕ) (rest : List ℕ)
    → lines_in (machine_pages es marks n ++ rest) ≡ page_lines es marks n ++ lines_in rest
cut_pages es marks zero rest = refl
cut_pages es marks (suc n) rest =
    let page : List ℕ = machine_page es (suc n) (deed_in es (suc n)) (marks (suc n)) in
    ap lines_in (append_assoc (machine_pages es marks n) page rest) ∙ cut_pages es marks n (page ++ rest)
    ∙ ap (λ ls. page_lines es marks n ++ ls) (cut_page es (suc n) (deed_in es (suc n)) (marks (suc n)) rest)
    ∙ sym (append_assoc (page_lines es marks n) (page_line es (suc n) (deed_in es (suc n)) (marks (suc n))) (lines_in rest))

-- The lines of a report are the report's own, one by one.
cut_report : (f : Profile) (es : List Event) (marks : ℕ → Marked) → lines_in (report_text f es marks) ≡ report_lines f es marks
cut_report f es marks =
    let total : List ℕ = total_line f es in
    let last : lines_in total ≡ total ∷ []
    = ap lines_in (sym (append-nil total)) ∙ cut_line total [] (totals_end (totals_of f es)) in
    simp (cut_line, cut_pages, last)

-- ---- each is allowed
module _ (f : Profile) (l : Whole) (true_marks : AreTrueMarks f l) (r : Stand) where
  -- where this is due
  abbrev showing : List Due → Stand
  showing due = record r { events = visible l; due = due; left = [] }

  -- the true marks are allowed, and the page has a deed
  allowed : (page : ℕ) (d : Directory) (more : List Due) → 1 ≤ page → page ≤ f.pages → deed_in (visible l) page ≡ Some d
      → AreAllowedMarks (showing (Shows page d ∷ more)) page d (marks_after l page)
  allowed page d more low high deed = search arith

  page_leads : (page : ℕ) (o : Option Directory) (more : List Due) → 1 ≤ page → page ≤ f.pages → deed_in (visible l) page ≡ o
      → LeadsOn f (showing (page_due page o ++ more)) (page_line (visible l) page o (marks_after l page)) (showing more)
  page_leads page None more low high deed = on_same refl
  page_leads page (Some d) more low high deed =
      on_line (inr record { marks = marks_after l page; allowed = allowed page d more low high deed; line_is = refl; next_is = refl })

  pages_lead : (n : ℕ) (more : List Due) → n ≤ f.pages
      → LeadsOn f (showing (pages_due (visible l) n ++ more)) (page_lines (visible l) (marks_after l) n) (showing more)
  pages_lead zero more le = on_same refl
  pages_lead (suc n) more le =
      let es : List Event = visible l in
      let here : List Due = page_due (suc n) (deed_in es (suc n)) in
      on_both (on_same (ap (λ ds. showing ds) (append_assoc (pages_due es n) here more)))
      (on_both (pages_lead n (here ++ more) (omega (arith, le)))
      (page_leads (suc n) (deed_in es (suc n)) more (omega arith) le refl))

  -- THE REPORT
  report_whole : r.events ≡ visible l → r.due ≡ [] → r.left ≡ Reports ∷ [] → IsWhole f r (report_lines f (visible l) (marks_after l))
  report_whole events due left =
      let es : List Event = visible l in
      let pages : List Due = pages_due es f.pages ++ Totals ∷ [] in
      let begun : LeadsOn f r [] (showing (Heads ∷ pages))
      = on_as refl (ap (λ xs. record r { events = xs; due = Heads ∷ (pages_due xs f.pages ++ Totals ∷ []); left = [] }) (sym events)) (on_task due left) in
      let head : LeadsOn f (showing (Heads ∷ pages)) (head_line ∷ []) (showing pages) = on_line (inr (refl, refl)) in
      let total : LeadsOn f (showing (Totals ∷ [])) (total_line f es ∷ []) (showing []) = on_line (inr (refl, refl)) in
      let rest : LeadsOn f (showing pages) (page_lines es (marks_after l) f.pages ++ total_line f es ∷ []) (showing [])
      = on_both (pages_lead f.pages (Totals ∷ []) (omega arith)) total in
      let all : LeadsOn f r (report_lines f es (marks_after l)) (showing [])
      = on_both begun (on_both head rest) in
      subst (IsWhole f r) (append-nil (report_lines f es (marks_after l))) (all.on [] (showing [], refl, refl))

-- ---- Every transcript of a replay in the order of the text is accepted
-- ---- Acts stand in their places: whenever a thread may be stopped as idle, the scavenger read the epoch just before; and a keeper acts only for requests whose guards it keeps
-- ---- whether the epoch that the scavenger read is known to be that of the word
abbrev pub read_after : Bool → Act → Bool
read_after known ReadsEpoch = true
read_after known (StopsIdle k n) = known
read_after known act = false

abbrev pub MayStand : Bool → Act → Type 0
MayStand known (StopsIdle k n) = known ≡ true
MayStand known (Guards keeper op) = keeper_in op.what ≡ Some keeper
MayStand known act = Unit {0}

abbrev pub AreInPlace : Bool → List Act → Type 0
AreInPlace known [] = Unit {0}
AreInPlace known (act ∷ acts) = MayStand known act × AreInPlace (read_after known act) acts

abbrev pub IsRead : Bool → Progress → Type 0
IsRead known p = known ≡ true → p.epoch ≡ word_after p.list Word.Epoch

-- An act that may stand where it does, by what is known of the scavenger's epoch, is in its place.
in_place : (known : Bool) (act : Act) (p : Progress) → MayStand known act → IsRead known p → IsInPlace act p
in_place known act p is read = search arith

-- False isn't true.
never : {A : Type 0} → false ≡ true → A
never is = absurd (true≢false (sym is))

read_as : (known : Bool) (p q : Progress) → q ≡ p → IsRead known p → IsRead known q
read_as known p q same read = subst (IsRead known) (sym same) read

-- What is known of the epoch that the scavenger read stays true after each act.
still_read : (f : Profile) (known : Bool) (act : Act) (p q : Progress) → Advances f act p q → Legal f q.list → IsRead known p
    → IsRead (read_after known act) q
still_read f known ReadsEpoch p q did legal read = λ is. subst (λ (x : Progress). x.epoch ≡ word_after x.list Word.Epoch) (sym did.1) (subst (λ (x : Progress). Legal f x.list) did.1 legal).0.answer_is
still_read f known (StopsIdle k n) p q (inl so) legal read = read_as known _ q so.4 (λ is. read is ∙ sym (epoch_kept freeing refl k so.1 p.list (stop_only k (p.caches k) so.2 so.1 so.3)))
still_read f known (StopsIdle k n) p q (inr stays) legal read = read_as known p q stays.1 read
still_read f known act p q did legal read = never

-- ---- it is so in the acts of every plan
abbrev Anyhow : List Act → Type 0
Anyhow acts = (known : Bool) → AreInPlace known acts

stops_on : (n : ℕ) (idle : List ℕ) (rest : List Act) → Anyhow rest → AreInPlace true (idle_stops n idle ++ rest)
stops_on n [] rest on = on true
stops_on n (k ∷ idle) rest on = (refl, stops_on n idle rest on)

chore_on : (idle : List ℕ) (chore : Chore) (rest : List Act) → Anyhow rest → Anyhow (acts_of_chore idle chore ++ rest)
chore_on idle (Chore.Idle n) rest on known = (tt, stops_on n idle rest on)
chore_on idle other rest on known = (tt, on false)

-- in each case it computes, or is given
own_on : (keeper : Option ℕ) (op : Op) (rest : List Act) → keeper_in op.what ≡ keeper → Anyhow rest → Anyhow (act_kept keeper op ∷ (Settles op.actor ∷ rest))
own_on None op rest kept on known = (tt, (tt, on false))
own_on (Some keeper) op rest kept on known = (kept, (tt, on false))

work_on : (idle : List ℕ) (op : Op) (work : Work) (rest : List Act) → work_of op.what ≡ work → Anyhow rest → Anyhow (acts_of_work idle op work ++ rest)
work_on idle op (Work.Own task) rest is on known = own_on (keeper_of task) op rest (ap (of_task keeper_of) is) on known
work_on idle op (Work.Chore chore) rest is on known = chore_on idle chore rest on known

ops_on : (idle : List ℕ) (ops : List Op) (rest : List Act) → Anyhow rest → Anyhow (acts_of_ops idle ops ++ rest)
ops_on idle [] rest on known = on known
ops_on idle (op ∷ ops) rest on known =
    subst (AreInPlace known) (sym (append_assoc (acts_of_op idle op) (acts_of_ops idle ops) rest))
    (work_on idle op (work_of op.what) (acts_of_ops idle ops ++ rest) refl (ops_on idle ops rest on) known)

wakes_on : (ks : List ℕ) (rest : List Act) → Anyhow rest → Anyhow (map Wakes ks ++ rest)
wakes_on [] rest on known = on known
wakes_on (k ∷ ks) rest on known = (tt, wakes_on ks rest on false)

phase_on : (threads : ℕ) (ops : List Op) (rest : List Act) → Anyhow rest → Anyhow (phase_acts threads ops ++ rest)
phase_on threads ops rest on known = search (arith, append_assoc, wakes_on, ops_on)

lowers_on : (ks : List ℕ) → Anyhow (map Lowers ks)
lowers_on [] known = tt
lowers_on (k ∷ ks) known = (tt, lowers_on ks false)

ends_on : (ks : List ℕ) (rest : List Act) → Anyhow rest → Anyhow (map Ends ks ++ rest)
ends_on [] rest on known = on known
ends_on (k ∷ ks) rest on known = (tt, ends_on ks rest on false)

close_on : (threads keepers : ℕ) → Anyhow (close_acts threads keepers)
close_on threads keepers known = (tt, ends_on (numbers_from 1 threads) (map Lowers (numbers_from (threads + 1) keepers)) (lowers_on (numbers_from (threads + 1) keepers)) false)

from_on : (threads keepers n : ℕ) (phases : List (List Op)) → Anyhow (acts_from threads keepers n phases)
from_on threads keepers n [] known = close_on threads keepers known
from_on threads keepers n (phase ∷ phases) known = (tt, phase_on threads phase (acts_from threads keepers (n + 1) phases) (from_on threads keepers (n + 1) phases) false)

-- The acts of a plan all stand in their places.
acts_in_place : (threads keepers : ℕ) (phases : List (List Op)) (known : Bool) → AreInPlace known (acts_of threads keepers phases)
acts_in_place threads keepers [] known = close_on threads keepers known
acts_in_place threads keepers (phase ∷ phases) known = phase_on threads phase (acts_from threads keepers 2 phases) (from_on threads keepers 2 phases) known

-- ---- Which transcripts are whole doesn't hang on how many actors the region has
module _ (f : Profile) (n : ℕ) where
  abbrev other : Profile
  other = record f { threads = n }

  -- ---- what is begun
  named_same : (s : Stand) (k name room : ℕ) (o : Option (Option Block)) → freeing_named other s k name room o ≡ freeing_named f s k name room o
  named_same s k name room o = search arith

  what_same : (s : Stand) (k : ℕ) (what : What) → begun_what other s k what ≡ begun_what f s k what
  what_same s k what = search (arith, named_same)

  act_same : (s : Stand) (act : Act) → begun_act other s act ≡ begun_act f s act
  act_same s act = search (arith, what_same)

  task_same : (s : Stand) (t : Task) → begun other s t ≡ begun f s t
  task_same s t = search (arith, act_same)

  begun_same : (ts : List Task) (s : Stand) → begun_from other s ts ≡ begun_from f s ts
  begun_same [] s = refl
  begun_same (t ∷ ts) s =
      let e : after_task other s t ts ≡ after_task f s t ts = ap (λ (x : Stand). record x { left = ts }) (task_same s t) in
      (λ i. settled_with (e i).due (e i) (begun_from other (e i) ts)) ∙ ap (settled_with (after_task f s t ts).due (after_task f s t ts)) (begun_same ts (after_task f s t ts))

  with_same : (s : Stand) (due : List Due) → ready_with other s due ≡ ready_with f s due
  with_same s due = search (arith, begun_same)

  ready_same : (s : Stand) → ready other s ≡ ready f s
  ready_same s = with_same s (past_outcomes s.due)

  -- ---- which line may come
  bears : (es : List Event) (heap page : ℕ) → Bears other es heap page → Bears f es heap page
  bears es heap page h = record { exists = h.exists; directory = h.directory; deed = h.deed; of_heap = h.of_heap; backed = h.backed }

  -- What is admitted by one profile is by the other, which says the same.
  admits : (es : List Event) (e : Event) → Admits other es e → Admits f es e
  admits es e h = search (arith, bears)

  is_for : (s : Stand) (r : Request) (block : Block) → IsFor other s r block → IsFor f s r block
  is_for s r block h = record { heap = h.heap; room = h.room; aligned = h.aligned; deeds = h.deeds }

  -- So is what answers a request,
  serves : (s : Stand) (k : ℕ) (r : Request) (item : Record) → MayServe other s k r item → MayServe f s k r item
  serves s k r item may = search (arith, admits, is_for)

  -- a line of a request that is taken,
  request : (s : Stand) (k : ℕ) (r : Request) (old : Option Name) (more : List Due) (line : List ℕ) (next : Stand) → TakesRequest other s k r old more line next
      → TakesRequest f s k r old more line next
  request s k r old more line next is = record { item = is.item; may = serves s k r is.item is.may; line_is = is.line_is; next_is = is.next_is }

  -- in each case it computes, or is given
  kept_same : (o : Option Block) (s : Stand) (keeper k : ℕ) (r : Request) (backed : Bool) (more : List Due)
      → kept_next o other s keeper k r backed more ≡ kept_next o f s keeper k r backed more
  kept_same o s keeper k r backed more = search arith

  -- an outcome goes by the threads of no profile
  outcome_of : (s : Stand) (last : ℕ) (more : List Due) (line : List ℕ) (next : Stand) → TakesOutcome other s last more line next
      → TakesOutcome f s last more line next
  outcome_of s last more line next h =
      search arith

  due_of : (s : Stand) (due : List Due) (line : List ℕ) (next : Stand) → TakesDue other s due line next → TakesDue f s due line next
  due_of s due line next h = search (arith, admits, request, serves, kept_same, outcome_of)

  -- each line,
  takes : (s : Stand) (line : List ℕ) (next : Stand) → Takes other s line next → Takes f s line next
  takes s line next is = search (arith, ready_same, due_of)

  -- and all lines in turn.
  goes : (s : Stand) (lines : List (List ℕ)) (end : Stand) → Goes other s lines end → Goes f s lines end
  goes s [] end h = h
  goes s (line ∷ lines) end h = (h.0, takes s line h.0 h.1, goes h.0 lines end h.2)

  -- SO A WHOLE TRANSCRIPT is whole for the region of another number of actors
  whole_in : (s : Stand) (lines : List (List ℕ)) → IsWhole other s lines → IsWhole f s lines
  whole_in s lines h = (h.0, goes s lines h.0 h.1, subst (λ (t : Stand). t.due ≡ []) (ready_same h.0) h.2)

-- ---- THE WHOLE REPLAY: its acts one after the other, and then its report
-- ---- acts
written_none : (f : Profile) (p q : Progress) (s : Stand) (ts : List Task) → Tells p s → s.due ≡ [] → s.left ≡ ts → q ≡ p → Written f p s q ts
written_none f p q s ts tells due left same =
    let there : s ≡ record s { due = []; left = ts } = λ i. record s { due = due i; left = left i } in (
      [],
      ap (λ (x : Progress). x.records) same ∙ sym (append-nil p.records),
      record { end = s; leads = on_same there; tells = subst (λ (u : Stand). Tells q u) there (subst (λ (x : Progress). Tells x s) (sym same) tells) },
    )

written_both : (f : Profile) (p q r : Progress) (s : Stand) (us ts : List Task) (one : Written f p s q us)
    → Written f q (record one.2.end { due = []; left = us }) r ts → Written f p s r ts
written_both f p q r s us ts one rest = (
  one.0 ++ rest.0,
  rest.1 ∙ ap (λ (rs : List Record). rs ++ rest.0) one.1 ∙ append_assoc p.records one.0 rest.0,
  record {
    end = rest.2.end;
    leads = on_as (lines_both one.0 rest.0) refl (on_both one.2.leads rest.2.leads);
    tells = rest.2.tells;
  },
)

acts_written : (f : Profile) → IsValid f → (acts : List Act) (known : Bool) (p q : Progress) (s : Stand) (ts : List Task) → Tells p s → s.due ≡ []
    → s.left ≡ map Does acts ++ ts → (is : Reaches f acts p q) → AllRefuseTruly f acts p q is
    → AreInPlace known acts → IsRead known p → Legal f q.list → Written f p s q ts
acts_written f valid [] known p q s ts tells due left is truly are read legal = written_none f p q s ts tells due left is
acts_written f valid (act ∷ acts) known p q s ts tells due left is truly are read legal =
    let next : Progress = is.0 in
    let more : List Task = map Does acts ++ ts in
    let there : Legal f next.list = was_so f (Legal f) (legal_before f) acts next q is.2 legal in
    let one : Written f p s next more = act_written f valid p s more tells due act next left is.1 truly.0 (in_place known act p are.0 read) there in
    written_both f p next q s more ts one
    (acts_written f valid acts (read_after known act) next q (record one.2.end { due = []; left = more }) ts one.2.tells refl refl is.2 truly.1 are.1
    (still_read f known act p next is.1 there read) legal)

-- ---- before the first act
first_tells : (plan : Plan) → Tells at_start (at_first plan)
first_tells plan = record { events = refl; names = refl; logs = λ k. refl; idle_since = λ k. refl; epoch = refl; books = record { told = λ j. refl; aligned = λ j. tt }; tidy = λ k. record { kept = tt; stamped = λ page. refl } }

acts_of_replay : (plan : Plan) (whole : Whole) (records : List Record) → IsValid (region_of plan) → (is : IsReplay InOrder plan whole records)
    → Written (region_of plan) at_start (at_first plan) is.reached (Reports ∷ [])
acts_of_replay plan whole records valid is =
    acts_written (region_of plan) valid (acts_of_plan plan) false at_start is.reached (at_first plan) (Reports ∷ [])
    (first_tells plan) refl refl is.answers is.refusals (acts_in_place (threads_of plan) (keepers_of plan) (phases_of plan) false)
    (λ bad. absurd (true≢false (sym bad))) (subst (Legal (region_of plan)) is.one_order is.legal)

-- the report comes after them
reported : (f : Profile) (s : Stand) (q : Progress) (whole : Whole) (rs : List Record) → AreTrueMarks f whole → whole ≡ q.list → Comes f s rs q (Reports ∷ [])
    → IsWhole f s (lines_by rs ++ report_lines f (visible whole) (marks_after whole))
reported f s q whole rs marks order come = come.leads.on (report_lines f (visible whole) (marks_after whole))
    (report_whole f whole marks (record come.end { due = []; left = Reports ∷ [] }) (come.tells.events ∙ sym (ap visible order)) refl refl)

written_text : (f : Profile) (records : List Record) (es : List Event) (marks : ℕ → Marked)
    → lines_in (lines_of records ++ report_text f es marks) ≡ lines_by records ++ report_lines f es marks
written_text f records es marks = cut_records records (report_text f es marks) ∙ ap (λ ls. lines_by records ++ ls) (cut_report f es marks)

transcript_whole : (f : Profile) (s : Stand) (q : Progress) (whole : Whole) (records : List Record) → AreTrueMarks f whole → whole ≡ q.list
    → records ≡ q.records → Written f at_start s q (Reports ∷ [])
    → IsWhole f s (lines_in (lines_of records ++ report_text f (visible whole) (marks_after whole)))
transcript_whole f s q whole records marks order same written =
    subst (IsWhole f s) (sym (written_text f records (visible whole) (marks_after whole)))
    (subst (λ (rs : List Record). IsWhole f s (lines_by rs ++ report_lines f (visible whole) (marks_after whole))) (sym (same ∙ written.1))
    (reported f s q whole written.0 marks order written.2))

-- EVERY TRANSCRIPT of a replay in the order of the text is accepted
pub replay_accepted : (plan : Plan) (whole : Whole) (records : List Record) → IsValid (region_of plan) → IsReplay InOrder plan whole records
    → IsAccepted plan (lines_of records ++ report_text plan.profile (visible whole) (marks_after whole))
replay_accepted plan whole records valid is =
    whole_in plan.profile (region_of plan).threads (at_first plan) (lines_in (lines_of records ++ report_text plan.profile (visible whole) (marks_after whole)))
    (transcript_whole (region_of plan) (at_first plan) is.reached whole records is.marks is.one_order is.records_are (acts_of_replay plan whole records valid is))
