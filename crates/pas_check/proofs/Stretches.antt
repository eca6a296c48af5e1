-- Stretches of lines: of a log that is emptied, of a request, of a pass, and of requests that are guarded.
use Rattle.std.proofs.Common.{◌≡◌, ℕ, ◌+◌, ◌^◌, ◌<◌, true, false, List, [], ◌∷◌, ◌++◌, inl, inr, refl, ap, sym, subst, ◌∙◌, arith, Option, None, Some, ◌↔◌}
use Rattle.std.{proofs.{Common.{Bool, ◌≢◌, ◌==◌, if◌then◌else◌, cond, map, eqb-true, ◌||◌, IfSome, MatchBool}, lemmas.Bool.false≢true}, specs.List.filter}
use Rattle.std.specs.Global.{Vec}
use Rattle.pas_profile.specs.{Guards.raised_by, Directories.IsKind, Profiles.IsValid, Blocks.address_of, declared.event.{Event.Event, Outcome.Outcome}}
use Rattle.pas_profile.specs.declared.{name.{Block.Block, Name.Name}, profile.Profile.Profile, entry.Entry.Entry, guard.Raised.Raised}
use Rattle.pas_machine.specs.{Machines.{profile_of, StandsFor}, Machine.{IsPlace, Run}, State.ends_in, declared.machine.Machine.Machine}
use Rattle.pas_check.specs.Begins.{entries_due, ready, has_sides, raising, goes_down, guard_of, lowered_due, page_above, page_below, sweeping}
use Rattle.pas_check.specs.Calls.{EntriesTaken, EntryTaken, IsAsked, IsWanted, RequestGoes, RequestTaken, after_request, IsExamining, OutcomeTaken, OutcomesGo}
use Rattle.pas_check.specs.Calls.{OutcomesTaken, after_pass, IsTrying, TrialGoes, TrialTaken, LinesSwept, staying, EventTaken, IsRead, RefusalSeen, RefusesBy}
use Rattle.pas_check.specs.{Leading.{IsWithin, lines_from, Fails, Leads, IsLineLed}, Takes.{IsEventOf, TakesEntry, TakesRequest, directory_of, Takes}}
use Rattle.pas_check.specs.Takes.{TakesOutcome, after_outcome, TakesKeeping, TakesTry, serving, IsServing, MayServe, after_record, block_in, after_keeping}
use Rattle.pas_check.specs.{Takes.{given_next, is_back, kept_next, record_of}, States.{Due, Frees, Stand, with_due, with_one, Serves, with_name, Examines}}
use Rattle.pas_check.specs.{States.{Tries, Writes, Never}, declared.{cutting.Cursor.Cursor, serving.Wanted.Wanted, guarding.Trial.TheVariants.{Gives, Passes}}}
use Rattle.pas_check.specs.{declared.{guarding.Trial.TheVariants.Stops, acting.Judge.Judge, naming.Names.Names}, Bounds.{IsSmall, IsKept, FitsTry}}
use Rattle.pas_check.{specs.{Tables.meant, Tasks.{ActTaken, AsksKeeper, Comes, GuardsSwept, IsCarried, Stands}}, proofs.OneNext.{one_event, one_next}}
use Rattle.pas_check.proofs.{OneNext.{one_takes, kept_fits, no_answer, outcome_fits, serves_fits}, Leads.{EndsBy, kept_more, reaches_here, kept_same, small_of}}
use Rattle.pas_check.proofs.Leads.{then_fails, then_lacks, then_leads, IsSameAt, leads_idly, leads_line, leads_on, due_takes, takes_due, undone, due_lacks}
use Rattle.pas_check.proofs.{Leads.{due_refused, leads_nowhere, led_on, few_lines}, Actings.{comes_answered, comes_as, comes_led, comes_on, fits_wanted}}
use Rattle.pas_trace.specs.{declared.item.Request.Request, Acts.Act}
use Rattle.pas_records.specs.{Lines.line_of, declared.record.{Record.Record, Said.Said}}

-- ---- The lines of the entries of a log, one after the other
ends_by : (s : Stand) (k : ℕ) (entry : Entry) (e : Event) → IsEventOf s k entry e → EndsBy s.epoch e
ends_by s k entry e is = search arith

module _ {old : Machine} {text : List ℕ} {from : Cursor} {k : ℕ} {log : List Entry} {epoch : ℕ} where
  -- Before any line, no entry of the log is taken.
  pub entries_begin : IsWithin text from → EntriesTaken old old text from from k log log epoch true
  entries_begin within = record { taken = λ s more stands same kept due. reaches_here within stands kept due }

  module _ {mid : Machine} {at to : Cursor} {entry : Entry} {entries : List Entry}
      (before : EntriesTaken old mid text from at k log (entry ∷ entries) epoch true)
      (count : to.lines ≡ at.lines + 1) where
    -- no line is left
    pub entries_lack : lines_from text at ≡ [] → EntriesTaken old mid text from to k log [] epoch false
    entries_lack none = record {
      taken = λ s more stands same kept due.
          then_lacks to (before.taken s more stands same kept due).led (Frees k entry) (entries_due k entries ++ more) refl refl count none;
    }

    module _ (new : Machine) {line : List ℕ} (same_profile : profile_of mid ≡ profile_of old) (has : lines_from text at ≡ line ∷ lines_from text to) where
      -- it is the entry's
      pub entries_more : IsWithin text to → EntryTaken (profile_of mid) mid new k entry epoch line true
          → EntriesTaken old new text from to k log entries epoch true
      entries_more within taken = record {
        taken = λ s more stands same kept due.
            let f = profile_of old in
            let b = before.taken s more stands same kept due in
            let rest : List Due = entries_due k entries ++ more in
            let t : Stand = record s { events = b.events; due = Frees k entry ∷ rest } in
            let e : Event = taken.0 in
            let is = (subst (λ g. EntryTaken g mid new k entry epoch line true) same_profile taken).2 t b.stands same in
            let next : Stand = with_due (with_one t e) rest in
            let takes : TakesEntry f t k entry rest line next
            = record { event = e; of_entry = is.0; admitted = is.1; line_is = taken.1; next_is = refl } in record {
              events = e ∷ b.events;
              led = then_leads to b.led (Frees k entry) rest refl refl count has within takes (λ other x. cc (one_event t k entry x.event e x.of_entry is.0));
              stands = is.2;
              kept = kept_more next t at to e refl refl count (ends_by t k entry e is.0) b.kept;
            };
      }

      -- it isn't
      pub entries_amiss : IsWithin text at → EntryTaken (profile_of mid) mid new k entry epoch line false
          → EntriesTaken old new text from to k log [] epoch false
      entries_amiss here taken = record {
        taken = λ s more stands same kept due.
            let b = before.taken s more stands same kept due in
            let rest : List Due = entries_due k entries ++ more in
            let t : Stand = record s { events = b.events; due = Frees k entry ∷ rest } in
            then_fails to b.led (Frees k entry) rest refl refl count has
            (λ next x. (subst (λ g. EntryTaken g mid new k entry epoch line false) same_profile taken).1 t x.event b.stands
            (omega (arith, b.kept.few, few_lines here)) same x.of_entry x.admitted x.line_is);
      }

-- ---- The lines of a request, one after the other
-- An event that serves a request is no end, and its deed's kind is one.
served_keeps : (f : Profile) (s : Stand) (k : ℕ) (r : Request) (epoch : ℕ) (e : Event) → IsKind (directory_of f r).kind → IsServing f s k r e → EndsBy epoch e
served_keeps f s k r epoch e kind is = search arith

module _ {old : Machine} {text : List ℕ} {from : Cursor} {k : ℕ} {w : Wanted} where
  -- Before any line, nothing was taken of a request.
  pub request_begins : IsWithin text from → RequestGoes old old text from from k w
  request_begins within = record { goes = λ s r replaced more asked. reaches_here within asked.stands asked.kept asked.due }

  module _ {mid : Machine} {at : Cursor} (before : RequestGoes old mid text from at k w) (to : Cursor) (count : to.lines ≡ at.lines + 1) where
    -- no line is left
    pub request_lacks : lines_from text at ≡ [] → RequestTaken old mid text from to k w None
    request_lacks none s r replaced more asked = then_lacks to (before.goes s r replaced more asked).led (Serves k r replaced) more refl refl count none

    module _ {line : List ℕ} {found : Option Record} (valid : IsValid (profile_of old)) (same : profile_of mid ≡ profile_of old) (here : IsWithin text at)
        (has : lines_from text at ≡ line ∷ lines_from text to) (read : IsRead line found) where
      -- where it goes on
      module _ (s : Stand) (r : Request) (replaced : Option Name) (more : List Due) (asked : IsAsked old s from k w r replaced more) where
        abbrev t : Stand
        t = record s { events = (before.goes s r replaced more asked).events; due = Serves k r replaced ∷ more }

        -- The state's numbers are small enough.
        small : IsSmall (profile_of old) t
        small = let b = before.goes s r replaced more asked in small_of (profile_of old) mid t at same valid b.stands b.kept (few_lines here) asked.epoch

        -- The record that was read leads to what follows from it, where it answers the request.
        answers : IsWithin text to → (item : Record) → found ≡ Some item → MayServe (profile_of old) t k r item
            → Leads (profile_of old) text s from (after_record t k r replaced more item) to
        answers within item is may =
            let takes : TakesRequest (profile_of old) t k r replaced more line (after_record t k r replaced more item)
            = record { item = item; may = may; line_is = subst (λ o. IfSome o (λ q. line ≡ line_of q)) is read.some; next_is = refl } in
            then_leads to (before.goes s r replaced more asked).led (Serves k r replaced) more refl refl count has within takes
            (λ other x. one_next (profile_of old) t small (Serves k r replaced ∷ more) asked.fits line other (after_record t k r replaced more item) x takes)

        -- Where it is none that does, the line can't be taken.
        answers_none : ((item : Record) → found ≡ Some item → MayServe (profile_of old) t k r item → ⊥) → Fails (profile_of old) text s from to.lines
        answers_none never = then_fails to (before.goes s r replaced more asked).led (Serves k r replaced) more refl refl count has
            (λ next x. never x.item (read.only x.item (serves_fits (profile_of old) t small k r asked.fits x.item x.may) x.line_is) x.may)

      -- an event was taken
      module _ (new : Machine) (e : Event) (taken : EventTaken (profile_of mid) mid new k w found (Some e)) where
        served : (s : Stand) (r : Request) (replaced : Option Name) (more : List Due) (asked : IsAsked old s from k w r replaced more)
            → MayServe (profile_of old) (t s r replaced more asked) k r (Record.Event e) × StandsFor new (e ∷ (before.goes s r replaced more asked).events)
        served s r replaced more asked = (subst (λ f. EventTaken f mid new k w found (Some e)) same taken).1 (t s r replaced more asked) r asked.wants
            (before.goes s r replaced more asked).stands

        -- a deed or a back
        pub request_goes_on : IsWithin text to → block_in e ≡ None → RequestGoes old new text from to k w
        request_goes_on within none = record {
          goes = λ s r replaced more asked.
              let u = t s r replaced more asked in
              let got = served s r replaced more asked in record {
                events = e ∷ u.events;
                led = rw none at (answers s r replaced more asked within (Record.Event e) taken.0 got.0);
                stands = got.1;
                kept = kept_more (with_one u e) u at to e refl refl count (served_keeps (profile_of old) u k r u.epoch e asked.fits.kind got.0.0)
                    (before.goes s r replaced more asked).kept;
              };
        }

        -- the give of a block
        pub request_gives : IsWithin text to → (block : Block) → block_in e ≡ Some block → RequestTaken old new text from to k w (Some (Some block))
        request_gives within block gives s r replaced more asked =
            let u = t s r replaced more asked in
            let got = served s r replaced more asked in
            let there : given_next (block_in e) (with_one u e) k r replaced more ≡ after_request (record s { events = e ∷ u.events }) k r replaced (Some block) more
            = simp (gives, ← asked.due) in (
              e ∷ u.events,
              subst (λ (v : Stand). Leads (profile_of old) text s from v to) there (answers s r replaced more asked within (Record.Event e) taken.0 got.0),
              got.1,
              kept_more (record s { events = e ∷ u.events }) u at to e refl refl count (served_keeps (profile_of old) u k r u.epoch e asked.fits.kind got.0.0)
                  (before.goes s r replaced more asked).kept,
            )

      -- no event was taken
      module _ {stood : Machine} (none : EventTaken (profile_of mid) mid stood k w found None) (s : Stand) (r : Request) (replaced : Option Name)
          (more : List Due)
          (asked : IsAsked old s from k w r replaced more) where
        still_stands : StandsFor stood (t s r replaced more asked).events
        still_stands = subst (λ (m : Machine). StandsFor m (t s r replaced more asked).events) (sym none.0) (before.goes s r replaced more asked).stands

        seen_here : (is : Bool) → RefusalSeen (profile_of stood) stood k w found is
            → MatchBool is (RefusesBy (profile_of old) (t s r replaced more asked) k r found) (RefusesBy (profile_of old) (t s r replaced more asked) k r found
            → ⊥)
        seen_here is seen = subst (λ f. RefusalSeen f stood k w found is) (ap (λ (m : Machine). profile_of m) none.0 ∙ same) seen
            (t s r replaced more asked) r asked.wants still_stands

        no_event : (e : Event) → found ≡ Some (Record.Event e) → MayServe (profile_of old) (t s r replaced more asked) k r (Record.Event e) → ⊥
        no_event e is may = (subst (λ f. EventTaken f mid stood k w found None) same none).1 (t s r replaced more asked) r e asked.wants
            (before.goes s r replaced more asked).stands (omega (arith, (before.goes s r replaced more asked).kept.few, few_lines here)) is may

      -- A refusal ends the request.
      pub request_refused : {stood : Machine} → IsWithin text to → EventTaken (profile_of mid) mid stood k w found None
          → RefusalSeen (profile_of stood) stood k w found true → RequestTaken old stood text from to k w (Some None)
      request_refused within none seen s r replaced more asked =
          let u = t s r replaced more asked in
          let by = seen_here none s r replaced more asked true seen in (
            u.events,
            answers s r replaced more asked within (Record.Said k by.0) by.2 (refl, by.1),
            still_stands none s r replaced more asked,
            kept_same (record s { events = u.events }) u at to refl refl (omega (arith, count)) (before.goes s r replaced more asked).kept,
          )

      -- A line that is neither isn't allowed.
      pub request_fails : {stood : Machine} → EventTaken (profile_of mid) mid stood k w found None
          → RefusalSeen (profile_of stood) stood k w found false → RequestTaken old stood text from to k w None
      request_fails none seen s r replaced more asked = answers_none s r replaced more asked
          (no_answer (profile_of old) (t s r replaced more asked) k r (no_event none s r replaced more asked) (seen_here none s r replaced more asked false seen))

-- ---- The lines of the outcomes of a pass, one after the other
-- ---- what an outcome changes
outcome_shape : (t : Stand) (page : ℕ) (o : Outcome) → after_outcome t page o ≡ record t { events = (after_outcome t page o).events }
outcome_shape t page o = search arith

outcome_kept : (u t : Stand) (page : ℕ) (o : Outcome) (at to : Cursor) → u.events ≡ (after_outcome t page o).events → u.epoch ≡ t.epoch
    → to.lines ≡ at.lines + 1 → IsKept t at → IsKept u to
outcome_kept u t page o at to events epoch count kept = search (arith, kept_more, kept_same)

-- another state of the same events is small: but for the epoch, its bounds are of the events
small_as : (f : Profile) (s t : Stand) → t.events ≡ s.events → t.epoch < 2 ^ 64 → IsSmall f s → IsSmall f t
small_as f s t events epoch small = search arith

module _ {old : Machine} {text : List ℕ} {from : Cursor} {epoch : ℕ} where
  -- Before any line, a pass has no outcome.
  pub outcomes_begin : IsWithin text from → OutcomesGo old old text from from 0 epoch
  outcomes_begin within = record { goes = λ s ex. reaches_here within ex.stands ex.kept ex.due }

  module _ {mid : Machine} {at : Cursor} {last : ℕ} (before : OutcomesGo old mid text from at last epoch) where
    abbrev passing : (s : Stand) → IsExamining old s from 0 epoch → Stand
    passing s ex = record s { events = (before.goes s ex).events; due = Examines last ∷ [] }

    -- the pass is over where no line is left, or the next one is none of its outcomes
    outcomes_end : IsWithin text at → ((s : Stand) (ex : IsExamining old s from 0 epoch)
        → IsSameAt (profile_of old) text (passing s ex) (with_due (passing s ex) []) at (lines_from text at)) → OutcomesTaken old mid text from at epoch
    outcomes_end within same = record {
      taken = λ s ex.
          let b = before.goes s ex in search (arith, leads_on, leads_idly, kept_same);
    }

    -- Where no line is left, the outcomes of a pass are those taken so far.
    pub outcomes_lack : IsWithin text at → lines_from text at ≡ [] → OutcomesTaken old mid text from at epoch
    outcomes_lack within none = outcomes_end within (λ s ex. subst (IsSameAt (profile_of old) text (passing s ex) (with_due (passing s ex) []) at) (sym none) tt)

    module _ {line : List ℕ} {rest : List (List ℕ)} {found : Option Record} (valid : IsValid (profile_of old)) (same : profile_of mid ≡ profile_of old)
        (here : IsWithin text at) (has : lines_from text at ≡ line ∷ rest) (read : IsRead line found) where
      small_passing : (s : Stand) (ex : IsExamining old s from 0 epoch) → IsSmall (profile_of old) (passing s ex)
      small_passing s ex = let b = before.goes s ex in small_of (profile_of old) mid (passing s ex) at same valid b.stands b.kept (few_lines here) (omega (arith, ex.epoch, ex.small))

      -- another line
      module _ (new : Machine) (none : OutcomeTaken (profile_of mid) mid new last epoch found None) where
        -- A line that is taken while a page is examined is taken with nothing else due.
        there : (s : Stand) (ex : IsExamining old s from 0 epoch) (next : Stand) → Takes (profile_of old) (passing s ex) line next
            → Takes (profile_of old) (with_due (passing s ex) []) line next
        there s ex next given = search (arith, outcome_fits, small_passing, few_lines)

        -- in each case it computes, or is given
        back : (s : Stand) (ex : IsExamining old s from 0 epoch) (next : Stand) → Takes (profile_of old) (with_due (passing s ex) []) line next
            → Takes (profile_of old) (passing s ex) line next
        back s ex next is = search arith

        -- A line that tells no outcome ends those of a pass.
        pub outcomes_over : OutcomesTaken old new text from at epoch
        outcomes_over = subst (λ (m : Machine). OutcomesTaken old m text from at epoch) (sym none.0) (outcomes_end here (λ s ex.
            subst (IsSameAt (profile_of old) text (passing s ex) (with_due (passing s ex) []) at) (sym has) (λ next. (there s ex next, back s ex next))))

      -- an outcome more
      pub outcomes_more : (new : Machine) (to : Cursor) (page : ℕ) → rest ≡ lines_from text to → to.lines ≡ at.lines + 1 → IsWithin text to
          → OutcomeTaken (profile_of mid) mid new last epoch found (Some page) → OutcomesGo old new text from to page epoch
      outcomes_more new to page is count within taken = record {
        goes = λ s ex.
            let f = profile_of old in
            let b = before.goes s ex in
            let u = passing s ex in
            let due : List Due = Examines page ∷ [] in
            let got = subst (λ g. OutcomeTaken g mid new last epoch found (Some page)) same taken in
            let o : Outcome = got.0 in
            let came = got.4 u b.stands ex.epoch in
            let next : Stand = with_due (after_outcome u page o) due in
            let of_outcome = got.1 ∙ ap (λ e. Some (record_of e page o)) (sym ex.epoch) in
            let takes : TakesOutcome f u last [] line next = search arith in
            let follows = ex.followed in
            let small_then : IsSmall f (ready f u)
            = small_as f u (after_pass f s u.events) (follows.events u.events) (follows.epoch u.events) (small_passing s ex) in
            let one = one_takes f u (small_passing s ex) small_then (follows.fits u.events) (follows.no_pass u.events) line in
            let shape = ap (λ (v : Stand). with_due v due) (outcome_shape u page o) in record {
              events = (after_outcome u page o).events;
              led = subst (λ (v : Stand). Leads f text s from v to) shape (leads_on b.led
                  (leads_line f text u at next to line (has ∙ ap (λ ls. line ∷ ls) is) count within (inl takes) (λ other x. one other next x (inl takes))));
              stands = came.1;
              kept = outcome_kept (record s { events = (after_outcome u page o).events; due = due }) u page o at to refl refl count b.kept;
            };
      }

-- ---- The lines of a keeper, one after the other
-- what was due before a guard is raised has no part in it
raise_due : (sides : Bool) (v : Stand) (due : List Due) (keeper name : ℕ) (block : Block) (more : List Due)
    → raising sides (with_due v due) keeper name block more ≡ raising sides v keeper name block more
raise_due sides v due keeper name block more = search arith

module _ {old : Machine} {text : List ℕ} {from : Cursor} {keeper : ℕ} {w : Wanted} where
  -- Before any line, nothing was taken of a keeper's try.
  pub trial_begins : IsWithin text from → TrialGoes old old text from from keeper w false
  trial_begins within = record { goes = λ s k r more asked. reaches_here within asked.stands asked.kept asked.due }

  module _ {mid : Machine} {backed : Bool} {at : Cursor} (before : TrialGoes old mid text from at keeper w backed) (to : Cursor)
      (count : to.lines ≡ at.lines + 1) where
    -- no line is left
    pub trial_lacks : lines_from text at ≡ [] → TrialTaken old mid text from to keeper w Stops
    trial_lacks none s k r more asked = then_lacks to (before.goes s k r more asked).led (Tries keeper k r backed) more refl refl count none

    module _ {line : List ℕ} {found : Option Record} (valid : IsValid (profile_of old)) (same : profile_of mid ≡ profile_of old) (here : IsWithin text at)
        (has : lines_from text at ≡ line ∷ lines_from text to) (read : IsRead line found) where
      module _ (s : Stand) (k : ℕ) (r : Request) (more : List Due) (asked : IsTrying old s from keeper k w r more) where
        abbrev trying : Stand
        trying = record s { events = (before.goes s k r more asked).events; due = Tries keeper k r backed ∷ more }

        small_trying : IsSmall (profile_of old) trying
        small_trying = let b = before.goes s k r more asked in small_of (profile_of old) mid trying at same valid b.stands b.kept (few_lines here) asked.epoch

      -- an event was taken
      module _ (new : Machine) (e : Event) (taken : EventTaken (profile_of mid) mid new keeper w found (Some e)) (within : IsWithin text to)
          (s : Stand) (k : ℕ) (r : Request) (more : List Due) (asked : IsTrying old s from keeper k w r more) where
        kept_by : MayServe (profile_of old) (trying s k r more asked) keeper r (Record.Event e) × StandsFor new (e ∷ (trying s k r more asked).events)
        kept_by = (subst (λ f. EventTaken f mid new keeper w found (Some e)) same taken).1 (trying s k r more asked) r asked.wants (before.goes s k r more asked).stands

        kept_leads : Leads (profile_of old) text s from (after_keeping (profile_of old) (trying s k r more asked) keeper k r backed more e) to
        kept_leads =
            let f = profile_of old in
            let u = trying s k r more asked in
            let next = after_keeping f u keeper k r backed more e in
            let is = subst (λ o. IfSome o (λ q. line ≡ line_of q)) taken.0 read.some in
            let takes : TakesKeeping f u keeper k r backed more line next
            = record { event = e; serves = kept_by.0.0; admitted = kept_by.0.1; line_is = is; next_is = refl } in
            then_leads to (before.goes s k r more asked).led (Tries keeper k r backed) more refl refl count has within (inl takes)
            (λ other x. one_next f u (small_trying s k r more asked) (Tries keeper k r backed ∷ more) asked.fits line other next x (inl takes))

        kept_kept : (u : Stand) → u.events ≡ e ∷ (trying s k r more asked).events → u.epoch ≡ s.epoch → IsKept u to
        kept_kept u events epoch = kept_more u (trying s k r more asked) at to e events epoch count
            (served_keeps (profile_of old) (trying s k r more asked) keeper r s.epoch e asked.fits.kept.kind kept_by.0.0) (before.goes s k r more asked).kept

      -- a deed or a back
      pub trial_goes_on : (new : Machine) (e : Event) → EventTaken (profile_of mid) mid new keeper w found (Some e) → IsWithin text to → block_in e ≡ None
          → (now : Bool) → now ≡ (backed || is_back e) → TrialGoes old new text from to keeper w now
      trial_goes_on new e taken within none now is = record {
        goes = λ s k r more asked.
            let u = trying s k r more asked in record {
              events = e ∷ u.events;
              led = subst (λ (v : Stand). Leads (profile_of old) text s from v to)
                  (λ i. kept_next (none i) (profile_of old) (with_one u e) keeper k r (sym is i) more) (kept_leads new e taken within s k r more asked);
              stands = (kept_by new e taken within s k r more asked).1;
              kept = kept_kept new e taken within s k r more asked (record s { events = e ∷ u.events; due = Tries keeper k r now ∷ more }) refl refl;
            };
      }

      -- a give
      pub trial_gives : (new : Machine) (e : Event) → EventTaken (profile_of mid) mid new keeper w found (Some e) → IsWithin text to → (block : Block)
          → block_in e ≡ Some block → TrialTaken old new text from to keeper w (Gives block)
      trial_gives new e taken within block gives s k r more asked =
          let f = profile_of old in
          let u = trying s k r more asked in
          let v : Stand = with_name (record s { events = e ∷ u.events }) r.name (Some block) in (
            e ∷ u.events,
            rw (gives, raise_due (has_sides f block) v u.due keeper r.name block more) at (kept_leads new e taken within s k r more asked),
            (kept_by new e taken within s k r more asked).1,
            kept_kept new e taken within s k r more asked (record s { events = e ∷ u.events }) refl refl,
          )

      -- neither of them
      module _ {stood : Machine} (none : EventTaken (profile_of mid) mid stood keeper w found None) where
        not_kept : (s : Stand) (k : ℕ) (r : Request) (more : List Due) (asked : IsTrying old s from keeper k w r more) (next : Stand)
            → TakesKeeping (profile_of old) (trying s k r more asked) keeper k r backed more line next → ⊥
        not_kept s k r more asked next x =
            let f = profile_of old in
            let u = trying s k r more asked in
            let b = before.goes s k r more asked in
            let is = read.only (Record.Event x.event) (kept_fits f u (small_trying s k r more asked) keeper k r asked.fits backed more line x) x.line_is in
            (subst (λ g. EventTaken g mid stood keeper w found None) same none).1 u r x.event asked.wants b.stands (omega (arith, b.kept.few, few_lines here)) is (x.serves, x.admitted)

        pub trial_stops : backed ≡ true → TrialTaken old stood text from to keeper w Stops
        trial_stops has_backed s k r more asked = then_fails to (before.goes s k r more asked).led (Tries keeper k r backed) more refl refl count has never
          where
            never : (next : Stand) → TakesTry (profile_of old) (trying s k r more asked) keeper k r backed more line next → ⊥
            never next (inl x) = not_kept s k r more asked next x
            never next (inr x) = false≢true (sym x.0 ∙ has_backed)

        module _ (none_backed : backed ≡ false) (s : Stand) (k : ℕ) (r : Request) (more : List Due) (asked : IsTrying old s from keeper k w r more)
            (next : Stand) where
          by_thread : TakesTry (profile_of old) (trying s k r more asked) keeper k r backed more line next
              → Takes (profile_of old) (serving (trying s k r more asked) k r more) line next
          by_thread given = search (arith, not_kept, due_takes)

          alike : Takes (profile_of old) (trying s k r more asked) line next ↔ Takes (profile_of old) (serving (trying s k r more asked) k r more) line next
          alike = (
            λ x. by_thread (takes_due (profile_of old) (trying s k r more asked) (Tries keeper k r backed) more refl refl line next x),
            λ x. due_takes (profile_of old) (trying s k r more asked) (Tries keeper k r backed) more refl refl line next
                (inr (none_backed, takes_due (profile_of old) (serving (trying s k r more asked) k r more) (Serves k r None) more refl refl line next x)),
          )

        pub trial_passes : backed ≡ false → TrialTaken old stood text from to keeper w (Passes at)
        trial_passes none_backed s k r more asked =
            let f = profile_of old in
            let b = before.goes s k r more asked in
            let u = trying s k r more asked in (
              b.events,
              leads_on b.led (leads_idly f text u (serving u k r more) at here (rw has (alike none_backed s k r more asked)) (
                λ done. absurd (undone f u (Tries keeper k r backed) more refl refl done),
                λ done. absurd (undone f (serving u k r more) (Serves k r None) more refl refl done),
              )),
              subst (λ (m : Machine). StandsFor m b.events) (sym none.0) b.stands,
              kept_same (record s { events = b.events }) u at at refl refl (omega arith) b.kept,
            )

-- ---- Guards that are raised and lowered
-- ---- nothing ends where no grain of the region is
no_end : (f : Profile) (t : Bool) (address a old : ℕ) → (address == a) ≡ t → IsPlace f address → (IsPlace f a → ⊥) → old ≡ 0 → (if t then old + 1 else old) ≡ 0
no_end f t address a old same place none before = search (arith, eqb-true)

-- No block ends at an address that is no place of the region.
pub no_ends : (f : Profile) (es : List Event) → Run f es → (a : ℕ) → (IsPlace f a → ⊥) → ends_in es a ≡ 0
no_ends f [] run a none = refl
no_ends f (Event.End k name e ∷ es) run a none = no_end f (address_of name == a) (address_of name) a (ends_in es a) refl run.0.0 none (no_ends f es run.1 a none)
no_ends f (other ∷ es) run a none = no_ends f es run.1 a none

-- ---- the lines of a sweep
module _ {machine : Machine} {text : List ℕ} {from : Cursor} {guards : List Raised} {keeper : ℕ} {all : Bool} where
  -- Before a sweep's first line all guards are to be judged.
  pub sweep_begins : IsWithin text from → LinesSwept machine text from from guards keeper all guards true
  sweep_begins within = record {
    swept = λ f s more stands due. subst (λ (u : Stand). Leads f text s from u from) (ap (with_due s) due) (leads_nowhere f text s from within);
  }

  module _ {at : Cursor} {guard : Raised} {rest : List Raised} (before : LinesSwept machine text from at guards keeper all (guard ∷ rest) true) where
    -- the lines so far, with the guard's own where it goes down
    with_own : (down : Bool) → ((es : List Event) → StandsFor machine es → down ≡ goes_down es keeper all guard) → (f : Profile) (s : Stand) (more : List Due)
        → StandsFor machine s.events → s.due ≡ map lowered_due (filter (goes_down s.events keeper all) guards) ++ more
        → Leads f text s from (with_due s
        (map lowered_due (cond down (guard ∷ filter (goes_down s.events keeper all) rest) (filter (goes_down s.events keeper all) rest)) ++ more)) at
    with_own down tells f s more stands due =
        search arith

    -- A guard that stays up has no line.
    pub sweep_stays : ((es : List Event) → StandsFor machine es → false ≡ goes_down es keeper all guard)
        → LinesSwept machine text from at guards keeper all rest true
    sweep_stays up = record { swept = with_own false up }

    -- A guard that goes down is swept by its line, or the text fails there.
    pub sweep_lowers : {to : Cursor} {is : Bool} → ((es : List Event) → StandsFor machine es → true ≡ goes_down es keeper all guard)
        → IsLineLed text at to (lowered_due guard) is → LinesSwept machine text from to guards keeper all rest is
    sweep_lowers {is = is} down led = record {
      swept = λ f s more stands due.
          let next : List Due = map lowered_due (filter (goes_down s.events keeper all) rest) ++ more in
          led_on is _ _ (with_own true down f s more stands due) (led.led f (with_due s (lowered_due guard ∷ next)) next refl);
    }

-- ---- a judge's sweep
swept_due : {f : Profile} {old : Judge} {from : Cursor} (keeper : ℕ) (all : Bool) (s : Stand) (more : List Due) → Stands f old s from
    → (sweeping s keeper all more).due ≡ map lowered_due (filter (goes_down s.events keeper all) old.guards.items) ++ more
swept_due keeper all s more stands = ap (λ (gs : List Raised). map lowered_due (filter (goes_down s.events keeper all) gs) ++ more) stands.guards

module _ {f : Profile} {text : List ℕ} {old : Judge} {from to : Cursor} {keeper : ℕ} {all : Bool} where
  -- Once each guard was judged, the sweep is taken with those that are left.
  pub swept_on : {guards : Vec Raised} → LinesSwept old.machine text from to old.guards.items keeper all [] true
      → ((es : List Event) → StandsFor old.machine es → guards.items ≡ staying es keeper all old.guards.items)
      → GuardsSwept f text old from (record old { guards = guards }) to keeper all true
  swept_on {guards = guards} lines left = record {
    answered = λ s more ts stands.
        let u : Stand = record (sweeping s keeper all more) { left = ts } in
        let stay : staying s.events keeper all s.guards ≡ guards.items
        = ap (λ (gs : List Raised). staying s.events keeper all gs) stands.guards ∙ sym (left s.events stands.events) in
        let there : Stands f (record old { guards = guards }) (with_due u more) from = search (arith, kept_same) in
        comes_led (with_due u more) there refl refl (lines.swept f u more stands.events (swept_due keeper all s more stands));
  }

  -- Where a line of a lowered guard fails, the sweep isn't taken.
  pub swept_amiss : {new : Judge} → LinesSwept old.machine text from to old.guards.items keeper all [] false
      → GuardsSwept f text old from new to keeper all false
  swept_amiss amiss = record {
    answered = λ s more ts stands. record {
      come = λ enough. amiss.swept f (record (sweeping s keeper all more) { left = ts }) more stands.events (swept_due keeper all s more stands);
    };
  }

-- ---- a request that the keeper tries
module _ {f : Profile} {text : List ℕ} {old : Judge} {from : Cursor} {act : Act} (keeper k : ℕ) (r : Request) (within : IsWithin text from)
    (asks : AsksKeeper f old from act keeper k r) where
  -- Where the sweep before a keeper's try fails, the guarded request isn't taken.
  pub tried_amiss : {new : Judge} {to : Cursor} → GuardsSwept f text old from new to keeper false false → ActTaken f text old from new to act false
  tried_amiss swept = record {
    done = λ s ts next. record { come = (comes_answered within (Tries keeper k r false ∷ []) asks swept s ts next).come };
  }

  -- After its sweep, a guarded request is taken where the lines of its try are.
  pub tried : {mid new : Judge} {at to : Cursor} {is : Bool} → GuardsSwept f text old from mid at keeper false true
      → ((s : Stand) → Stands f mid s at → s.due ≡ Tries keeper k r false ∷ [] → IsCarried f text s at new to is) → ActTaken f text old from new to act is
  tried {new = new} {at = at} {to = to} {is = is} swept carried = record {
    done = λ s ts next.
        let e = (comes_answered within (Tries keeper k r false ∷ []) asks swept s ts next).come in
        comes_on e.led (subst (λ left. Comes f text e.stand at new to [] left is) e.left (carried e.stand e.stands e.due));
  }

-- ---- the keeper's lines
-- A guarded request has the fields of what is wanted, whose bounds are given.
pub fits_tried : {f : Profile} {r : Request} {w : Wanted} → IsWanted f r w → (keeper k : ℕ) → keeper < 2 ^ 8 → k < 2 ^ 8 → w.name < 2 ^ 32 → w.room < 2 ^ 32
    → w.directory.heap < 2 ^ 8 → IsKind w.directory.kind → keeper ≢ k → FitsTry f keeper k r
fits_tried wants keeper k behind few low room heap kind apart =
    record { own = fits_wanted wants k few low room heap kind; kept = fits_wanted wants keeper behind low room heap kind; apart = apart }

-- The guarded request that is due is the one that was wanted.
trying_there : {f : Profile} {old : Judge} {from : Cursor} {w : Wanted} {r : Request} {keeper k : ℕ} {s : Stand} → IsWanted f r w → Stands f old s from
    → s.due ≡ Tries keeper k r false ∷ [] → FitsTry f keeper k r → IsTrying old.machine s from keeper k w r []
trying_there {f} {old} {from} {w} {r} {keeper} {k} {s} wants stands due fits = search arith

-- the same judge, at the events that the lines have made
stands_then : {f : Profile} {old : Judge} {s : Stand} {from to : Cursor} {machine : Machine} {es : List Event} (due : List Due) → Stands f old s from
    → profile_of machine ≡ profile_of old.machine → StandsFor machine es → IsKept (record s { events = es }) to
    → Stands f (record old { machine = machine }) (record s { events = es; due = due }) to
stands_then {f} {old} {s} {from} {to} {machine} {es} due stands profile events kept = search (arith, kept_same)

-- in each case it computes, or is given
raise_left : (sides : Bool) (v : Stand) (keeper name : ℕ) (block : Block) (more : List Due) → (raising sides v keeper name block more).left ≡ v.left
raise_left sides v keeper name block more = search arith

carried_on : {f : Profile} {text : List ℕ} {s t : Stand} {from at to : Cursor} {new : Judge} {is : Bool} → Leads f text s from t at → t.left ≡ s.left
    → IsCarried f text t at new to is → IsCarried f text s from new to is
carried_on {f} {text} {s} {t} {at = at} {to = to} {new = new} {is = is} led left end =
    comes_on led (subst (λ ts. Comes f text t at new to [] ts is) left end)

module _ {f : Profile} {text : List ℕ} {old : Judge} {from : Cursor} {w : Wanted} {r : Request} {keeper k : ℕ} {s : Stand} (wants : IsWanted f r w)
    (stands : Stands f old s from) (due : s.due ≡ Tries keeper k r false ∷ []) (fits : FitsTry f keeper k r) (machine : Machine)
    (at : Cursor) where
  -- Where the keeper's lines stop, the guarded request isn't taken.
  pub tried_stops : {new : Judge} → TrialTaken old.machine machine text from at keeper w Stops → IsCarried f text s from new at false
  tried_stops taken = record {
    come = λ enough. subst (λ g. Fails g text s from at.lines) stands.profile (taken s k r [] (trying_there wants stands due fits));
  }

  module _ {new : Judge} {to : Cursor} {is : Bool} (profile : profile_of machine ≡ profile_of old.machine) where
    -- Where the keeper gave no block and backed no page, the lines of its thread decide the guarded request.
    pub tried_passes : {place : Cursor} → TrialTaken old.machine machine text from at keeper w (Passes place)
        → ((t : Stand) → Stands f (record old { machine = machine }) t place → t.due ≡ Serves k r None ∷ [] → IsCarried f text t place new to is)
        → IsCarried f text s from new to is
    tried_passes {place = place} taken carried =
        let b = taken s k r [] (trying_there wants stands due fits) in
        let t : Stand = record s { events = b.0; due = Serves k r None ∷ [] } in
        carried_on (subst (λ g. Leads g text s from t place) stands.profile b.1) refl (carried t (stands_then _ stands profile b.2 b.3) refl)

    -- Where the keeper gave a block, the line of its guard decides the guarded request.
    pub tried_gives : (block : Block) → TrialTaken old.machine machine text from at keeper w (Gives block)
        → ((t : Stand) → Stands f (record old { machine = machine }) t at
        → IsCarried f text (raising (has_sides f block) (with_name t w.name (Some block)) keeper w.name block []) at new to is)
        → IsCarried f text s from new to is
    tried_gives block taken carried =
        let b = taken s k r [] (trying_there wants stands due fits) in
        let t : Stand = record s { events = b.0 } in
        let led : Leads f text s from (raising (has_sides f block) (with_name t r.name (Some block)) keeper r.name block []) at
        = subst (λ g. Leads g text s from (raising (has_sides g block) (with_name t r.name (Some block)) keeper r.name block []) at) stands.profile b.1 in
        carried_on (subst (λ (n : ℕ). Leads f text s from (raising (has_sides f block) (with_name t n (Some block)) keeper n block []) at) wants.name led)
        (raise_left (has_sides f block) (with_name t w.name (Some block)) keeper w.name block []) (carried t (stands_then _ stands profile b.2 b.3))

-- ---- a guard is raised
raised_as : {f : Profile} {old : Judge} {s : Stand} {from : Cursor} (keeper name : ℕ) (block : Block) (sides : Bool) → Stands f old s from
    → has_sides (profile_of old.machine) block ≡ sides
    → raising (has_sides f block) (with_name s name (Some block)) keeper name block [] ≡ raising sides (with_name s name (Some block)) keeper name block []
raised_as {s = s} keeper name block sides stands is =
    ap (λ b. raising b (with_name s name (Some block)) keeper name block []) (ap (λ g. has_sides g block) (sym stands.profile) ∙ is)

module _ {f : Profile} {text : List ℕ} {old : Judge} {from to : Cursor} (keeper name : ℕ) (block : Block) where
  -- The guard of a keeper's block is up by the line that says it, or the text fails there.
  pub raised : {is : Bool} (names : Names) (guards : Vec Raised) → ((n : ℕ) → meant names n ≡ (if name == n then Some (Some block) else meant old.names n))
      → guards.items ≡ old.guards.items ++ raised_by keeper (guard_of block) ∷ [] → has_sides (profile_of old.machine) block ≡ true
      → IsLineLed text from to (Writes (Record.Said keeper (Said.Guarded (page_below block) (page_above block) name))) is → (s : Stand) → Stands f old s from
      → IsCarried f text (raising (has_sides f block) (with_name s name (Some block)) keeper name block []) from
      (record old { names = names; guards = guards }) to is
  raised names guards sets added sides led s stands =
      let up : Stand = raising true (with_name s name (Some block)) keeper name block [] in
      let there : Stands f (record old { names = names; guards = guards }) (with_due up []) from = search (arith, kept_same) in
      let same = raised_as keeper name block true stands sides in
      comes_as same (comes_led (with_due up []) there refl (sym (ap (λ (u : Stand). u.left) same)) (led.led f up [] refl))

  -- Without a page below the block or above it no line can come.
  pub not_raised : {new : Judge} → has_sides (profile_of old.machine) block ≡ false → to.lines ≡ from.lines + 1 → (s : Stand) → Stands f old s from
      → IsCarried f text (raising (has_sides f block) (with_name s name (Some block)) keeper name block []) from new to false
  not_raised sides count s stands =
      comes_as (raised_as keeper name block false stands sides) (record { come = λ enough. subst (Fails f text stuck from) (sym count) (either (lines_from text from) refl) })
    where
      stuck : Stand
      stuck = with_due (with_name s name (Some block)) (Never ∷ [])

      -- Whether a line is left or none, the check fails at the next one.
      either : (ls : List (List ℕ)) → lines_from text from ≡ ls → Fails f text stuck from (from.lines + 1)
      either [] none = due_lacks f stuck Never [] refl refl text from none
      either (line ∷ rest) has = due_refused f stuck Never [] refl refl text from line rest has (λ next x. x)
