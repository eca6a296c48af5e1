-- Acts, done; and chains of acts, up to the verdict.
use Rattle.std.proofs.Common.{◌≡◌, ◌≢◌, ℕ, ◌+◌, ◌/◌, ◌%◌, ◌^◌, ◌<◌, ◌≤◌, ◌==◌, if◌then◌else◌, nat_le, max, Bool, true, false, List, [], ◌∷◌, ◌++◌, Option, None}
use Rattle.std.proofs.Common.{Some, length, get_or, set, inl, inr, refl, ap, sym, subst, ◌∙◌, arith, get_or-set_other, get_or-set_same, length-set, eq-eqb}
use Rattle.std.proofs.Common.{eqb-true, is_some, le-leb, leb-true, ne_eqb, ◌-◌, map, append_assoc, zero, suc, not, length-drop, drop, take, append-nil}
use Rattle.std.{proofs.lemmas.{Bool.{and_from, and_parts, cases_eq, false_from_ne_true, lt-leb}, List.{drop_more, length-map}}, specs.List.filter}
use Rattle.pas_profile.specs.{Directories.IsKind, Profiles.IsPage, Blocks.address_of, Entries.entry_of, declared.name.{Block.Block, Name.Name}}
use Rattle.pas_profile.specs.declared.{profile.Profile.Profile, entry.Entry.Entry}
use Rattle.pas_machine.specs.{Machines.profile_of, declared.machine.Machine.Machine}
use Rattle.pas_trace.specs.{EveryPlan.all_ops, Plans.{ops_of, IsPlanOf, phases_of}, Acts.{Act, MakesPass, StopsIdle, Ticks, Wakes, numbers_from, MarksPhase}}
use Rattle.pas_trace.specs.Acts.{Settles, act_kept, acts_from, acts_of, acts_of_chore, acts_of_op, acts_of_ops, acts_of_work, close_acts, is_active, phase_acts}
use Rattle.pas_trace.specs.{Acts.{threads_where, keepers_of}, declared.{item.Request.Request, plan.{Chore.Chore, Op.Op, Phase.Phase, Task.Task as AskedTask}}}
use Rattle.pas_trace.specs.{declared.plan.{What.TheVariants.Alloc, Work.Work, Plan.Plan}, Asked.{work_of, of_task, keeper_of, keeper_in}}
use Rattle.pas_trace.proofs.{ThreadsInOrder.{number_last, number_next, threads_alike}, EveryPlan.every_plan, Keepers.keepers_few}
use Rattle.pas_check.specs.Begins.{after_task, begun_act, entries_due, flushing, freeing_at, freeing_named, is_full, is_page, logging, remaking, remaking_named}
use Rattle.pas_check.specs.{Begins.{request_for, says, stopping, suits, tells}, Bounds.{FitsRequest, HaveHeaps, IsKept}, Meanings.{heap_in, meaning_at}}
use Rattle.pas_check.specs.{Meanings.meaning_of, Accepted.{IsVerdict, IsWhole}, Shown.IsKnown, Takes.Takes, Tables.{logged, logs_held, meant, names_held}}
use Rattle.pas_check.specs.{Calls.{EntriesTaken, IsAsked, IsExamining, IsFollowed, IsWanted, OutcomesTaken, RequestTaken, after_request}, Leading.Fails}
use Rattle.pas_check.specs.{Leading.{IsLed, IsLineLed, IsWithin, Leads, StaysWithin, lines_from}, States.{Due, Writes, Serves, Examines, Task, Does, Stand}}
use Rattle.pas_check.specs.{States.{with_at, with_due, with_name, Reports, at_first}, Tasks.{ActTaken, Asks, Comes, EntryLogged, FreesEntry, FreesNamed}}
use Rattle.pas_check.specs.Tasks.{IsAnswered, IsCarried, IsNext, IsSuited, LogEmptied, PassTaken, Remakes, Resizes, SaysNamed, Stands}
use Rattle.pas_check.specs.declared.{acting.Judge.Judge, cutting.Cursor.Cursor, logging.Logs.Logs, naming.{Meaning.Meaning, Names.Names}, serving.Wanted.Wanted}
use Rattle.pas_check.specs.{declared.verdict.Verdict.TheVariants.{Yes, No}, Checks.{IsSized, IsSizedAs, IsSoFar, SoTaken, TakenTo, ArePlanned, IsPlanned}}
use Rattle.pas_check.{specs.Checks.{threads_in, IsOpened, opening}, proofs.ActsOfPlans.{begun_alike, is_followed, planned_back, planned_front, acts_fit}}
use Rattle.pas_check.proofs.{ActsOfPlans.all_planned, Leads.{kept_same, leads_alike, leads_fails, leads_nowhere, leads_on, fails_line}}
use Rattle.pas_bits.specs.{Masks.is_set, declared.mask.Mask4.Mask4}
use Rattle.pas_records.specs.declared.record.{Record.Record, Said.Said}

-- ---- Acts, done.
-- the same tables stand for another list of what is due and left
other_plan : {f : Profile} {j : Judge} {s : Stand} {at : Cursor} (due : List Due) (left : List Task) → Stands f j s at
    → Stands f j (record s { due = due; left = left }) at
other_plan {f} {j} {s} {at} due left stands = search (arith, kept_same)

-- what comes after a stretch, or from another state that is this one
module _ {f : Profile} {text : List ℕ} {new : Judge} {to : Cursor} {due : List Due} {left : List Task} where
  -- What comes from the end of a stretch comes from its start.
  pub comes_on : {is : Bool} {s u : Stand} {from at : Cursor} → Leads f text s from u at → Comes f text u at new to due left is
      → Comes f text s from new to due left is
  comes_on {is = true} led end =
      let c = end.come in record { come = record { stand = c.stand; led = leads_on led c.led; stands = c.stands; due = c.due; left = c.left } }
  comes_on {is = false} led end = record { come = λ enough. leads_fails led (end.come enough) }

  -- What comes from a state comes from each that is the same.
  pub comes_as : {is : Bool} {s u : Stand} {from : Cursor} → s ≡ u → Comes f text u from new to due left is → Comes f text s from new to due left is
  comes_as {is = is} {from = from} same end = subst (λ v. Comes f text v from new to due left is) (sym same) end

  -- One line comes to where the judge stands already for what stands after it.
  pub comes_led : {is : Bool} {s : Stand} {from : Cursor} (t : Stand) → Stands f new t from → t.due ≡ due → t.left ≡ left → IsLed f text s from t to is
      → Comes f text s from new to due left is
  comes_led t stands due_is left_is led = search arith

-- What comes to where one line is due goes on with that line.
comes_then : {f : Profile} {text : List ℕ} {s : Stand} {from at to : Cursor} {new : Judge} {d : Due} {due : List Due} {left : List Task} {is : Bool}
    → Comes f text s from new at (d ∷ due) left true → IsLineLed text at to d is → Comes f text s from new to due left is
comes_then {f = f} {due = due} end led =
    let c = end.come in comes_on c.led (comes_led (with_due c.stand due) (other_plan due c.stand.left c.stands) refl c.left (led.led f c.stand due c.due))

-- ---- an act is begun without a line
module _ {f : Profile} {text : List ℕ} {old : Judge} {from : Cursor} {act : Act} (within : IsWithin text from) where
  -- Where an act comes next, the text leads from before it to where it is begun.
  begins : {s : Stand} {ts : List Task} → IsNext f old s from act ts → Leads f text s from (after_task f s (Does act) ts) from
  begins {s = s} {ts = ts} next = leads_alike f text s (after_task f s (Does act) ts) from within (begun_alike f s (Does act) ts next.due next.left)

  -- What an act begins is answered, where its lines are.
  pub comes_answered : {new : Judge} {to : Cursor} {begun : Stand → List Due → Stand} {is : Bool} (more : List Due)
      → ((s : Stand) → Stands f old s from → begun_act f s act ≡ begun s more) → IsAnswered f text old from new to begun is
      → (s : Stand) (ts : List Task) → IsNext f old s from act ts → Comes f text s from new to more ts is
  comes_answered more same lines s ts next = comes_on (begins next)
      (comes_as (ap (λ (u : Stand). record u { left = ts }) (same s next.stands)) (lines.answered s more ts next.stands))

  -- An act is taken where the lines of what it begins are.
  pub act_answered : {new : Judge} {to : Cursor} {begun : Stand → List Due → Stand} {is : Bool}
      → ((s : Stand) → Stands f old s from → begun_act f s act ≡ begun s []) → IsAnswered f text old from new to begun is
      → ActTaken f text old from new to act is
  act_answered same lines = record { done = comes_answered [] same lines }

  -- An act that says something is taken by the line that says it, or fails there.
  pub act_said : {new : Judge} {to : Cursor} {item : Record} {is : Bool} (u : Stand → Stand)
      → ((s : Stand) → Stands f old s from → begun_act f s act ≡ says (u s) item) → ((s : Stand) → Stands f old s from → Stands f new (u s) from)
      → IsLineLed text from to (Writes item) is → ActTaken f text old from new to act is
  act_said {item = item} u same stands led = record {
    done = λ s ts next.
        comes_on (begins next) (comes_as (ap (λ (v : Stand). record v { left = ts }) (same s next.stands))
        (comes_led (record (u s) { due = []; left = ts }) (other_plan [] ts (stands s next.stands)) refl refl
        (led.led f (record (u s) { due = Writes item ∷ []; left = ts }) [] refl)));
  }

  -- An act of which no line is due is taken without one.
  act_unsaid : {new : Judge} (u : Stand → Stand) → ((s : Stand) → Stands f old s from → begun_act f s act ≡ u s) → ((s : Stand) → (u s).due ≡ s.due)
      → ((s : Stand) → Stands f old s from → Stands f new (u s) from) → ActTaken f text old from new from act true
  act_unsaid u same due stands = record {
    done = λ s ts next.
        let there : Stand = record (u s) { left = ts } in
        comes_on (begins next) (comes_as (ap (λ (v : Stand). record v { left = ts }) (same s next.stands))
        (comes_led there (other_plan (u s).due ts (stands s next.stands)) (due s ∙ next.due) refl (leads_nowhere f text there from within)));
  }

  -- An act that begins nothing is taken without a line.
  pub nothing_begun : ((s : Stand) → Stands f old s from → begun_act f s act ≡ s) → ActTaken f text old from old from act true
  nothing_begun nothing = act_unsaid (λ s. s) nothing (λ s. refl) (λ s stands. stands)

-- ---- a tick
pub ticked : {f : Profile} {text : List ℕ} {old : Judge} {from to : Cursor} {e : ℕ} {is : Bool} → IsWithin text from → (n : ℕ) → n ≡ max old.epoch e
    → n < 2 ^ 64
    → IsLineLed text from to (Writes (Record.Said 0 (Said.Tick n))) is → ActTaken f text old from (record old { epoch = n }) to (Ticks e) is
ticked {f = f} {old = old} {from = from} {e = e} within n greater few led =
    let same = λ (s : Stand) (stands : Stands f old s from). ap (λ m. max m e) stands.epoch ∙ sym greater in
    act_said within (λ s. record s { epoch = n }) (λ s stands. ap (λ m. tells (record s { epoch = m }) 0 (Said.Tick m)) (same s stands))
    (λ s stands. let low = stands.kept.ends in search (arith, same, low, greater)) led

-- ---- a thread wakes
pub woken : (f : Profile) (text : List ℕ) (old new : Judge) (at : Cursor) → IsWithin text at → (k : ℕ) → k < length old.idle_since.items
    → new.machine ≡ old.machine → new.names ≡ old.names → new.logs ≡ old.logs → new.epoch ≡ old.epoch → new.guards.items ≡ old.guards.items
    → new.idle_since.items ≡ set old.idle_since.items k old.epoch → ActTaken f text old at new at (Wakes k) true
woken f text old new at within k held machine names logs epoch guards since =
    act_unsaid within (λ s. record s { idle_since = with_at s.idle_since k s.epoch }) (λ s stands. refl) (λ s. refl)
    (λ s stands. search (arith, idle, kept_same, machine, names, logs, guards))
  where
    here : (s : Stand) (j : ℕ) → s.epoch ≡ old.epoch → j ≡ k → with_at s.idle_since k s.epoch j ≡ get_or new.idle_since.items j 0
    here s j same is = search (arith, eq-eqb, get_or-set_same)

    -- A thread that sleeps is idle since the epoch; the others as they were.
    idle : (s : Stand) → Stands f old s at → (j : ℕ) → j < length new.idle_since.items → with_at s.idle_since k s.epoch j ≡ get_or new.idle_since.items j 0
    idle s stands j has = elim (cases_eq j k) [
      | inl is ↦ here s j stands.epoch is
      | inr other ↦ search (arith, ne_eqb, length-set, get_or-set_other)
    ]

-- ---- a log is emptied
module _ (f : Profile) (text : List ℕ) (old : Judge) (from to : Cursor) (k : ℕ) (log : List Entry) (held : k < logs_held old.logs) where
  module _ (s : Stand) (more : List Due) (ts : List Task) (stands : Stands f old s from) where
    abbrev begun : Stand
    begun = record (flushing s k log more) { left = ts }

    begun_kept : IsKept begun from
    begun_kept = kept_same begun s from from refl refl (omega arith) stands.kept

    begun_due : begun.due ≡ entries_due k (logged old.logs k) ++ more
    begun_due = ap (λ (entries : List Entry). entries_due k entries ++ more) (stands.logs k held)

  -- Where the lines of a log's entries fail, the log isn't emptied.
  pub log_amiss : (machine : Machine) → EntriesTaken old.machine machine text from to k (logged old.logs k) [] old.epoch false → (new : Judge)
      → LogEmptied f text old from new to k log false
  log_amiss machine entries new = search (arith, begun_kept, begun_due)

  -- Where the lines of a log's entries were taken, the log is emptied, and no other one changes.
  pub log_emptied : (machine : Machine) (logs : Logs) → profile_of machine ≡ profile_of old.machine → logged logs k ≡ log
      → ((j : ℕ) → j ≢ k → logged logs j ≡ logged old.logs j) → logs_held logs ≡ logs_held old.logs
      → EntriesTaken old.machine machine text from to k (logged old.logs k) [] old.epoch true
      → LogEmptied f text old from (record old { machine = machine; logs = logs }) to k log true
  log_emptied machine logs profile cleared others count entries = record {
    answered = λ s more ts stands.
        let b : Stand = begun s more ts stands in
        let end = entries.taken b more stands.events stands.epoch (begun_kept s more ts stands) (begun_due s more ts stands) in
        let t : Stand = record b { events = end.events; due = more } in
        let there : Stands f (record old { machine = machine; logs = logs }) t to = search arith in
        record { come = record { stand = t; led = subst (λ g. Leads g text b from t to) stands.profile end.led; stands = there; due = refl; left = refl } };
  }
    where
      log_at : (s : Stand) → Stands f old s from → (j : ℕ) → j < logs_held old.logs → with_at s.logs k log j ≡ logged logs j
      log_at s stands j has = search (arith, cases_eq, eq-eqb, ne_eqb)

-- ---- the stop of an idle thread
module _ {f : Profile} {text : List ℕ} {old new : Judge} {from to : Cursor} {k n : ℕ} (within : IsWithin text from)
    (idle : (s : Stand) → Stands f old s from → nat_le (s.idle_since k + n) s.epoch ≡ true) where
  stop_comes : {is : Bool} → LogEmptied f text old from new to k [] is → (s : Stand) (ts : List Task) → IsNext f old s from (StopsIdle k n) ts
      → Comes f text s from new to (Writes (Record.Said 0 (Said.Stopped k)) ∷ []) ts is
  stop_comes emptied = comes_answered within _ (λ s stands. ap (λ (x : Bool). stopping x s k) (idle s stands)) emptied

  -- Where the flush of an idle thread fails, its stop isn't taken.
  pub stop_amiss : LogEmptied f text old from new to k [] false → ActTaken f text old from new to (StopsIdle k n) false
  stop_amiss emptied = record { done = λ s ts next. record { come = (stop_comes emptied s ts next).come } }

  -- Where the flush of an idle thread was taken, its stop is taken by the line that says it, or fails there.
  pub idle_stopped : {end : Cursor} {is : Bool} → LogEmptied f text old from new to k [] true
      → IsLineLed text to end (Writes (Record.Said 0 (Said.Stopped k))) is → ActTaken f text old from new end (StopsIdle k n) is
  idle_stopped emptied led = record { done = λ s ts next. comes_then (stop_comes emptied s ts next) led }

-- A thread that isn't idle for so long is stopped without a line.
pub not_idle : {f : Profile} {text : List ℕ} {old : Judge} {from : Cursor} {k n : ℕ} → IsWithin text from
    → ((s : Stand) → Stands f old s from → nat_le (s.idle_since k + n) s.epoch ≡ false) → ActTaken f text old from old from (StopsIdle k n) true
not_idle {k = k} within busy = nothing_begun within (λ s stands. ap (λ (x : Bool). stopping x s k) (busy s stands))

module _ {f : Profile} {j : Judge} {at : Cursor} (k n : ℕ) (held : k < length j.idle_since.items) (s : Stand) (stands : Stands f j s at) where
  -- A thread that read the epoch so long ago is idle.
  pub idle_long : get_or j.idle_since.items k 0 + n ≤ j.epoch → nat_le (s.idle_since k + n) s.epoch ≡ true
  idle_long long = let since = stands.idle_since k held in search (arith, le-leb)

  -- A thread that read the epoch too recently isn't to be stopped.
  pub idle_short : j.epoch < get_or j.idle_since.items k 0 + n → nat_le (s.idle_since k + n) s.epoch ≡ false
  idle_short short = let since = stands.idle_since k held in search (arith, lt-leb)

-- ---- an entry is logged
logging_is : {f : Profile} {old : Judge} {from : Cursor} (k : ℕ) (entry : Entry) → k < logs_held old.logs → (full : Bool)
    → full ≡ nat_le 64 (length (logged old.logs k)) → (s : Stand) (more : List Due) (ts : List Task) → Stands f old s from
    → record (logging (is_full s k) s k entry more) { left = ts } ≡ record (logging full s k entry more) { left = ts }
logging_is k entry held full is s more ts stands =
    ap (λ (x : Bool). record (logging x s k entry more) { left = ts }) (ap (λ (log : List Entry). nat_le 64 (length log)) (stands.logs k held) ∙ sym is)

module _ {f : Profile} {text : List ℕ} {old : Judge} {from : Cursor} (k : ℕ) (entry : Entry) (held : k < logs_held old.logs) where
  -- the log is full
  pub logged_full : {new : Judge} {to : Cursor} {is : Bool} → true ≡ nat_le 64 (length (logged old.logs k))
      → LogEmptied f text old from new to k (entry ∷ []) is → EntryLogged f text old from new to k entry is
  logged_full full emptied = record { answered = λ s more ts stands. comes_as (logging_is k entry held true full s more ts stands) (emptied.answered s more ts stands) }

  -- it isn't
  pub logged_added : IsWithin text from → false ≡ nat_le 64 (length (logged old.logs k)) → (logs : Logs) → logged logs k ≡ logged old.logs k ++ entry ∷ []
      → ((j : ℕ) → j ≢ k → logged logs j ≡ logged old.logs j) → logs_held logs ≡ logs_held old.logs
      → EntryLogged f text old from (record old { logs = logs }) from k entry true
  logged_added within room logs added others count = record {
    answered = λ s more ts stands.
        let t : Stand = record (logging false s k entry more) { left = ts } in
        let there : Stands f (record old { logs = logs }) t from = search (arith, kept_same) in
        comes_as (logging_is k entry held false room s more ts stands) (comes_led t there refl refl (leads_nowhere f text t from within));
  }
    where
      log_at : (s : Stand) → Stands f old s from → (j : ℕ) → j < logs_held old.logs → with_at s.logs k (s.logs k ++ entry ∷ []) j ≡ logged logs j
      log_at s stands j has = search (arith, cases_eq, eq-eqb, ne_eqb)

-- ---- a pass
module _ {f : Profile} {text : List ℕ} {old : Judge} {from : Cursor} (within : IsWithin text from) where
  module _ {mid : Cursor} {is : Bool} (led : IsLineLed text from mid (Writes (Record.Said 0 (Said.Pass old.epoch))) is) where
    pass_led : (s : Stand) (ts : List Task) → IsNext f old s from MakesPass ts
        → IsLed f text (after_task f s (Does MakesPass) ts) from (record s { due = Examines 0 ∷ []; left = ts }) mid is
    pass_led s ts next = led.led f (after_task f s (Does MakesPass) ts) (Examines 0 ∷ []) (ap (λ n. Writes (Record.Said 0 (Said.Pass n)) ∷ Examines 0 ∷ []) next.stands.epoch)

  -- Where the line of a pass fails, the pass isn't taken.
  pub pass_amiss : {new : Judge} {to : Cursor} → IsLineLed text from to (Writes (Record.Said 0 (Said.Pass old.epoch))) false
      → PassTaken f text old from new to false
  pass_amiss led = record { done = λ s ts next followed. record { come = λ enough. leads_fails (begins within next) (pass_led led s ts next) } }

  -- A pass is taken by its line and those of its outcomes.
  pub passed : {machine : Machine} {mid to : Cursor} → IsLineLed text from mid (Writes (Record.Said 0 (Said.Pass old.epoch))) true
      → profile_of machine ≡ profile_of old.machine → OutcomesTaken old.machine machine text mid to old.epoch
      → PassTaken f text old from (record old { machine = machine }) to true
  passed {machine = machine} {mid = mid} {to = to} led profile outcomes = record {
    done = λ s ts next followed.
        let stands = next.stands in
        let u : Stand = record s { due = Examines 0 ∷ []; left = ts } in
        let first = pass_led led s ts next in
        let count : from.lines ≤ mid.lines = omega (arith, first.count) in
        let follows : IsFollowed f u = record { fits = followed.fits; no_pass = followed.no_pass; events = followed.events; epoch = followed.epoch } in
        let there : IsExamining old.machine u mid 0 old.epoch = search (arith, kept_same) in
        let end = outcomes.taken u there in
        let t : Stand = record u { events = end.events; due = [] } in
        let stood : Stands f (record old { machine = machine }) t to = search arith in record {
          come = record {
            stand = t;
            led = leads_on (begins within next) {u = t} (leads_on first {u = t} (subst (λ g. Leads g text u mid t to) stands.profile end.led));
            stands = stood;
            due = refl;
            left = refl;
          };
        };
  }

-- ---- what names stand for
heap_known : (m : Meaning) (block : Block) → meaning_of m ≡ Some (Some block) → heap_in m < 32 → block.heap < 32
heap_known m block is small = search arith

-- Each block that a name stands for in a check has a heap of the region.
heaps_of : {f : Profile} {j : Judge} {s : Stand} {at : Cursor} → Stands f j s at → HaveHeaps s.names
heaps_of {f} {j} {s} {at} stands name block is = heap_known (meaning_at j.names.meanings.items name) block (sym (stands.names name) ∙ is) (j.names.heaps name)

-- ---- a request
pub after_plain : (v : Stand) (k : ℕ) (r : Request) (found : Option Block) → after_request v k r None found [] ≡ with_due (with_name v r.name found) []
after_plain v k r found = search arith

-- in each case it computes, or is given
left_kept : (full : Bool) (v : Stand) (k : ℕ) (entry : Entry) (more : List Due)
    → record (logging full v k entry more) { left = v.left } ≡ logging full v k entry more
left_kept full v k entry more = search arith

-- in each case it computes, or is given
pub after_none : (k : ℕ) (r : Request) (replaced : Option Name) (found : Option Block) → is_some found ≡ false → (v : Stand)
    → after_request v k r replaced found [] ≡ with_due (with_name v r.name found) []
after_none k r replaced found none v = search arith

-- in each case it computes, or is given
pub after_some : (k : ℕ) (r : Request) (replaced : Option Name) (name : Name) (found : Option Block) → replaced ≡ Some name → is_some found ≡ true → (v : Stand)
    → after_request v k r replaced found [] ≡ logging (is_full v k) (with_name v r.name found) k (entry_of name) []
after_some k r replaced name found is some v = search arith

-- A request has the fields of what is wanted, whose bounds are given.
pub fits_wanted : {f : Profile} {r : Request} {w : Wanted} → IsWanted f r w → (k : ℕ) → k < 2 ^ 8 → w.name < 2 ^ 32 → w.room < 2 ^ 32 → w.directory.heap < 2 ^ 8
    → IsKind w.directory.kind → FitsRequest f k r
fits_wanted {f} {r} {w} wants k few low room heap kind = search arith

-- The request that is due is the one that was wanted.
asked : {f : Profile} {old : Judge} {from : Cursor} {k : ℕ} {w : Wanted} {r : Request} {replaced : Option Name} {s : Stand} → IsWanted f r w
    → Stands f old s from → s.due ≡ Serves k r replaced ∷ [] → FitsRequest f k r → IsAsked old.machine s from k w r replaced []
asked {f} {old} {from} {k} {w} {r} {replaced} {s} wants stands due fits = search arith

module _ {f : Profile} {text : List ℕ} {old : Judge} {from to : Cursor} {k : ℕ} {w : Wanted} {r : Request} {replaced : Option Name} {s : Stand}
    (wants : IsWanted f r w) (stands : Stands f old s from) (due : s.due ≡ Serves k r replaced ∷ []) (fits : FitsRequest f k r) where
  -- Where the lines of a request fail, it isn't served.
  pub served_amiss : (machine : Machine) {new : Judge} → RequestTaken old.machine machine text from to k w None → IsCarried f text s from new to false
  served_amiss machine taken = record { come = λ enough. subst (λ g. Fails g text s from to.lines) stands.profile (taken s r replaced [] (asked wants stands due fits)) }

  module _ (machine : Machine) (names : Names) (found : Option Block) (profile : profile_of machine ≡ profile_of old.machine)
      (sets : (n : ℕ) → meant names n ≡ (if w.name == n then Some found else meant old.names n))
      (taken : RequestTaken old.machine machine text from to k w (Some found)) where
    abbrev made : Stand
    made = record s { events = (taken s r replaced [] (asked wants stands due fits)).0 }

    -- where its name stands for this
    abbrev named : Stand
    named = with_name made r.name found

    served_leads : {u : Stand} → after_request made k r replaced found [] ≡ u → Leads f text s from u to
    served_leads same = subst (λ (v : Stand). Leads f text s from v to) same
        (subst (λ g. Leads g text s from (after_request made k r replaced found []) to) stands.profile (taken s r replaced [] (asked wants stands due fits)).1)

    served_stands : Stands f (record old { machine = machine; names = names }) named to
    served_stands = (let end = taken s r replaced [] (asked wants stands due fits) in search (arith, kept_same))

    -- nothing is logged
    pub served : ((v : Stand) → after_request v k r replaced found [] ≡ with_due (with_name v r.name found) [])
        → IsCarried f text s from (record old { machine = machine; names = names }) to true
    served ends = record {
      come = record { stand = with_due named []; led = served_leads (ends made); stands = other_plan [] s.left served_stands; due = refl; left = refl };
    }

    -- the name that it replaces is
    pub served_logged : (name : Name) → ((v : Stand) → after_request v k r replaced found [] ≡ logging (is_full v k) (with_name v r.name found) k
        (entry_of name) [])
        → {new : Judge} {last : Cursor} {is : Bool} → EntryLogged f text (record old { machine = machine; names = names }) to new last k (entry_of name) is
        → IsCarried f text s from new last is
    served_logged name same logged =
        comes_on (served_leads (same made ∙ sym (left_kept (is_full named k) named k (entry_of name) []))) (logged.answered named [] s.left served_stands)

-- An act that only asks is taken where its request is.
pub asks_taken : {f : Profile} {text : List ℕ} {old new : Judge} {from to : Cursor} {act : Act} {is : Bool} {r : Request} {w : Wanted} (k : ℕ)
    (replaced : Option Name) → IsWithin text from → Asks f old from act k r replaced → IsWanted (profile_of old.machine) r w
    → ((s : Stand) (r : Request) → Stands f old s from → IsWanted f r w → s.due ≡ Serves k r replaced ∷ [] → IsCarried f text s from new to is)
    → ActTaken f text old from new to act is
asks_taken {f} {r = r} k replaced within asks wants carried = record {
  done = λ s ts next.
      let u : Stand = record s { due = Serves k r replaced ∷ []; left = ts } in
      comes_on (begins within next) (comes_as (ap (λ (v : Stand). record v { left = ts }) (asks s next.stands))
      (carried u r (other_plan (Serves k r replaced ∷ []) ts next.stands) (rw next.stands.profile at wants) refl));
}

-- ---- a free
is_outside : (f g : Profile) (page : ℕ) → g ≡ f → (IsPage g page → ⊥) → is_page f page ≡ false
is_outside f g page same none = search (arith, false_from_ne_true, and_parts, leb-true)

is_inside : (f g : Profile) (page : ℕ) → g ≡ f → IsPage g page → is_page f page ≡ true
is_inside f g page same is = search (arith, and_from, le-leb)

module _ {f : Profile} {text : List ℕ} {old : Judge} {from : Cursor} (act : Act) (k : ℕ) (entry : Entry) (within : IsWithin text from)
    (frees : FreesEntry f old from act k entry) where
  -- A free outside the region is taken by the line that says so, or fails there.
  pub freed_outside : {to : Cursor} {is : Bool} → (IsPage (profile_of old.machine) (address_of entry.name / 4096) → ⊥)
      → IsLineLed text from to (Writes (Record.Said k (Said.Outside entry.name))) is → ActTaken f text old from old to act is
  freed_outside none led = act_said within (λ s. s)
      (λ s stands. cc (frees s stands, is_outside f (profile_of old.machine) (address_of entry.name / 4096) stands.profile none)) (λ s stands. stands) led

  module _ (inside : IsPage (profile_of old.machine) (address_of entry.name / 4096)) where
    freed_at : (even : Bool) → (address_of entry.name % 16 == 0) ≡ even → (s : Stand) → Stands f old s from → begun_act f s act ≡ freeing_at true even s k entry
    freed_at even is s stands = cc (frees s stands, is_inside f (profile_of old.machine) (address_of entry.name / 4096) stands.profile inside)

    -- A free at an address that isn't a multiple of 16 is taken by the line that says so, or fails there.
    pub freed_unaligned : {to : Cursor} {is : Bool} → address_of entry.name % 16 ≢ 0
        → IsLineLed text from to (Writes (Record.Said k (Said.Unaligned entry.name))) is → ActTaken f text old from old to act is
    freed_unaligned odd led = act_said within (λ s. s) (freed_at false (ne_eqb (address_of entry.name % 16) 0 odd)) (λ s stands. stands) led

    -- its entry is logged
    pub freed_logged : {new : Judge} {to : Cursor} {is : Bool} → address_of entry.name % 16 ≡ 0 → EntryLogged f text old from new to k entry is
        → ActTaken f text old from new to act is
    freed_logged even logged = act_answered within (freed_at true (eq-eqb (address_of entry.name % 16) 0 even)) logged

-- ---- a free of what a name stands for
module _ {f : Profile} {old : Judge} {from : Cursor} (act : Act) (k name room : ℕ) (frees : FreesNamed f act k name room) where
  pub named_as : (block : Option (Option Block)) → block ≡ meant old.names name → (s : Stand) → Stands f old s from
      → begun_act f s act ≡ freeing_named f s k name room block
  named_as block is s stands = frees s ∙ ap (freeing_named f s k name room) (stands.names name ∙ sym is)

  -- A free of a name that was never asked for is taken without a line.
  pub unasked_freed : {text : List ℕ} → IsWithin text from → None ≡ meant old.names name → ActTaken f text old from old from act true
  unasked_freed within is = nothing_begun within (named_as None is)

  -- A free of a name whose request was refused is taken by the line that it was skipped, or fails there.
  pub refused_freed : {text : List ℕ} {to : Cursor} {is : Bool} → IsWithin text from → Some None ≡ meant old.names name
      → IsLineLed text from to (Writes (Record.Said k (Said.Skipped name))) is → ActTaken f text old from old to act is
  refused_freed within is led = act_said within (λ s. s) (named_as (Some None) is) (λ s stands. stands) led

-- ---- another size
-- What is said of an act after which the name stands for this is taken by the line that says it.
pub said_named : {f : Profile} {text : List ℕ} {old : Judge} {from to : Cursor} {act : Act} {is : Bool} (k name : ℕ) (found : Option Block) (said : Said)
    → IsWithin text from → SaysNamed f old from act k name found said → (names : Names)
    → ((n : ℕ) → meant names n ≡ (if name == n then Some found else meant old.names n))
    → IsLineLed text from to (Writes (Record.Said k said)) is → ActTaken f text old from (record old { names = names }) to act is
said_named {f} {old = old} {from = from} k name found said within says_it names sets led = act_said within (λ s. with_name s name found) says_it there led
  where
    there : (s : Stand) → Stands f old s from → Stands f (record old { names = names }) (with_name s name found) from
    there s stands =
        search (arith, kept_same)

suits_it : (block : Block) (size align : ℕ) → IsSuited block size align → suits block size align ≡ true
suits_it block size align is = search (arith, and_from, le-leb, eq-eqb)

suits_not : (block : Block) (size align : ℕ) → (IsSuited block size align → ⊥) → suits block size align ≡ false
suits_not block size align never = search (arith, false_from_ne_true, and_parts, leb-true, eqb-true)

module _ {f : Profile} {old : Judge} {from : Cursor} (act : Act) (k name size align : ℕ) where
  module _ (block : Block) (resizes : Resizes f old from act k name block size align) where
    -- the block is kept, or another one is asked for in its place
    pub resized_kept : IsSuited block size align → SaysNamed f old from act k name (Some block) (Said.Kept block.name name)
    resized_kept suited s stands = resizes s stands ∙ ap (λ (x : Bool). remaking x s k (request_for block name size align) block) (suits_it block size align suited)

    -- A reallocation of a block that doesn't suit asks for another one, which replaces it.
    pub resized_asks : (IsSuited block size align → ⊥) → Asks f old from act k (request_for block name size align) (Some block.name)
    resized_asks unsuited s stands =
        resizes s stands ∙ ap (λ (x : Bool). remaking x s k (request_for block name size align) block) (suits_not block size align unsuited)

  -- what its old name stands for
  pub remade_as : (replaced : ℕ) → Remakes f act k name replaced size align → (found : Option (Option Block)) → found ≡ meant old.names replaced
      → (s : Stand) → Stands f old s from → begun_act f s act ≡ remaking_named s k name size align found
  remade_as replaced remakes found is s stands = remakes s ∙ ap (remaking_named s k name size align) (stands.names replaced ∙ sym is)

-- ---- Acts, one after the other
-- the acts said otherwise
so_far_as : {f : Profile} {text : List ℕ} {first : Stand} {judge : Judge} {at : Cursor} {acts others : List Act} → acts ≡ others
    → IsSoFar f text first judge at acts → IsSoFar f text first judge at others
so_far_as {f} {text} {first} {judge} {at} {acts} {others} is so = subst (λ (al : List Act). IsSoFar f text first judge at al) is so

module _ {text : List ℕ} {old new : Judge} {from to : Cursor} where
  -- where the next act was taken
  come_to : {taken : Bool} {f : Profile} {first : Stand} {act : Act} {more : List Act} (so : IsSoFar f text first old from (act ∷ more))
      → Comes f text so.stand from new to [] (map Does more ++ Reports ∷ []) taken → SoTaken f text first new to more taken
  come_to {taken = true} so end =
      let c = end.come in record { stand = c.stand; led = leads_on so.led c.led; stands = c.stands; due = c.due; left = c.left; fit = so.fit.1 }
  come_to {taken = false} so end = λ enough. leads_fails so.led (end.come enough)

  -- one act
  pub act_taken : {act : Act} {taken : Bool} → ((f : Profile) → ActTaken f text old from new to act taken) → TakenTo text old from new to (act ∷ []) [] taken
  act_taken done = record {
    far = λ more f first so. come_to so ((done f).done so.stand (map Does more ++ Reports ∷ []) (record { stands = so.stands; due = so.due; left = so.left }));
  }

  -- a pass
  pub pass_taken : {taken : Bool} → ((f : Profile) → PassTaken f text old from new to taken) → TakenTo text old from new to (MakesPass ∷ []) [] taken
  pass_taken done = record {
    far = λ more f first so.
        let ts = map Does more ++ Reports ∷ [] in
        come_to so ((done f).done so.stand ts (record { stands = so.stands; due = so.due; left = so.left })
        (is_followed f more so.fit.1 (record so.stand { left = ts }) (omega (arith, so.stands.epoch, so.stands.small)) (heaps_of so.stands) refl));
  }

  -- Acts that are taken are taken before others.
  pub ahead : {acts rest : List Act} {taken : Bool} → TakenTo text old from new to acts [] taken → TakenTo text old from new to (acts ++ rest) rest taken
  ahead {acts = acts} {rest = rest} done = record { far = λ more f first so. done.far (rest ++ more) f first (so_far_as (append_assoc acts rest more) so) }

  -- Where acts aren't taken, it doesn't matter which are left.
  pub stopped : {acts left rest : List Act} → TakenTo text old from new to acts left false → TakenTo text old from new to acts rest false
  stopped done = record { far = λ more f first so. done.far more f first so }

-- Acts of so many threads are taken by each name of their number.
pub taken_for : {text : List ℕ} {old new : Judge} {from to : Cursor} {n m : ℕ} {taken : Bool} (acts : ℕ → List Act) → n ≡ m
    → TakenTo text old from new to (acts n) [] taken → TakenTo text old from new to (acts m) [] taken
taken_for {text} {old} {new} {from} {to} {taken = taken} acts same done = subst (λ k. TakenTo text old from new to (acts k) [] taken) same done

-- one after another, in the middle of which the judge is another one
pub taken_on : {text : List ℕ} {old mid new : Judge} {from at to : Cursor} {acts between left : List Act} {taken : Bool}
    → TakenTo text old from mid at acts between true → TakenTo text mid at new to between left taken → TakenTo text old from new to acts left taken
taken_on one two = record { far = λ more f first so. two.far more f first (one.far more f first so) }

-- an act that has no line and changes nothing
pub idly_taken : {text : List ℕ} {judge : Judge} {at : Cursor} {act : Act} → IsWithin text at → ((f : Profile) (s : Stand) → begun_act f s act ≡ s)
    → TakenTo text judge at judge at (act ∷ []) [] true
idly_taken within idle = act_taken (λ f. nothing_begun within (λ s stands. idle f s))

-- No acts are taken where the check stands, and all are left.
pub nothing_taken : {text : List ℕ} {judge : Judge} {at : Cursor} {acts left : List Act} → acts ≡ left → TakenTo text judge at judge at acts left true
nothing_taken same = record { far = λ more f first so. so_far_as (ap (λ (al : List Act). al ++ more) same) so }

-- the next acts, which were taken
pub then_taken : {text : List ℕ} {old mid new : Judge} {from at to : Cursor} {all there rest : List Act} {taken : Bool} (acts : List Act)
    → there ≡ acts ++ rest → TakenTo text old from mid at all there true → TakenTo text mid at new to acts [] taken
    → TakenTo text old from new to all rest taken
then_taken {text} {mid = mid} {new = new} {at = at} {to = to} {rest = rest} {taken = taken} acts is far done =
    taken_on far (subst (λ (al : List Act). TakenTo text mid at new to al rest taken) (sym is) (ahead done))

-- of acts by rising numbers the next
pub number_taken : {text : List ℕ} {old mid new : Judge} {from at to : Cursor} {all : List Act} {taken : Bool} (make : ℕ → Act) (i n : ℕ) → i < n
    → TakenTo text old from mid at all (map make (numbers_from (i + 1) (n - i))) true
    → ((f : Profile) → ActTaken f text mid at new to (make (i + 1)) taken)
    → TakenTo text old from new to all (map make (numbers_from (i + 1 + 1) (n - (i + 1)))) taken
number_taken make i n low far act =
    then_taken (make (i + 1) ∷ []) (ap (map make) (number_next (i + 1) (n - i) (n - (i + 1)) (omega (arith, low)))) far (act_taken act)

-- where no number is left, no act is
pub numbers_taken : {text : List ℕ} {old new : Judge} {from to : Cursor} {all : List Act} (make : ℕ → Act) (i n : ℕ) → n ≤ i
    → TakenTo text old from new to all (map make (numbers_from (i + 1) (n - i))) true → TakenTo text old from new to all [] true
numbers_taken make i n high far = rw (number_last (i + 1) (n - i) (omega (arith, high))) at far

-- as much room as before: each table has as many as the one in between
pub sized_on : {old mid new : Judge} → IsSizedAs old mid → IsSizedAs mid new → IsSizedAs old new
sized_on {old} {mid} {new} one two = search arith

-- one number, where it is chosen or not
pub chosen_alone : (chosen : ℕ → Bool) (k : ℕ) (on : Bool) → chosen k ≡ on → filter chosen (k ∷ []) ≡ (if on then k ∷ [] else [])
chosen_alone chosen k on is = ap (λ (b : Bool). if b then k ∷ [] else []) is

-- the counts are the same, and so the bounds
pub sized_as_before : {old new : Judge} → IsSizedAs old new → IsSized old → IsSized new
sized_as_before {old} {new} same sized = search arith

-- ---- The acts of operations and of phases
module _ {text : List ℕ} {old new : Judge} {from to : Cursor} {taken : Bool} (idle : List ℕ) (op : Op) where
  work_taken : (work : Work) → work_of op.what ≡ work → TakenTo text old from new to (acts_of_work idle op work) [] taken
      → TakenTo text old from new to (acts_of_op idle op) [] taken
  work_taken work is = subst (λ (w : Work). TakenTo text old from new to (acts_of_work idle op w) [] taken) (sym is)

  -- A thread's operation is taken as its own act, after which what it noted is settled without a line.
  pub operation_taken : (task : AskedTask) → work_of op.what ≡ Work.Own task → StaysWithin text to taken
      → ((f : Profile) → ActTaken f text old from new to (act_kept (keeper_in op.what) op) taken)
      → TakenTo text old from new to (acts_of_op idle op) [] taken
  operation_taken task is within done = work_taken (Work.Own task) is (settled taken within
      (act_taken (λ f. subst (λ (w : Work). ActTaken f text old from new to (act_kept (of_task keeper_of w) op) taken) is (done f))))
    where
      settled : (b : Bool) {act : Act} → StaysWithin text to b → TakenTo text old from new to (act ∷ []) [] b
          → TakenTo text old from new to (act ∷ (Settles op.actor ∷ [])) [] b
      settled true stays one = taken_on (ahead one) (idly_taken stays (λ f s. refl))
      settled false stays one = stopped (ahead one)

  -- An operation that is a chore is taken as the acts of the chore.
  pub chore_taken : (chore : Chore) → work_of op.what ≡ Work.Chore chore → TakenTo text old from new to (acts_of_chore idle chore) [] taken
      → TakenTo text old from new to (acts_of_op idle op) [] taken
  chore_taken chore is done = work_taken (Work.Chore chore) is done

-- a phase: its threads wake, and its operations follow
-- A phase is taken by the reads of the epoch of its threads, and then its operations.
pub phase_taken : {text : List ℕ} {old mid new : Judge} {from to : Cursor} {taken : Bool} (ops : List Op) (awake : Mask4)
    → ((k : ℕ) → is_set awake k ≡ is_active ops k) → threads_in mid ≡ threads_in old
    → TakenTo text old from mid from (map Wakes (threads_where (is_set awake) (threads_in old))) [] true
    → TakenTo text mid from new to (acts_of_ops (threads_where (λ k. not (is_set awake k)) (threads_in mid)) ops) [] taken
    → TakenTo text old from new to (phase_acts (threads_in old) ops) [] taken
phase_taken {text} {old} {mid} {new} {from} {to} {taken} ops awake same threads wake perform =
    let n = threads_in old in
    let idle_same = ap (λ (m : ℕ). threads_where (λ k. not (is_set awake k)) m) threads
    ∙ threads_alike (λ k. not (is_set awake k)) (λ k. not (is_active ops k)) n (λ k. ap not (same k)) in
    taken_on (ahead (subst (λ (ks : List ℕ). TakenTo text old from mid from (map Wakes ks) [] true) (threads_alike (is_set awake) (is_active ops) n same) wake))
    (subst (λ (ks : List ℕ). TakenTo text mid from new to (acts_of_ops ks ops) [] taken) idle_same perform)

-- ---- the operation at a place
abbrev pub past : Op
past = record { line = 0; actor = 0; what = Alloc 0 0 0 0 }

-- .. and those after it
pub ops_there : (f : Profile) (limit : ℕ) (ops : List Op) (i : ℕ) → i < length ops → ArePlanned f limit (drop i ops)
    → IsPlanned f limit (get_or ops i past) × ArePlanned f limit (drop (i + 1) ops)
ops_there f limit ops i lt planned = subst (ArePlanned f limit) (drop_more ops i past lt) planned

-- The acts of operations from one on are those of that operation and of the others.
pub acts_at : (idle : List ℕ) (ops : List Op) (i : ℕ) → i < length ops
    → acts_of_ops idle (drop i ops) ≡ acts_of_op idle (get_or ops i past) ++ acts_of_ops idle (drop (i + 1) ops)
acts_at idle ops i lt = ap (λ (os : List Op). acts_of_ops idle os) (drop_more ops i past lt)

-- ---- the phase at a place
pub phases_there : (f : Profile) (limit : ℕ) (phases : List Phase) (i : ℕ) (d : Phase) → i < length phases
    → ArePlanned f limit (all_ops (map ops_of (drop i phases)))
    → ArePlanned f limit (ops_of (get_or phases i d)) × ArePlanned f limit (all_ops (map ops_of (drop (i + 1) phases)))
phases_there f limit phases i d lt planned =
    let both : ArePlanned f limit (ops_of (get_or phases i d) ++ all_ops (map ops_of (drop (i + 1) phases)))
    = subst (λ (ps : List Phase). ArePlanned f limit (all_ops (map ops_of ps))) (drop_more phases i d lt) planned in (
      planned_front f limit (ops_of (get_or phases i d)) (all_ops (map ops_of (drop (i + 1) phases))) both,
      planned_back f limit (ops_of (get_or phases i d)) (all_ops (map ops_of (drop (i + 1) phases))) both,
    )

-- The acts from a phase on are its mark, its own acts and those from the next phase on.
pub phase_at : (threads keepers n : ℕ) (phases : List Phase) (i : ℕ) (d : Phase) → i < length phases
    → acts_from threads keepers n (map ops_of (drop i phases))
    ≡ MarksPhase n ∷ (phase_acts threads (ops_of (get_or phases i d)) ++ acts_from threads keepers (n + 1) (map ops_of (drop (i + 1) phases)))
phase_at threads keepers n phases i d lt = ap (λ (ps : List Phase). acts_from threads keepers n (map ops_of ps)) (drop_more phases i d lt)

first_phase : (threads keepers : ℕ) (phases : List Phase) (d : Phase) → 0 < length phases
    → acts_of threads keepers (map ops_of phases) ≡ phase_acts threads (ops_of (get_or phases 0 d)) ++ acts_from threads keepers 2 (map ops_of (drop 1 phases))
first_phase threads keepers phases d lt = ap (λ (ps : List Phase). acts_of threads keepers (map ops_of ps)) (drop_more phases 0 d lt)

-- the same, of the profile and the names of another judge
pub planned_as : (old new : Judge) (ops : List Op) → IsSizedAs old new → ArePlanned (profile_of old.machine) (names_held old.names) ops
    → ArePlanned (profile_of new.machine) (names_held new.names) ops
planned_as old new ops sized planned =
    rw (sized.names, sized.profile) planned

-- A planned operation is planned for a judge of the same sizes.
pub one_planned_as : (old new : Judge) (op : Op) → IsSizedAs old new → IsPlanned (profile_of old.machine) (names_held old.names) op
    → IsPlanned (profile_of new.machine) (names_held new.names) op
one_planned_as old new op sized planned = (planned_as old new (op ∷ []) sized (planned, tt)).0

-- a phase with its mark
pub phase_done : {text : List ℕ} {old mid new : Judge} {from at marked to : Cursor} {number : ℕ} {ops : List Op} {all there rest : List Act} {taken : Bool}
    (others : List Op) → threads_in mid ≡ threads_in old → ops ≡ others → there ≡ MarksPhase number ∷ (phase_acts (threads_in old) others ++ rest)
    → TakenTo text old from mid at all there true → ((f : Profile) → ActTaken f text mid at mid marked (MarksPhase number) true)
    → TakenTo text mid marked new to (phase_acts (threads_in mid) ops) [] taken → TakenTo text old from new to all rest taken
phase_done {text} {old} {mid} {new} {marked = marked} {to = to} {number = number} {ops = ops} {taken = taken} others threads same is far mark done =
    taken_on (then_taken (MarksPhase number ∷ []) is far (act_taken mark))
    (ahead (subst (λ (os : List Op). TakenTo text mid marked new to (phase_acts (threads_in old) os) [] taken) same (taken_for (λ n. phase_acts n ops) threads done)))

-- the phases from the second on, as a slice has them
take_length : (n : ℕ) (xs : List Phase) → n ≡ length xs → take n xs ≡ xs
take_length zero [] is = refl
take_length zero (x ∷ xs) is = absurd (omega (arith, is))
take_length (suc n) [] is = refl
take_length (suc n) (x ∷ xs) is = ap (λ (ys : List Phase). x ∷ ys) (take_length n xs (omega (arith, is)))

-- As many phases as there are behind the first, taken from there, are all of those.
pub phases_behind_first : (phases : List Phase) → take (length phases - 1) (drop 1 phases) ≡ drop 1 phases
phases_behind_first phases = let long = length-drop 1 phases in take_length (length phases - 1) (drop 1 phases) (omega (arith, long))

-- the first phase, which has no mark, and those after it
module _ {text : List ℕ} {old : Judge} {from : Cursor} {ops : List Op} (keepers : ℕ) (phases : List Phase) (d : Phase) (some : 0 < length phases)
    (is : ops ≡ ops_of (get_or phases 0 d)) where
  first_ahead : {new : Judge} {to : Cursor} {taken : Bool} → TakenTo text old from new to (phase_acts (threads_in old) ops) [] taken
      → TakenTo text old from new to (acts_of (threads_in old) keepers (map ops_of phases))
      (acts_from (threads_in old) keepers 2 (map ops_of (drop 1 phases))) taken
  first_ahead {new} {to} {taken} done =
      let rest : List Act = acts_from (threads_in old) keepers 2 (map ops_of (drop 1 phases)) in
      let same : acts_of (threads_in old) keepers (map ops_of phases) ≡ phase_acts (threads_in old) ops ++ rest = cc (first_phase (threads_in old) keepers phases d some) in
      subst (λ (al : List Act). TakenTo text old from new to al rest taken) (sym same) (ahead done)

  -- Where the first phase fails, the acts of the plan aren't taken.
  pub first_amiss : {new : Judge} {to : Cursor} → TakenTo text old from new to (phase_acts (threads_in old) ops) [] false
      → TakenTo text old from new to (acts_of (threads_in old) keepers (map ops_of phases)) (close_acts (threads_in old) keepers) false
  first_amiss done = stopped (first_ahead done)

  -- Where the first phase was taken, the other phases decide the acts of the plan.
  pub first_on : {mid new : Judge} {at to : Cursor} {taken : Bool} → threads_in mid ≡ threads_in old
      → TakenTo text old from mid at (phase_acts (threads_in old) ops) [] true
      → TakenTo text mid at new to (acts_from (threads_in mid) keepers 2 (map ops_of (drop 1 phases))) (close_acts (threads_in mid) keepers) taken
      → TakenTo text old from new to (acts_of (threads_in old) keepers (map ops_of phases)) (close_acts (threads_in old) keepers) taken
  first_on {mid} {new} {at} {to} {taken} threads one two = taken_on (first_ahead one)
      (subst (λ (m : ℕ). TakenTo text mid at new to (acts_from m keepers 2 (map ops_of (drop 1 phases))) (close_acts m keepers) taken) threads two)

-- ---- What a check comes to
-- ---- a plan's operations
pub plan_few : (text : List ℕ) (plan : Plan) → IsPlanOf text plan → length text ≤ 16777216 → length (phases_of plan.phases) < 2 ^ 31
plan_few text plan is short = omega (arith, (every_plan is).phases, short)

plan_planned : (text : List ℕ) (plan : Plan) → IsPlanOf text plan → ArePlanned plan.profile plan.names_limit (all_ops (map ops_of (phases_of plan.phases)))
plan_planned text plan is =
    all_planned plan.profile plan.names_limit plan.guard [] (all_ops (map ops_of (phases_of plan.phases))) (every_plan is).valid.threads
    (every_plan is).operations (every_plan is).names (every_plan is).keepers

-- The operations of a plan of a text are planned for the judge that was opened for it.
pub planned_there : {text : List ℕ} {plan : Plan} {judge : Judge} {phases : List Phase} → IsPlanOf text plan → IsOpened plan judge
    → phases ≡ phases_of plan.phases
    → ArePlanned (profile_of judge.machine) (names_held judge.names) (all_ops (map ops_of phases))
planned_there {text} {plan} {judge} {phases} is opened same =
    rw (opened.profile, opened.names, same) (plan_planned text plan is)

-- At its beginning a check stands within the transcript.
pub opening_within : (transcript : List ℕ) → length transcript ≤ 16777216 → IsWithin transcript opening
opening_within transcript short = record { bytes = omega arith; lines = omega arith; short = short }

-- ---- the check begins
module _ (text : List ℕ) (plan : Plan) (transcript : List ℕ) (judge : Judge) (is : IsPlanOf text plan) (short : length text ≤ 16777216)
    (opened : IsOpened plan judge)
    (within : IsWithin transcript opening) where
  so_far : IsSoFar plan.profile transcript (at_first plan) judge opening (acts_of plan.profile.threads (keepers_of plan) (map ops_of (phases_of plan.phases)))
  so_far =
      let few = plan_few text plan is short in
      let same = length-map (phases_of plan.phases) ops_of in
      record {
        stand = at_first plan;
        led = leads_nowhere plan.profile transcript (at_first plan) opening within;
        stands = opened.stands;
        due = refl;
        left = refl;
        fit = acts_fit plan.profile plan.names_limit (every_plan is).valid opened.few (keepers_of plan) (keepers_few plan)
            (map ops_of (phases_of plan.phases)) (omega (arith, few, same)) (plan_planned text plan is);
      }

-- ---- the first line that isn't allowed
no_verdict : (plan : Plan) (transcript : List ℕ) (n : ℕ) → Fails plan.profile transcript (at_first plan) opening n → IsVerdict plan transcript (No n)
no_verdict plan transcript n fails = search (arith, fails.number_is, fails.stopped)

-- ---- the acts
-- from the cursor, with the phases and the keepers as they are called there
module _ {text : List ℕ} {plan : Plan} {transcript : List ℕ} {old new : Judge} {from to : Cursor} {phases : List Phase} {keepers : ℕ} (is : IsPlanOf text plan)
    (short : length text ≤ 16777216) (opened : IsOpened plan old) (within : IsWithin transcript opening) (start : from ≡ opening)
    (same : phases ≡ phases_of plan.phases) (kept : keepers ≡ keepers_of plan) where
  there : {taken : Bool} → TakenTo transcript old from new to (acts_of (threads_in old) keepers (map ops_of phases)) [] taken
      → SoTaken plan.profile transcript (at_first plan) new to [] taken
  there done =
      let acts = λ (f : Profile). acts_of f.threads (keepers_of plan) (map ops_of (phases_of plan.phases)) in
      (rw (start, same, kept) at done).far [] plan.profile (at_first plan)
      (so_far_as (ap acts (sym opened.profile) ∙ sym (append-nil _)) (so_far text plan transcript old is short opened within))

  -- Where the lines of the plan's acts fail, the verdict is no, at that line.
  pub acts_amiss : TakenTo transcript old from new to (acts_of (threads_in old) keepers (map ops_of phases)) [] false → new.lacks_memory ≡ false
      → IsVerdict plan transcript (No to.lines)
  acts_amiss done enough = no_verdict plan transcript to.lines (there done enough)

  -- Where the lines of the plan's acts were taken, nothing is left but the report.
  pub acts_on : TakenTo transcript old from new to (acts_of (threads_in old) keepers (map ops_of phases)) [] true
      → IsSoFar plan.profile transcript (at_first plan) new to []
  acts_on done = there done

-- ---- after the acts
module _ (plan : Plan) {transcript : List ℕ} {judge : Judge} {at : Cursor} (so : IsSoFar plan.profile transcript (at_first plan) judge at []) where
  -- there are no more events than lines
  pub known : at.lines ≤ 2 ^ 24 → IsKnown judge.machine
  known low = search arith

  abbrev pub reported : Stand
  reported = after_task plan.profile so.stand Reports []

  report_begins : Leads plan.profile transcript (at_first plan) opening reported at
  report_begins = leads_on so.led (leads_alike plan.profile transcript so.stand reported at so.led.within (begun_alike plan.profile so.stand Reports [] so.due so.left))

  module _ (to : Cursor) {f : Profile} (same : f ≡ plan.profile) where
    -- Where a line of the report fails, the verdict is no, at that line.
    pub report_amiss : IsLed f transcript reported at (with_due reported []) to false → IsVerdict plan transcript (No to.lines)
    report_amiss led = no_verdict plan transcript to.lines (leads_fails report_begins (subst (λ g. Fails g transcript reported at to.lines) same led))

    module _ (led : IsLed f transcript reported at (with_due reported []) to true) where
      -- And behind the report nothing is due.
      ended : Leads plan.profile transcript (at_first plan) opening (with_due reported []) to
      ended = leads_on report_begins (subst (λ g. Leads g transcript reported at (with_due reported []) to) same led)

      -- Where the report was taken and no line is left, the verdict is yes.
      pub ended_well : lines_from transcript to ≡ [] → IsVerdict plan transcript Yes
      ended_well none = ended.whole.1 (subst (λ (ls : List (List ℕ)). IsWhole plan.profile (with_due reported []) ls) (sym none) (with_due reported [], refl, refl))

      -- Where a line is left behind the report, the verdict is no, at that line.
      pub goes_on : (line : List ℕ) (last : Cursor) → lines_from transcript to ≡ line ∷ lines_from transcript last → last.lines ≡ to.lines + 1
          → IsVerdict plan transcript (No last.lines)
      goes_on line last has count =
          no_verdict plan transcript last.lines (subst (Fails plan.profile transcript (at_first plan) opening) (sym count)
          (leads_fails ended (fails_line plan.profile transcript (with_due reported []) to line (lines_from transcript last) has never)))
        where
          never : (next : Stand) → Takes plan.profile (with_due reported []) line next → ⊥
          never next (inl x) = x
          never next (inr y) = y
