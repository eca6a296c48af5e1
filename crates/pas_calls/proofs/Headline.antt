-- From what a replay shows to what is written of it: in the order of the text, the text of the bytes, whose verdict is yes.
use Rattle.std.proofs.Common.{◌≡◌, ℕ, List, [], ◌∷◌, Option, Some, Result, Ok, codes, get_or, inl, inr, refl, ap, sym, subst, ◌∙◌, arith, ◌≤◌, length}
use Rattle.pas_profile.specs.{declared.profile.Profile.Profile, Profiles.{IsValid, IsWordOf}}
use Rattle.pas_trace.specs.{Plans.{IsPlanOf, Parsed, IsReading}, declared.{fault.{TraceFault.TraceFault, ReadFault.ReadFault}, plan.Plan.Plan}}
use Rattle.pas_generate.specs.Traces.{trace_text}
use Rattle.pas_report.{specs.{Reports.{total_line, report_text}, Counts.{report_by_words, totals_by_words}}, proofs.ReportOfWords.{line_agrees, are_deed_words}}
use Rattle.pas_report.proofs.ReportOfWords.{report_agrees}
use Rattle.pas_answers.{specs.{Replays.{keepers_of, phases_of, Shows}, Ways.{Way, InOrder}}, proofs.Consequences.can_be_shown}
use Rattle.pas_replay.specs.OneThread.{IsOfOneThread}
use Rattle.pas_same_text.{specs.{State.World, Order.replayed, Told.IsTold}, proofs.{AllActs.{own_told, order_told}, TextOfBytes.replay_told}}
use Rattle.pas_telling.specs.{declared.{manner.Manner.Manner, outcome.Outcome.{Outcome, TheVariants.{Replayed, Faulty}}}, Outcomes.{IsShown, IsWritable}}
use Rattle.pas_telling.specs.Outcomes.{outcome_status, outcome_text, shown_text}
use Rattle.pas_calls.specs.{Generating.IsSummarized, Manners.way_of, Outcomes.IsOutcome, OneText.{IsTextOf, WritesTextOf, IsOfOne, IsTextBy, summary_of_world}}
use Rattle.pas_calls.specs.{OneText.IsSummaryOf, Outputs.{ComesTo, IsReplaying, IsChecking, IsGen, IsOutput, IsReplayed, IsWritten, most_bytes, IsReplayStatus}}
use Rattle.pas_calls.{specs.Ends.TellsInput, proofs.{OnePlan.same_plan, Whole.replay_accepted}}
use Rattle.pas_steps.specs.{Lists.{Legal, visible}, States.profile_of, declared.state.State.State}
use Rattle.pas_core.proofs.MachineRuns.{agrees}
use Rattle.pas_acts.proofs.PlanFacts.{plan_valid}
use Rattle.pas_check.{specs.{Accepted.{IsAccepted, IsVerdict}, declared.verdict.Verdict.{Verdict, TheVariants.Yes}}, proofs.Verdicts.one_verdict}
use Rattle.pas_records.specs.{Marks.marks_after, Rests.{AreStamped, HasWords}, Rooms.records_in, declared.record.Record.Record}
use Rattle.pas_records.proofs.MarksAtRest.{nobody_holds}
use Rattle.pas_io.specs.Told.{Tells}

-- ---- the text
text_told : (bytes text : List ℕ) → IsReplayed InOrder bytes text → IsTextOf bytes text
text_told bytes text is =
    order_told bytes is.plan is.whole is.records is.read is.replay ∙ ap (λ (t : List ℕ). let o : Option (List ℕ) = Some t in o) (sym is.text_is)

-- ---- of a trace of one thread alone
-- what is said of one plan of the bytes is so of each
same_ok : {x y : Parsed} → ◌≡◌ {A = Result Parsed TraceFault} (Ok x) (Ok y) → x ≡ y
same_ok is = cc

-- Each plan of bytes that are of one thread is a plan of one thread.
alone_of : (bytes : List ℕ) (plan : Plan) → IsPlanOf bytes plan → IsOfOne bytes → IsOfOneThread plan
alone_of bytes plan is (other, read, one) =
    search (arith, same_ok)

-- whatever a replay in this way shows is written
text_by : (way : Way) (bytes text : List ℕ) → IsReplayed way bytes text → (IsOfOne bytes → IsReplayed InOrder bytes text) → IsTextBy way bytes text
text_by way bytes text is alone = search (arith, text_told)

-- ---- the summary
abbrev by_state : ℕ → Profile → World → Option (List ℕ)
by_state ops f w = Some (summary_of_world ops f w)

-- The summary that is written of a replayed generated trace is that of its numbers.
pub summary_told : (seed ops threads pages : ℕ) (text : List ℕ) → IsSummarized seed ops threads pages text → IsSummaryOf seed ops threads pages text
summary_told seed ops threads pages text is =
    let bytes : List ℕ = trace_text seed ops threads pages in
    let f : Profile = is.plan.profile in
    let w : World = replayed f (keepers_of is.plan) (phases_of is.plan) in
    let told : IsTold is.plan is.whole is.records w = own_told bytes is.plan is.whole is.records is.read is.replay in
    cc (replay_told (by_state ops) bytes is.plan is.read)

-- ---- what `order` wrote with status 0
in_order : (manner : Manner) (words : List (List ℕ)) → IsReplaying Manner.InOrder words → IsReplaying manner words → way_of manner ≡ InOrder
in_order manner words asked is = search arith

no_check : (words : List (List ℕ)) → IsReplaying Manner.InOrder words → IsChecking words → ⊥
no_check words asked is = let first : 111 ≡ 99 = ap (λ (ws : List (List ℕ)). get_or (get_or ws 0 []) 0 0) (sym asked ∙ is) in omega (arith, first)

no_gen : (words : List (List ℕ)) (seed ops threads pages : ℕ) → IsReplaying Manner.InOrder words → IsGen words seed ops threads pages → ⊥
no_gen words seed ops threads pages asked is = let both : codes "order" ∷ [] ≡ codes "gen" ∷ is.s ∷ is.o ∷ is.t ∷ is.p ∷ [] = sym asked ∙ is.words_are in cc

-- in each case it computes, or is given
transcript_told : (bytes text : List ℕ) → ComesTo InOrder bytes 0 text → IsTextOf bytes text
transcript_told bytes text is = search arith

output_told : (words : List (List ℕ)) (told : Option (List ℕ)) (text : List ℕ) → IsReplaying Manner.InOrder words → IsOutput words told 0 text
    → (bytes : List ℕ) → told ≡ Some bytes → IsTextOf bytes text
output_told words told text asked (inl (none, two, is)) bytes tells = absurd (omega (arith, two))
output_told words told text asked (inr (inl is)) bytes tells =
    transcript_told bytes text (subst (λ (way : Way). ComesTo way bytes 0 text) (in_order is.manner words asked is.asked) (is.comes bytes tells))
output_told words told text asked (inr (inr (inl is))) bytes tells = absurd (no_check words asked is.asked)
output_told words told text asked (inr (inr (inr is))) bytes tells = absurd (no_gen words is.seed is.ops is.threads is.pages asked is.asked)

-- A replay in the order of the text that ended with status 0 wrote the text of its bytes.
pub written_told : (words : List (List ℕ)) (told before after : Option (List ℕ)) (status : ℕ) → IsReplaying Manner.InOrder words
    → IsWritten words told before after status → (bytes : List ℕ) → told ≡ Some bytes → status ≡ 0 → WritesTextOf bytes before after
written_told words told before after status asked is bytes tells zero_is =
    (is.text, output_told words told is.text asked (subst (λ (s : ℕ). IsOutput words told s is.text) zero_is is.output) bytes tells, is.written)

-- ---- the state after a replay is a region at rest
module _ {bytes : List ℕ} {way : Way} {plan : Plan} {records : List Record} {state : State} (read : IsPlanOf bytes plan) (shows : Shows way plan records state)
  where
    has_words : HasWords state shows.whole
    has_words = record { words = λ w of. shows.words w (subst (λ (f : Profile). IsWordOf f w) shows.profile of) }

    valid_state : IsValid (profile_of state)
    valid_state = subst IsValid (sym shows.profile) (plan_valid read)

    legal_state : Legal (profile_of state) shows.whole
    legal_state = subst (λ (f : Profile). Legal f shows.whole) (sym shows.profile) shows.replay.legal

    -- what was said can be written, and the report of the words
    pub can_show : IsShown records state
    can_show = record { lines = can_be_shown shows.replay; deeds = are_deed_words state shows.whole has_words valid_state legal_state }

    report_is : report_by_words state ≡ report_text plan.profile (visible shows.whole) (marks_after shows.whole)
    report_is =
        report_agrees state shows.whole has_words valid_state legal_state
        (nobody_holds (profile_of state) shows.whole valid_state legal_state (record { nobody = λ k g. (shows.replay.nothing k).grains g }))
        (subst (λ (f : Profile). AreStamped f shows.whole) (sym shows.profile) shows.replay.stamps)
        ∙ ap (λ (f : Profile). report_text f (visible shows.whole) (marks_after shows.whole)) shows.profile

    -- the totals of a summary are the machine's
    pub totals_are : totals_by_words state ≡ total_line plan.profile (visible shows.whole)
    totals_are = search (arith, line_agrees, has_words, agrees, valid_state, legal_state)

    -- WHAT EITHER WAY SHOWS is what is written
    shown_replayed : IsReplayed way bytes (shown_text records state)
    shown_replayed = search (arith, report_is)

-- ---- what an input comes to
pub can_write : (way : Way) (bytes : List ℕ) (outcome : Outcome) → IsOutcome way bytes outcome → IsWritable outcome
can_write way bytes (Replayed records state) replay = can_show replay.read replay.shown.shows
can_write way bytes (Faulty fault) first = tt

comes_to : (way : Way) (bytes : List ℕ) (outcome : Outcome) → length bytes ≤ most_bytes → IsOutcome way bytes outcome
    → ComesTo way bytes (outcome_status outcome) (outcome_text outcome)
comes_to way bytes (Replayed records state) short replay =
    let text : List ℕ = shown_text (records_in records) state in
    let replayed : IsReplayed way bytes text = shown_replayed replay.read replay.shown.shows in
    let alone : IsOfOne bytes → IsReplayed InOrder bytes text = λ one. shown_replayed replay.read (replay.shown.alone (alone_of bytes replay.plan replay.read one)) in
    inl (refl, record { short = short; replayed = replayed; told = text_by way bytes text replayed alone })
comes_to way bytes (Faulty fault) short first = inr (inl (refl, record { short = short; fault = fault; first = first; text_is = refl }))

-- What a replay in the order of the text shows is what its bytes come to.
pub order_comes : (bytes : List ℕ) (plan : Plan) (records : List Record) (state : State) → length bytes ≤ most_bytes → IsPlanOf bytes plan
    → Shows InOrder plan records state
    → ComesTo InOrder bytes 0 (shown_text records state)
order_comes bytes plan records state short read shows =
    let text : List ℕ = shown_text records state in
    let replayed : IsReplayed InOrder bytes text = shown_replayed read shows in
    inl (refl, record { short = short; replayed = replayed; told = text_by InOrder bytes text replayed (λ one. replayed) })

-- The status of each outcome of a replay is one of these: outcome by outcome.
replay_status : (outcome : Outcome) → IsReplayStatus (outcome_status outcome)
replay_status outcome = search arith

-- What is told of an outcome and of the input's length is what a call for a replay tells.
pub tells_outcome : (way : Way) (rest held held' : Option (List ℕ)) (faults faults' result : ℕ) (read : List ℕ) (outcome : Outcome) → IsOutcome way read outcome
    → ((bytes : List ℕ) → rest ≡ Some bytes → (read ≡ bytes) × (length bytes ≤ most_bytes))
    → Tells held held' faults faults' (outcome_text outcome) (outcome_status outcome) result
    → TellsInput IsReplayStatus (ComesTo way) rest held held' faults faults' result
tells_outcome way rest held held' faults faults' result read outcome is whole tells = search (arith, replay_status, comes_to)

-- ---- Every transcript of `order` is accepted.
pub transcript_accepted : (bytes text : List ℕ) → IsReplayed InOrder bytes text → (plan : Plan) → IsPlanOf bytes plan → IsAccepted plan text
transcript_accepted bytes text is plan read = same_plan bytes text is.plan plan is.read read
    (subst (IsAccepted is.plan) (sym is.text_is) (replay_accepted is.plan is.whole is.records (plan_valid is.read) is.replay))

-- The verdict on each transcript of `order` is yes.
pub transcript_verdict : (bytes text : List ℕ) → IsReplayed InOrder bytes text → (plan : Plan) → IsPlanOf bytes plan → (v : Verdict) → IsVerdict plan text v
    → v ≡ Yes
transcript_verdict bytes text is plan read v verdict = one_verdict plan text v Yes verdict (transcript_accepted bytes text is plan read)

-- ---- What was read of an input.
pub read_plan : (bytes text : List ℕ) (read : Result Plan ReadFault) (plan : Plan) → text ≡ bytes → read ≡ Ok plan → IsReading text read → IsPlanOf bytes plan
read_plan bytes text read plan same is reading = subst (λ b. IsPlanOf b plan) same (subst (IsReading text) is reading)
