-- From how a call ended to what its status says: of a check, of a replay in the order of the text, and of a generated trace and its summary.
use Rattle.std.proofs.Common.{◌≡◌, ◌≤◌, ℕ, ◌⊎◌, List, Option, ◌∙◌, sym, subst, inl, inr, arith, refl, ap, length, Bool, true, false, ◌++◌, All, drop_at}
use Rattle.std.proofs.lemmas.List.Elements.{All-drop}
use Rattle.pas_io.{specs.Told.{Tells, Rose, Writes, WritesFront}, proofs.Telling.writes_more}
use Rattle.pas_calls.specs.{Outputs.{ComesTo, IsOutput, IsWriting, IsWritten, IsCutOff, IsReplayStatus, GenComesTo, IsGen}, Ends.TellsInput, Givens.IsAllOf}
use Rattle.pas_calls.specs.{Wrote.{Wrote, front_after}, Generating.IsSummarized, Generated.Generates, Outcomes.IsShowing, Ordered.{TellsLines, TellsReplay}}
use Rattle.pas_calls.proofs.Headline.{order_comes, totals_are}
use Rattle.pas_trace.specs.{Plans.IsPlanOf, declared.plan.Plan.Plan}
use Rattle.pas_telling.specs.{Outcomes.shown_text, Summaries.summary_text}
use Rattle.pas_steps.specs.declared.state.State.{State}
use Rattle.pas_report.specs.Counts.{report_by_words, totals_by_words}
use Rattle.pas_records.{specs.{Lines.{CanShow, lines_of}, declared.record.Record.Record}, proofs.Pieces.front_longer}
use Rattle.pas_answers.{specs.{Replays.Shows, Ways.InOrder}, proofs.Consequences.can_be_shown}
use Rattle.pas_generate.specs.Traces.{trace_text}

-- ---- a call that told a text for a status, which wasn't 4
module _ (before after : Option (List ℕ)) {faults faults' : ℕ} {text : List ℕ} {status answer : ℕ}
    (tells : Tells before after faults faults' text status answer) where
  pub answered : (answer ≡ status) ⊎ (answer ≡ 4)
  answered = elim tells [ inl whole ↦ inl whole.0 | inr cut ↦ inr cut.0 ]

  -- the sink counted a fault in no other case
  pub sound : (answer ≡ 4 → ⊥) → faults' ≡ faults
  sound whole = elim tells [ inl wrote ↦ wrote.1 | inr cut ↦ absurd (whole cut.0) ]

module _ {before after : Option (List ℕ)} {faults faults' : ℕ} {text : List ℕ} {status answer : ℕ}
    (tells : Tells before after faults faults' text status answer) where
  -- What a call tells and writes, without being cut off, is written whole.
  pub written : {words : List (List ℕ)} {told : Option (List ℕ)} → IsOutput words told status text → (answer ≡ 4 → ⊥)
      → IsWritten words told before after answer
  written {words} {told} output whole = elim tells [
    | inl wrote ↦ record { text = text; output = subst (λ s. IsOutput words told s text) (sym wrote.0) output; written = wrote.2 }
    | inr cut ↦ absurd (whole cut.0)
  ]

  -- A call that ended with status 4 was cut off.
  pub cut_off : {words : List (List ℕ)} {told : Option (List ℕ)} → IsOutput words told status text → (status ≡ 4 → ⊥) → answer ≡ 4
      → IsCutOff words told before after faults faults'
  cut_off output other four = elim tells [
    | inl whole ↦ absurd (other (sym whole.0 ∙ four))
    | inr cut ↦ record { rose = cut.1; status = status; text = text; output = output; written = cut.2 }
  ]

-- a status with which the whole text was written is none of the two with which it wasn't
not_quiet : (quiet answer : ℕ) → 4 ≤ quiet → quiet ≤ 5 → IsWriting answer → answer ≡ quiet → ⊥
not_quiet quiet answer lo hi writing is = search arith

-- A call that is writing never ends with status 4.
pub not_four : (answer : ℕ) → IsWriting answer → answer ≡ 4 → ⊥
not_four answer writing four = not_quiet 4 answer (omega arith) (omega arith) writing four

-- ---- What `order` tells of a replay, whose lines were written as they came, and then the report.
pub waiting_shown : {plan : Plan} {state : State} (told waiting : List Record) → Shows InOrder plan (told ++ waiting) state → All CanShow waiting
waiting_shown told waiting shows = rw drop_at at (All-drop CanShow (length told) (told ++ waiting) (can_be_shown shows.replay))

-- What was written between two moments of a sink was written between others, where the sink was the same.
pub wrote_as : {K : Type 0} (held : K → Option (List ℕ)) (faults : K → ℕ) (text : List ℕ) (b : K) {x x' y y' : Bool} {a a' : K} → x ≡ x' → y ≡ y' → a ≡ a'
    → Wrote x y (held a) (held b) (faults a) (faults b) text → Wrote x' y' (held a') (held b) (faults a') (faults b) text
wrote_as {K} held faults text b {x} {x'} {y} {y'} {a} {a'} first last begun wrote =
    search arith

-- ---- the end of a replay whose lines were written
module _ {plan : Plan} {held held' : Option (List ℕ)} {faults faults' : ℕ} {state : State} {failed : Bool}
    (lines : TellsLines plan held held' faults faults' state failed) where
  -- A write of a line failed, and nothing was written then.
  pub cut_in_lines : failed ≡ true → TellsReplay plan held held' faults faults' 4
  cut_in_lines is =
      let cut = subst (λ (b : Bool). Wrote false b held held' faults faults' (lines_of lines.records)) is lines.wrote in
      record {
        records = lines.records;
        state = state;
        shows = lines.shows;
        tells = inr (refl, cut.1, front_longer held held' (lines_of lines.records) (report_by_words state) (shown_text lines.records state) refl cut.0);
      }

  -- Where no write failed, all lines were written.
  whole : failed ≡ false → Wrote false false held held' faults faults' (lines_of lines.records)
  whole is = subst (λ (b : Bool). Wrote false b held held' faults faults' (lines_of lines.records)) is lines.wrote

  -- All lines were written, and then the report was written ..
  pub report_told : {held'' : Option (List ℕ)} {faults'' : ℕ} → failed ≡ false → Writes held' held'' (report_by_words state) → faults'' ≡ faults'
      → TellsReplay plan held held'' faults faults'' 0
  report_told {held''} {faults''} is report same = record {
    records = lines.records;
    state = state;
    shows = lines.shows;
    tells = inl (refl, same ∙ (whole is).1, writes_more held held' held'' (lines_of lines.records) (report_by_words state) (whole is).0 report);
  }

  -- .. or cut off.
  pub cut_in_report : {held'' : Option (List ℕ)} {faults'' : ℕ} → failed ≡ false → WritesFront held' held'' (report_by_words state) → Rose faults' faults''
      → TellsReplay plan held held'' faults faults'' 4
  cut_in_report {held''} {faults''} is report rose = record {
    records = lines.records;
    state = state;
    shows = lines.shows;
    tells = inr (refl, subst (λ (n : ℕ). Rose n faults'') (whole is).1 rose, front_after held held' held'' (lines_of lines.records) (report_by_words state) (whole is).0 report);
  }

-- What was told of a replay of a plan of the text is what the input comes to.
pub order_told : {plan : Plan} {rest held held' : Option (List ℕ)} {faults faults' result : ℕ} (text : List ℕ) → IsAllOf rest text → IsPlanOf text plan
    → TellsReplay plan held held' faults faults' result → TellsInput IsReplayStatus (ComesTo InOrder) rest held held' faults faults' result
order_told {plan} text is read told = record {
  status = 0;
  text = shown_text told.records told.state;
  status_is = inl refl;
  comes = λ bytes all. rw (is.all bytes all) at (order_comes text plan told.records told.state is.short read told.shows);
  tells = told.tells;
}

-- ---- the summary
pub summarized : (seed ops threads pages : ℕ) (bytes : List ℕ) (records : List Record) (state : State) (text : List ℕ) → IsShowing InOrder bytes records state
    → bytes ≡ trace_text seed ops threads pages
    → text ≡ summary_text ops records (totals_by_words state) → IsSummarized seed ops threads pages text
summarized seed ops threads pages bytes records state text is from text_is = record {
  plan = is.plan;
  read = subst (λ (t : List ℕ). IsPlanOf t is.plan) from is.read;
  whole = is.shown.shows.whole;
  records = records;
  replay = is.shown.shows.replay;
  text_is = text_is ∙ ap (summary_text ops records) (totals_are is.read is.shown.shows);
}

-- ---- a call that told it
gen_not_four : (seed ops threads pages status : ℕ) (text : List ℕ) → GenComesTo seed ops threads pages status text → status ≡ 4 → ⊥
gen_not_four seed ops threads pages status text comes four = let zero : status ≡ 0 = comes.0 in omega (arith, zero, four)

gen_output : {words : List (List ℕ)} {told : Option (List ℕ)} {seed ops threads pages status : ℕ} {text : List ℕ} → IsGen words seed ops threads pages
    → GenComesTo seed ops threads pages status text → IsOutput words told status text
gen_output {seed = seed} {ops = ops} {threads = threads} {pages = pages} asked comes =
    inr (inr (inr (record { seed = seed; ops = ops; threads = threads; pages = pages; asked = asked; comes = comes })))

module _ {before after : Option (List ℕ)} {faults faults' seed ops threads pages answer : ℕ}
    (generates : Generates before after faults faults' seed ops threads pages answer) where
  -- The writing of a generated trace that ended with status 4 was cut off.
  pub gen_cut_off : {words : List (List ℕ)} {told : Option (List ℕ)} → IsGen words seed ops threads pages → answer ≡ 4
      → IsCutOff words told before after faults faults'
  gen_cut_off asked four = elim generates [
    | inl five ↦ absurd (omega (arith, five, four))
    | inr (status, text, comes, tells) ↦ cut_off tells (gen_output asked comes) (gen_not_four seed ops threads pages status text comes) four
  ]

  -- The writing of a generated trace, that isn't cut off, is written whole.
  pub gen_written : {words : List (List ℕ)} {told : Option (List ℕ)} → IsGen words seed ops threads pages → IsWriting answer
      → IsWritten words told before after answer
  gen_written asked writing = elim generates [
    | inl five ↦ absurd (not_quiet 5 answer (omega arith) (omega arith) writing five)
    | inr (status, text, comes, tells) ↦ written tells (gen_output asked comes) (not_four answer writing)
  ]

module _ (before after : Option (List ℕ)) {faults faults' seed ops threads pages answer : ℕ}
    (generates : Generates before after faults faults' seed ops threads pages answer) where
  -- the sink counted a fault in no other case
  pub gen_sound : (answer ≡ 5 → faults' ≡ faults) → (answer ≡ 4 → ⊥) → faults' ≡ faults
  gen_sound unheard whole = elim generates [ inl five ↦ unheard five | inr (status, text, comes, tells) ↦ sound before after tells whole ]

  -- ---- a call whose sink didn't fail
  pub gen_summed : (Rose faults faults' → ⊥) → (answer ≡ 0) ⊎ (answer ≡ 5)
  gen_summed never = search arith
