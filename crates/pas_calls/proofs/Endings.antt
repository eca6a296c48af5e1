-- From how a call that read its input ended to what its status says: of a check, and of a replay.
use Rattle.std.proofs.Common.{◌≡◌, ◌≤◌, ℕ, ◌⊎◌, List, Option, Some, ◌∙◌, sym, inl, inr, arith, ◌<◌, Err, ap, length}
use Rattle.pas_trace.specs.{Plans.{IsPlanOf, parsed}, declared.{plan.Plan.Plan, fault.TraceFault.TraceFault}}
use Rattle.pas_io.specs.Told.{Tells, Rose}
use Rattle.pas_answers.specs.Ways.{Way}
use Rattle.pas_calls.specs.{Manners.way_of, Ends.{Ends, TellsInput}, Judgements.{IsJudged, IsJudgement, judgement_status, judgement_text, verdict_status}}
use Rattle.pas_calls.specs.Outputs.{ChecksTo, ComesTo, HasFailed, IsCheckStatus, IsCutOff, IsOutput, IsReplayStatus, IsReplaying, IsStatus, IsWriting}
use Rattle.pas_calls.{specs.{Outputs.{IsWritten, most_bytes}, declared.judging.Judgement.Judgement}, proofs.{OnePlan.same_verdict, Statuses.answered}}
use Rattle.pas_calls.proofs.Statuses.{cut_off, not_four, sound, written}
use Rattle.pas_check.{specs.{Inputs.{trace_in, transcript_in}, declared.verdict.Verdict.Verdict}, proofs.Verdicts.one_verdict}
use Rattle.pas_telling.specs.{Words.IsChecking, declared.manner.Manner.Manner}

-- ---- what an input comes to is one
one_judged : (bytes : List ℕ) (v w : Verdict) → IsJudged bytes v → IsJudged bytes w → v ≡ w
one_judged bytes v w a b =
    one_verdict b.plan (transcript_in bytes) v w (same_verdict (trace_in bytes) (transcript_in bytes) a.plan b.plan a.read b.read v a.verdict_is) b.verdict_is

other_read : (text : List ℕ) (fault : TraceFault) (plan : Plan) → parsed text ≡ Err fault → IsPlanOf text plan → ⊥
other_read text fault plan first is = let both = sym first ∙ is.read in cc

-- ---- the statuses
writing : (s r : ℕ) → r ≡ s → IsCheckStatus s → IsWriting r
writing s r is has = search arith

-- no such status is 4
never_four : (s : ℕ) → IsCheckStatus s → s ≡ 4 → ⊥
never_four s is four = search arith

-- in each case it computes, or is given
verdict_check : (v : Verdict) → IsCheckStatus (verdict_status v)
verdict_check v = search arith

judgement_check : (judgement : Judgement) → IsCheckStatus (judgement_status judgement)
judgement_check judgement = search (arith, verdict_check)

-- ---- what a judgement of the whole input, and one too long, come to
judgement_comes : (bytes : List ℕ) (judgement : Judgement) → length bytes ≤ most_bytes → IsJudgement bytes judgement
    → ChecksTo bytes (judgement_status judgement) (judgement_text judgement)
judgement_comes bytes judgement short is = search arith

-- What is told of a judgement and of the input's length is what a call for a check tells.
pub tells_judgement : (rest held held' : Option (List ℕ)) (faults faults' result : ℕ) (read : List ℕ) (judgement : Judgement) → IsJudgement read judgement
    → ((bytes : List ℕ) → rest ≡ Some bytes → (read ≡ bytes) × (length bytes ≤ most_bytes))
    → Tells held held' faults faults' (judgement_text judgement) (judgement_status judgement) result
    → TellsInput IsCheckStatus ChecksTo rest held held' faults faults' result
tells_judgement rest held held' faults faults' result read judgement is whole tells = search (arith, judgement_check, judgement_comes)

-- ---- an input that has a verdict, a faulty trace or too many bytes comes to that alone
pub comes_long : (bytes : List ℕ) (status : ℕ) (text : List ℕ) → most_bytes < length bytes → ChecksTo bytes status text → status ≡ 6
comes_long bytes status text long is = search arith

pub comes_faulty : (bytes : List ℕ) (status : ℕ) (text : List ℕ) → length bytes ≤ most_bytes → (fault : TraceFault) → parsed (trace_in bytes) ≡ Err fault
    → ChecksTo bytes status text → status ≡ 1
comes_faulty bytes status text short fault first is = search (arith, other_read)

pub comes_judged : (bytes : List ℕ) (status : ℕ) (text : List ℕ) → length bytes ≤ most_bytes → (verdict : Verdict) → IsJudged bytes verdict
    → ChecksTo bytes status text → status ≡ verdict_status verdict
comes_judged bytes status text short verdict judged (inl has) = has.status_is ∙ ap verdict_status (one_judged bytes has.verdict verdict has.judged judged)
comes_judged bytes status text short verdict judged (inr (inl (one, mis))) = absurd (other_read (trace_in bytes) mis.fault judged.plan mis.first judged.read)
comes_judged bytes status text short verdict judged (inr (inr (six, is))) = absurd (omega (arith, is.long, short))

comes_verdict : (bytes : List ℕ) (status : ℕ) (text : List ℕ) → length bytes ≤ most_bytes → (plan : Plan) → IsPlanOf (trace_in bytes) plan
    → ChecksTo bytes status text → (v : Verdict) × (status ≡ verdict_status v)
comes_verdict bytes status text short plan read (inl has) = (has.verdict, has.status_is)
comes_verdict bytes status text short plan read (inr (inl (one, mis))) = absurd (other_read (trace_in bytes) mis.fault plan mis.first read)
comes_verdict bytes status text short plan read (inr (inr (six, is))) = absurd (omega (arith, is.long, short))

-- .. of a replay
module _ {way : Way} (bytes : List ℕ) (status : ℕ) (text : List ℕ) (comes : ComesTo way bytes status text) where
  -- Each other status is that of an input which isn't too long.
  pub replay_long : most_bytes < length bytes → status ≡ 6
  replay_long long = search arith

  pub replay_faulty : length bytes ≤ most_bytes → (fault : TraceFault) → parsed bytes ≡ Err fault → status ≡ 1
  replay_faulty short fault first = search (arith, other_read)

  is_replayed : length bytes ≤ most_bytes → (plan : Plan) → IsPlanOf bytes plan → status ≡ 0
  is_replayed short plan read = search (arith, other_read)

-- in each case it computes, or is given
zero_or_eight_of : (r : ℕ) (v : Verdict) → r ≡ verdict_status v → (r ≡ 0) ⊎ (r ≡ 8) ⊎ (r ≡ 5)
zero_or_eight_of r v is = search arith

zero_or_eight : (r s : ℕ) → r ≡ s → (v : Verdict) × (s ≡ verdict_status v) → (r ≡ 0) ⊎ (r ≡ 8) ⊎ (r ≡ 5)
zero_or_eight r s is (v, has) = zero_or_eight_of r v (is ∙ has)

-- ---- how a call ended
not_other : (s r : ℕ) → r ≡ s → IsCheckStatus s → (r ≡ 3) ⊎ (r ≡ 5) → ⊥
not_other s r is has h = search arith

-- the numbers differ
four_alone : (r : ℕ) → r ≡ 4 → (r ≡ 3) ⊎ (r ≡ 5) → ⊥
four_alone r four is = search arith

writing_other : (r : ℕ) → IsWriting r → (r ≡ 3) ⊎ (r ≡ 5) → ⊥
writing_other r is has = search (arith, not_other)

-- what a call for a check tells, and one for a replay
pub check_output : {words : List (List ℕ)} {rest : Option (List ℕ)} → IsChecking words → (status : ℕ) (text : List ℕ) → IsCheckStatus status
    → ((bytes : List ℕ) → rest ≡ Some bytes → ChecksTo bytes status text) → IsOutput words rest status text
check_output asked status text status_is comes = inr (inr (inl (record { asked = asked; status_is = status_is; comes = comes })))

pub replay_output : {words : List (List ℕ)} {rest : Option (List ℕ)} (manner : Manner) → IsReplaying manner words → (status : ℕ) (text : List ℕ)
    → IsReplayStatus status → ((bytes : List ℕ) → rest ≡ Some bytes → ComesTo (way_of manner) bytes status text) → IsOutput words rest status text
replay_output manner asked status text status_is comes = inr (inl (record { manner = manner; asked = asked; status_is = status_is; comes = comes }))

module _ {MayTell : ℕ → Type 0} {Comes : List ℕ → ℕ → List ℕ → Type 0} {rest rest' held held' : Option (List ℕ)} {misses misses' faults faults' result : ℕ}
    (ends : Ends MayTell Comes rest rest' misses misses' held held' faults faults' result) where
  -- memory was wanting; or a read failed; or it was told what the input comes to
  by_end : (P : Type 0) → (result ≡ 5 → P) → ((result ≡ 3) × HasFailed rest rest' misses misses' → P)
      → (TellsInput MayTell Comes rest held held' faults faults' result → P) → P
  by_end P wanting missed told = elim ends [ inl five ↦ wanting five | inr more ↦ elim more [ inl failed ↦ missed failed | inr t ↦ told t ] ]

  -- A call that wasn't cut off left the sink's faults as they were, where it did so when it failed.
  pub ended_sound : ((result ≡ 3) ⊎ (result ≡ 5) → faults' ≡ faults) → (result ≡ 4 → ⊥) → faults' ≡ faults
  ended_sound unheard other = by_end (faults' ≡ faults) (λ five. unheard (inr five)) (λ failed. unheard (inl failed.0)) (λ t. sound held held' t.tells other)

  -- ---- where the statuses that it may tell are those of a check
  module _ (may : (s : ℕ) → MayTell s → IsCheckStatus s) where
    -- a status that was told isn't that of memory, nor that of a read that failed
    told_other : TellsInput MayTell Comes rest held held' faults faults' result → (result ≡ 3) ⊎ (result ≡ 5) → ⊥
    told_other t other = search (arith, answered, not_other, four_alone)

    -- It ends with a status.
    pub ended_status : IsStatus result
    ended_status = search (arith, by_end, answered, writing)

    -- Where it ended with status 3, it has failed to read.
    pub ended_failed : result ≡ 3 → HasFailed rest rest' misses misses'
    ended_failed three = search (arith, by_end, told_other)

    -- ---- .. and what it tells is what its words ask for
    module _ (words : List (List ℕ)) (output : (status : ℕ) (text : List ℕ) → MayTell status → ((bytes : List ℕ) → rest ≡ Some bytes → Comes bytes status text)
        → IsOutput words rest status text) where
      -- Where it ended with a status of writing, it wrote that.
      pub ended_written : IsWriting result → IsWritten words rest held held' result
      ended_written wrote = by_end (IsWritten words rest held held' result) (λ five. absurd (writing_other result wrote (inr five)))
          (λ failed. absurd (writing_other result wrote (inl failed.0)))
          (λ t. written t.tells (output t.status t.text t.status_is t.comes) (not_four result wrote))

      -- Where it ended with status 4, it was cut off.
      pub ended_cut_off : result ≡ 4 → IsCutOff words rest held held' faults faults'
      ended_cut_off four = by_end (IsCutOff words rest held held' faults faults') (λ five. absurd (four_alone result four (inr five)))
          (λ failed. absurd (four_alone result four (inl failed.0)))
          (λ t. cut_off t.tells (output t.status t.text t.status_is t.comes) (never_four t.status (may t.status t.status_is)) four)

  -- ---- where the source tells its bytes
  module _ (bytes : List ℕ) (told : rest ≡ Some bytes) where
    -- Where the input comes to this status alone, it is that of the call, unless memory was wanting, or the source or the sink failed.
    pub ended_with : (s : ℕ) → ((status : ℕ) (text : List ℕ) → Comes bytes status text → status ≡ s)
        → (result ≡ s) ⊎ (result ≡ 3) ⊎ (result ≡ 4) ⊎ (result ≡ 5)
    ended_with s alone = search (arith, by_end, answered)

    -- Where neither the source nor the sink failed, it is what the input comes to, unless memory was wanting.
    pub ended_sure : (Rose misses misses' → ⊥) → (Rose faults faults' → ⊥)
        → (result ≡ 5) ⊎ ((status : ℕ) × (text : List ℕ) × (result ≡ status) × Comes bytes status text)
    ended_sure never unfailed = search (arith, by_end)

-- A check whose input can be judged ends with 0, 8 or 5, where neither the source nor the sink failed.
pub check_sure : (bytes : List ℕ) (result : ℕ) → length bytes ≤ most_bytes → (plan : Plan) → IsPlanOf (trace_in bytes) plan
    → (result ≡ 5) ⊎ ((status : ℕ) × (text : List ℕ) × (result ≡ status) × ChecksTo bytes status text) → (result ≡ 0) ⊎ (result ≡ 8) ⊎ (result ≡ 5)
check_sure bytes result short plan read given = search (arith, zero_or_eight, comes_verdict)

-- A replay ends with 0 or 5 then.
pub replay_sure : {way : Way} (bytes : List ℕ) (result : ℕ) → length bytes ≤ most_bytes → (plan : Plan) → IsPlanOf bytes plan
    → (result ≡ 5) ⊎ ((status : ℕ) × (text : List ℕ) × (result ≡ status) × ComesTo way bytes status text) → (result ≡ 0) ⊎ (result ≡ 5)
replay_sure bytes result short plan read given = search (arith, is_replayed)
