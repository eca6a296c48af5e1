-- What an input comes to under a check: the verdict on its transcript, or the first fault of its trace.
use Rattle.std.specs.{Prelude.{ℕ, ◌≡◌, List, ◌++◌, Err, codes}, Fmt.decimal}
use Rattle.pas_trace.specs.{Plans.{IsPlanOf, parsed}, declared.plan.Plan.Plan}
use Rattle.pas_check.specs.{Accepted.IsVerdict, Inputs.{trace_in, transcript_in}, declared.verdict.Verdict.{Verdict, TheVariants.{Yes, No}}}
use Rattle.pas_telling.specs.Faults.{fault_text}
use Rattle.pas_calls.specs.declared.judging.Judgement.{Judgement, TheVariants.{Judged, Faulty}}

-- THE VERDICT on the whole input: its trace is read, and this is the verdict on the transcript behind it
pub record IsJudged (bytes : List ℕ) (verdict : Verdict) : Type 0 where
  pub plan : Plan
  pub read : IsPlanOf (trace_in bytes) plan
  pub verdict_is : IsVerdict plan (transcript_in bytes) verdict

-- the verdict's line and its status: `yes`; or `no line N`, by the first line that isn't allowed
abbrev pub verdict_text : Verdict → List ℕ
verdict_text Yes = codes "yes\n"
verdict_text (No n) = codes "no line " ++ (decimal n ++ codes "\n")

abbrev pub verdict_status : Verdict → ℕ
verdict_status Yes = 0
verdict_status (No n) = 8

-- ---- of a judgement
abbrev pub IsJudgement : List ℕ → Judgement → Type 0
IsJudgement bytes (Judged verdict) = IsJudged bytes verdict
IsJudgement bytes (Faulty fault) = parsed (trace_in bytes) ≡ Err fault

abbrev pub judgement_text : Judgement → List ℕ
judgement_text (Judged verdict) = verdict_text verdict
judgement_text (Faulty fault) = fault_text fault

abbrev pub judgement_status : Judgement → ℕ
judgement_status (Judged verdict) = verdict_status verdict
judgement_status (Faulty fault) = 1
