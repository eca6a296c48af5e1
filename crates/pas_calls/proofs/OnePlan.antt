-- The verdict for one plan of a text is that for each.
use Rattle.std.proofs.Common.{arith, ◌≡◌, ℕ, ◌==◌, if◌then◌else◌, List, [], ◌∷◌, ◌++◌, Result, Ok, sym, ◌∙◌, map}
use Rattle.pas_profile.specs.declared.profile.Profile.{Profile}
use Rattle.pas_trace.specs.{Acts.acts_of, Plans.{IsPlanOf, Parsed, ops_of, phases_of}, declared.{fault.TraceFault.TraceFault, plan.{Op.Op, Plan.Plan}}}
use Rattle.pas_check.specs.{Accepted.{IsAccepted, IsStopped, IsVerdict, IsWhole}, Lines.lines_in, States.{Does, Reports, Stand}}
use Rattle.pas_check.specs.declared.verdict.Verdict.{Verdict, TheVariants.{Yes, No}}

-- a verdict on a transcript for a region and phases of operations
abbrev first : Profile → ℕ → List (List Op) → Stand
first f guard phases = record {
  events = [];
  names = [];
  logs = λ k. [];
  idle_since = λ k. 0;
  epoch = 0;
  guards = [];
  due = [];
  left = map Does (acts_of f.threads (if guard == 0 then 0 else f.threads) phases) ++ Reports ∷ [];
}

abbrev JudgesIn : List ℕ → Verdict → Profile → ℕ → List (List Op) → Type 0
JudgesIn text Yes f guard phases = IsWhole f (first f guard phases) (lines_in text)
JudgesIn text (No n) f guard phases = IsStopped f (first f guard phases) (lines_in text) n

same_ok : {x y : Parsed} → ◌≡◌ {A = Result Parsed TraceFault} (Ok x) (Ok y) → x ≡ y
same_ok is = cc

same_parsed : (bytes : List ℕ) (a b : Plan) (p : IsPlanOf bytes a) (q : IsPlanOf bytes b) → ◌≡◌ {A = Parsed} record { header = p.header; items = p.items } record { header = q.header; items = q.items }
same_parsed bytes a b p q = same_ok (sym p.read ∙ q.read)

-- in each case it computes, or is given
to_parts : (text : List ℕ) (v : Verdict) (a : Plan) → IsVerdict a text v → JudgesIn text v a.profile a.guard (map ops_of (phases_of a.phases))
to_parts text v a is = search arith

-- in each case it computes, or is given
of_parts : (text : List ℕ) (v : Verdict) (a : Plan) → JudgesIn text v a.profile a.guard (map ops_of (phases_of a.phases)) → IsVerdict a text v
of_parts text v a is = search arith

-- The verdict for one plan of a text is that for each.
pub same_verdict : (bytes text : List ℕ) (a b : Plan) → IsPlanOf bytes a → IsPlanOf bytes b → (v : Verdict) → IsVerdict a text v → IsVerdict b text v
same_verdict bytes text a b p q v verdict = search (arith, same_parsed, to_parts, of_parts)

-- A transcript that is accepted for one plan of a text is accepted for each.
pub same_plan : (bytes text : List ℕ) (a b : Plan) → IsPlanOf bytes a → IsPlanOf bytes b → IsAccepted a text → IsAccepted b text
same_plan bytes text a b p q accepted = same_verdict bytes text a b p q Yes accepted
