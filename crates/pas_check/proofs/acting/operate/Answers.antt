use Rattle.std.proofs.Common.{◌≡◌, ◌<◌, ◌^◌, ℕ, None, ap, subst, arith, MatchOption}
use Rattle.pas_trace.specs.{Acts.{Guards, act_kept}, Asked.{keeper_in, request_in}, declared.plan.What.{What, TheVariants.Guarded}}
use Rattle.pas_check.specs.{Begins.guarding, Calls.asked_for}
use Rattle.pas_check.proofs.acting.operate.Goals as goal

pub try_request-requires-clause-apart : goal.try_request-requires-clause-apart
try_request-requires-clause-apart c =
    let kept = subst (λ (w : What). MatchOption (keeper_in w) (Unit {0}) (λ keeper. (c.args.op.actor < keeper) × (keeper < 2 ^ 8))) c.in-Guarded.is c.requires.kept in
    λ same. absurd (omega (arith, kept.0, same))

pub returns-in-Guarded-clause-taken : goal.returns-in-Guarded-clause-taken
returns-in-Guarded-clause-taken c =
    let op = c.args.op in
    let a = c.in-Guarded in
    let act : act_kept (keeper_in op.what) op ≡ Guards a.keeper op = ap (λ (w : What). act_kept (keeper_in w) op) a.is in
    λ f. record {
      done = λ s ts next.
          (c.try_request.ensures.taken f (act_kept (keeper_in op.what) op) (asked_for a.name a.heap a.size a.align)
          (λ u stands. rw act (ap (λ (w : What). guarding u a.keeper op.actor (request_in w)) a.is))
          (rw (c.profile.ensures, next.stands.profile) at c.wanted_for-wanted.ensures.wanted)).done s ts next;
    }

-- in each case it computes, or is given
plain_kept : (what : What) → ((keeper name heap size align : ℕ) → what ≡ Guarded keeper name heap size align → ⊥) → keeper_in what ≡ None
plain_kept what not_guarded = search arith

pub returns-in_default-clause-taken : goal.returns-in_default-clause-taken
returns-in_default-clause-taken c =
    search (arith, plain_kept)
