-- An actor that has nothing: before its first step, and after calls that change nothing of what it holds, has and owes.
use Rattle.std.proofs.Common.{arith, [], List}
use Rattle.pas_steps.specs.{Calls.{nothing, Does, Calls}, Clear.{IsClear, HasNothing}, Desks.{Standing, CanCall}, Views.View, declared.step.Made.Made}
use Rattle.pas_steps.proofs.{Called.{call_as, next_call}, Calls.still_clear}

-- an actor that made no step has nothing
pub nothing_yet : HasNothing []
nothing_yet = search arith

-- one that had nothing, and of whose grains, rights and debts nothing was changed, has nothing still
pub nothing_still : {v w : View} → Does nothing v w → HasNothing v → HasNothing w
nothing_still does none = search (arith, still_clear)

-- so calls of a clear actor that change nothing are calls after which one that had nothing has nothing
pub calls_rest : {σ σ' : Standing} {steps : List Made} → Calls σ σ' IsClear (Does nothing) steps → Calls σ σ' HasNothing (λ v w. HasNothing w) steps
calls_rest calls = call_as (λ v w. HasNothing w) calls (λ v none. none.clear) (λ v w none does. nothing_still does none)

-- .. and it may go on
pub can_go_on : {σ σ' : Standing} {steps : List Made} → Calls σ σ' HasNothing (λ v w. HasNothing w) steps → CanCall σ HasNothing → CanCall σ' HasNothing
can_go_on calls can = next_call {C = HasNothing} calls can (λ v had has. has)
