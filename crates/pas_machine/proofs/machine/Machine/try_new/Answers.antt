use Rattle.std.proofs.{Common.{arith, []}, lemmas.{Option.none-some, List.get_or-replicate}}
use Rattle.pas_machine.proofs.machine.Machine.try_new.Goals as goal

pub invariant_of-result-clause-shown : goal.invariant_of-result-clause-shown
invariant_of-result-clause-shown c = ∣ ([], search (arith, get_or-replicate, none-some)) ∣₁
