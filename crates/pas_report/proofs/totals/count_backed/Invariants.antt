use Rattle.std.proofs.Common.{◌≡◌, ◌≤◌, ◌==◌}
use Rattle.pas_profile.specs.declared.word.Word.{Word}
use Rattle.pas_machine.specs.Totals.{page_at}
use Rattle.pas_bits.specs.Bits.{count_below}
use Rattle.pas_steps.specs.States.{word_in}
use Rattle.pas_report.proofs.totals.count_backed.Given as goal

-- the backed pages so far, which are at most those passed
abbrev pub invariant-loop-i : goal.invariant-loop-i
invariant-loop-i l = record {
  counted : l.backed ≡ count_below l.i (λ i. word_in l.state (Word.Backed (page_at i)) == 1);
  few : l.backed ≤ l.i;
}
