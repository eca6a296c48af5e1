use Rattle.std.proofs.Common.{◌≡◌, ◌≤◌, ◌==◌, not}
use Rattle.pas_profile.specs.declared.word.Word.{Word}
use Rattle.pas_machine.specs.Totals.{page_at}
use Rattle.pas_bits.specs.Bits.{count_below}
use Rattle.pas_steps.specs.States.{word_in}
use Rattle.pas_report.proofs.totals.count_deeds.Given as goal

-- the pages with a deed so far, which are at most those passed
abbrev pub invariant-loop-i : goal.invariant-loop-i
invariant-loop-i l = record {
  counted : l.deeds ≡ count_below l.i (λ i. not (word_in l.state (Word.Deed (page_at i)) == 0));
  few : l.deeds ≤ l.i;
}
