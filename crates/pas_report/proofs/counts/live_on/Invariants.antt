use Rattle.std.proofs.Common.{◌≡◌, ◌≤◌}
use Rattle.pas_profile.specs.{Lives.is_live, declared.word.Word.Word}
use Rattle.pas_bits.specs.Bits.{count_below}
use Rattle.pas_steps.specs.States.{word_in}
use Rattle.pas_report.proofs.counts.live_on.Given as goal

-- the blocks that begin at the grains so far
abbrev pub invariant-loop-grain : goal.invariant-loop-grain
invariant-loop-grain l = record {
  counted : l.live ≡ count_below l.grain (λ b. is_live (word_in l.state (Word.Life l.page b)));
  few : l.live ≤ l.grain;
}
