use Rattle.std.proofs.Common.{◌≡◌, ◌≤◌, ◌++◌, ◌-◌, length, take, drop}
use Rattle.pas_check.specs.Inputs.{trace_in, transcript_in}
use Rattle.pas_check.proofs.splitting.split.Given as goal

abbrev pub invariant-loop-count : goal.invariant-loop-count
invariant-loop-count l = record {
  within : l.place ≤ length l.input;
  trace : trace_in l.input ≡ take l.place l.input ++ trace_in (drop l.place l.input);
  transcript : transcript_in l.input ≡ transcript_in (drop l.place l.input);
}

abbrev pub decreases-loop-count : goal.decreases-loop-count
decreases-loop-count l = length l.input - l.place
