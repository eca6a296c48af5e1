use Rattle.std.proofs.Common.{◌≡◌, ◌+◌, ◌*◌, ◌≤◌, ◌++◌, vec_len, vec_capacity}
use Rattle.pas_generate.specs.{Operations.{Stands, state_of}, Lines.header, Traces.{lines_of, state_after}}
use Rattle.pas_generate.proofs.trace.trace_of.Given as goal

abbrev pub invariant-loop-done : goal.invariant-loop-done
invariant-loop-done l = record {
  state : state_of l.generator ≡ state_after l.threads l.seed l.done;
  stands : Stands (l.done + 1) l.generator;
  threads : l.generator.threads ≡ l.threads;
  unfreed : vec_capacity l.generator.unfreed ≡ l.ops;
  text : l.text.items ≡ header l.pages l.threads ++ lines_of l.threads l.seed l.done;
  long : vec_len l.text ≤ 64 + 32 * l.done;
  room : 64 + 32 * l.ops ≤ vec_capacity l.text;
}
