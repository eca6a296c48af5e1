use Rattle.std.proofs.Common.{ℕ, ◌≡◌, ◌<◌, ◌≤◌, false, get_or, vec_len}
use Rattle.pas_machine.specs.Places.{IsEach}
use Rattle.pas_machine.proofs.looking.cover.Given as goal

abbrev pub invariant-loop-grain : goal.invariant-loop-grain
invariant-loop-grain l = record {
  sized : vec_len l.covered ≡ vec_len l.initial.covered;
  set : IsEach l.from l.grain (λ x. get_or l.covered.items x false ≡ l.has);
  below : (x : ℕ) → x < l.from → get_or l.covered.items x false ≡ get_or l.initial.covered.items x false;
  above : (x : ℕ) → l.grain ≤ x → get_or l.covered.items x false ≡ get_or l.initial.covered.items x false;
}
