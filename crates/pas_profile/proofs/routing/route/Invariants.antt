-- The search of the classes from this one on answers as the search of all classes does, and each of them is large enough.
use Rattle.std.proofs.Common.{◌≡◌, ◌≤◌, ◌<◌, ℕ, max, drop}
use Rattle.pas_profile.specs.{Classes.{class_size, sizes_of}, Routes.first_class}
use Rattle.pas_profile.proofs.routing.route.Given as goal

abbrev pub invariant-loop-class : goal.invariant-loop-class
invariant-loop-class l = record {
  rest : first_class (drop l.class (sizes_of l.classes)) l.class (max l.size 1) l.align ≡ first_class (sizes_of l.classes) 0 (max l.size 1) l.align;
  large : (k : ℕ) → l.class ≤ k → k < 20 → max l.size 1 ≤ class_size k;
}
