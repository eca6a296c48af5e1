-- What the reader gathers: the operations of a plan, or those of a script, which have no lines.
use Rattle.std.specs.Prelude.{◌≡◌, ◌++◌, ◌∷◌, [], Bool, true, false, List, map}
use Rattle.pas_trace.specs.{Plans.ops_of, Scripts.{coded_ops, without_lines}, declared.{gathered.{Whole.Whole, Coded.Coded, Gathered.Gathered}, plan.Op.Op}}
use Rattle.pas_trace.specs.declared.gathered.Gathered.TheVariants as kind

-- the phases that were gathered, in order
abbrev pub whole_phases : Whole → List (List Op)
whole_phases whole = map ops_of whole.done.items ++ whole.present.items ∷ []

abbrev pub scripted_phases : Coded → List (List Op)
scripted_phases coded = map coded_ops coded.done.items ++ coded_ops coded.present ∷ []

-- whether they are those of a script
abbrev pub is_scripting : Gathered → Bool
is_scripting (kind.Whole whole) = false
is_scripting (kind.Coded coded) = true

-- these phases were gathered
abbrev pub HasGathered : List (List Op) → Gathered → Type 0
HasGathered phases (kind.Whole whole) = whole_phases whole ≡ phases
HasGathered phases (kind.Coded coded) = scripted_phases coded ≡ without_lines phases

-- one empty phase was gathered
pub record IsFirst (for_script : Bool) (gathered : Gathered) : Type 0 where
  pub scripting : is_scripting gathered ≡ for_script
  pub phases : HasGathered ([] ∷ []) gathered

-- what was gathered became this of what it was, for the same
pub record Gathers (change : List (List Op) → List (List Op)) (old new : Gathered) : Type 0 where
  pub scripting : is_scripting new ≡ is_scripting old
  pub phases : (phases : List (List Op)) → HasGathered phases old → HasGathered (change phases) new
