-- The plan of a text in eight bytes an operation.
use Rattle.std.specs.Prelude.{◌≡◌, ℕ, List, map, Result, Ok, Err}
use Rattle.pas_trace.specs.{Codes.{said_by, unlined}, Plans.{ops_of, phases_of, parsed, IsPlanOf}, declared.plan.{Op.Op, Plan.Plan}}
use Rattle.pas_trace.specs.declared.{script.{CodedPhase.CodedPhase, CodedPhases.CodedPhases, Script.Script}, fault.ReadFault.{ReadFault, TheVariants.Trace}}
use Rattle.pas_trace.specs.declared.fault.ReadFault.TheVariants.{NoMemory}

-- the operations of a phase as a list
abbrev pub coded_ops : CodedPhase → List Op
coded_ops phase = map (said_by phase.rare.items) phase.codes.items

-- the phases as a list
abbrev pub coded_phases : CodedPhases → List CodedPhase
coded_phases phases = phases.phases.items

-- operations but for their lines, phase by phase
abbrev pub without_lines : List (List Op) → List (List Op)
without_lines phases = map (map unlined) phases

-- the script has what the plan has, but for the lines of operations
pub record IsScriptFor (plan : Plan) (script : Script) : Type 0 where
  pub version : script.version ≡ plan.version
  pub profile : script.profile ≡ plan.profile
  pub guard : script.guard ≡ plan.guard
  pub phases : map coded_ops (coded_phases script.phases) ≡ without_lines (map ops_of (phases_of plan.phases))
  pub bounds : script.bounds ≡ plan.bounds
  pub total : script.total ≡ plan.total
  pub names : script.names_limit ≡ plan.names_limit

-- the script is that of the text: it has what a plan of it has
pub record IsScriptOf (text : List ℕ) (script : Script) : Type 0 where
  pub plan : Plan
  pub read : IsPlanOf text plan
  pub same : IsScriptFor plan script

-- The answer of the reader: the script of the text, or its first fault. Nothing is said where memory ran out.
abbrev pub IsScripting : List ℕ → Result Script ReadFault → Type 0
IsScripting text (Ok script) = IsScriptOf text script
IsScripting text (Err (Trace fault)) = parsed text ≡ Err fault
IsScripting text (Err NoMemory) = Unit {0}
