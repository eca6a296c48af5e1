-- The line of a trace fault.
use Rattle.std.specs.{Prelude.{ℕ, List, ◌++◌, codes}, Fmt.decimal}
use Rattle.pas_trace.specs.declared.fault.{Reason.Reason, TraceFault.TraceFault}

abbrev pub reason_text : Reason → List ℕ
reason_text Reason.BadHeader = codes "BadHeader"
reason_text Reason.BadWord = codes "BadWord"
reason_text Reason.BadNumber = codes "BadNumber"
reason_text Reason.BadThread = codes "BadThread"
reason_text Reason.BadHeap = codes "BadHeap"
reason_text Reason.BadSize = codes "BadSize"
reason_text Reason.BadAlign = codes "BadAlign"
reason_text Reason.NameTaken = codes "NameTaken"
reason_text Reason.NameUnknown = codes "NameUnknown"
reason_text Reason.TooEarly = codes "TooEarly"
reason_text Reason.TooManyOps = codes "TooManyOps"
reason_text Reason.TraceTooLarge = codes "TraceTooLarge"

-- `line N: Reason` and a newline
abbrev pub fault_text : TraceFault → List ℕ
fault_text fault = codes "line " ++ (decimal fault.line ++ (codes ": " ++ (reason_text fault.reason ++ codes "\n")))
