-- The summary of a replay: how many lines of each sort its transcript has, and the totals.
use Rattle.std.specs.{Prelude.{ℕ, Bool, true, false, List, ◌++◌, codes, count_by}, Fmt.decimal}
use Rattle.pas_profile.specs.declared.event.{Event.Event, Why.Why}
use Rattle.pas_records.specs.declared.record.{Record.Record, Said.Said}
use Rattle.pas_telling.specs.declared.summary.Tally.{Tally}

-- the sort of lines has the record
abbrev pub counts : Tally → Record → Bool
counts Tally.Give (Record.Event (Event.Give k block)) = true
counts Tally.Give other = false
counts Tally.Freed (Record.Event (Event.End k name epoch)) = true
counts Tally.Freed other = false
counts Tally.Ended (Record.Event (Event.Reject k name Why.Ended)) = true
counts Tally.Ended other = false
counts Tally.NoBlock (Record.Event (Event.Reject k name Why.NoBlock)) = true
counts Tally.NoBlock other = false
counts Tally.NoSpace (Record.Said k (Said.NoSpace name)) = true
counts Tally.NoSpace other = false
counts Tally.Held (Record.Said k (Said.Held page name)) = true
counts Tally.Held other = false
counts Tally.Skipped (Record.Said k (Said.Skipped name)) = true
counts Tally.Skipped other = false

-- words and a number, as a line
abbrev pub line_text : List ℕ → ℕ → List ℕ
line_text words n = words ++ (decimal n ++ codes "\n")

abbrev pub tally_line : List ℕ → Tally → List Record → List ℕ
tally_line words tally records = line_text words (count_by (counts tally) records)

-- nine lines: the operations, seven sorts of lines, and the line of the totals
abbrev pub summary_text : ℕ → List Record → List ℕ → List ℕ
summary_text ops records totals =
    line_text (codes "ops ") ops ++ (tally_line (codes "give ") Tally.Give records ++ (tally_line (codes "freed ") Tally.Freed records ++ (tally_line (codes "ended ") Tally.Ended records
    ++ (tally_line (codes "no-block ") Tally.NoBlock records ++ (tally_line (codes "no-space ") Tally.NoSpace records ++ (tally_line (codes "held ") Tally.Held records
    ++ (tally_line (codes "skipped ") Tally.Skipped records ++ totals)))))))
