-- What a pass says, record by record.
use Rattle.std.specs.{Prelude.{ℕ, List, [], ◌∷◌, map}, List.flat_map}
use Rattle.pas_profile.specs.declared.event.{Event.Event, Outcome.{Outcome, TheVariants.{Unbacked, Bare, Young, InUse, NotOffered}}}
use Rattle.pas_records.specs.declared.record.{Record.Record, Said.Said}

-- The record of what a pass of actor k came to on the page, where the pass read this epoch. A page that was unbacked has the line of its event, and
-- none of its own.
abbrev pub record_of : ℕ → ℕ → ℕ → Outcome → Record
record_of k epoch page Unbacked = Record.Event (Event.Unback k page epoch)
record_of k epoch page Bare = Record.Said k (Said.Bare page)
record_of k epoch page (Young stamp) = Record.Said k (Said.Young page stamp)
record_of k epoch page (InUse word value) = Record.Said k (Said.InUse page word value)
record_of k epoch page NotOffered = Record.Said k (Said.NotOffered page)

-- the mark of the pass with the epoch that it read, and then the outcomes in order
abbrev pub records_of_pass : ℕ → ℕ → List (ℕ × Outcome) → List Record
records_of_pass k epoch found = Record.Said k (Said.Pass epoch) ∷ map (λ p. record_of k epoch p.0 p.1) found

-- the events among records, in order
abbrev pub event_in : Record → List Event
event_in (Record.Event e) = e ∷ []
event_in (Record.Said k said) = []
event_in (Record.Phase n) = []
event_in Record.Close = []

abbrev pub events_in : List Record → List Event
events_in records = flat_map event_in records
