-- The event of a step, and the events of a view.
use Rattle.std.specs.Prelude.{ℕ, ◌/◌, ◌==◌, nat_lt, ◌&&◌, if◌then◌else◌, List, [], ◌∷◌, ◌++◌, Option, None, Some}
use Rattle.pas_profile.specs.{Lives.{is_live, turn_of}, declared.{name.Name.Name, event.{Event.Event, Why.Why}}}
use Rattle.pas_steps.specs.{Views.{View, epoch_of}, Effects.succeeds, declared.step.Step.{Step, TheVariants.{Look, Deed, Back, Take, Put, Give, End, EndSized}}}
use Rattle.pas_steps.specs.declared.step.{Step.TheVariants.{TakeRight, Offer, Park, Unpark, Stamp, Hint, Tick, Unback, Unhint}, Made.Made}

-- why the end of a name is refused, from the life word that was read
abbrev pub reason_of : Name → ℕ → Why
reason_of name a = if nat_lt name.turn (turn_of a) then Why.Ended else Why.NoBlock

-- An end that succeeds is an `End`. One that read no live block with the name's turn is refused. One that read such a block of another
-- length makes no event.
abbrev pub end_event : ℕ → ℕ → Name → ℕ → ℕ → Option Event
end_event k epoch name guess a = if succeeds name guess a then Some (Event.End k name epoch) else
    (if is_live a && (turn_of a == name.turn) then None else Some (Event.Reject k name (reason_of name a)))

-- why the end of a name with this room is refused: a block of the name that lives has another room
abbrev pub sized_reason : Name → ℕ → ℕ → Why
sized_reason name room a = if is_live a && (turn_of a == name.turn) then Why.SizeDiffers room else reason_of name a

-- an end with a room makes an event in each case
abbrev pub sized_event : ℕ → ℕ → Name → ℕ → ℕ → Option Event
sized_event k epoch name room a = if succeeds name (room / 16) a then Some (Event.End k name epoch) else Some (Event.Reject k name (sized_reason name room a))

-- the event of a step of actor k that knows this epoch, with this answer
abbrev pub event_of : ℕ → ℕ → Step → ℕ → Option Event
event_of k epoch (Look word) a = None
event_of k epoch (Deed page directory) a = if a == 0 then Some (Event.Deed k page directory) else None
event_of k epoch (Back page) a = if a == 0 then Some (Event.Back k page) else None
event_of k epoch (Take page word mask) a = None
event_of k epoch (Put page word mask) a = None
event_of k epoch (Give block) a = Some (Event.Give k block)
event_of k epoch (End name guess) a = end_event k epoch name guess a
event_of k epoch (EndSized name room) a = sized_event k epoch name room a
event_of k epoch (TakeRight page directory) a = None
event_of k epoch (Offer page directory) a = None
event_of k epoch (Park page) a = None
event_of k epoch (Unpark page) a = None
event_of k epoch (Stamp page) a = None
event_of k epoch (Hint page) a = None
event_of k epoch (Tick raised) a = None
event_of k epoch (Unback page) a = Some (Event.Unback k page epoch)
event_of k epoch (Unhint page) a = None

-- whose event it is
abbrev pub actor_of : Event → ℕ
actor_of (Event.Deed k page directory) = k
actor_of (Event.Back k page) = k
actor_of (Event.Unback k page epoch) = k
actor_of (Event.Give k block) = k
actor_of (Event.End k name epoch) = k
actor_of (Event.Reject k name why) = k

abbrev pub with_event : Option Event → List Event → List Event
with_event None es = es
with_event (Some e) es = e ∷ es

-- the events of an actor's own steps, the newest first
abbrev pub events_of : ℕ → View → List Event
events_of k [] = []
events_of k (m ∷ v) = with_event (event_of k (epoch_of v) m.step m.answer) (events_of k v)

-- the events of these steps of actor k, which were made from this view on, the newest first
abbrev pub events_by : ℕ → View → List Made → List Event
events_by k v [] = []
events_by k v (m ∷ ms) = with_event (event_of k (epoch_of (ms ++ v)) m.step m.answer) (events_by k v ms)

-- how many events a step may make
abbrev pub wants : Step → ℕ
wants (Look word) = 0
wants (Deed page directory) = 1
wants (Back page) = 1
wants (Take page word mask) = 0
wants (Put page word mask) = 0
wants (Give block) = 1
wants (End name guess) = 1
wants (EndSized name room) = 1
wants (TakeRight page directory) = 0
wants (Offer page directory) = 0
wants (Park page) = 0
wants (Unpark page) = 0
wants (Stamp page) = 0
wants (Hint page) = 0
wants (Tick raised) = 0
wants (Unback page) = 1
wants (Unhint page) = 0
