-- The start of a phase, the epoch that is read, and a tick.
use Rattle.pas_same_text.proofs.SmallActs.{wake_same, reading_same, tick_same}
use Rattle.pas_same_text.proofs.laws.epochs_stay_the_same.Goals as goal

pub returns-clause-wakes : goal.returns-clause-wakes
returns-clause-wakes c = λ f k is. wake_same f k is

pub returns-clause-reads : goal.returns-clause-reads
returns-clause-reads c = λ f. reading_same f

pub returns-clause-ticks : goal.returns-clause-ticks
returns-clause-ticks c = λ f asked. tick_same f asked
