-- Flushes.
use Rattle.pas_same_text.proofs.Flushes.{flush_events, flush_lives, flush_epoch}
use Rattle.pas_same_text.proofs.laws.flushes_show_the_same.Goals as goal

pub returns-clause-events : goal.returns-clause-events
returns-clause-events c = λ f k logged noted noted' steps l w is. flush_events f k logged noted noted' steps l w is

pub returns-clause-live : goal.returns-clause-live
returns-clause-live c = λ f k logged noted noted' steps l w is. flush_lives f k logged noted noted' steps l w is

pub returns-clause-epoch : goal.returns-clause-epoch
returns-clause-epoch c = λ f k logged noted noted' steps l w is. flush_epoch f k logged noted noted' steps l w is
