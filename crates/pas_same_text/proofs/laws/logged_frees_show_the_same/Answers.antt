-- Logged frees.
use Rattle.pas_same_text.proofs.Flushes.{entry_shown, flush_shown}
use Rattle.pas_same_text.proofs.laws.logged_frees_show_the_same.Goals as goal

pub returns-clause-one : goal.returns-clause-one
returns-clause-one c = λ f k entry w live e run is. entry_shown f k entry w live e run is

pub returns-clause-all : goal.returns-clause-all
returns-clause-all c = λ f k epoch entries outcomes w pairs unsized live now run. flush_shown f k epoch entries outcomes w pairs unsized live now run
