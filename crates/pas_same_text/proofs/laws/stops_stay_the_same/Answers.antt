-- Stops.
use Rattle.pas_same_text.proofs.BackActs.{stop_act, idle_act, end_act}
use Rattle.pas_same_text.proofs.laws.stops_stay_the_same.Goals as goal

pub returns-clause-stop : goal.returns-clause-stop
returns-clause-stop c = λ f line k is. stop_act f line k is

pub returns-clause-idle : goal.returns-clause-idle
returns-clause-idle c = λ f k n is. idle_act f k n is

pub returns-clause-ends : goal.returns-clause-ends
returns-clause-ends c = λ f k is. end_act f k is
