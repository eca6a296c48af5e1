use Rattle.pas_trials.proofs.Going.{visited}
use Rattle.pas_trials.proofs.errands.Hands.visit.Goals as goal

pub returns-clause-acts : goal.returns-clause-acts
returns-clause-acts g c = visited c.requires.locals c.args.self.now.log c.go.ensures.goes c.stop.ensures.stops
