use Rattle.std.proofs.Common.{sym, subst, arith}
use Rattle.pas_profile.specs.Profiles.{IsValid}
use Rattle.pas_check.proofs.Stretches.{fits_tried, tried_gives, tried_passes, tried_stops}
use Rattle.pas_check.proofs.guarding.take_tried.Goals as goal

pub raise-requires-clause-within : goal.raise-requires-clause-within
raise-requires-clause-within c = c.in-Gives.ensures.stays

pub raise-requires-clause-heap : goal.raise-requires-clause-heap
raise-requires-clause-heap c =
    omega (arith, c.in-Gives.ensures.heap, c.requires.heap)

pub serve-requires-clause-within : goal.serve-requires-clause-within
serve-requires-clause-within c = c.in-Passes.ensures.stays

pub serve-requires-clause-valid : goal.serve-requires-clause-valid
serve-requires-clause-valid c = subst IsValid (sym c.in-Passes.ensures.profile) c.requires.valid

pub returns-in-Gives-clause-taken : goal.returns-in-Gives-clause-taken
returns-in-Gives-clause-taken c = λ f s r stands wants due.
    tried_gives wants stands due
    (fits_tried wants c.args.keeper c.args.k (omega arith) (omega arith) (omega arith) (omega arith) (omega arith) c.requires.kind c.requires.apart)
    c.take_trial.new.machine c.take_trial.new.cursor c.in-Gives.ensures.profile c.in-Gives.block c.in-Gives.ensures.taken (c.raise.ensures.taken f)

pub returns-in-Passes-clause-taken : goal.returns-in-Passes-clause-taken
returns-in-Passes-clause-taken c = λ f s r stands wants due.
    tried_passes wants stands due
    (fits_tried wants c.args.keeper c.args.k (omega arith) (omega arith) (omega arith) (omega arith) (omega arith) c.requires.kind c.requires.apart)
    c.take_trial.new.machine c.take_trial.new.cursor c.in-Passes.ensures.profile c.in-Passes.ensures.taken (λ t there is. c.serve.ensures.taken f t r there wants is)

pub returns-in-Stops-clause-taken : goal.returns-in-Stops-clause-taken
returns-in-Stops-clause-taken c = λ f s r stands wants due.
    tried_stops wants stands due (fits_tried wants c.args.keeper c.args.k (omega arith) (omega arith) (omega arith) (omega arith)
    (omega arith) c.requires.kind c.requires.apart) c.take_trial.new.machine c.take_trial.new.cursor c.in-Stops.ensures.taken
