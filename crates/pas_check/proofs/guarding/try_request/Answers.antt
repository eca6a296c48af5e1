use Rattle.std.proofs.Common.{subst, sym, arith}
use Rattle.pas_profile.specs.Profiles.{IsValid}
use Rattle.pas_check.proofs.Stretches.{tried, tried_amiss}
use Rattle.pas_check.proofs.guarding.try_request.Goals as goal

pub take_tried-requires-clause-valid : goal.take_tried-requires-clause-valid
take_tried-requires-clause-valid c = subst IsValid (sym c.if-not-sweep.ensures.sized.profile) c.requires.valid

pub take_tried-requires-clause-named : goal.take_tried-requires-clause-named
take_tried-requires-clause-named c = omega (arith, c.if-not-sweep.ensures.sized.names, c.requires.named)

pub returns-clause-taken : goal.returns-clause-taken
returns-clause-taken c = λ f act r asks wants.
    tried c.args.keeper c.args.k r c.requires.within asks (c.if-not-sweep.ensures.taken f) (λ s stands due. c.take_tried.ensures.taken f s r stands wants due)

pub returns-then-not-sweep-clause-taken : goal.returns-then-not-sweep-clause-taken
returns-then-not-sweep-clause-taken c = λ f act r asks wants. tried_amiss c.args.keeper c.args.k r c.requires.within asks (c.if-not-sweep.ensures.taken f)
