use Rattle.std.proofs.Common.{◌+◌, ◌≤◌, Some, refl, rules, subst}
use Rattle.pas_profile.specs.declared.profile.Profile.{Profile}
use Rattle.pas_large.proofs.Allocates.{holds_named, misses_named}
use Rattle.pas_large.proofs.naming.claim_named.Goals as goal

pub returns-in-None-clause-names : goal.returns-in-None-clause-names
returns-in-None-clause-names g c = (Some _, c.in_ok-first.ensures.answers, holds_named _ c.args.pages _ _ refl (subst (λ (f : Profile). (1 ≤ c.in_ok-first.first) × (c.in_ok-first.first + c.args.pages ≤ f.pages + 1)) c.profile.ensures (c.if-not-has_run.ensures.0 (search rules))) c.in-None.ensures.claims)

pub returns-in-Some-clause-names : goal.returns-in-Some-clause-names
returns-in-Some-clause-names g c = (Some _, c.in_ok-first.ensures.answers, misses_named _ c.args.pages _ c.in-Some.field-0 _ refl c.in-Some.ensures.claims)
