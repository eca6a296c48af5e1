use Rattle.std.proofs.Common.{rules, ◌∙◌, [], ◌∷◌, ap, subst}
use Rattle.pas_replay.proofs.{Common.{Indexes, Operates, Settles, AllAreNamedBy, indexes_after_all}, ByActors.went_through}
use Rattle.pas_replay.proofs.seats.operate_by.Goals as goal

pub returns-clause-operates : goal.returns-clause-operates
returns-clause-operates g c = λ f op later p asks may.
    let all = c.operate.ensures.operates f op later p asks may in
    let did = all.0 in
    let through = went_through f op p did.reached did.reaches c.new-door.result c.operate.new.door all.1 in
    let entry = c.new-door.ensures.indexes in
    let left = through.2 ∙ ap (λ (ix : Indexes). indexes_after_all f (Operates op ∷ (Settles op.actor ∷ [])) p did.reached did.reaches ix) entry in
    record {
      did = did;
      named = subst (λ (ix : Indexes). AllAreNamedBy f ix (Operates op ∷ (Settles op.actor ∷ [])) p did.reached did.reaches) entry through.0;
      left = search (rules, left, through.1 ∙ c.new-door.ensures.same_reference);
    }
