use Rattle.std.proofs.Common.{◌∙◌, Some, refl, ap, sym, subst}
use Rattle.pas_threads.proofs.{Common.{cached, IsPassOf, RestsAt}, Benched.{seated, rose}}
use Rattle.pas_threads.proofs.turns.stop.Goals as goal

pub end-requires : goal.end-requires
end-requires c =
    let r = c.requires.rests in
    let old = c.args.worker.now in
    let is = sym c.take.ensures.value ∙ c.in-Some.is ∙ ap Some (sym c.desk-desk.ensures.pass) in
    record { rests = (r.0, r.1, r.2, r.3, seated (λ σ. RestsAt r.0 r.1 σ (cached old.cache) old.out (r.2) r.3) c.desk-desk.result.pass is r.4.has r.4.rests) }

pub returns-clause-stopped : goal.returns-clause-stopped
returns-clause-stopped c = λ f k later p at.
    let old = c.args.worker.now in
    let pass = c.desk-desk.result.pass in
    let is = sym c.take.ensures.value ∙ c.in-Some.is ∙ ap Some (sym c.desk-desk.ensures.pass) in
    record {
      did = rose _ pass c.end.new.desk.pass c.into_pass.result is at.has c.into_pass.ensures.pass
          (subst (λ r. IsPassOf r c.into_pass.result) (c.end.ensures.home ∙ c.desk-desk.ensures.region) c.into_pass.ensures.of)
          (c.end.ensures.ends f k later p (seated (λ σ. RestsAt f k σ (cached old.cache) old.out later p) pass is at.has at.rests));
      requests = refl;
      keeper = refl;
    }
