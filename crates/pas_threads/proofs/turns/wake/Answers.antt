use Rattle.std.proofs.Common.{◌≡◌, ◌∙◌, [], ◌∷◌, Some, refl, ap, sym, subst}
use Rattle.pas_threads.proofs.{Common.{cached, IsPassOf, Wakes, here, ThreadActs, RestsAt}, Benched.{seated, rose}}
use Rattle.pas_threads.proofs.turns.wake.Goals as goal

pub begin-requires : goal.begin-requires
begin-requires c =
    let r = c.requires.rests in
    let old = c.args.worker.now in
    let is = sym c.take.ensures.value ∙ c.in-Some.is ∙ ap Some (sym c.desk-desk.ensures.pass) in
    record { rests = (r.0, r.1, old.out, r.2, r.3, seated (λ σ. RestsAt r.0 r.1 σ (cached old.cache) old.out (r.2) r.3) c.desk-desk.result.pass is r.4.has r.4.rests) }

pub returns : goal.returns
returns c = record {
  woke = λ f k later p at.
      let old = c.args.worker.now in
      let pass = c.desk-desk.result.pass in
      let is = sym c.take.ensures.value ∙ c.in-Some.is ∙ ap Some (sym c.desk-desk.ensures.pass) in
      let did = rose (λ σ σ'. (x : ThreadActs f k (Wakes k ∷ []) [] [] (here σ (cached old.cache) old.out)
      (here σ' (cached c.begin.new.cache) old.out) later p) × (x.own ≡ [])) pass c.begin.new.desk.pass c.into_pass.result is at.has c.into_pass.ensures.pass
      (subst (λ r. IsPassOf r c.into_pass.result) (c.begin.ensures.home ∙ c.desk-desk.ensures.region) c.into_pass.ensures.of)
      (c.begin.ensures.begins f k old.out later p (seated (λ σ. RestsAt f k σ (cached old.cache) old.out later p) pass is at.has at.rests))
      in (
        record { did = record { before = did.before; after = did.after; does = did.does.0 }; requests = refl; keeper = refl },
        did.does.1,
      );
}
