use Rattle.std.proofs.Common.{arith, ◌∙◌, refl, sym, subst}
use Rattle.pas_threads.proofs.{Common.{with_items_is, same_Some, IsPassOf, scavenger_acts, CrewAt, crew_of}, Benched.seated}
use Rattle.pas_threads.proofs.scavenger.keep_up.Goals as goal

pub scavenge_seated-pass-requires : goal.scavenge_seated-pass-requires
scavenge_seated-pass-requires g c =
    let may = c.requires.may in
    let has = may.stands.has in
    let s = may.shift in
    let old = c.args.scavenger.now in
    let is = sym c.take.ensures.value ∙ c.in-Some.is in
    let at = seated (λ σ. CrewAt c.args.region.now s (scavenger_acts s.idle c.args.ops.now) (crew_of σ old) may.progress) c.in-Some.pass is has may.stands.at in
    record {
      few = c.requires.few;
      pass = subst (IsPassOf c.args.region.now) (same_Some _ _ (sym has.present ∙ is)) has.of;
      may = (s, may.asked, may.progress, may.sound, rw c.deref_mut.ensures.value at);
    }

pub returns : goal.returns
returns g c = record {
  did = record {
    did = λ s asked p sound stands.
        let region = c.args.region.now in
        let pass = c.in-Some.pass in
        let is = sym c.take.ensures.value ∙ c.in-Some.is in
        let acts = scavenger_acts s.idle c.args.ops.now in
        let old = c.args.scavenger.now in
        let at = rw (sym c.deref_mut.ensures.value) at (seated (λ σ. CrewAt region s acts (crew_of σ old) p) pass is stands.has stands.at) in
        let given = with_items_is old.lent c.scavenge_seated-pass.new.lent (c.scavenge_seated-pass.ensures.many ∙ c.deref_mut.ensures.len) in
        let left = rw (c.deref_mut.ensures.value, sym given) at (c.scavenge_seated-pass.ensures.did s asked p sound at) in
        record {
          did = record {
            before = record { pass = pass; present = is; of = subst (IsPassOf region) (same_Some _ _ (sym stands.has.present ∙ is)) stands.has.of };
            after = record { pass = c.scavenge_seated-pass.result.0; present = refl; of = left.of };
            does = left.did;
          };
          left = left.left;
        };
    many = search (arith, with_items_is);
    places = refl;
  };
}
