-- The members of a bench stand still while another one acts there. That is what a keeper owes to its thread, and a lent thread to the scavenger; so it stands with the
-- definitions, where the code can cite it.
use Rattle.std.{specs.Prelude.{◌≡◌, true, [], ◌∷◌, Option, Some, None}, proofs.Common.{refl, ap, sym, ◌∙◌, subst}}
use Rattle.pas_steps.specs.{Lists.{Whole, part}, Views.View, Noted.AreNotesOf}
use Rattle.pas_shared.specs.{Ruled.{among, made_in}, Benches.{rows_on, row_on, home_of, standing_on, IsBenchOf, StandsOver}, declared.bench.Bench.Bench}
use Rattle.pas_shared.specs.declared.{bench.Member.Member, bench_desk.{BenchDesk.BenchDesk, BenchHome.BenchHome}, region.SharedRegion.SharedRegion}
use Rattle.pas_shared.proofs.Benching.{row_tells}
use Rattle.pas_acts.specs.Keepers.{KeptStands, StandsAt, StandsStill}
use Rattle.pas_threads.specs.{Left.standing_beside, Pairs.{kept_seated, kept_beside}, declared.keeper.{Seated.Seated, Beside.Beside}}

-- ---- a member
-- whose bench has another one at its desk, which stands beside the list that comes of its steps
pub stays_beside : (region now : SharedRegion) (b c : Bench) (member : Member) (l m : Whole) → home_of now (row_on c) ≡ home_of region (row_on b)
    → IsBenchOf now c → rows_on c ≡ row_on c ∷ [] → StandsOver (row_on c) m
    → StandsStill (standing_beside region b member) (standing_beside now c member) l m
stays_beside region now b c member l m home of one over = record {
  seat_is = refl;
  stands = λ stood same.
      let k = member.actor in
      let may = stood.0 in
      let its : among (row_on c).actors k ≡ true = ap (λ (h : BenchHome). among h.row.actors k) home ∙ may.sits.among_them in
      let told : made_in (row_on c) k ≡ part k m = sym (row_tells (row_on c) m k over its) in (
        record {
          of = of;
          profile = may.profile ∙ sym (ap (λ (h : BenchHome). h.region.profile) home);
          one = one;
          sits = record { among_them = its; noted = subst (λ (v : View). AreNotesOf k v member.notes) (sym (told ∙ (same ∙ sym stood.1))) may.sits.noted };
        },
        told,
        over,
      );
}

-- ---- a keeper, while its thread acts
stays : (o : Option Seated) (region now : SharedRegion) (b c : Bench) (l m : Whole) → home_of now (row_on c) ≡ home_of region (row_on b) → IsBenchOf now c
    → rows_on c ≡ row_on c ∷ [] → StandsOver (row_on c) m
    → KeptStands (kept_seated region b o) (kept_seated now c o) l m
stays None region now b c l m home of one over = tt
stays (Some seated) region now b c l m home of one over = record { desk = stays_beside region now b c seated.member l m home of one over; book = refl; out = refl }

pub beside_still : (keeper : Beside) (old new : BenchDesk) (l m : Whole)
    → home_of new.region.now (row_on new.place.bench) ≡ home_of old.region.now (row_on old.place.bench)
    → StandsAt (standing_on old.place.bench old.place.member) l
    → StandsAt (standing_on new.place.bench new.place.member) m
    → KeptStands (kept_beside old.region.now old.place.bench keeper) (kept_beside new.region.now new.place.bench keeper) l m
beside_still keeper old new l m home stood stands = stays keeper.keeper old.region.now new.region.now old.place.bench new.place.bench l m home new.of new.place.one stands.1
