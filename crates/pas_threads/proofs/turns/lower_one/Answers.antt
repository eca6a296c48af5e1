use Rattle.std.proofs.Common.{◌∙◌, refl, sym, subst}
use Rattle.pas_threads.proofs.Common.{same_Some, IsPassOf, KeeperAt, KeeperLowers, keeper_has, standing_of_pass, no_more, KeeperStands, KeeperLowered, Keeper}
use Rattle.pas_threads.proofs.turns.lower_one.Goals as goal

pub lower_all-requires : goal.lower_all-requires
lower_all-requires c =
    let r = c.requires.stands in
    let keeper = c.in-Some.keeper in
    let same = same_Some r.3 keeper (sym r.4 ∙ sym c.take.ensures.value ∙ c.in-Some.is) in
    let at = subst (λ k. KeeperStands c.args.region.now r.0 r.1 k no_more r.2) same r.5 in
    let here = subst (λ x. KeeperAt r.0 r.1 (keeper_has (standing_of_pass x) keeper.book keeper.out) no_more r.2) (sym c.desk-desk.ensures.pass) at.at in
    record { stands = (r.0, r.1, no_more, r.2, here) }

pub returns-clause-one : goal.returns-clause-one
returns-clause-one c keeper is =
    let there = c.in-Some.keeper in
    let same = same_Some keeper there (sym is ∙ sym c.take.ensures.value ∙ c.in-Some.is) in
    let after : Keeper = record { pass = c.into_pass-pass.result; book = c.lower_all.new.book; out = c.lower_all.new.out } in (
      after,
      refl,
      λ f actor later p at.
          let stood = subst (λ k. KeeperStands c.args.region.now f actor k later p) same at in
          let here = subst (λ x. KeeperAt f actor (keeper_has (standing_of_pass x) there.book there.out) later p) (sym c.desk-desk.ensures.pass) stood.at in
          subst (λ k. KeeperLowered c.args.region.now f actor k after later p) (sym same) record {
            of = subst (λ r. IsPassOf r after.pass) (c.lower_all.ensures.home ∙ c.desk-desk.ensures.region) c.into_pass-pass.ensures.of;
            did = subst (λ x. KeeperLowers f actor (keeper_has (standing_of_pass x) there.book there.out)
                (keeper_has (standing_of_pass after.pass) after.book after.out) later p) c.desk-desk.ensures.pass
                (rw c.into_pass-pass.ensures.pass (c.lower_all.ensures.lowers f actor later p here));
          },
    )
