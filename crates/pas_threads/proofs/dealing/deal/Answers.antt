use Rattle.std.proofs.{Common.{◌≡◌, ◌∙◌, ◌+◌, suc, ap, sym, refl, arith, drop_of_length-le}, lemmas.List.reverse-reverse}
use Rattle.pas_threads.proofs.{Common.{is_set, is_in}, Dealt.{piles_begin, piles_go_on, piles_end, put_few}}
use Rattle.pas_threads.proofs.dealing.deal.Goals as goal

pub loop-worker-init : goal.loop-worker-init
loop-worker-init c = search (arith, piles_begin, reverse-reverse)

pub loop-worker-preserved : goal.loop-worker-preserved
loop-worker-preserved c =
    let i = c.loop-worker.invariant in
    let w = c.in-Some.worker in
    let k = c.loop-worker.actor in
    let put = c.put.ensures.put in
    let bit : is_in (is_set c.args.awake) k ≡ c.get.result =
    ap (is_set c.args.awake) (let at : suc k ≡ k + 1 = omega arith in at) ∙ sym c.get.ensures in
    record {
      piles = piles_go_on (is_set c.args.awake) k (k + 1) c.get.result refl bit c.pop.new.self.items c.loop-worker.hands.items c.loop-worker.lent.items w
          c.in-Some.ensures.items put i.piles;
      count = omega (arith, i.count, c.in-Some.ensures.len);
      in_hands = omega (arith, i.in_hands, put_few _ w c.loop-worker.hands.items put.0);
      in_lent = omega (arith, i.in_lent, put_few _ w c.loop-worker.lent.items put.1);
      threads = c.pop.ensures.capacity ∙ i.threads;
      hands = c.put.ensures.places.0 ∙ i.hands;
      lent = c.put.ensures.places.1 ∙ i.lent;
    }

pub returns-clause-dealt : goal.returns-clause-dealt
returns-clause-dealt c =
    search (arith, drop_of_length-le, piles_end)
