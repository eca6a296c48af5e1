use Rattle.std.proofs.{Common.{◌≡◌, ◌∙◌, ◌+◌, ◌-◌, ◌<◌, true, false, suc, ap, sym, refl, subst, arith, length, length-append}, lemmas.List.nil_from_length}
use Rattle.pas_threads.proofs.{Common.{is_set, count_of, is_in, is_out}, Dealt.{Piles, piles_begin, piles_end, piles_go_back, sized_back, one_there}}
use Rattle.pas_threads.proofs.dealing.take_back.Goals.{After-get}
use Rattle.pas_threads.proofs.dealing.take_back.Goals as goal

pub loop-left-init : goal.loop-left-init
loop-left-init c = record {
  piles = piles_end (is_set c.args.awake) c.args.count c.args.hands.now.items c.args.lent.now.items c.requires.none.0;
  sized = c.requires.sized;
  count = omega (arith, ap length c.requires.none.0);
  threads = refl;
  hands = refl;
  lent = refl;
}

module _ (c : After-get) where
  -- the last of the threads that are left
  its_place : c.loop-left.left ≡ c.loop-left.left - 1 + 1
  its_place = omega (arith, c.loop-left-test.true)

  -- The mask says of it what was found.
  its_bit : is_in (is_set c.args.awake) (c.loop-left.left - 1) ≡ c.get.result
  its_bit = ap (is_set c.args.awake) (let at : suc (c.loop-left.left - 1) ≡ c.loop-left.left = omega (arith, c.loop-left-test.true) in at) ∙ sym c.get.ensures

  -- So it is there to be taken.
  there : (c.get.result ≡ true → 0 < length c.loop-left.hands.items) × (c.get.result ≡ false → 0 < length c.loop-left.lent.items)
  there = one_there (is_set c.args.awake) (c.loop-left.left - 1) c.loop-left.left c.get.result its_place its_bit c.loop-left.hands.items c.loop-left.lent.items
      c.loop-left.invariant.sized

pub take_last-worker-requires : goal.take_last-worker-requires
take_last-worker-requires c = let there = there (goal.at.take_last-worker-requires c).After-get in record { hands = there.0; lent = there.1 }

pub loop-left-preserved : goal.loop-left-preserved
loop-left-preserved c =
    search (arith, piles_go_back, its_place, its_bit, sized_back, length-append)

pub returns-clause-dealt : goal.returns-clause-dealt
returns-clause-dealt c =
    let i = c.loop-left.invariant in
    let none : c.loop-left.left ≡ 0 = omega (arith, c.loop-left-test.false) in
    let hands = nil_from_length c.loop-left.hands.items (i.sized.0 ∙ ap (count_of (is_in (is_set c.args.awake))) none) in
    let lent = nil_from_length c.loop-left.lent.items (i.sized.1 ∙ ap (count_of (is_out (is_set c.args.awake))) none) in
    let back = c.loop-left.threads.items in
    let all = piles_begin (is_set c.args.awake) back hands lent c.reverse.ensures.items in
    let piles = subst
    (λ n. Piles (is_set c.args.awake) n back c.loop-left.hands.items c.loop-left.lent.items c.args.hands.now.items c.args.lent.now.items) none i.piles in
    (sym piles.0 ∙ all.0, sym piles.1 ∙ all.1)
