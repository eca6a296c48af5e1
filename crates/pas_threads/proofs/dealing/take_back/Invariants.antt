-- the workers of the threads behind the first ones are back
use Rattle.std.proofs.Common.{◌≡◌, ◌+◌, length, vec_capacity}
use Rattle.pas_threads.proofs.{Common.{is_set, AreSized}, Dealt.Piles}
use Rattle.pas_threads.proofs.dealing.take_back.Given as goal

abbrev pub invariant-loop-left : goal.invariant-loop-left
invariant-loop-left l = record {
  piles : Piles (is_set l.awake) l.left l.threads.items l.hands.items l.lent.items l.fn.hands.items l.fn.lent.items;
  sized : AreSized (is_set l.awake) l.left l.hands.items l.lent.items;
  count : length l.threads.items + l.left ≡ l.count;
  threads : vec_capacity l.threads ≡ vec_capacity l.fn.threads;
  hands : vec_capacity l.hands ≡ vec_capacity l.fn.hands;
  lent : vec_capacity l.lent ≡ vec_capacity l.fn.lent;
}

abbrev pub decreases-loop-left : goal.decreases-loop-left
decreases-loop-left l = l.left
