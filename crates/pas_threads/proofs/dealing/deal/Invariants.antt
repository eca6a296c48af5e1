-- the workers so far are dealt, and there are places for the others
use Rattle.std.proofs.Common.{◌≡◌, ◌+◌, ◌≤◌, length, vec_capacity}
use Rattle.pas_threads.proofs.{Common.{is_set, picked, is_in, is_out}, Dealt.Piles}
use Rattle.pas_threads.proofs.dealing.deal.Given as goal

abbrev pub invariant-loop-worker : goal.invariant-loop-worker
invariant-loop-worker l = record {
  piles : Piles (is_set l.awake) l.actor l.threads.items l.hands.items l.lent.items (picked (is_in (is_set l.awake)) l.fn.threads.items)
      (picked (is_out (is_set l.awake)) l.fn.threads.items);
  count : l.actor + length l.threads.items ≡ length l.fn.threads.items;
  in_hands : length l.hands.items ≤ l.actor;
  in_lent : length l.lent.items ≤ l.actor;
  threads : vec_capacity l.threads ≡ vec_capacity l.fn.threads;
  hands : vec_capacity l.hands ≡ vec_capacity l.fn.hands;
  lent : vec_capacity l.lent ≡ vec_capacity l.fn.lent;
}

abbrev pub decreases-loop-worker : goal.decreases-loop-worker
decreases-loop-worker l = length l.threads.items
