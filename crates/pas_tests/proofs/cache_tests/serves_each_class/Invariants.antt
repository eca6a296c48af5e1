-- No name is logged, and there is room for the blocks of the classes that are left.
use Rattle.std.proofs.Common.{◌≡◌, ◌+◌, ◌-◌, ◌*◌, ◌≤◌, [], false}
use Rattle.pas_bits.specs.Bits.{has_bit}
use Rattle.pas_steps.specs.{Desks.CanCall, Unknown.unknown_pages}
use Rattle.pas_cache.specs.Caches.{cached, AtRest}
use Rattle.pas_tests.proofs.cache_tests.serves_each_class.Given as goal

abbrev pub invariant-loop-class : goal.invariant-loop-class
invariant-loop-class g l = record {
  exclusive : has_bit (g.D.Desk.standing l.desk).seat.profile.shared 0 ≡ false;
  none_logged : (cached l.cache).log ≡ [];
  can : CanCall (g.D.Desk.standing l.desk) (λ v. AtRest (g.D.Desk.standing l.desk).seat.profile (cached l.cache) v
      × (10 * (20 - l.class) + unknown_pages (g.D.Desk.standing l.desk).seat.profile v ≤ g.D.Desk.spare_of l.desk));
}
