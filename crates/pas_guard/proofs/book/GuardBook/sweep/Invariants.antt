use Rattle.std.proofs.Common.{◌≡◌, ◌≤◌, ◌+◌, ◌-◌, length}
use Rattle.pas_records.specs.Rooms.{records_in, room_of}
use Rattle.pas_guard.{specs.Books.{guards_in, size_of_book}, proofs.Raises.SweptSoFar}
use Rattle.pas_guard.proofs.book.GuardBook.sweep.Given as goal

-- the guards before this place stay up, and those from there on come next
abbrev pub invariant-loop-place : goal.invariant-loop-place
invariant-loop-place g l = let D = g.D.Desk in record {
  so_far : SweptSoFar l.all (guards_in l.fn.self) (guards_in l.self) l.place (records_in l.fn.lowered) (records_in l.lowered) (D.standing l.fn.desk)
      (D.standing l.desk);
  actor : l.actor ≡ (D.standing l.fn.desk).seat.actor;
  room : length (records_in l.lowered) + (length (guards_in l.self) - l.place) ≤ room_of l.lowered;
  rooms : room_of l.lowered ≡ room_of l.fn.lowered;
  size : size_of_book l.self ≡ size_of_book l.fn.self;
  home : D.home l.desk ≡ D.home l.fn.desk;
}

abbrev pub decreases-loop-place : goal.decreases-loop-place
decreases-loop-place g l = length (guards_in l.self) - l.place
