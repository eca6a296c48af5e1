use Rattle.std.{proofs.Common.{◌≡◌, List, ◌++◌, []}, specs.List.All}
use Rattle.pas_shared.specs.{declared.pass.SharedPass.SharedPass, Ruled.{seen_in, IsNoBench}, Passes.IsNamed}
use Rattle.pas_shared.proofs.closing.join_all.Given as goal

-- the seat names the actors of the passes that were taken in
abbrev pub invariant-loop-pass : goal.invariant-loop-pass
invariant-loop-pass l =
    (l.seat.table_id ≡ l.words.table_id)
    × (l.seat.me.1 ≡ [])
    × IsNoBench l.seat.me.0
    × All (λ (p : SharedPass). p.place.seat.table_id ≡ l.words.table_id) l.passes.items
    × (seen_in l.seat.me.0 ≡ seen_in l.fn.seat.me.0)
    × ((rest : List SharedPass) × (l.passes.items ++ rest ≡ l.fn.passes.items) × All (IsNamed l.seat.me.0) rest)

abbrev pub decreases-loop-pass : goal.decreases-loop-pass
decreases-loop-pass l = goal.left-loop-pass l
