use Rattle.std.proofs.Common.{◌≡◌, ◌+◌, List}
use Rattle.pas_trace.specs.{Plans.bounds_upto, Told.Tells, declared.item.Item.Item}
use Rattle.pas_trace.proofs.reader.Reader.add_keeper_bounds.Given as goal

abbrev pub invariant-loop-thread : goal.invariant-loop-thread
invariant-loop-thread l =
    (items : List Item) → Tells l.self items → l.bounds.items ≡ bounds_upto l.self.header.profile items (l.self.header.profile.threads + l.thread)
