use Rattle.std.proofs.Common.{◌≡◌, ◌+◌, ℕ, List, drop}
use Rattle.pas_trace.{specs.{Lexed.Say, Told.Tells, declared.item.Item.Item}, proofs.LexedLines.Further}
use Rattle.pas_trace.proofs.reader.Reader.take_items.Given as goal

abbrev pub invariant-loop-item : goal.invariant-loop-item
invariant-loop-item l = record {
  further : (told : List Item) (lines : List (List ℕ)) → Tells l.fn.self told → Say l.fn.self.header.version lines l.items
      → Further l.fn.self told lines l.self (drop l.item-index l.items);
  line : l.self.line ≡ l.fn.self.line + l.item-index;
}
