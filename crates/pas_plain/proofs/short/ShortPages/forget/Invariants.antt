use Rattle.std.proofs.Common.{◌≡◌, ℕ, ◌<◌, false, length}
use Rattle.pas_plain.specs.{ShortRows.{has_page, row_at}, Short.HasNote}
use Rattle.pas_plain.proofs.short.ShortPages.forget.Given as goal

-- the rows before this one haven't the page
abbrev pub invariant-loop-at : goal.invariant-loop-at
invariant-loop-at l = record {
  long : length l.self.rows.items ≡ length l.initial.self.rows.items;
  any : l.self.any ≡ l.initial.self.any;
  notes : (g a p : ℕ) → HasNote l.self g a p → HasNote l.initial.self g a p;
  cleared : (i : ℕ) → i < l.at → has_page (row_at l.self.rows.items i).pages l.page ≡ false;
}
