use Rattle.std.proofs.Common.{ℕ, ◌≡◌, ◌<◌, ◌≤◌, get_or, vec_len}
use Rattle.pas_machine.specs.Places.{IsEach, blank_page, ended_at}
use Rattle.pas_machine.proofs.looking.note_end.Given as goal

abbrev pub invariant-loop-page : goal.invariant-loop-page
invariant-loop-page l = record {
  sized : vec_len l.pages ≡ vec_len l.initial.pages;
  set : IsEach l.from l.page (λ page. get_or l.pages.items page blank_page ≡ ended_at l.epoch (get_or l.initial.pages.items page blank_page));
  below : (page : ℕ) → page < l.from → get_or l.pages.items page blank_page ≡ get_or l.initial.pages.items page blank_page;
  above : (page : ℕ) → l.page ≤ page → get_or l.pages.items page blank_page ≡ get_or l.initial.pages.items page blank_page;
}
