-- What follows a return of grains hints no page but one that it read as backed and empty.
use Rattle.std.proofs.Common.{◌≡◌, ℕ, zero, suc, ◌<◌, true, Bool, List, [], ◌∷◌, ◌++◌, Option, None, Some, inl, inr, refl, ap, sym, subst, arith, true≢false}
use Rattle.std.proofs.Common.{◌+◌, ◌*◌, ◌/◌, ◌^◌, ◌≤◌, false, ◌∙◌, eq-eqb}
use Rattle.pas_bits.proofs.Runs.{to_meet}
use Rattle.pas_steps.{specs.{Allowed.IsEndIn, Effects.life_word_at, Kinds.Unparking}, proofs.Past.in_turn_always}
use Rattle.pas_rights.specs.{Looks.{is_free, HintsWhere}, Returns.ReturnSteps}
use Rattle.pas_same_text.proofs.{StepMarks.{hint_step, hints_none, IsMarked, marked_parts, none_marked, returns_marked}, Flushes.visible_steps, Common.cases_eq}
use Rattle.pas_same_text.proofs.Common.{hints_both, full_bit, Directory, Word, Event, Name, Profile, Always, Since, made, triples, event_of, events_by}
use Rattle.pas_same_text.proofs.Common.{epoch_of, LookFree, Offering, Only, kind_of, is_in, LookDeed, Putting, Stamping, returning, Kinds, Made, Look, Stamp}
use Rattle.pas_same_text.proofs.Common.{looks, looks_until, ReadsAllFree, TakesNone, HintsEmpty, ones, Used, until_only, return_returns, puts_kinds, meets_page}
use Rattle.pas_same_text.proofs.Common.{address_of, grain_of, length_of, directory_read, deed_word_of, IsValid, read-deed_word_of, directory_from_profile, Live}
use Rattle.pas_same_text.proofs.Common.{live_in, deed_in, gives_in, ends_in, Whole, part, word_after, visible, Legal, only_both, only_within, epoch_same}
use Rattle.pas_same_text.proofs.Common.{events_same, returns_are, word_of_deed, deed_of, directory_is_of, legal_earlier, IsEndOf, Settled, EntrySteps, AfterEnd}
use Rattle.pas_same_text.proofs.Common.{event_for, ending, is_sized, Ended, Refused, Entry, is_other_room}
use Rattle.pas_answers.proofs.Consequences.{first_page}
use Rattle.pas_profile.specs.Lives.{live_word}
use Rattle.pas_core.{specs.Good.IsLifeOfLive, proofs.Lives.{life_of, block_of_word}}
use Rattle.pas_free_log.specs.{Endings.{guess_by, last_step}, Frames.putting_back, Stamps.pages_from, Returns.{PageSteps, PagesSteps, RunSteps, first_on}}
use Rattle.pas_free_log.{specs.{Returns.count_on, declared.ending.Outcome.Outcome}, proofs.OneEntry.{first_look, trying, AreIdle, EndsWith, last_ends}}
use Rattle.pas_free_log.proofs.OneEntry.{last_refused, guess_is, not_ended, count_some, idle_before}

read_earlier : (P Q : Made → Type 0) (ys xs : List Made) → Since (λ m before. P m) (λ m before. Q m) ys → Since (λ m before. P m) (λ m before. Q m) (ys ++ xs)
read_earlier P Q [] xs h = absurd h
read_earlier P Q (y ∷ ys) xs (inl h) = inl h
read_earlier P Q (y ∷ ys) xs (inr h) = inr (h.0, read_earlier P Q ys xs h.1)

all_read : (page : ℕ) (n word : ℕ) → word < n → Since (ReadsAllFree page word) (TakesNone page) (looks page ones n)
all_read page zero word lt = absurd (omega (arith, lt))
all_read page (suc n) word lt = elim (cases_eq word n) [
  | inl e ↦ inl (ap (λ w. Look (Word.Free page w)) (sym e), λ b small. full_bit b small)
  | inr ne ↦ inr ((λ w mask same. cc), all_read page n word (omega (arith, lt, ne)))
]

until_read : (page : ℕ) (used : Option Used) → is_free used ≡ true → (xs : List Made) (word : ℕ) → word < 4
    → Since (ReadsAllFree page word) (TakesNone page) (looks_until page used ++ xs)
until_read page None free xs word lt = search (arith, read_earlier, all_read)
until_read page (Some used) free xs word lt = absurd (true≢false (sym free))

hints_where : (all_free : Bool) (page : ℕ) (steps xs : List Made) → HintsWhere all_free page steps
    → (all_free ≡ true → (word : ℕ) → word < 4 → Since (ReadsAllFree page word) (TakesNone page) xs) → Always HintsEmpty xs → Always HintsEmpty (steps ++ xs)
hints_where all_free page steps xs h read rest = search (arith, hint_step)

-- What follows a return of grains hints no page but one that it read as backed and empty.
pub return_hints : (page : ℕ) (d : Directory) (steps : List Made) → ReturnSteps page d steps → Always HintsEmpty steps
return_hints page d steps h =
    let before = looks_until page h.used ++ h.first in
    let rest = hints_both _ h.first (hints_none (LookFree ∷ []) _ refl (until_only page h.used))
    (hints_none (Unparking ∷ Offering ∷ []) h.first refl (search arith)) in
    subst (Always HintsEmpty) (sym h.steps_are) (hints_where _ page h.after before h.hints (λ free. until_read page h.used free h.first) rest)

-- ==== One logged free by its steps: the event that they make, the block that ended, and what is noted, marked and hinted.
-- ---- the pages of a block that ended
module _ (g n : ℕ) (steps : List Made) (h : PageSteps g n steps) where
  -- the grains are put back before the page is returned
  abbrev put : List Made
  put = h.puts ++ (made (Stamp (g / 256)) h.stamped ∷ made (Look (Word.Deed (g / 256))) (deed_word_of h.directory) ∷ [])

  abbrev puts : Kinds
  puts = Putting ∷ Stamping ∷ LookDeed ∷ []

  put_kinds : Only puts put
  put_kinds = only_both puts h.puts _ (only_within (Putting ∷ []) puts h.puts refl (puts_kinds (g / 256) h.mask 4 h.puts h.order)) (refl, (refl, tt))

  page_kinds : Only putting_back steps
  page_kinds = subst (Only putting_back) (sym h.steps_are) (only_both putting_back h.after put
      (only_within returning putting_back h.after refl (returns_are (g / 256) h.after (return_returns (g / 256) h.directory h.after h.returns)))
      (only_within puts putting_back put refl put_kinds))

  page_marks : (q : ℕ) → IsMarked q steps → g / 256 ≡ q
  page_marks q marked = elim (marked_parts q h.after put (subst (IsMarked q) h.steps_are marked)) [
    | inl first ↦ returns_marked (g / 256) q h.after (return_returns (g / 256) h.directory h.after h.returns) first
    | inr later ↦ absurd (none_marked puts refl q put put_kinds later)
  ]

run_kinds : (k g n : ℕ) (steps : List Made) → PagesSteps k g n steps → Only putting_back steps
run_kinds k g n steps h = in_turn_always (λ page piece. PageSteps (first_on g page) (count_on g n page) piece) (λ m. is_in putting_back (kind_of m.step) ≡ true)
    (λ page piece is. page_kinds (first_on g page) (count_on g n page) piece is) (pages_from (g / 256) k) steps h

run_hints : (k g n : ℕ) (steps : List Made) → PagesSteps k g n steps → Always HintsEmpty steps
run_hints zero g n steps h = subst (Always HintsEmpty) (sym h) tt
run_hints (suc k) g n steps h = subst (Always HintsEmpty) (sym h.4) (hints_both h.0 h.1 (rw h.2.steps_are (hints_both h.2.after (put _ _ h.0 h.2) (return_hints
    (_ / 256) h.2.directory h.2.after h.2.returns) (hints_none (puts _ _ h.0 h.2) (put _ _ h.0 h.2) refl (put_kinds _ _ h.0 h.2)))) (run_hints k g n h.1 h.3))

run_marks : (k g n q : ℕ) (steps : List Made) → PagesSteps k g n steps → IsMarked q steps → (g / 256 ≤ q) × (q < g / 256 + k)
run_marks zero g n q steps h marked = absurd (subst (IsMarked q) h marked)
run_marks (suc k) g n q steps h marked = elim (marked_parts q h.0 h.1 (subst (IsMarked q) h.4 marked)) [
  | inl first ↦ let at = sym (first_page g k) ∙ page_marks _ _ h.0 h.2 q first in (omega (arith, at), omega (arith, at))
  | inr later ↦ let rest = run_marks k g n q h.1 h.3 later in let low = rest.0 in (low, omega (arith, rest.1))
]

-- a page that is marked is one of the block's
pub block_marked : (g n q : ℕ) (steps : List Made) → 1 ≤ n → RunSteps g n steps → IsMarked q steps → meets_page g n q ≡ true
block_marked g n q steps some h marked = search (arith, run_marks, count_some, to_meet)

-- ---- names by their parts
pub name_same : (a b : Name) → address_of a ≡ address_of b → a.turn ≡ b.turn → a ≡ b
name_same a b at turn = search (arith, a.turn)

-- ---- the last try
-- a deed word is read as the directory that the machine has
pub read_deed : (f : Profile) (valid : IsValid f) (o : Option Directory) → ((d : Directory) → o ≡ Some d → directory_read (deed_word_of d) ≡ Some d)
    → directory_read (word_of_deed o) ≡ o
read_deed f valid o is = grind arith

-- the block that ended
pub record IsEndOfBlock (f : Profile) (l : Whole) (entry : Entry) (grains : ℕ) : Type 0 where
  pub block : Live
  pub lives : live_in (visible l) (address_of entry.name) ≡ Some block
  pub turn : block.block.name.turn ≡ entry.name.turn
  pub long : length_of block.block ≡ grains
  pub some : 1 ≤ grains
  pub room : is_other_room entry block.block ≡ false

module _ (f : Profile) (k epoch : ℕ) (s : Settled) (piece : List Made) (l : Whole) (valid : IsValid f) (legal : Legal f (triples k piece ++ l))
    (is : EntrySteps s piece) (known : epoch_of (part k l) ≡ epoch) where
  abbrev look : Made
  look = made (Look (Word.Deed (address_of s.entry.name / 4096))) is.order.deed

  abbrev first : List Made
  first = is.order.before ++ first_look s.entry.name is.order.deed

  -- The steps before the end are idle.
  idle : AreIdle first
  idle = idle_before (is_sized s.entry) s.entry is.order.deed (guess_by (directory_read is.order.deed)) is.order.guess is.order.before is.order.tries

  -- A free with a size ends the block by this size.
  guessed : is_sized s.entry ≡ true → is.order.guess ≡ s.entry.room / 16
  guessed = guess_is (is_sized s.entry) s.entry (guess_by (directory_read is.order.deed)) is.order.guess is.order.before is.order.tries

  ends_legal : Legal f (triples k (made (last_step (is_sized s.entry) s.entry is.order.guess) is.order.answer ∷ first) ++ l)
  ends_legal = rw is.order.steps_are at (legal_earlier f k is.after is.ends l (subst (λ (ms : List Made). Legal f (triples k ms ++ l)) is.steps_are legal))

  abbrev lm : Whole
  lm = triples k first ++ l

  -- The name and the length that is looked for fit the region.
  within : IsEndIn f s.entry.name is.order.guess
  within = search (arith, guessed, ends_legal)

  -- ---- the block
  abbrev g : ℕ
  g = grain_of s.entry.name

  abbrev word : ℕ
  word = word_after lm (life_word_at g)

  -- An end that was answered by the live word of its turn and length ended the block that lives there, of just that length.
  pub found_block : is.order.answer ≡ live_word s.entry.name.turn is.order.guess → IsEndOfBlock f l s.entry is.order.guess
  found_block hit =
      let turn : s.entry.name.turn < 2 ^ 40 = omega (arith, within.2) in
      let o = block_of_word f g word (live_in (visible lm) (16 * g)) (gives_in (visible lm) (16 * g))
      (ends_in (visible lm) (16 * g)) s.entry.name.turn is.order.guess (life_of f lm valid ends_legal.1 g) turn (sym (search (arith, ends_legal)) ∙ hit) in
      let b : Live = o.0 in
      let alive : IsLifeOfLive f g word b (gives_in (visible lm) (16 * g)) (ends_in (visible lm) (16 * g)) = rw o.1 at (life_of f lm valid ends_legal.1 g) in
      let long : length_of b.block ≡ is.order.guess = search (arith, ends_legal) in
      let some : 1 ≤ is.order.guess = within.3 in
      search (arith, visible_steps k first l ∙ ap (λ (es : List Event). es ++ visible l) (idle.events k (part k l)), ends_legal, guessed, eq-eqb, true≢false)

  -- ---- its event
  abbrev last : EndsWith s.entry.name is.order.guess (last_step (is_sized s.entry) s.entry is.order.guess)
  last = last_ends (is_sized s.entry) s.entry is.order.guess guessed

  end_event : (o : Outcome) → IsEndOf s.entry is.order.guess is.order.answer o
      → event_of k epoch (last_step (is_sized s.entry) s.entry is.order.guess) is.order.answer ≡ Some (event_for k epoch s.entry o)
  end_event (Ended grains) h = last.event k epoch is.order.answer h.0
  end_event (Refused read) h =
      cc (last_refused _ s.entry is.order.guess k epoch is.order.answer guessed h.0 (not_ended _ s.entry.name is.order.guess is.order.answer within.2 h.0))

  ends_event : events_by k (part k l) is.ends ≡ event_for k epoch s.entry s.outcome ∷ []
  ends_event =
      cc (epoch_same trying refl first (part k l) idle.kinds, end_event s.outcome is.order.comes_to, idle.events k (part k l))

  after_kinds : (o : Outcome) → AfterEnd s.entry.name o is.after → Only putting_back is.after
  after_kinds o h = search (arith, run_kinds)

  ends_trying : Only trying is.ends
  ends_trying = subst (Only trying) (sym is.order.steps_are) (ap (is_in trying) last.kind, idle.kinds)

  -- The steps for one logged free are of the ending kinds alone.
  pub entry_kinds : Only ending piece
  entry_kinds = rw is.steps_are
      (only_both ending is.after is.ends (only_within putting_back ending is.after refl (after_kinds s.outcome is.returns))
      (only_within trying ending is.ends refl ends_trying))

  -- The steps for one logged free show one event, that of its outcome.
  pub entry_events : visible (triples k piece ++ l) ≡ event_for k epoch s.entry s.outcome ∷ visible l
  entry_events =
      cc (visible_steps k piece l, events_same putting_back refl k (part k l) is.after is.ends (after_kinds s.outcome is.returns), ends_event)

  -- ---- its hints
  -- The steps for one logged free hint only pages that they read as backed and empty.
  pub entry_hints : Always HintsEmpty piece
  entry_hints = search (arith, hints_both, hints_none, ends_trying, run_hints)

  -- a page that is marked is one of those of the block that ended
  pub after_marked : (q : ℕ) → IsMarked q piece → IsMarked q is.after
  after_marked q marked = elim (marked_parts q is.after is.ends (subst (IsMarked q) is.steps_are marked)) [
    | inl first_part ↦ first_part
    | inr later ↦ absurd (none_marked trying refl q is.ends ends_trying later)
  ]

  -- ---- the directory that was read
  look_legal : Legal f (triples k (look ∷ []) ++ l)
  look_legal = legal_earlier f k is.order.before (look ∷ []) l ends_legal.1

  -- The directory that the steps of an entry read is the deed of its name's page.
  pub read_directory : s.directory ≡ deed_in (visible l) (address_of s.entry.name / 4096)
  read_directory =
      let page : ℕ = address_of s.entry.name / 4096 in
      is.directory
      ∙ (ap directory_read (look_legal.0.answer_is ∙ deed_of f l look_legal.1 page)
      ∙ read_deed f valid _ (λ d at. read-deed_word_of d (directory_from_profile f d valid (directory_is_of f l look_legal.1 page d at))))
