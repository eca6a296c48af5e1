-- A BLOCK OF WHOLE PAGES IS GIVEN of a run that a search got, and pages of the run are left. Of a large request the run is that of its block, and a guarded one's has
-- two pages more.
use Rattle.pas_same_text.proofs.Common.{empty_bit, GotPages, run_block, IsPartOf, Live, live_in, false≢true, or_cases, or_left, or_right, false_from_ne_true}
use Rattle.pas_same_text.proofs.Common.{cases_Bool, in_run, address_of, grain_of, length_of, number_of, IsDirectoryOf, Directory, Event, Block, Profile, Word}
use Rattle.pas_same_text.proofs.Common.{deed_in, deed_word_of, triples, events_by, View, has_right, known_deed, Only, Backing, returning, Whole, part}
use Rattle.pas_same_text.proofs.Common.{word_after, visible, Legal, Made, Hint, triples_append, events_same, only_both, only_within, events_append, part_of_own}
use Rattle.pas_same_text.proofs.Common.{eligible_bit, LendsNone, IsValid, deed_same, lends_none, give_steps, IsInRun, in_span, span_in, MadeOf, allocating}
use Rattle.pas_same_text.proofs.Common.{AllByRecursion, seeking, numbers_from, Progress, World, each, is_offered, backs as backs_page, address_on}
use Rattle.pas_same_text.proofs.Common.{legal_earlier, InTurn, Always, large_of, IsBetween, has_number, IsSame, HasSame, all_both, all_map, BackStep}
use Rattle.pas_same_text.proofs.{Common.{pages_from, ReturnsDuly, only_leaves}, StepMarks.{IsMarked, HintsPage, seeks_unbacked, once_parts}}
use Rattle.pas_same_text.proofs.{Flushes.visible_steps, Tests.on_page, RestingPages.word_known, MissedGuards.{each_listed, unlisted_bare}, RunsFound.shown}
use Rattle.pas_same_text.proofs.{RunsFound.{shown_events, each_in_turn, shown_both, deeded, deeded_events, deeds_of, backs_in_turn}, Pieces.{IsPiece, UsesOnly}}
use Rattle.pas_same_text.proofs.Pieces.{hinted_before, left_offered, IsInUse, LeavesBehind, giving, LeftAll, leaving, marks_behind, no_hint, rest_leaves}
use Rattle.pas_same_text.proofs.GivenBlocks.{AreReadying, GivesBlock, backs_ready, block_uses, made_ready, only_block, IsReadying, ready_deeds}
use Rattle.pas_steps.specs.Calls.{Kept, Gained, now as has_now}
use Rattle.std.proofs.Common.{[], Some, ◌⊎◌, ◌≤◌, ◌≡◌, ℕ, ◌+◌, ◌*◌, ◌/◌, Bool, true, false, ◌||◌, if◌then◌else◌, List, ◌∷◌, ◌++◌, inl, inr, refl, ap, sym, ◌∙◌}
use Rattle.std.proofs.Common.{subst, arith, append_assoc, true≢false}
use Rattle.pas_large.proofs.{Claims.in_parts, Gives.run_is, Left.only_backs}

-- By the first of these steps actor k got the m pages of a run, by deeds of its directory alone. By the others n of them were backed, the lowest first, their block was given, and
-- pages of the run were left.
pub record GivesPages (f : Profile) (k heap first m low n : ℕ) (p q : Progress) (w : World) (got backs left rest : List Made) (word answer : ℕ)
    (pages : List ℕ) (block : Block) : Type 0 where
  pub valid : IsValid f
  pub before : IsBetween f p
  pub between : IsBetween f q
  pub same : IsSame f p w
  pub list : q.list ≡ triples k (rest ++ got) ++ p.list
  pub kinds : Only seeking got
  pub returns : Always ReturnsDuly got
  pub made : MadeOf (large_of heap) got
  pub gets : GotPages (in_span first (first + m)) (large_of heap) (part k p.list) (got ++ part k p.list)
  pub within : (first ≤ low) × (low + n ≤ first + m)
  pub back_order : InTurn BackStep (pages_from low n) backs
  pub block_is : block ≡ run_block (large_of heap) low n word
  pub among : AllByRecursion (IsInRun first m) pages
  pub left_order : LeftAll (large_of heap) pages left
  pub after_is : rest ≡ left ++ (give_steps low 0 block word answer ++ backs)

module _ {f : Profile} {k heap first m low n : ℕ} {p q : Progress} {w : World} {got backs left rest : List Made} {word answer : ℕ} {pages : List ℕ}
    {block : Block}
    (g : GivesPages f k heap first m low n p q w got backs left rest word answer pages block) where
  abbrev d : Directory
  d = large_of heap

  abbrev own : View
  own = part k p.list

  abbrev gave : List Made
  gave = give_steps low 0 block word answer

  abbrev mid : Whole
  mid = triples k got ++ p.list

  -- ---- the steps
  legal : Legal f (triples k (rest ++ got) ++ p.list)
  legal = subst (Legal f) g.list g.between.legal

  legal_got : Legal f mid
  legal_got = legal_earlier f k rest got p.list legal

  steps_are : rest ++ got ≡ left ++ (gave ++ (backs ++ got))
  steps_are = ap (λ (ms : List Made). ms ++ got) g.after_is ∙ append_assoc left (gave ++ backs) got

  legal_backs : Legal f (triples k backs ++ mid)
  legal_backs = subst (Legal f) (sym (triples_append k backs got p.list)) (legal_earlier f k (left ++ gave) (backs ++ got) p.list
      (subst (λ (ms : List Made). Legal f (triples k ms ++ p.list)) (steps_are ∙ sym (append_assoc left gave (backs ++ got))) legal))

  -- Each page of the run has its deed before the backings.
  pub deed_mid : (x : ℕ) → IsInRun first m x → word_after mid (Word.Deed x) ≡ deed_word_of d
  deed_mid x here = word_known f mid legal_got k x d
      (ap (λ (v : View). known_deed v x) (part_of_own k got p.list) ∙ g.gets.deeds x (span_in first (first + m) x here.0 here.1))

  -- ---- events
  abbrev pub made : List ℕ
  made = deeded got

  abbrev ds : List Event
  ds = deeds_of k d made

  abbrev bs : List Event
  bs = events_by k (part k mid) backs

  abbrev es : List Event
  es = bs ++ ds

  got_events : events_by k own got ≡ ds
  got_events = deeded_events k d own got g.kinds g.made

  events_are : events_by k own (rest ++ got) ≡ Event.Give k block ∷ es
  events_are =
      ap (events_by k own) steps_are
      ∙ (events_same returning refl k own left (gave ++ (backs ++ got)) (only_leaves d pages left g.left_order)
      ∙ ap (λ (xs : List Event). Event.Give k block ∷ xs)
      (events_append k backs got own
      ∙ (ap (λ (v : View). events_by k v backs ++ events_by k own got) (sym (part_of_own k got p.list)) ∙ ap (λ (xs : List Event). bs ++ xs) got_events)))

  -- What the list shows after the search are its deeds before the text's events.
  pub shown_mid : visible mid ≡ ds ++ w.events
  shown_mid = visible_steps k got p.list ∙ (ap (λ (xs : List Event). xs ++ visible p.list) got_events ∙ ap (λ base. ds ++ base) (sym g.same.pages.events))

  -- The text backs the same pages.
  pub backs_text : each (backs_page k) (numbers_from low n) (shown ds w) ≡ shown es w
  backs_text = each_in_turn (backs_page k) n low (shown ds w)
      ∙ (backs_in_turn f k mid (shown ds w) legal_got (shown_events ds w ∙ sym shown_mid) n low backs legal_backs g.back_order ∙ sym (shown_both bs ds w))

  -- ---- the block
  pub gives_it : GivesBlock f k p q w (rest ++ got) es block (address_on low 0) (4096 * n) heap
  gives_it =
      let at : address_of block.name ≡ low * 4096 = ap (λ (b : Block). address_of b.name) g.block_is in
      let room : block.room ≡ n * 4096 = ap (λ (b : Block). b.room) g.block_is in
      let address_is : address_of block.name ≡ address_on low 0 = omega (arith, at) in
      let room_is : block.room ≡ 4096 * n = omega (arith, room) in
      assumption (events_are, address_is, room_is, ap (λ (b : Block). b.heap) g.block_is, g)

  -- The backings make pages ready, and so do all events before the block.
  pub backs_are_ready : (mine : ℕ → Bool) → AreReadying k d mine bs
  backs_are_ready mine = backs_ready k d mine n low (part k mid) backs g.back_order

  ready : AreReadying k d (has_number made) es
  ready = all_both (IsReadying k d (has_number made)) bs ds (backs_are_ready (has_number made)) (made_ready k d (has_number made) made (each_listed made))

  in_block : (x : ℕ) → in_run (grain_of block.name) (length_of block) x ≡ in_span low (low + n) (x / 256)
  in_block x = ap (λ (b : Block). in_run (grain_of b.name) (length_of b) x) g.block_is ∙ run_is d low n word x

  abbrev pub in_all : ℕ → Bool
  in_all x = in_span first (first + m) x

  -- Of a page of the block a grain is in use.
  pub page_used : (x : ℕ) → IsInRun low n x → IsInUse q x
  page_used x here = block_uses gives_it x 0 (omega arith)
      (in_block (256 * x + 0) ∙ (ap (in_span low (low + n)) (on_page x 0 (omega arith)) ∙ span_in low (low + n) x here.0 here.1))

  -- No block more lives but on pages of the run.
  pub lives_within : (a : ℕ) (b : Live) → live_in (visible q.list) a ≡ Some b
      → (live_in (visible p.list) a ≡ Some b) ⊎ ((x : ℕ) → IsPartOf x a b → in_all (x / 256) ≡ true)
  lives_within = only_block gives_it d (has_number made) in_all ready (λ x h.
      let at = in_parts low (low + n) (x / 256) (sym (in_block x) ∙ h) in span_in first (first + m) (x / 256) (omega (arith, at.0, g.within.0)) (omega (arith, at.1, g.within.1)))

  -- ---- the leave
  gave_kinds : Only giving (gave ++ backs)
  gave_kinds = (refl, (refl, only_within (Backing ∷ []) giving backs refl (only_backs low n backs g.back_order)))

  rest_kinds : Only leaving rest
  rest_kinds = rest_leaves d pages [] left (gave ++ backs) rest g.left_order tt gave_kinds g.after_is

  pub all_kinds : Only allocating (rest ++ got)
  all_kinds = only_both allocating rest got (only_within leaving allocating rest refl rest_kinds) (only_within seeking allocating got refl g.kinds)

  -- ---- all pages, where each of the run has a grain in use then
  module _ (in_use : (x : ℕ) → IsInRun first m x → IsInUse q x) where
    -- The steps leave nothing behind but the block.
    behind : LeavesBehind f k d q mid rest in_all
    behind = record {
      pages = pages;
      late = [];
      left = left;
      gave = gave ++ backs;
      order = g.left_order;
      late_kinds = tt;
      gave_kinds = gave_kinds;
      rest_is = g.after_is;
      among = all_map (IsInRun first m) (λ x. in_all x ≡ true) pages (λ x here. span_in first (first + m) x here.0 here.1) g.among;
      list = g.list ∙ sym (triples_append k rest got p.list);
      right = λ x here. ap (λ (y : View). has_right y x) (part_of_own k got p.list) ∙ (g.gets.does.right x ∙ ap (λ (t : Bool). has_now (if t then Gained else Kept) (has_right own x)) here);
      deeds = λ x here. cc (triples_append k rest got p.list, deed_same leaving refl k rest mid x rest_kinds, deed_mid x (in_parts first (first + m) x here));
      in_use = λ x here. in_use x (in_parts first (first + m) x here);
    }

    -- The pages of the run, and those whose deeds were made; v is the text's state then.
    abbrev pub mine : ℕ → Bool
    mine x = in_all x || has_number made x

    module _ (v : World) (now : HasSame f q v) (uses : UsesOnly p q in_all) (deeds : (x : ℕ) → deed_in v.events x ≡ deed_in (shown es w).events x)
        (hinted : v.hinted ≡ w.hinted)
        (listed : (x : ℕ) (e : Directory) → in_all x ≡ false → has_number made x ≡ true → IsDirectoryOf f e → eligible_bit q.list (number_of e) x ≡ true
        → is_offered v e x ≡ true) where
      -- No deed was made on a page that isn't the piece's.
      unlisted : (x : ℕ) → mine x ≡ false → has_number made x ≡ false
      unlisted x out = false_from_ne_true (has_number made x) (λ h. true≢false (sym (or_right (in_all x) (has_number made x) h) ∙ out))

      own_offer : (x : ℕ) (e : Directory) → mine x ≡ true → IsDirectoryOf f e → eligible_bit q.list (number_of e) x ≡ true → is_offered v e x ≡ true
      own_offer x e h of bit = elim (cases_Bool (in_all x)) [
        | inl here ↦ left_offered g.valid g.between behind v now tt x e here of bit
        | inr out ↦ elim (or_cases (in_all x) (has_number made x) h) [ inl here ↦ absurd (false≢true (sym out ∙ here)) | inr made ↦ listed x e out made of bit ]
      ]

      -- The search lends nothing.
      lends : LendsNone got
      lends = lends_none seeking refl got g.kinds

      own_hint : (x : ℕ) → mine x ≡ true → HintsPage x (rest ++ got) → empty_bit p.list x ≡ true
      own_hint x here h = elim (once_parts (λ s. s.step ≡ Hint x) rest got h) [
        | inl later ↦ absurd (no_hint g.valid g.between behind x later)
        | inr early ↦ hinted_before k g.valid g.before g.same got legal_got lends g.returns x (seeks_unbacked k x got g.kinds) early
      ]

      -- Search and give are one piece of the actor.
      pub piece : IsPiece f k p q w v mine got rest
      piece =
          let more : UsesOnly p q mine = search arith in
          let bare = λ (x : ℕ) (out : mine x ≡ false). unlisted_bare x got (unlisted x out) in
          let unbacked = λ (x : ℕ) (out : mine x ≡ false). seeks_unbacked k x got g.kinds in
          let kept = λ (x : ℕ) (out : mine x ≡ false). deeds x ∙ (ap (λ (ys : List Event). deed_in ys x) (shown_events es w)
          ∙ ready_deeds k d (has_number made) es w.events x (unlisted x out) ready) in
          let marks = λ (x : ℕ) (h : IsMarked x rest). or_left (in_all x) (has_number made x) (marks_behind g.valid g.between behind x h) in
          assumption (more, bare, unbacked, kept, hinted, marks, own_hint, own_offer, now, all_kinds, lends, g)
