-- NO GUARD GOES UP: the search of a keeper found no run. The pages whose deeds it made are free then, and offered; all else is as it was. At the end: one guard more in a book.
use Rattle.pas_same_text.proofs.Common.{cases_Bool, eqb-false, false≢true, or_cases, or_left, or_right, false_from_ne_true, MakesNoDeedHere, is_outer_of}
use Rattle.pas_same_text.proofs.Common.{is_outer, seeking, SoughtNone, map-append, filter-append, same_Some, filter, AllByRecursion, Guard, Books, Progress}
use Rattle.pas_same_text.proofs.Common.{records_of, World, is_offered, large_of, IsBetween, free_bit, raised_by, AreSameGuards, has_number, IsSame, HasSame}
use Rattle.pas_same_text.proofs.Common.{number_of, IsValid, IsDirectoryOf, Directory, Event, Profile, Word, deed_in, triples, events_by, Only, Always}
use Rattle.pas_same_text.proofs.Common.{usable_by_kind, part, word_after, visible, Made, Step, Deed, only_within, eligible_bit, right_in_one_place, LendsNone}
use Rattle.pas_same_text.proofs.{Common.{lends_none, allocating, all_map, Raised}, StepMarks.{IsMarked, HintsPage, epoch_stays_by, seeks_unbacked}}
use Rattle.pas_same_text.proofs.{Pieces.{IsPiece, UsesOnly, free_kept, hinted_before, piece_pages}, KeepersRest.outer_last, StopActs.events_recorded}
use Rattle.pas_same_text.proofs.{RunsFound.{with_deed, deeded, deeds_of, shown, shown_events, shown_records, shown_lives, shown_rest}, RestingPages.open_from}
use Rattle.pas_same_text.proofs.{RestingPages.{deed_now, bit_tells, bit_offered}, SoughtRuns.{IsRunOf, IsMadeOf, unowned_free, visible_mid, made_events}}
use Rattle.pas_same_text.proofs.{SoughtRuns.{none_made, none_pages, IsSought}, GivenBlocks.{AreReadying, made_ready, ready_deeds, ready_lives}}
use Rattle.std.proofs.Common.{map, ◌⊎◌, ne_eqb, append-nil, ◌≡◌, ℕ, ◌+◌, ◌*◌, ◌<◌, ◌==◌, Bool, true, false, List, [], ◌∷◌, ◌++◌, Some, refl, ap, sym, ◌∙◌}
use Rattle.std.proofs.Common.{arith, eq-eqb, eqb-true}

-- ---- the pages whose deeds were made
newest_listed : (s : Step) (a q : ℕ) (e : Directory) (ps : List ℕ) → s ≡ Deed q e → a ≡ 0 → has_number (with_deed s a ps) q ≡ true
newest_listed s a q e ps is zero = search (arith, eq-eqb, or_left)

-- A page that isn't listed got no deed.
pub unlisted_bare : (q : ℕ) (xs : List Made) → has_number (deeded xs) q ≡ false → Always (MakesNoDeedHere q) xs
unlisted_bare q [] out = tt
unlisted_bare q (m ∷ xs) out = (
  λ e is zero. false≢true (sym out ∙ newest_listed m.step m.answer q e (deeded xs) is zero),
  unlisted_bare q xs (false_from_ne_true (has_number (deeded xs) q)
      (λ h. false≢true (sym out ∙ (let it : has_number (with_deed m.step m.answer (deeded xs)) q ≡ true = search arith in it)))),
)

-- Each page of a list is listed.
pub each_listed : (qs : List ℕ) → AllByRecursion (λ x. has_number qs x ≡ true) qs
each_listed [] = tt
each_listed (x ∷ qs) = let ih = each_listed qs in search (arith, or_left, eq-eqb, all_map, or_right, ih)

-- What is so of all numbers of a list is so of each that it has.
pub all_listed : (P : ℕ → Type 0) (qs : List ℕ) (q : ℕ) → AllByRecursion P qs → has_number qs q ≡ true → P q
all_listed P [] q all h = absurd (false≢true h)
all_listed P (x ∷ qs) q all h = let ih = all_listed P qs q all.1 in search (arith, or_cases, eqb-true, ih)

-- their deeds, and those of others
pub deed_listed : (k : ℕ) (d : Directory) (q : ℕ) (qs : List ℕ) (es : List Event) → has_number qs q ≡ true → deed_in (deeds_of k d qs ++ es) q ≡ Some d
deed_listed k d q [] es h = absurd (false≢true h)
deed_listed k d q (x ∷ qs) es h = let rest = deed_listed k d q qs es in grind (arith, rest)

-- ==== A PAGE THAT GOT ITS DEED and came into nobody's hands is offered in the text where its bit is set.
pub left_free : (f : Profile) (q : Progress) (v : World) (d : Directory) → IsValid f → IsBetween f q → HasSame f q v → (page : ℕ)
    → free_bit q.list (256 * page + 0) ≡ true → usable_by_kind d.kind 0 ≡ true → deed_in v.events page ≡ Some d → (e : Directory) → IsDirectoryOf f e
    → eligible_bit q.list (number_of e) page ≡ true → is_offered v e page ≡ true
left_free f q v d valid there now page free has_room deed e of_e bit =
    search (arith, bit_tells, right_in_one_place, same_Some, deed_now, bit_offered, open_from)

-- ==== THE SEARCH THAT FOUND NONE
module _ {f : Profile} {k heap n : ℕ} {p q : Progress} {w : World} {xs : List Made} (s : IsSought f k heap n p w xs) (found : SoughtNone f (large_of heap) n xs)
    (there : IsBetween f q) (list : q.list ≡ triples k xs ++ p.list) (caches : q.caches ≡ p.caches) (books : q.books ≡ p.books) (names : q.names ≡ p.names)
    (records : q.records ≡ p.records ++ records_of (events_by k (part k p.list) xs)) (epoch : q.epoch ≡ p.epoch) where
  abbrev d : Directory
  d = large_of heap

  abbrev made : List ℕ
  made = deeded xs

  abbrev ds : List Event
  ds = deeds_of k d made

  abbrev v : World
  v = shown ds w

  shown_is : visible q.list ≡ ds ++ w.events
  shown_is = ap visible list ∙ visible_mid s (none_made s found)

  -- Afterwards the replay has what the text has.
  now : HasSame f q v
  now = search (arith, shown_events, shown_is, shown_lives, shown_rest)

  -- The events make pages ready, and nothing else.
  ready : AreReadying k d (has_number made) ds
  ready = made_ready k d (has_number made) made (each_listed made)

  -- nothing was used
  uses : (mine : ℕ → Bool) → UsesOnly p q mine
  uses mine = search (arith, shown_is, ready_lives, ready)

  own_offer : (x : ℕ) (e : Directory) → has_number made x ≡ true → IsDirectoryOf f e → eligible_bit q.list (number_of e) x ≡ true → is_offered v e x ≡ true
  own_offer x e h = left_free f q v d s.valid there now x
      (free_kept s.valid s.between there (uses (λ y. false)) (256 * x + 0) refl (unowned_free s x 0
      (all_listed (IsMadeOf n p.list (λ r. IsRunOf f heap n p.list r × (r < f.pages + 1))) made x (none_pages s found) h).bare (omega arith))) refl
      (ap (λ (es : List Event). deed_in es x) (shown_events ds w) ∙ deed_listed k d x made w.events h) e

  all_kinds : Only allocating xs
  all_kinds = only_within seeking allocating xs refl s.kinds

  -- The search lends nothing.
  lends : LendsNone xs
  lends = lends_none seeking refl xs s.kinds

  -- The try is one piece of the actor.
  piece : IsPiece f k p q w v (has_number made) xs []
  piece =
      let bare = λ (x : ℕ) (out : has_number made x ≡ false). unlisted_bare x xs out in
      let unbacked = λ (x : ℕ) (out : has_number made x ≡ false). seeks_unbacked k x xs s.kinds in
      let kept = λ (x : ℕ) (out : has_number made x ≡ false). ap (λ (es : List Event). deed_in es x) (shown_events ds w)
      ∙ ready_deeds k d (has_number made) ds w.events x out ready in
      let marks : (x : ℕ) → IsMarked x [] → has_number made x ≡ true = λ x h. absurd h in
      let hint = λ (x : ℕ) (here : has_number made x ≡ true) (h : HintsPage x xs).
      hinted_before k s.valid s.between s.same xs s.legal lends s.due x (seeks_unbacked k x xs s.kinds) h in
      assumption (uses (has_number made), bare, unbacked, kept, (shown_rest ds w).hinted, marks, hint, own_offer, now, all_kinds, lends, there, list, s)

  -- Where a keeper's search found no run, the text with the deeds that it made is the replay's state.
  pub missed_same : IsSame f q v
  missed_same =
      let o = shown_rest ds w in
      let lines = records ∙ (ap (λ es. p.records ++ records_of es) (made_events s (none_made s found))
      ∙ events_recorded _ _ v.records ds s.same.records (shown_records ds w)) in
      let epochs = o.epoch ∙ (s.same.epoch ∙ sym (ap (λ m. word_after m Word.Epoch) list ∙ epoch_stays_by allocating refl k xs p.list all_kinds)) in
      assumption (piece_pages piece, now, o.names ∙ (s.same.names ∙ sym names), lines, epochs, o.read ∙ (s.same.read ∙ sym epoch))

-- ==== ONE GUARD MORE, the last one of its keeper's book
module _ {books books' : Books} (k : ℕ) (g : Guard) (own : books' k ≡ books k ++ g ∷ [])
    (others : (j : ℕ) → (j == k) ≡ false → books' j ≡ books j) where
  -- The text's guards with that one behind them are those of the books.
  pub guards_more : (gs : List Raised) → AreSameGuards books gs → AreSameGuards books' (gs ++ raised_by k g ∷ [])
  guards_more gs same = record { each = λ j. at j (j == k) refl }
    where
      at : (j : ℕ) (t : Bool) → (j == k) ≡ t → filter (λ h. h.keeper == j) (gs ++ raised_by k g ∷ []) ≡ map (raised_by j) (books' j)
      at j true e =
          search (arith, eqb-true, filter-append, eq-eqb, map-append)
      at j false e = search (arith, filter-append, ne_eqb, eqb-false, append-nil)

  -- An outer page is one that it was before, or one of that guard.
  pub outer_or : (j x : ℕ) → is_outer (books' j) x ≡ true → (is_outer (books j) x ≡ true) ⊎ (is_outer_of g x ≡ true)
  outer_or j x h = search (arith, cases_Bool, eqb-true, outer_last)

  -- The outer pages of that guard are its keeper's.
  pub outer_more : (x : ℕ) → is_outer_of g x ≡ true → is_outer (books' k) x ≡ true
  outer_more x here = ap (λ (gs : List Guard). is_outer gs x) own ∙ last (books k)
    where
      last : (gs : List Guard) → is_outer (gs ++ g ∷ []) x ≡ true
      last [] = or_left (is_outer_of g x) false here
      last (h ∷ gs) = or_right (is_outer_of h x) (is_outer (gs ++ g ∷ []) x) (last gs)
