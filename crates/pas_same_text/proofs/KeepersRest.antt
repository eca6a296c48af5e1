-- WHERE THREADS AND KEEPERS ARE AT REST with their caches and books, all actors of the region rest; and keepers are so after what they do.
use Rattle.pas_same_text.proofs.Common.{nat_tests, or-false, cases_lt, cases_Bool, eqb-false, or_cases, Profile, Word, Block, part, Legal, Whole, word_after}
use Rattle.pas_same_text.proofs.Common.{visible, View, holds, triples, Since, HasNothing, Giving, LookLife, returning, Act, IsThread, Progress, Books}
use Rattle.pas_same_text.proofs.Common.{AreAtRest, IsResting, AreResting, IsBetween, IsThreadOf, IsKeeperOf, AreSeated, large_of, IsValid, backed_in, Made}
use Rattle.pas_same_text.proofs.Common.{Back, part_of_others, part_of_own, triples_append, always_map, word_of_backed, one_holder, agrees, agreed_steps}
use Rattle.pas_same_text.proofs.Common.{legal_earlier, IsBeside, sweeping, SweepSteps, guard_of, filter, give_steps, MayFind, is_outer_of, is_outer, Each}
use Rattle.pas_same_text.proofs.{Common.{FitsBook, Guard, Record}, FreeGrains.outer_held, GivenBack.some_outer, LowerActs.{IsSwept, swept_told, goes_down}}
use Rattle.std.proofs.Common.{ℕ, ◌<◌, ◌≤◌, [], ◌⊎◌, inl, inr, ◌∙◌, arith, ◌≡◌, ◌/◌, ◌==◌, Bool, true, false, List, ◌∷◌, ◌++◌, ap, sym, subst, true≢false}
use Rattle.std.proofs.Common.{eqb-true, eq-eqb, ◌+◌, not, Option, None, Some, refl}
use Rattle.pas_guard.{proofs.Raises.{raised_leaves, no_backs, each_more, backs_both, raised_pages}, specs.{Evidence.BackedReadHere, Seeks.LeftSince}}
use Rattle.pas_guard.specs.Raises.{BacksNot, RaiseSteps}

-- whoever acts is an actor of the region
pub thread_of : (threads : ℕ) (f : Profile) (k : ℕ) → IsThreadOf threads k → threads ≤ f.threads → IsThread f k
thread_of threads f k own few = let low = own.0 in (low, omega (arith, own.1, few))

-- A keeper is an actor of the region.
pub keeper_of : (threads : ℕ) (f : Profile) (k : ℕ) → IsKeeperOf threads f k → IsThread f k
keeper_of threads f k keeps = (omega (arith, keeps.0), keeps.1)

module _ (threads : ℕ) (f : Profile) (p : Progress) (rest : AreAtRest threads f p.caches p.books p.list) (seated : AreSeated threads f p) where
  -- a keeper by its book, which it fits, and its empty cache; a thread as it is said of it
  rests_so : (k : ℕ) → IsThread f k → (threads < k) ⊎ (k ≤ threads) → IsResting f (p.caches k) (p.books k) (part k p.list)
  rests_so k is (inl keeps) = search arith
  rests_so k is (inr works) = search arith

  -- Where all threads and keepers are at rest, a legal replay is between two acts.
  pub between_from : Legal f p.list → IsBetween f p
  between_from legal = record {
    legal = legal;
    rest = record {
      working = λ k is. rests_so k is (cases_lt threads k);
      none = λ k other. seated.unbooked k (λ keeper. other (omega (arith, keeper.0), keeper.1));
      beside = seated.beside;
      bare = seated.bare;
      scavenger = rest.scavenger;
    };
  }

-- the act is no keeper's: it changes no book
abbrev pub IsNoKeepers : Act → Type 0
IsNoKeepers (Act.Guards keeper op) = ⊥
IsNoKeepers (Act.Lowers keeper) = ⊥
IsNoKeepers act = Unit {0}

-- ==== OUTER PAGES STAY BARE: whom nothing lets back a page, and what a keeper does that raises a guard.
-- ---- one step: only a back makes a page that isn't backed a backed one
-- ---- steps of one actor
pub bare_on : (f : Profile) (k page : ℕ) (xs : List Made) (l : Whole) → Legal f (triples k xs ++ l) → BacksNot page xs → word_after l (Word.Backed page) ≡ 0
    → word_after (triples k xs ++ l) (Word.Backed page) ≡ 0
bare_on f k page [] l legal backs zero = zero
bare_on f k page (m ∷ xs) l legal backs zero = search (arith, cases_Bool, eqb-true, bare_on f k page xs l legal.1 backs.1 zero)

-- nobody backs a page all of whose grains another holds
held_unbacked : (f : Profile) (k j page : ℕ) (xs : List Made) (l : Whole) → IsValid f → Legal f (triples k xs ++ l) → (k == j) ≡ false
    → ((g : ℕ) → g / 256 ≡ page → holds (part j l) g ≡ true) → BacksNot page xs
held_unbacked f k j page [] l valid legal other held = tt
held_unbacked f k j page (m ∷ xs) l valid legal other held = (
  search (arith, part_of_others, true≢false, eq-eqb, one_holder),
  held_unbacked f k j page xs l valid legal.1 other held,
)

-- where the page was read as not backed, and left alone since
pub bare_since : (f : Profile) (k page : ℕ) (v : View) (xs : List Made) (l : Whole) → Legal f (triples k xs ++ l)
    → Since (BackedReadHere v page 0) (LeftSince page) xs → word_after (triples k xs ++ l) (Word.Backed page) ≡ 0
bare_since f k page v [] l legal since = absurd since
bare_since f k page v (m ∷ xs) l legal (inl read) = search (arith, cases_Bool, eqb-true)
bare_since f k page v (m ∷ xs) l legal (inr later) = search (arith, cases_Bool, eqb-true, bare_since f k page v xs l legal.1 later.1)

-- ---- words and events
none_backed : (b : Bool) → 0 ≡ word_of_backed b → b ≡ false
none_backed b h = grind arith

-- A page whose backed word is 0 isn't backed by the events of a legal list.
pub bare_events : (f : Profile) (l : Whole) (page : ℕ) → IsValid f → Legal f l → word_after l (Word.Backed page) ≡ 0 → backed_in (visible l) page ≡ false
bare_events f l page valid legal zero = none_backed (backed_in (visible l) page) (sym zero ∙ (agrees f l valid legal).backed page)

-- ==== A KEEPER RESTS after its calls, and so do all others.
-- ---- an actor without slots rests with its book
-- ---- a page of another keeper stays bare
pub others_bare : (f : Profile) (p : Progress) (j k page : ℕ) (xs : List Made) → IsValid f → IsBetween f p → Legal f (triples j xs ++ p.list) → (j == k) ≡ false
    → is_outer (p.books k) page ≡ true → backed_in (visible (triples j xs ++ p.list)) page ≡ false
others_bare f p j k page xs valid before legal other outer =
    bare_events f (triples j xs ++ p.list) page valid legal
    (bare_on f j page xs p.list legal
    (held_unbacked f j k page xs p.list valid legal other (λ g at. outer_held f p before k g (ap (is_outer (p.books k)) at ∙ outer)))
    ((agrees f p.list valid before.legal).backed page ∙ ap word_of_backed (before.rest.bare k page outer)))

-- ==== A KEEPER whose steps these are has this book then
module _ (f : Profile) (p : Progress) (keeper : ℕ) (books : Books) (steps : List Made) (left : List Guard) (valid : IsValid f) (is : IsThread f keeper)
    (before : IsBetween f p) (uncached : (p.caches keeper).locals ≡ []) (legal : Legal f (triples keeper steps ++ p.list))
    (own : books keeper ≡ left) (others : (j : ℕ) → (j == keeper) ≡ false → books j ≡ p.books j)
    (fits : FitsBook f left (steps ++ part keeper p.list)) (beside : Each IsBeside left)
    (bare : (page : ℕ) → is_outer left page ≡ true → word_after (triples keeper steps ++ p.list) (Word.Backed page) ≡ 0) where
  abbrev l : Whole
  l = triples keeper steps ++ p.list

  -- Each thread still rests, whoever the keeper is.
  working : (j : ℕ) → IsThread f j → (t : Bool) → (j == keeper) ≡ t → IsResting f (p.caches j) (books j) (part j l)
  working j of true e =
      search (arith, part_of_own, eqb-true)
  working j of false e =
      rw (part_of_others j keeper steps p.list (λ same. eqb-false j keeper e (sym same)), others j e) (before.rest.working j of)

  by_others : (P : List Guard → Type 0) (j : ℕ) (t : Bool) → (j == keeper) ≡ t → P left → ((j == keeper) ≡ false → P (p.books j)) → P (books j)
  by_others P j t e at_left rest = search (arith, eqb-true)

  -- After its calls a keeper rests with the guards that are left, and all others rest as before.
  pub keeper_resting : AreResting f p.caches books l
  keeper_resting = record {
    working = λ j of. working j of (j == keeper) refl;
    none = λ j other. subst (λ (gs : List Guard). gs ≡ []) (sym (others j (by_test j other (j == keeper) refl))) (before.rest.none j other);
    beside = λ j. by_others (Each IsBeside) j (j == keeper) refl beside (λ ne. before.rest.beside j);
    bare = λ j page. by_others (λ (gs : List Guard). is_outer gs page ≡ true → backed_in (visible l) page ≡ false) j _ refl
        (λ outer. bare_events f l page valid legal (bare page outer))
        (λ ne outer. others_bare f p keeper j page steps valid before legal
        ((let it : (keeper == j) ≡ (j == keeper) = grind (arith, nat_tests) in it) ∙ ne) outer);
    scavenger = subst HasNothing (sym (part_of_others 0 keeper steps p.list (λ same. omega (arith, is.0, same)))) before.rest.scavenger;
  }
    where
      by_test : (j : ℕ) → (IsThread f j → ⊥) → (t : Bool) → (j == keeper) ≡ t → t ≡ false
      by_test j other true e = absurd (other (subst (IsThread f) (sym (eqb-true j keeper e)) is))
      by_test j other false e = refl

-- ---- a sweep
each_kept : (P : Guard → Type 0) (t : Guard → Bool) (gs : List Guard) → Each P gs → Each P (filter t gs)
each_kept P t [] all = tt
each_kept P t (g ∷ gs) all = search (arith, each_kept P t gs all.1)

module _ (f : Profile) (keeper : ℕ) (all : Bool) (p : Progress) (steps : List Made) (left : List Guard) (said : List Record) (valid : IsValid f)
    (before : IsBetween f p) (legal : Legal f (triples keeper steps ++ p.list)) (sweep : SweepSteps f keeper all (p.books keeper) left said steps) where
  -- The sweep says what it did.
  swept : IsSwept all (visible p.list) keeper (p.books keeper) left said steps
  swept = swept_told f all (visible p.list) keeper valid (p.books keeper) left said steps p.list legal refl (before.rest.beside keeper) sweep.kinds sweep.swept

  abbrev stays : Guard → Bool
  stays g = not (goes_down all (visible p.list) g)

  -- The guards that a sweep leaves have their outer pages beside their blocks.
  pub swept_beside : Each IsBeside left
  swept_beside = subst (Each IsBeside) (sym swept.kept_is) (each_kept IsBeside stays (p.books keeper) (before.rest.beside keeper))

  -- The outer pages of the guards that a sweep leaves aren't backed.
  pub swept_bare : (page : ℕ) → is_outer left page ≡ true → word_after (triples keeper steps ++ p.list) (Word.Backed page) ≡ 0
  swept_bare page outer =
      let was = some_outer stays (p.books keeper) page (ap (λ (gs : List Guard). is_outer gs page) (sym swept.kept_is) ∙ outer) in
      bare_on f keeper page steps p.list legal (no_backs sweeping page steps refl sweep.kinds)
      ((agrees f p.list valid before.legal).backed page ∙ ap word_of_backed (before.rest.bare keeper page was))

-- ---- a raise
pub outer_last : (gs : List Guard) (g : Guard) (page : ℕ) → is_outer (gs ++ g ∷ []) page ≡ true → (is_outer gs page ≡ true) ⊎ (is_outer_of g page ≡ true)
outer_last [] g page h = inr (sym (or-false (is_outer_of g page)) ∙ h)
outer_last (x ∷ gs) g page h = let ih = outer_last gs g page in search (arith, or_cases, ih)

-- A keeper that fits its book may search for a run of its heap's large pages.
pub book_finds : (f : Profile) (heap : ℕ) (gs : List Guard) (v : View) → FitsBook f gs v → MayFind (large_of heap) v
book_finds f heap gs v fits = record { lacks = λ page h. fits.rights page; clear = fits.clear }

module _ (f : Profile) (keeper heap n : ℕ) (l : Whole) (guards guards' : List Guard) (valid : IsValid f) (fits : FitsBook f guards (part keeper l))
    (beside : Each IsBeside guards) (bare : (page : ℕ) → is_outer guards page ≡ true → word_after l (Word.Backed page) ≡ 0) where
  -- After a raise each guard of the book has its outer pages beside its block.
  pub raised_beside : (answer : Option Block) (steps : List Made) → RaiseSteps f heap n guards guards' answer steps → Each IsBeside guards'
  raised_beside answer steps raise = search (arith, each_more)

  -- its own outer pages, from the search on
  module _ (block : Block) (steps : List Made) (raise : RaiseSteps f heap n guards guards' (Some block) steps) (legal : Legal f (triples keeper steps ++ l))
    where
      abbrev first : ℕ
      first = raise.outcome.first

      abbrev gave : List Made
      gave = give_steps (first + 1) 0 block raise.outcome.word raise.outcome.answer

      -- The list with the raise's steps is legal.
      whole : Legal f (triples keeper (raise.after ++ raise.searched) ++ l)
      whole = subst (λ (ms : List Made). Legal f (triples keeper ms ++ l)) raise.steps_are legal

      search_legal : Legal f (triples keeper raise.searched ++ l)
      search_legal = legal_earlier f keeper raise.after raise.searched l whole

      after_bare : (page : ℕ) → ((first + 1 ≤ page) × (page < first + 1 + n) → ⊥) → BacksNot page raise.after
      after_bare page out = subst (BacksNot page) (sym raise.outcome.after_is)
          (backs_both page raise.outcome.left (gave ++ raise.outcome.backs) (no_backs returning page raise.outcome.left refl (raised_leaves raise.outcome))
          (backs_both page gave raise.outcome.backs (no_backs (Giving ∷ LookLife ∷ []) page gave refl (refl, (refl, tt)))
          (always_map _ (λ m before. m.step ≡ Back page → ⊥) raise.outcome.backs (λ m before h e. out (h page e)) (raised_pages raise.outcome))))

      own_bare : (page : ℕ) → ((first + 1 ≤ page) × (page < first + 1 + n) → ⊥)
          → word_after (triples keeper raise.searched ++ l) (Word.Backed page) ≡ 0
          → word_after (triples keeper steps ++ l) (Word.Backed page) ≡ 0
      own_bare page out zero =
          subst (λ (ms : List Made). word_after (triples keeper ms ++ l) (Word.Backed page) ≡ 0) (sym raise.steps_are)
          (subst (λ (m : Whole). word_after m (Word.Backed page) ≡ 0) (triples_append keeper raise.after raise.searched l)
          (bare_on f keeper page raise.after _ (subst (Legal f) (sym (triples_append keeper raise.after raise.searched l)) whole) (after_bare page out) zero))

      read_bare : Since (BackedReadHere (part keeper l) first 0) (LeftSince first) raise.searched
          × Since (BackedReadHere (part keeper l) (first + n + 1) 0) (LeftSince (first + n + 1)) raise.searched
      read_bare = raise.outcome.found.bare (part keeper l) (book_finds f heap guards _ fits) (agreed_steps f keeper l raise.searched valid search_legal)

      guard_bare : (page : ℕ) → is_outer_of (guard_of first n block) page ≡ true → word_after (triples keeper steps ++ l) (Word.Backed page) ≡ 0
      guard_bare page outer = search (arith, or_cases, eqb-true, own_bare, bare_since, search_legal, read_bare)

  old_bare : (answer : Option Block) (steps : List Made) (raise : RaiseSteps f heap n guards guards' answer steps) → Legal f (triples keeper steps ++ l)
      → (page : ℕ) → is_outer guards page ≡ true → word_after (triples keeper steps ++ l) (Word.Backed page) ≡ 0
  old_bare answer steps raise legal page outer =
      bare_on f keeper page steps l legal (raise.unbacked (part keeper l) fits (agreed_steps f keeper l steps valid legal) page outer) (bare page outer)

  -- After a raise no outer page of a guard of the book is backed.
  pub raised_bare : (answer : Option Block) (steps : List Made) → RaiseSteps f heap n guards guards' answer steps → Legal f (triples keeper steps ++ l)
      → (page : ℕ) → is_outer guards' page ≡ true → word_after (triples keeper steps ++ l) (Word.Backed page) ≡ 0
  raised_bare None steps raise legal page outer = old_bare None steps raise legal page (rw raise.outcome.same at outer)
  raised_bare (Some block) steps raise legal page outer =
      elim (outer_last guards (guard_of raise.outcome.first n block) page (rw raise.outcome.raised at outer)) [
        | inl old ↦ old_bare (Some block) steps raise legal page old
        | inr own ↦ guard_bare block steps raise legal page own
      ]
