-- Between two acts each page where a block ended is stamped, so its stamp is the greatest epoch of an end there.
use Rattle.std.proofs.Common.{◌≡◌, ℕ, ◌==◌, Bool, true, false, if◌then◌else◌, [], ◌∷◌, refl, ap, subst, eqb-true, ◌*◌, ◌/◌, List, ◌++◌, inl, inr, sym, ◌∙◌}
use Rattle.std.proofs.Common.{arith, eq-eqb, Option, None, Some, ne_eqb}
use Rattle.pas_same_text.proofs.Common.{IsValid, Profile, Block, Word, Whole, part, visible, Legal, word_after, View, HasNothing, triples, made, Made, Step}
use Rattle.pas_same_text.proofs.Common.{agreed_steps, legal_before, legal_earlier, Act, IsThread, Progress, with_cache as with_cached, Books, with_book}
use Rattle.pas_same_text.proofs.Common.{wanted_by, IsBetween, AreEndsStamped, IsResting, AreResting, false≢true, eqb-false, or_left, or_right, backed_in}
use Rattle.pas_same_text.proofs.Common.{part_of_others, triples_append, part_of_own, Slots, AtRest, Cached, any_covers, is_outer_of, is_outer, Each, FitsBook}
use Rattle.pas_same_text.proofs.Common.{Guard, Record, IsBeside, Request, Op, Tried, IsTried, after_trying, after_lowering, AnswersTried, AnswersGuarded}
use Rattle.pas_same_text.proofs.{Common.{IsThreadOf, IsKeeperOf, IsActOf, AreSeated}, LowerActs.swept_to, KeepersRest.{others_bare, keeper_resting}}
use Rattle.pas_same_text.{proofs.KeepersRest.{swept_beside, swept_bare, raised_beside, raised_bare, keeper_of, IsNoKeepers}, specs.Acts.KeepsStamped}
use Rattle.pas_core.{specs.Stamps.AllKeepToEnds, proofs.Lives.stamps_are_ends}
use Rattle.pas_trace.specs.Acts.{stepper_of}
use Rattle.pas_answers.{specs.{Answers.epoch_look, Guarding.IsLowered, Reaching.Advances}, proofs.Consequences.{act_tidy, parts_kept, KeptPart, Tidy}}
use Rattle.pas_cache.specs.Serves.{pages_of}
use Rattle.pas_records.specs.Rests.{AreStamped}

-- ---- the parts of the actors
kept_part : (l : Whole) → AllKeepToEnds l → (k : ℕ) → KeptPart (part k l)
kept_part [] all k = tt
kept_part (t ∷ l) all k = search (arith, eqb-true, kept_part l all.1 k)

-- ---- an act
pub stamped_kept : (f : Profile) (act : Act) → KeepsStamped f act
stamped_kept f act p p' valid before after did are =
    let tidy : (k : ℕ) → Tidy (part k p'.list) =
    act_tidy f act p p' did after.legal (λ k. record { kept = kept_part p.list are.kept k; stamped = are.stamped k }) in
    record { kept = parts_kept p'.list (λ k. (tidy k).kept); stamped = λ k. (tidy k).stamped }

-- THE STAMPS
pub stamps_told : (f : Profile) (p : Progress) → IsValid f → IsBetween f p → AreEndsStamped p.list → AreStamped f p.list
stamps_told f p valid between are = record { stamp = λ page is. stamps_are_ends f p.list valid between.legal are.kept page (λ k. are.stamped k page) }

-- ==== IN THE MIDDLE OF AN ACT: where its thread rests with another cache, all actors rest.
-- an actor that is at rest with its cache alone has no guard up
thread_book : (f : Profile) (c : Cached) (gs : List Guard) (v : View) → IsResting f c gs v → AtRest f c v → gs ≡ []
thread_book f c [] v resting rest = refl
thread_book f c (g ∷ gs) v resting rest = absurd (elim resting.locals.one_kind [
  | inl none ↦ false≢true (sym (ap (λ (ls : List Slots). any_covers ls (256 * g.low)) none) ∙ covered)
  | inr none ↦ (let e : g ∷ gs ≡ [] = none in cc)
])
  where
    -- The first grain of a page is on it.
    on : 256 * g.low / 256 ≡ g.low
    on = omega arith

    -- The lower page of a guard is an outer one.
    outer : is_outer (g ∷ gs) (256 * g.low / 256) ≡ true
    outer = ap (is_outer (g ∷ gs)) on ∙ or_left (is_outer_of g g.low) (is_outer gs g.low) (or_left (g.low == g.low) (g.high == g.low) (eq-eqb g.low g.low refl))

    -- A slot covers the page's first grain.
    covered : any_covers c.locals (256 * g.low) ≡ true
    covered = sym (rest.locals.grains (256 * g.low)) ∙ (resting.locals.grains (256 * g.low) ∙ or_right (any_covers c.locals (256 * g.low)) _ outer)

-- An actor that was at rest with its cache alone is so with the cache that it rests with later.
pub at_rest_now : (f : Profile) (c c' : Cached) (gs : List Guard) (v v' : View) → IsResting f c gs v → AtRest f c v → IsResting f c' gs v' → AtRest f c' v'
at_rest_now f c c' gs v v' resting rest now = search arith

-- ---- a cache that became another twice
-- ==== THREAD k went on by these steps, and rests with this cache then
module _ (f : Profile) (p : Progress) (k : ℕ) (c' : Cached) (xs : List Made) (valid : IsValid f) (thread : IsThread f k) (before : IsBetween f p)
    (rest : AtRest f (p.caches k) (part k p.list)) (legal : Legal f (triples k xs ++ p.list)) (now : AtRest f c' (part k (triples k xs ++ p.list))) where
  abbrev l : Whole
  l = triples k xs ++ p.list

  -- A thread has no guards.
  none : p.books k ≡ []
  none = thread_book f (p.caches k) (p.books k) (part k p.list) (before.rest.working k thread) rest

  -- Each thread still rests.
  working : (j : ℕ) → IsThread f j → (t : Bool) → (j == k) ≡ t → IsResting f (if t then c' else p.caches j) (p.books j) (part j l)
  working j is true e = search (arith, eqb-true, thread_book)
  working j is false e = rw (part_of_others j k xs p.list (λ same. eqb-false j k e (sym same))) (before.rest.working j is)

  still_bare : (j page : ℕ) → is_outer (p.books j) page ≡ true → (t : Bool) → (k == j) ≡ t → backed_in (visible l) page ≡ false
  still_bare j page outer true e =
      absurd (false≢true (sym (ap (λ (gs : List Guard). is_outer gs page) (subst (λ (i : ℕ). p.books i ≡ []) (eqb-true k j e) none)) ∙ outer))
  still_bare j page outer false e = others_bare f p k j page xs valid before legal e outer

  -- Where a thread rests with another cache in the middle of its act, all actors rest.
  pub middle_rest : AreResting f (with_cached p.caches k c') p.books l
  middle_rest = record {
    working = λ j is. working j is (j == k) refl;
    none = before.rest.none;
    beside = before.rest.beside;
    bare = λ j page outer. still_bare j page outer (k == j) refl;
    scavenger = subst HasNothing (sym (part_of_others 0 k xs p.list (λ same. omega (arith, thread.0, same)))) before.rest.scavenger;
  }

-- ==== EACH ACT KEEPS THE SEATS: only keepers have guards up after it, they cache nothing, and the outer pages stand beside their blocks and aren't backed.
-- ==== AN ACT of no keeper: one actor makes steps, and at most its cache changes
pub record IsMoved (p p' : Progress) (j : ℕ) : Type 0 where
  pub steps : List Made
  pub list : p'.list ≡ triples j steps ++ p.list
  pub books : p'.books ≡ p.books
  pub others : (k : ℕ) → (k == j) ≡ false → p'.caches k ≡ p.caches k

-- An act of no keeper moves the one that steps alone.
moved : (f : Profile) (act : Act) (p p' : Progress) → IsNoKeepers act → Advances f act p p' → IsMoved p p' (stepper_of act)
moved f (Act.Operates op) p p' own is = subst (λ q. IsMoved p q op.actor) (sym is.2) (record { steps = is.0.steps; list = refl; books = refl; others = λ k ne. ap (λ t. if t then is.0.cache else p.caches k) ne })
moved f (Act.Settles k) p p' own is = subst (λ q. IsMoved p q k) (sym is) (record { steps = []; list = refl; books = refl; others = λ j ne. ap (λ t. if t then record (p.caches k) { noted = [] } else p.caches j) ne })
moved f (Act.Ticks epoch) p p' own is = rw is.1 (record { steps = made (Step.Tick epoch) is.0 ∷ []; list = refl; books = refl; others = λ k ne. refl })
moved f Act.MakesPass p p' own is = rw is.4 (record { steps = is.2; list = refl; books = refl; others = λ k ne. refl })
moved f Act.ReadsEpoch p p' own is = rw is.1 (record { steps = epoch_look is.0; list = refl; books = refl; others = λ k ne. refl })
moved f (Act.StopsIdle k n) p p' own (inl h) = subst (λ q. IsMoved p q k) (sym h.4) (record { steps = h.1; list = refl; books = refl; others = λ j ne. ap (λ t. if t then h.2 else p.caches j) ne })
moved f (Act.StopsIdle k n) p p' own (inr h) = rw h.1 (record { steps = []; list = refl; books = refl; others = λ j ne. refl })
moved f (Act.MarksPhase n) p p' own is = rw is (record { steps = []; list = refl; books = refl; others = λ k ne. refl })
moved f (Act.Wakes k) p p' own is = subst (λ q. IsMoved p q k) (sym is.1) (record { steps = epoch_look _; list = refl; books = refl; others = λ j ne. ap (λ t. if t then record (p.caches k) { idle_since = is.0 } else p.caches j) ne })
moved f Act.MarksClose p p' own is = subst (λ (q : Progress). IsMoved p q 0) (sym is) (record { steps = []; list = refl; books = refl; others = λ k ne. refl })
moved f (Act.Ends k) p p' own is = subst (λ q. IsMoved p q k) (sym is.3) (record { steps = is.0; list = refl; books = refl; others = λ j ne. ap (λ (t : Bool). if t then is.1 else p.caches j) ne })
moved f act p p' own is = absurd own

seated_moved : (threads : ℕ) (f : Profile) (p p' : Progress) (j : ℕ) → IsValid f → IsBetween f p → Legal f p'.list → (IsKeeperOf threads f j → ⊥)
    → AreSeated threads f p → IsMoved p p' j → AreSeated threads f p'
seated_moved threads f p p' j valid before legal works seated m = record {
  few = seated.few;
  unbooked = λ k other. ap (λ (bs : Books). bs k) m.books ∙ seated.unbooked k other;
  uncached = λ k keeps. m.others k (ne_eqb k j (λ same. works (subst (IsKeeperOf threads f) same keeps))) ∙ seated.uncached k keeps;
  beside = λ k. subst (λ (bs : Books). Each IsBeside (bs k)) (sym m.books) (seated.beside k);
  bare = λ k page outer. still k page (ap (λ (bs : Books). is_outer (bs k) page) (sym m.books) ∙ outer) (j == k) refl;
}
  where
    -- An outer page of a guard still isn't backed.
    still : (k page : ℕ) → is_outer (p.books k) page ≡ true → (t : Bool) → (j == k) ≡ t → backed_in (visible p'.list) page ≡ false
    still k page outer true e = search (arith, eqb-true, false≢true)
    still k page outer false e = rw m.list (others_bare f p j k page m.steps valid before (subst (Legal f) m.list legal) e outer)

-- ==== A KEEPER'S ACTS
pub own_book : (books : Books) (keeper : ℕ) (gs : List Guard) → with_book books keeper gs keeper ≡ gs
own_book books keeper gs = ap (λ (t : Bool). if t then gs else books keeper) (eq-eqb keeper keeper refl)

-- A keeper's new book leaves that of every other actor as it was.
pub other_book : (books : Books) (keeper j : ℕ) (gs : List Guard) → (j == keeper) ≡ false → with_book books keeper gs j ≡ books j
other_book books keeper j gs ne = ap (λ (t : Bool). if t then gs else books j) ne

-- what holds where all rest, and keepers cache what they did
seated_rest : (threads : ℕ) (f : Profile) (p : Progress) (keeper : ℕ) (gs : List Guard) (l : Whole) (names : Progress) → IsKeeperOf threads f keeper
    → AreSeated threads f p → names.caches ≡ p.caches → names.books ≡ with_book p.books keeper gs → names.list ≡ l
    → AreResting f p.caches (with_book p.books keeper gs) l → AreSeated threads f names
seated_rest threads f p keeper gs l q keeps seated caches books list rest = search (arith, other_book, ne_eqb)

-- ---- the close
module _ (threads : ℕ) (f : Profile) (keeper : ℕ) (p : Progress) (steps : List Made) (said : List Record) (valid : IsValid f)
    (keeps : IsKeeperOf threads f keeper) (before : IsBetween f p) (seated : AreSeated threads f p)
    (lowers : IsLowered f keeper (part keeper p.list) (p.books keeper) steps said)
    (legal : Legal f (triples keeper steps ++ p.list)) where
  lowered_rest : AreResting f p.caches (with_book p.books keeper []) (triples keeper steps ++ p.list)
  lowered_rest = keeper_resting f p keeper _ steps [] valid (keeper_of threads f keeper keeps) before (ap (λ (c : Cached). c.locals) (seated.uncached keeper keeps)) legal
      (own_book p.books _ []) (λ j ne. other_book p.books keeper j [] ne) (lowers.sweep.fits.from _ lowers.fits (agreed_steps f keeper p.list steps valid legal)) tt (λ page outer. absurd (false≢true outer))

  seated_lowered : AreSeated threads f (after_lowering p keeper steps said)
  seated_lowered = seated_rest threads f p keeper [] (triples keeper steps ++ p.list) _ keeps seated refl refl refl lowered_rest

-- ---- a keeper tried a guarded request
module _ (f : Profile) (keeper : ℕ) (r : Request) (p : Progress) (t : Tried) (valid : IsValid f) (is : IsThread f keeper) (before : IsBetween f p)
    (uncached : (p.caches keeper).locals ≡ []) (h : IsTried f keeper r (part keeper p.list) (p.books keeper) t) (legal : Legal f (after_trying p keeper t).list)
  where
    -- The list with the steps of the try is legal.
    whole : Legal f (triples keeper (h.raised ++ h.swept) ++ p.list)
    whole = subst (λ (ms : List Made). Legal f (triples keeper ms ++ p.list)) h.steps_are legal

    sweep_legal : Legal f (triples keeper h.swept ++ p.list)
    sweep_legal = legal_earlier f keeper h.raised h.swept p.list whole

    -- after the sweep
    abbrev pub swept : Progress
    swept = swept_to p keeper h.left h.swept h.lowered

    sweep_bare : (page : ℕ) → is_outer h.left page ≡ true → word_after swept.list (Word.Backed page) ≡ 0
    sweep_bare page outer = swept_bare f keeper false p h.swept h.left h.lowered valid before sweep_legal h.sweep page outer

    sweep_beside : Each IsBeside h.left
    sweep_beside = swept_beside f keeper false p h.swept h.left h.lowered valid before sweep_legal h.sweep

    sweep_fits : FitsBook f h.left (h.swept ++ part keeper p.list)
    sweep_fits = h.sweep.fits.from (part keeper p.list) h.fits (agreed_steps f keeper p.list h.swept valid sweep_legal)

    -- After a keeper's sweep all actors rest.
    pub swept_between : IsBetween f swept
    swept_between = search (arith, sweep_legal, keeper_resting, own_book, other_book, sweep_fits, sweep_beside, sweep_bare)

    -- after the raise
    pub raise_legal : Legal f (triples keeper h.raised ++ swept.list)
    raise_legal = subst (Legal f) (sym (triples_append keeper h.raised h.swept p.list)) whole

    -- After its sweep a keeper fits the book that is left.
    pub raise_fits : FitsBook f h.left (part keeper swept.list)
    raise_fits = subst (FitsBook f h.left) (sym (part_of_own keeper h.swept p.list)) sweep_fits

    raise_rest : AreResting f p.caches (with_book p.books keeper t.guards) (triples keeper h.raised ++ swept.list)
    raise_rest = keeper_resting f swept keeper _ h.raised t.guards valid is swept_between uncached raise_legal (own_book p.books keeper t.guards)
        (λ j ne. other_book p.books keeper j t.guards ne ∙ sym (other_book p.books keeper j h.left ne))
        (h.raise.fits.from (part keeper swept.list) raise_fits (agreed_steps f keeper swept.list h.raised valid raise_legal))
        (raised_beside f keeper r.heap (pages_of (wanted_by f r)) swept.list h.left t.guards valid raise_fits sweep_beside sweep_bare t.block h.raised h.raise)
        (raised_bare f keeper r.heap _ swept.list h.left t.guards valid raise_fits sweep_beside sweep_bare t.block h.raised h.raise raise_legal)

    -- The steps of a raise behind those of its sweep are all the steps of the try.
    pub sweep_and_raise_are_the_try : triples keeper h.raised ++ swept.list ≡ triples keeper t.steps ++ p.list
    sweep_and_raise_are_the_try = triples_append keeper h.raised h.swept p.list ∙ ap (λ (ms : List Made). triples keeper ms ++ p.list) (sym h.steps_are)

    tried_rest : AreResting f p.caches (with_book p.books keeper t.guards) (triples keeper t.steps ++ p.list)
    tried_rest = subst (AreResting f p.caches (with_book p.books keeper t.guards)) sweep_and_raise_are_the_try raise_rest

    -- After a keeper tried a guarded request, all actors rest.
    pub tried_between : IsBetween f (after_trying p keeper t)
    tried_between = record { legal = legal; rest = tried_rest }

-- ==== ANY ACT

tried_legal : (f : Profile) (op : Op) (r : Request) (block : Option Block) (p p' : Progress) → AnswersTried f op r block p p' → Legal f p'.list → Legal f p.list
tried_legal f op r block p p' is legal = search (arith, legal_before)

thread_no_keeper : (threads : ℕ) (f : Profile) (k : ℕ) → IsThreadOf threads k → IsKeeperOf threads f k → ⊥
thread_no_keeper threads f k own keeps = omega (arith, own.1, keeps.0)

after_tried : (threads : ℕ) (f : Profile) (op : Op) (r : Request) (block : Option Block) (p p' : Progress) → IsValid f → IsThreadOf threads op.actor
    → IsBetween f p → AreSeated threads f p → AnswersTried f op r block p p' → Legal f p'.list → AreSeated threads f p'
after_tried threads f op r (Some block) p p' valid own before seated is legal = subst (AreSeated threads f) (sym is) (assumption)
after_tried threads f op r None p p' valid own before seated is legal =
    seated_moved threads f p p' op.actor valid before legal (thread_no_keeper threads f op.actor own) seated (moved f (Act.Operates op) p p' tt is)

guarded_seats : (threads : ℕ) (f : Profile) (keeper : ℕ) (op : Op) (o : Option Request) (p p' : Progress) → IsValid f → IsKeeperOf threads f keeper
    → IsThreadOf threads op.actor → IsBetween f p → AreSeated threads f p → AnswersGuarded f keeper op o p p' → Legal f p'.list → AreSeated threads f p'
guarded_seats threads f keeper op None p p' valid keeps own before seated is legal = absurd is
guarded_seats threads f keeper op (Some r) p p' valid keeps own before seated is legal =
    let t : Tried = is.0 in
    let midway : Progress = after_trying p keeper t in
    let here : Legal f midway.list = tried_legal f op r t.block midway p' is.2 legal in
    let uncached : (p.caches keeper).locals ≡ [] = ap (λ (c : Cached). c.locals) (seated.uncached keeper keeps) in
    let rest = tried_rest f keeper r p t valid (keeper_of threads f keeper keeps) before uncached is.1 here in
    let tried : AreSeated threads f midway = seated_rest threads f p keeper t.guards _ midway keeps seated refl refl refl rest in
    after_tried threads f op r t.block midway p' valid own (record { legal = here; rest = rest }) tried is.2 legal

-- After each act only keepers have guards up, and cache nothing.
pub seated_next : (threads : ℕ) (f : Profile) (act : Act) (p p' : Progress) → IsValid f → IsActOf threads f act → IsBetween f p → AreSeated threads f p
    → Advances f act p p' → Legal f p'.list → AreSeated threads f p'
seated_next threads f (Act.Guards keeper op) p p' valid own before seated is legal = guarded_seats _ f keeper op _ p p' valid own.0 own.1 before seated is legal
seated_next threads f (Act.Lowers keeper) p p' valid own before seated is legal =
    rw is.3 (seated_lowered threads f keeper p is.0 is.1 valid own before seated is.2 (subst (λ (q : Progress). Legal f q.list) is.3 legal))
seated_next threads f act p p' valid own before seated is legal =
    seated_moved threads f p p' (stepper_of act) valid before legal (λ keeps. search (arith, thread_no_keeper)) seated (moved f act p p' tt is)
