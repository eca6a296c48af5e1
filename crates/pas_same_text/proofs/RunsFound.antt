-- A PAGE IS MADE READY for a block: the events of a search before a give are those of the text, by the machine's rules alone.
use Rattle.std.proofs.Common.{◌≡◌, ◌≢◌, ℕ, ◌==◌, Bool, true, false, if◌then◌else◌, List, [], ◌∷◌, ◌++◌, map, Option, None, Some, MatchOption, ◌⊎◌, inl, inr}
use Rattle.std.proofs.Common.{refl, ap, sym, ◌∙◌, subst, ◌+◌, ◌*◌, ◌/◌, ◌<◌, ◌≤◌, arith, true≢false, eq-eqb, eqb-true, zero, suc, ne_eqb}
use Rattle.pas_same_text.proofs.Common.{none-some, Directory, Event, Profile, Block, grain_of, length_of, Run, deed_in, backed_in, event_of, with_event}
use Rattle.pas_same_text.proofs.Common.{events_by, View, epoch_of, Made, Step, IsQuiet, IsDeedOrBack, EventsAt, Record, World, shows, live_after, is_none}
use Rattle.pas_same_text.proofs.Common.{deeds, backs, readies, lives_in, to_run, never_fails, IsLone, cases_eq, IsKind, all_map, triples, made, Always, Only}
use Rattle.pas_same_text.proofs.Common.{kind_of, is_in, InTurn, Whole, part, Legal, visible, Deed, Back, Give, always_map, backed_of, DeedsRise, MayFind}
use Rattle.pas_same_text.proofs.{Common.{BackStep, pages_from, MadeOf, each, IsInRun, AllByRecursion, seeking, numbers_from}, Tests.eqb_itself}
use Rattle.pas_same_text.proofs.Flushes.{visible_steps}
use Rattle.pas_machine.specs.Machine.{Admits, Bears}
use Rattle.pas_large.specs.{Evidence.DeedsBelow, Finds.FoundRun}

-- ---- events that are shown
abbrev pub shown : List Event → World → World
shown [] w = w
shown (e ∷ es) w = shows e (shown es w)

-- Events that are shown stand in front of the text's events.
pub shown_events : (es : List Event) (w : World) → (shown es w).events ≡ es ++ w.events
shown_events [] w = refl
shown_events (e ∷ es) w = ap (λ (xs : List Event). e ∷ xs) (shown_events es w)

-- Events that are shown stand in front of the text's records, each as its own record.
pub shown_records : (es : List Event) (w : World) → (shown es w).records ≡ map Record.Event es ++ w.records
shown_records [] w = refl
shown_records (e ∷ es) w = ap (λ (rs : List Record). Record.Event e ∷ rs) (shown_records es w)

-- The live blocks are those of the events, after events are shown as before.
pub shown_lives : (es : List Event) (w : World) → w.live ≡ lives_in w.events → (shown es w).live ≡ lives_in (shown es w).events
shown_lives [] w is = is
shown_lives (e ∷ es) w is = ap (live_after e) (shown_lives es w is)

-- what else a state has
pub record HasRest (w v : World) : Type 0 where
  pub names : v.names ≡ w.names
  pub caches : v.caches ≡ w.caches
  pub guards : v.guards ≡ w.guards
  pub hinted : v.hinted ≡ w.hinted
  pub epoch : v.epoch ≡ w.epoch
  pub read : v.read ≡ w.read

-- Events that are shown leave names, caches, guards, hints and the epochs as they were.
pub shown_rest : (es : List Event) (w : World) → HasRest w (shown es w)
shown_rest [] w = record { names = refl; caches = refl; guards = refl; hinted = refl; epoch = refl; read = refl }
shown_rest (e ∷ es) w = let r = shown_rest es w in assumption

-- ---- events at one page
-- its deed by actor k, or its backing
pub data IsAtPage (k : ℕ) (d : Directory) (page : ℕ) : Event → Type 0 where
  Deeds : IsAtPage k d page (Event.Deed k page d)
  Backs : IsAtPage k d page (Event.Back k page)

abbrev pub AllAtPage : ℕ → Directory → ℕ → List Event → Type 0
AllAtPage k d page [] = Unit {0}
AllAtPage k d page (e ∷ es) = IsAtPage k d page e × AllAtPage k d page es

module _ (k : ℕ) (d : Directory) (page : ℕ) where
  -- a step of a search shows nothing, or such an event
  abbrev pub IsShownAt : Option Event → Type 0
  IsShownAt o = MatchOption o (Unit {0}) (IsAtPage k d page)

  by_answer : (t : Bool) (e : Event) → IsAtPage k d page e → IsShownAt (if t then Some e else None)
  by_answer t e at = search arith

  own_event : (epoch a : ℕ) (s : Step) → IsDeedOrBack d page s → IsShownAt (event_of k epoch s a)
  own_event epoch a s IsDeedOrBack.Deeds = by_answer (a == 0) (Event.Deed k page d) IsAtPage.Deeds
  own_event epoch a s IsDeedOrBack.Backs = by_answer (a == 0) (Event.Back k page) IsAtPage.Backs

  -- A step of a search at one page shows nothing, or a deed or a backing of that page.
  pub event_at : (epoch : ℕ) (m : Made) → IsQuiet m ⊎ IsDeedOrBack d page m.step → IsShownAt (event_of k epoch m.step m.answer)
  event_at epoch m given = search (arith, own_event)

  -- Where all events are of one page, so are all with one of that page more.
  next_at : (o : Option Event) (es : List Event) → IsShownAt o → AllAtPage k d page es → AllAtPage k d page (with_event o es)
  next_at o es at all = search arith

  -- The events of steps at one page are deeds of the directory and backs of that page.
  pub search_at : (v : View) (xs : List Made) → EventsAt d page xs → AllAtPage k d page (events_by k v xs)
  search_at v [] at = tt
  search_at v (m ∷ xs) at = next_at _ (events_by k v xs) (event_at (epoch_of (xs ++ v)) m at.0) (search_at v xs at.1)

  -- ---- none but those that are due
  none_before : (f : Profile) (es base : List Event) → AllAtPage k d page es → Run f (es ++ base) → deed_in (es ++ base) page ≡ None → es ≡ []
  none_before f [] base all run none = refl
  none_before f (e ∷ es) base all run none = absurd (at e all.0 run.0 none)
    where
      at : (e : Event) → IsAtPage k d page e → Admits f (es ++ base) e → deed_in (e ∷ (es ++ base)) page ≡ None → ⊥
      at e IsAtPage.Deeds may none = none-some d (sym none ∙ ap (λ (t : Bool). if t then Some d else (deed_in (es ++ base) page)) (eqb_itself page))
      at e IsAtPage.Backs may none = may.1 none

  -- A page without a deed gets one in the text.
  unowned : (w : World) → deed_in w.events page ≡ None → deeds k d page w ≡ shows (Event.Deed k page d) w
  unowned w none = ap (λ (o : Option Directory). if is_none o then shows (Event.Deed k page d) w else w) none

  -- A page that has a deed gets none in the text.
  owned : (w : World) → deed_in w.events page ≢ None → deeds k d page w ≡ w
  owned w some = search arith

  was_backed : (w : World) → backed_in w.events page ≡ true → backs k page w ≡ w
  was_backed w is = ap (λ (t : Bool). if t then w else shows (Event.Back k page) w) is

  -- before the backing there is the deed alone, or nothing
  -- A page that has a deed and isn't backed had no backing before.
  readied_deeded : (f : Profile) (es : List Event) (w : World) → AllAtPage k d page es → Run f (es ++ w.events) → deed_in (es ++ w.events) page ≢ None
      → backed_in (es ++ w.events) page ≡ false → deeds k d page w ≡ shown es w
  readied_deeded f [] w all run some none = owned w some
  readied_deeded f (e ∷ es) w all run some none = at e all.0 run.0 none
    where
      at : (e : Event) → IsAtPage k d page e → Admits f (es ++ w.events) e → backed_in (e ∷ (es ++ w.events)) page ≡ false → deeds k d page w ≡ shown (e ∷ es) w
      at e IsAtPage.Deeds may none =
          let empty : es ≡ [] = none_before f es w.events all.1 run.1 may.2 in
          unowned w (ap (λ (xs : List Event). deed_in (xs ++ w.events) page) (sym empty) ∙ may.2) ∙ ap (λ (xs : List Event). shows (Event.Deed k page d) (shown xs w)) (sym empty)
      at e IsAtPage.Backs may none = absurd (true≢false
          (sym (ap (λ (t : Bool). if t then true else backed_in (es ++ w.events) page) (eq-eqb page page refl)) ∙ none))

  -- THE PAGE IS READY: it got a deed and memory exactly where it had none
  readied : (f : Profile) (es : List Event) (w : World) → AllAtPage k d page es → Run f (es ++ w.events) → deed_in (es ++ w.events) page ≢ None
      → backed_in (es ++ w.events) page ≡ true → readies k d page w ≡ shown es w
  readied f [] w all run some backed = ap (backs k page) (owned w some) ∙ was_backed w backed
  readied f (e ∷ es) w all run some backed = at e all.0 run.0 backed
    where
      at : (e : Event) → IsAtPage k d page e → Admits f (es ++ w.events) e → backed_in (e ∷ (es ++ w.events)) page ≡ true
          → readies k d page w ≡ shown (e ∷ es) w
      at e IsAtPage.Deeds may backed =
          let empty : es ≡ [] = none_before f es w.events all.1 run.1 may.2 in
          let none : deed_in w.events page ≡ None = ap (λ (xs : List Event). deed_in (xs ++ w.events) page) (sym empty) ∙ may.2 in
          let still : backed_in w.events page ≡ true = ap (λ (xs : List Event). backed_in (xs ++ w.events) page) (sym empty) ∙ backed in
          ap (backs k page) (unowned w none) ∙ (was_backed _ still ∙ ap (λ (xs : List Event). shows (Event.Deed k page d) (shown xs w)) (sym empty))
      at e IsAtPage.Backs may backed = cc (readied_deeded f es w all.1 run.1 may.1 may.2, shown_events es w)

  -- .. where a block of it was given
  pub given_ready : (f : Profile) (es : List Event) (w : World) (giver : ℕ) (block : Block) (start : ℕ) → AllAtPage k d page es
      → Run f (Event.Give giver block ∷ (es ++ w.events)) → start < 256 → grain_of block.name ≡ 256 * page + start → 1 ≤ length_of block
      → readies k d page w ≡ shown es w
  given_ready f es w giver block start at run small grain some =
      let on : (256 * page + start) / 256 ≡ page = omega (arith, small) in
      let bears : Bears f (es ++ w.events) block.heap page =
      subst (Bears f (es ++ w.events) block.heap) on (run.0.bears (256 * page + start) (to_run (grain_of block.name) (length_of block) (256 * page + start) (omega (arith, grain)) (omega (arith, grain, some)))) in
      readied f es w at run.1 (λ none. none-some _ (sym none ∙ bears.deed)) bears.backed

-- A SEARCH FOR A RUN: its deeds, where no other actor makes a step; and the deeds and backings before the run is given.

-- ==== THE DEEDS of a search that found a run, where no other actor makes a step
-- each deed that was made is of the directory and of a page of the run
abbrev pub DeedsInRun : Directory → ℕ → ℕ → List Made → Type 0
DeedsInRun d first n = Always (λ m before. (page : ℕ) (e : Directory) → m.step ≡ Deed page e → m.answer ≡ 0 → (e ≡ d) × IsInRun first n page)

-- They are of pages of that run, since no other run fails.
pub deeds_in_run : (f : Profile) (k : ℕ) (l : Whole) (d : Directory) (n : ℕ) → IsKind d.kind → MayFind d (part k l) → (xs : List Made) → IsLone f k l xs
    → (first : ℕ) → FoundRun f d n xs first → DeedsInRun d first n xs
deeds_in_run f k l d n kind met xs lone first found = always_map _ _ xs (λ m before h page e same zero. let at = h page e same zero in (
  at.0,
  elim at.1.3 [
    | inl this ↦ subst (λ (r : ℕ). IsInRun r n page) this at.1.1
    | inr failed ↦ absurd (never_fails f k l d n kind met at.1.0 xs lone failed)
  ],
)) found.deeds

-- ==== THE EVENTS BEFORE A RUN IS GIVEN: a deed of each of its pages that had none, the lowest first, and a backing of each that had no memory, the lowest first. They are those of the text.
-- ---- pages of a run, one by one from the first
abbrev pub in_turn : (ℕ → World → World) → ℕ → ℕ → World → World
in_turn does first zero w = w
in_turn does first (suc n) w = does (first + n) (in_turn does first n w)

turn_first : (does : ℕ → World → World) (n first : ℕ) (w : World) → in_turn does (first + 1) n (does first w) ≡ in_turn does first (suc n) w
turn_first does zero first w = let same : first ≡ first + 0 = omega arith in ap (λ (x : ℕ). does x w) same
turn_first does (suc n) first w = search (arith, turn_first does n first w)

-- What is done for each number of a run in a list is what is done for them in turn.
pub each_in_turn : (does : ℕ → World → World) (n first : ℕ) (w : World) → each does (numbers_from first n) w ≡ in_turn does first n w
each_in_turn does zero first w = refl
each_in_turn does (suc n) first w = each_in_turn does n (first + 1) (does first w) ∙ turn_first does n first w

-- ---- events in two parts
pub shown_both : (ys xs : List Event) (w : World) → shown (ys ++ xs) w ≡ shown ys (shown xs w)
shown_both [] xs w = refl
shown_both (y ∷ ys) xs w = ap (shows y) (shown_both ys xs w)

-- ---- DEEDS: the pages that got one, the last one first
abbrev pub with_deed : Step → ℕ → List ℕ → List ℕ
with_deed (Deed q e) a ps = if a == 0 then q ∷ ps else ps
with_deed s a ps = ps

abbrev pub deeded : List Made → List ℕ
deeded [] = []
deeded (m ∷ xs) = with_deed m.step m.answer (deeded xs)

abbrev with_deeds : ℕ → Directory → Step → ℕ → List Event → List Event
with_deeds k d (Deed q e) a es = if a == 0 then Event.Deed k q d ∷ es else es
with_deeds k d s a es = es

abbrev pub deeds_of : ℕ → Directory → List ℕ → List Event
deeds_of k d ps = map (λ (p : ℕ). Event.Deed k p d) ps

-- each is above those behind it
abbrev pub AreFalling : List ℕ → Type 0
AreFalling [] = Unit {0}
AreFalling (p ∷ ps) = AllByRecursion (λ q. q < p) ps × AreFalling ps

abbrev pub AllInRun : ℕ → ℕ → List ℕ → Type 0
AllInRun first n = AllByRecursion (IsInRun first n)

module _ (k : ℕ) (d : Directory) where
  -- what holds of each deed that was made holds of each such page
  deeded_all : (P : ℕ → Type 0) (xs : List Made) → Always (λ m before. (page : ℕ) (e : Directory) → m.step ≡ Deed page e → m.answer ≡ 0 → P page) xs
      → AllByRecursion P (deeded xs)
  deeded_all P [] all = tt
  deeded_all P (m ∷ xs) all = one m.step m.answer all.0 (deeded_all P xs all.1)
    where
      by_answer : (t : Bool) (q : ℕ) (ps : List ℕ) → (t ≡ true → P q) → AllByRecursion P ps → AllByRecursion P (if t then q ∷ ps else ps)
      by_answer true q ps is rest = (is refl, rest)
      by_answer false q ps is rest = rest

      -- One step more: each page with a new deed is as it should be.
      one : (s : Step) (a : ℕ) → ((page : ℕ) (e : Directory) → s ≡ Deed page e → a ≡ 0 → P page) → AllByRecursion P (deeded xs)
          → AllByRecursion P (with_deed s a (deeded xs))
      one (Deed q e) a is rest = by_answer (a == 0) q (deeded xs) (λ zero. is q e refl (eqb-true a 0 zero)) rest
      one s a is rest = rest

  -- Deeds that rise in their order are of pages that fall in the list with the newest first.
  pub deeded_falls : (xs : List Made) → DeedsRise xs → AreFalling (deeded xs)
  deeded_falls [] rise = tt
  deeded_falls (m ∷ xs) rise = one m.step m.answer rise.0 (deeded_falls xs rise.1)
    where
      by_answer : (t : Bool) (q : ℕ) → (t ≡ true → DeedsBelow q xs) → AreFalling (deeded xs) → AreFalling (if t then q ∷ deeded xs else deeded xs)
      by_answer true q below rest = (deeded_all (λ p. p < q) xs (below refl), rest)
      by_answer false q below rest = rest

      -- One step more: the pages with new deeds fall.
      one : (s : Step) (a : ℕ) → ((page : ℕ) (e : Directory) → s ≡ Deed page e → a ≡ 0 → DeedsBelow page xs) → AreFalling (deeded xs)
          → AreFalling (with_deed s a (deeded xs))
      one (Deed q e) a below rest = by_answer (a == 0) q (λ zero. below q e refl (eqb-true a 0 zero)) rest
      one s a below rest = rest

  -- Deeds within a run are of pages of that run.
  pub deeded_within : (n first : ℕ) (xs : List Made) → DeedsInRun d first n xs → AllInRun first n (deeded xs)
  deeded_within n first xs within = deeded_all (IsInRun first n) xs (always_map _ _ xs (λ m before h page e same zero. (h page e same zero).1) within)

  -- the events of a search are those deeds
  pub deeded_events : (v : View) (xs : List Made) → Only seeking xs → MadeOf d xs → events_by k v xs ≡ deeds_of k d (deeded xs)
  deeded_events v [] kinds within = refl
  deeded_events v (m ∷ xs) kinds within =
      one m.step _ kinds.0 within.0 ∙ ap (λ es. with_deeds k d m.step m.answer es) (deeded_events v xs kinds.1 within.1) ∙ same m.step _ where
        by_answer : (t : Bool) (q : ℕ) (e : Directory) (es : List Event) → (t ≡ true → e ≡ d)
            → with_event (if t then Some (Event.Deed k q e) else None) es ≡ (if t then Event.Deed k q d ∷ es else es)
        by_answer true q e es is = ap (λ (x : Directory). Event.Deed k q x ∷ es) (is refl)
        by_answer false q e es is = refl

        -- One step more: its event is that of its deed, or none.
        one : (s : Step) (a : ℕ) → is_in seeking (kind_of s) ≡ true → ((page : ℕ) (e : Directory) → s ≡ Deed page e → a ≡ 0 → e ≡ d)
            → with_event (event_of k (epoch_of (xs ++ v)) s a) (events_by k v xs) ≡ with_deeds k d s a (events_by k v xs)
        one (Deed q e) a is within = by_answer (a == 0) q e (events_by k v xs) (λ zero. within q e refl (eqb-true a 0 zero))
        one s a is within = search (arith, true≢false)

        -- A deed more is an event more.
        mapped : (t : Bool) (q : ℕ) (ps : List ℕ)
            → (if t then Event.Deed k q d ∷ deeds_of k d ps else deeds_of k d ps) ≡ deeds_of k d (if t then q ∷ ps else ps)
        mapped true q ps = refl
        mapped false q ps = refl

        -- The events of the deeds are those of the pages.
        same : (s : Step) (a : ℕ) → with_deeds k d s a (deeds_of k d (deeded xs)) ≡ deeds_of k d (with_deed s a (deeded xs))
        same (Deed q e) a = mapped (a == 0) q (deeded xs)
        same s a = refl

  -- ---- the deeds of the text

  fewer_in_run : (n first : ℕ) (ps : List ℕ) → AllInRun first (suc n) ps → AllByRecursion (λ q. q < first + n) ps → AllInRun first n ps
  fewer_in_run n first [] within below = tt
  fewer_in_run n first (q ∷ ps) within below = ((within.0.0, below.0), fewer_in_run n first ps within.1 below.1)

  none_within : (first : ℕ) (ps : List ℕ) (w : World) → AllInRun first 0 ps → w ≡ shown (deeds_of k d ps) w
  none_within first [] w within = refl
  none_within first (q ∷ ps) w within = absurd (omega (arith, within.0.0, within.0.1))

  -- THE DEEDS of a run: each of its pages has one then
  pub deeds_in_turn : (f : Profile) (n first : ℕ) (ps : List ℕ) (w : World) → AreFalling ps → AllInRun first n ps → Run f (deeds_of k d ps ++ w.events)
      → ((p : ℕ) → IsInRun first n p → deed_in (deeds_of k d ps ++ w.events) p ≢ None) → in_turn (deeds k d) first n w ≡ shown (deeds_of k d ps) w
  deeds_in_turn f zero first ps w falls within run all = none_within first ps w within
  deeds_in_turn f (suc n) first [] w falls within run all = ap (deeds k d (first + n)) (deeds_in_turn f n first [] w tt tt run
      (λ p here. all p (here.0, omega (arith, here.1)))) ∙ owned k d (first + n) w (all (first + n) (omega arith, omega arith))
  deeds_in_turn f (suc n) first (q ∷ ps) w falls within run all = elim (cases_eq q (first + n)) [
    | inl same ↦
        let lower : AllByRecursion (λ x. x < first + n) ps = subst (λ (y : ℕ). AllByRecursion (λ x. x < y) ps) same falls.0 in
        let rest : in_turn (deeds k d) first n w ≡ shown (deeds_of k d ps) w =
        deeds_in_turn f n first ps w falls.1 (fewer_in_run n first ps within.1 lower) run.1
        (λ p here. let low = here.0 in let ne : q ≢ p = (λ e. omega (arith, e, same, here.1)) in
        λ none. all p (low, omega (arith, here.1)) ((ap (λ t. if t then Some d else deed_in (deeds_of k d ps ++ w.events) p) (ne_eqb q p ne)) ∙ none)) in
        let bare : deed_in (shown (deeds_of k d ps) w).events q ≡ None = ap (λ (es : List Event). deed_in es q) (shown_events (deeds_of k d ps) w) ∙ run.0.2 in
        ap (deeds k d (first + n)) rest ∙ (ap (λ (y : ℕ). deeds k d y (shown (deeds_of k d ps) w)) (sym same) ∙ unowned k d q (shown (deeds_of k d ps) w) bare)
    | inr ne ↦
        let under : q < first + n = omega (arith, within.0.1, ne) in
        let rest : in_turn (deeds k d) first n w ≡ shown (deeds_of k d (q ∷ ps)) w =
        deeds_in_turn f n first (q ∷ ps) w falls (fewer_in_run n first (q ∷ ps) within
        (under, all_map (λ x. x < q) _ ps (λ x h. omega (arith, h, under)) falls.0)) run (λ p here. all p (here.0, omega (arith, here.1))) in
        let has : deed_in (shown (deeds_of k d (q ∷ ps)) w).events (first + n) ≢ None = λ none. all (first + n) (omega arith, omega arith)
        (ap (λ (es : List Event). deed_in es (first + n)) (sym (shown_events (deeds_of k d (q ∷ ps)) w)) ∙ none) in
        ap (deeds k d (first + n)) rest ∙ owned k d (first + n) (shown (deeds_of k d (q ∷ ps)) w) has
  ]

-- ---- BACKINGS
module _ (f : Profile) (k : ℕ) (l : Whole) (u : World) (legal_l : Legal f l) (same : u.events ≡ visible l) where
  with_shown : (o : Option Event) (es : List Event) (v : World) → shown (with_event o []) (shown es v) ≡ shown (with_event o es) v
  with_shown o es v = search arith

  -- THE BACKINGS of a run
  pub backs_in_turn : (n first : ℕ) (steps : List Made) → Legal f (triples k steps ++ l) → InTurn BackStep (pages_from first n) steps
      → in_turn (backs k) first n u ≡ shown (events_by k (part k l) steps) u
  backs_in_turn zero first steps legal turn = ap (λ (ms : List Made). shown (events_by k (part k l) ms) u) (sym turn)
  backs_in_turn (suc n) first steps legal turn =
      let before : List Made = turn.1 in
      let a : ℕ = turn.2.0 in
      let page : ℕ = first + n in
      let es : List Event = events_by k (part k l) before in
      let is : steps ≡ made (Back page) a ∷ before = turn.4 ∙ ap (λ (ms : List Made). ms ++ before) turn.2.1 in
      let legal_own : Legal f (triples k (made (Back page) a ∷ before) ++ l) = subst (λ (ms : List Made). Legal f (triples k ms ++ l)) is legal in
      let now = shown_events es u ∙ (ap (λ (base : List Event). es ++ base) same ∙ sym (visible_steps k before l)) in
      let answer = legal_own.0.answer_is ∙ backed_of f (triples k before ++ l) legal_own.1 page in
      ap (backs k page) (backs_in_turn n first before legal_own.1 turn.3)
      ∙ ((search arith)
      ∙ (with_shown (if a == 0 then Some (Event.Back k page) else None) es u
      ∙ ap (λ (ms : List Made). shown (events_by k (part k l) ms) u) (sym is)))

-- neither begins nor ends a block
pub deeds_live : (k : ℕ) (d : Directory) (ps : List ℕ) (w : World) → (shown (deeds_of k d ps) w).live ≡ w.live
deeds_live k d [] w = refl
deeds_live k d (p ∷ ps) w = deeds_live k d ps w
