-- A REQUEST FOR WHOLE PAGES THAT IS SERVED by a run: its pages get deeds and memory where they have none, the lowest first, and their block is given.
use Rattle.pas_same_text.proofs.{Pieces.{piece_pages, UsesOnly, LeftInTurn, all_in_run, has_same}, GivenRuns.{piece, GivesPages, all_kinds, backs_text}}
use Rattle.pas_same_text.proofs.{GivenRuns.{deed_mid, gives_it, lives_within, page_used, shown_mid}, MissedGuards.all_listed, CacheLists.{same_kept, kept_at}}
use Rattle.pas_same_text.proofs.{SmallActs.after_with, FreeGrains.guards_as, RunsFound.{shown, shown_rest, DeedsInRun, in_turn, each_in_turn, deeded, deeds_of}}
use Rattle.pas_same_text.proofs.{RunsFound.{deeded_falls, deeded_within, deeds_in_turn, deeds_in_run}, Common.{has_number, false≢true, IsValid, IsDirectoryOf}}
use Rattle.pas_same_text.proofs.Common.{Directory, Event, Block, Profile, deed_word_of-positive, Run, triples, events_by, InTurn, Always, View, Only, part}
use Rattle.pas_same_text.proofs.Common.{Legal, Made, only_within, always_map, word_of_deed, deed_of, runs, agreed_steps, legal_earlier, give_steps, IsInRun}
use Rattle.pas_same_text.proofs.Common.{ReturnsDuly, in_span, DeedsRise, MayFind, finding, BackStep, pages_from, span_in, AtRest, Cached, any_covers, may_find}
use Rattle.pas_same_text.proofs.Common.{Record, IsThread, Progress, named, records_of, with_cache as with_cached, World, large_of, IsSame, HasSame}
use Rattle.pas_same_text.proofs.Common.{AreSameCaches, IsBetween, deeds, backs, address_on, gives, run_block, GotPages, lowest_alone, lends_none, IsLone}
use Rattle.pas_same_text.proofs.Common.{address_of, IsAdmitted, route_in, room_in, is_shared, kind_of_route, Route, NoRoom, Whole, Kinds, apart, showing}
use Rattle.pas_same_text.proofs.Common.{looking, triples_append, part_of_own, always_both, in_apart, only_both, AreQuiet, IsQuiet, IsServedNamed, IsScanned}
use Rattle.pas_same_text.proofs.Common.{Indexes, found_in, IsLowestRun, ServesPages, wanted_for, Act, Request, Alloc, Answer, after_answer, said_of_request}
use Rattle.pas_same_text.proofs.{Common.{block_of as block_answered, IsNamedBy, serves, acts_on, IsTaken, named_run, lowest_run}, GivenBlocks.epoch_now}
use Rattle.pas_same_text.proofs.{GivenBlocks.{events_now, live_now, names_now, records_now}, SearchedPages.{refused_to, refused_same, lowest_found}}
use Rattle.pas_same_text.proofs.{SearchedPages.{none_lowest, named_whole, whole_named}, CachedSlots.{HasAsked, answer_reached, by_route, request_taken}}
use Rattle.pas_same_text.specs.{Runs.{gives_pages, run_or, serves_run}, Indexes.loses_named}
use Rattle.std.proofs.Common.{false, ◌≡◌, ◌≢◌, ℕ, ◌+◌, ◌*◌, ◌≤◌, ◌==◌, true, List, ◌∷◌, ◌++◌, Option, None, Some, inl, refl, ap, sym, ◌∙◌, subst, arith}
use Rattle.std.proofs.Common.{append-nil, ◌/◌, Result, Ok, Err, ◌⊎◌, inr, append_assoc}
use Rattle.pas_steps.{specs.Calls.Leads, proofs.Apart.no_event}
use Rattle.pas_large.proofs.{Lifted.find_again, Pages.rise_none, Allocates.{tried_lone, holds_whole, scans_only, goes_by_door, refused_alone}}
use Rattle.pas_large.specs.{Allocates.{IsAllocatedLarge, IsAllocatedNamed}, Alone.GoesByDoor, Pages.claiming_old}
use Rattle.pas_search.proofs.PagesThatServe.{duly_both, duly_none}
use Rattle.pas_cache.{specs.Calls.IsNamed, proofs.Routes.{large_size, pages_asked}}
use Rattle.pas_answers.specs.Indexes.{ActIsNamedBy}

-- The n pages from the first one on were got by the first of these steps, which made deeds of pages of this run alone, the lowest first. By the others they were backed, the lowest
-- first, their block was given, and they were left.
pub record GaveRun (f : Profile) (large : Directory) (first n : ℕ) (got after : List Made) (block : Block) : Type 0 where
  pub kinds : Only finding got
  pub returns : Always ReturnsDuly got
  pub deeds_in : DeedsInRun large first n got
  pub rise : DeedsRise got
  -- It got the pages of the run.
  pub pages : Leads f (MayFind large) (GotPages (in_span first (first + n)) large) got
  pub backs : List Made
  pub back_order : InTurn BackStep (pages_from first n) backs
  pub word : ℕ
  pub answer : ℕ
  pub block_is : block ≡ run_block large first n word
  pub left : List Made
  pub left_order : LeftInTurn large first n left
  pub after_is : after ≡ left ++ (give_steps first 0 block word answer ++ backs)

-- the replay after them
abbrev pub given_to : Progress → ℕ → ℕ → List Made → Block → Progress
given_to p k name steps block = after_with p k steps None (named name (Some block) ∷ p.names) (p.caches k)

module _ (f : Profile) (k name heap first n : ℕ) (p : Progress) (u : World) (got rest : List Made) (block : Block) (valid : IsValid f) (thread : IsThread f k)
    (of : IsDirectoryOf f (large_of heap)) (some : 1 ≤ n) (before : IsBetween f p) (rest_now : AtRest f (p.caches k) (part k p.list)) (same : IsSame f p u)
    (there : IsBetween f (given_to p k name (rest ++ got) block)) (run : GaveRun f (large_of heap) first n got rest block) where
  abbrev large : Directory
  large = large_of heap

  abbrev own : View
  own = part k p.list

  abbrev q : Progress
  q = given_to p k name (rest ++ got) block

  legal_given : Legal f (triples k got ++ p.list)
  legal_given = legal_earlier f k rest got p.list there.legal

  -- The actor may search for a run, and got the run's pages.
  pages_got : GotPages (in_span first (first + n)) large own (got ++ own)
  pages_got = run.pages.from own (may_find f own heap (p.caches k).locals rest_now.locals) (agreed_steps f k p.list got valid legal_given)

  given : GivesPages f k heap first n first n p q u got run.backs run.left rest run.word run.answer (pages_from first n) block
  given =
      search (arith, always_map, only_within, pages_got, all_in_run)

  -- ---- the text
  abbrev ds : List Event
  ds = deeds_of k large (deeded got)

  abbrev es : List Event
  es = events_by k (part k (triples k got ++ p.list)) run.backs ++ ds

  deeds_text : in_turn (deeds k large) first n u ≡ shown ds u
  deeds_text = deeds_in_turn k large f n first _ u (deeded_falls k large got run.rise) (deeded_within k large n first got run.deeds_in)
      (subst (Run f) (shown_mid given) (runs f (triples k got ++ p.list) valid legal_given)) (λ x here. λ none. deed_word_of-positive large
      (sym (cc (shown_mid given, deed_of f (triples k got ++ p.list) legal_given x, deed_mid given x here)) ∙ ap word_of_deed none))

  abbrev v : World
  v = gives k name heap (address_on first 0) (4096 * n) (shown es u)

  same_now : HasSame f q v
  same_now =
      let caches = subst (AreSameCaches f (with_cached p.caches k (p.caches k))) (sym (shown_rest es u).caches) (same_kept f p.caches u.caches k same.caches) in
      let g = gives_it given in
      assumption (events_now g, live_now g, caches, guards_as p.books u v (shown_rest es u).guards same.guards)

  -- ---- ALL: all pages of the run are the block's
  uses : UsesOnly p q (λ x. in_span first (first + n) x)
  uses = record {
    cached = λ j g h. inl (ap (λ (x : Cached). any_covers x.locals g) (kept_at p.caches j k (j == k) refl) ∙ h);
    outer = λ j x h. inl h;
    live = lives_within given;
  }

  -- No deed was made of another page.
  none_listed : (x : ℕ) → in_span first (first + n) x ≡ false → has_number (deeded got) x ≡ true → ⊥
  none_listed x out made =
      let here : IsInRun first n x = all_listed (IsInRun first n) (deeded got) x (deeded_within k large n first got run.deeds_in) made in
      false≢true (sym out ∙ span_in first (first + n) x here.0 here.1)

  -- A run of whole pages that was found and given leads the text to the replay's state.
  run_given : IsSame f q (gives_pages k name heap first n u)
  run_given = subst (λ (x : World). IsSame f q x)
      (sym (search (arith, each_in_turn, deeds_text, backs_text given))) (let it : IsSame f q v = let g = gives_it given in
      let pages_got = piece_pages
      (piece given (page_used given) v same_now uses (λ x. refl) (shown_rest es u).hinted (λ x e out made of bit. absurd (none_listed x out made))) in
      let records = ap (λ (rs : List Record). p.records ++ rs) (append-nil (records_of (events_by k own (rest ++ got)))) ∙ records_now g in
      assumption (pages_got, records, names_now g name, epoch_now g (all_kinds given), (shown_rest es u).read ∙ same.read, same_now) in it)

-- A REQUEST FOR WHOLE PAGES: by the run that the heap's index named, where it is whole, or else by the lowest usable one; or it is refused, and changes no page.

-- ---- the indexes are no part of what is the same
-- ---- what was tried leaves the actor as it was
-- ---- steps of kinds without an event
quiet_by : (ks : Kinds) → apart ks showing ≡ true → (steps : List Made) → Only ks steps → AreQuiet steps
quiet_by ks out steps = always_map _ (λ m before. IsQuiet m) steps (λ m before is k epoch. no_event k epoch m.step m.answer (in_apart ks showing _ out is))

-- ---- a run that was given
module _ (f : Profile) (k : ℕ) (l : Whole) (d : Directory) (n : ℕ) (found : Option ℕ) (tried rest : List Made) (block : Block) (of : IsDirectoryOf f d)
    (old : Only claiming_old tried) (returns : Always ReturnsDuly tried) (legal : Legal f (triples k (rest ++ tried) ++ l)) (met : MayFind d (part k l)) where
  module _ (searched after : List Made) (kinds : Only finding searched) (due : Always ReturnsDuly searched) (rest_is : rest ≡ after ++ searched)
      (is : IsAllocatedLarge f d n (searched ++ tried) after block) where
    abbrev xs : List Made
    xs = searched ++ tried

    legal_got : Legal f (triples k xs ++ l)
    legal_got = legal_earlier f k after xs l
        (subst (λ (ms : List Made). Legal f (triples k ms ++ l)) (ap (λ (ms : List Made). ms ++ tried) rest_is ∙ append_assoc after searched tried) legal)

    got_kinds : Only finding xs
    got_kinds = only_both finding searched tried kinds (only_within claiming_old finding tried refl old)

    got_lone : IsLone f k l xs
    got_lone = record { legal = legal_got; lends_none = lends_none finding refl xs got_kinds; returns = duly_both searched tried due returns }

    scanned_lowest : IsLowestRun f d n l is.first
    scanned_lowest = lowest_alone f k l d n of.kind met is.first xs got_lone is.found

    scanned_gave : GaveRun f d is.first n xs after block
    scanned_gave = let deeds = deeds_in_run f k l d n of.kind met xs got_lone is.first is.found in search (arith, got_kinds, duly_both, deeds)

-- ---- THE REQUEST
module _ (f : Profile) (k name heap size align : ℕ) (p : Progress) (a : Answer) (w : World) (admitted : IsAdmitted f size align heap)
    (route : route_in f size align ≡ Route.Large) (asked : HasAsked f k (record { name = name; heap = heap; size = size; align = align }) p a w)
    (named_is : a.found ≡ found_in w.indexes heap (room_in f size align / 4096)) where
  abbrev c : Cached
  c = p.caches k

  abbrev d : Directory
  d = large_of heap

  abbrev n : ℕ
  n = room_in f size align / 4096

  abbrev u : World
  u = loses_named heap n w

  -- the text comes to the replay's state
  abbrev LeavesSame : Type 0
  LeavesSame = IsSame f (after_answer p k a) (serves f k name heap (route_in f size align) (room_in f size align) align w)

  -- It is one of the profile.
  of : IsDirectoryOf f d
  of = record { heap = admitted.of_profile; kind = tt; class = tt }

  -- It is one page at least.
  some : 1 ≤ n
  some = let more = large_size f.classes size align route in let asked = pages_asked f size align route in omega (arith, more, asked)

  -- The actor may search for a run.
  may : MayFind d (part k p.list)
  may = may_find f (part k p.list) heap c.locals asked.served.rest.locals

  -- Before the request the replay has what the text has.
  old : HasSame f p w
  old = has_same asked.same

  text_by : (o : Option ℕ) → run_or (named_run w heap n) (lowest_run f w heap n) ≡ o
      → serves f k name heap (route_in f size align) (room_in f size align) align w ≡ serves_run f k name heap n o u
  text_by o is = ap (λ (r : Route). serves f k name heap r (room_in f size align) align w) route ∙ ap (λ (x : Option ℕ). serves_run f k name heap n x u) is

  -- ---- the steps
  by_pages : (answer : Result Block NoRoom) → asked.served.answer ≡ answer → ServesPages f (wanted_for f heap size align) a.found c a.cache a.steps answer
  by_pages answer is = by_route asked answer is Route.Large route

  abbrev Outcome : List Made → List Made → Result Block NoRoom → Type 0
  Outcome tried rest answer = IsServedNamed f d n a.found tried rest answer ⊎ IsScanned f d n a.found tried rest answer

  module _ (answer : Result Block NoRoom) (is : asked.served.answer ≡ answer) where
    abbrev pages : ServesPages f (wanted_for f heap size align) a.found c a.cache a.steps answer
    pages = by_pages answer is

    -- What the request's steps came to.
    outcome : Outcome pages.tried pages.rest answer
    outcome = subst (λ e. IsServedNamed f e n a.found pages.tried pages.rest answer ⊎ IsScanned f e n a.found pages.tried pages.rest answer) (ap (λ (r : Route). let e : Directory = record { heap = heap; kind = kind_of_route (is_shared f heap) r } in e) route) pages.outcome

    -- the replay after them, by what is said and what the name stands for
    abbrev reached_with : Progress
    reached_with = after_with p k (pages.rest ++ pages.tried) (said_of_request name answer) (named name (block_answered answer) ∷ p.names) c

    -- What the answer leads to.
    to : after_answer p k a ≡ reached_with
    to =
        answer_reached asked answer is
        ∙ (ap (λ (x : Cached). after_with p k a.steps (said_of_request name answer) (named name (block_answered answer) ∷ p.names) x) pages.cache
        ∙ ap (λ (ms : List Made). after_with p k ms (said_of_request name answer) (named name (block_answered answer) ∷ p.names) c) pages.steps_are)

    -- There the replay is between two pieces.
    there : IsBetween f reached_with
    there = subst (IsBetween f) to asked.after

    -- the run that was named serves where it was whole
    by_door : GoesByDoor f d n a.found p.list (pages.rest ++ pages.tried) answer
    by_door = goes_by_door f k p.list d n a.found pages.tried pages.rest pages.old pages.returns there.legal may of.kind answer outcome

  -- ---- served
  served_same : (block : Block) (is : asked.served.answer ≡ Ok block) (first : ℕ) (got after : List Made)
      → (by_pages (Ok block) is).rest ++ (by_pages (Ok block) is).tried ≡ after ++ got → GaveRun f d first n got after block
      → run_or (named_run w heap n) (lowest_run f w heap n) ≡ Some first → LeavesSame
  served_same block is first got rest steps run chosen =
      let all : after_answer p k a ≡ given_to p k name (rest ++ got) block = to (Ok block) is ∙ ap (λ (ms : List Made). given_to p k name ms block) steps in
      rw (text_by (Some first) chosen, all)
      (run_given f k name heap first n p u got rest block asked.valid asked.thread of some asked.before asked.served.rest (search arith)
      (rw all at asked.after) run)

  named_served : (block : Block) (is : asked.served.answer ≡ Ok block)
      → IsServedNamed f d n a.found (by_pages (Ok block) is).tried (by_pages (Ok block) is).rest (Ok block) → LeavesSame
  named_served block is by =
      let pages = by_pages (Ok block) is in
      let one : by.0 ≡ block = let e = by.1 in cc in
      let alloc : IsAllocatedNamed f d n a.found pages.tried pages.rest block = rw one at by.2 in
      let legal : Legal f (triples k (pages.rest ++ pages.tried) ++ p.list) = (there (Ok block) is).legal in
      let whole = holds_whole f k p.list d n _ a.found _ of.kind (tried_lone f k p.list d n a.found pages.tried pages.rest pages.old pages.returns legal may) alloc.holds_it in
      served_same block is _ pages.tried pages.rest refl (search (arith, only_within, always_map, rise_none))
      (ap (λ (o : Option ℕ). run_or o (lowest_run f w heap n))
      (whole_named f p w asked.valid asked.before asked.same.pages old heap of n alloc.first (rw named_is at whole)))

  -- where another run was found, the one that was named wasn't whole
  chosen_by : (block : Block) (is : asked.served.answer ≡ Ok block) (first : ℕ) → address_of block.name ≡ first * 4096 → IsLowestRun f d n p.list first
      → (o : Option ℕ)
      → named_run w heap n ≡ o → run_or (named_run w heap n) (lowest_run f w heap n) ≡ Some first
  chosen_by block is first at lowest None none = cc (lowest_found f p w asked.valid asked.before asked.same.pages old heap of n first some lowest)
  chosen_by block is first at lowest (Some x) named =
      let takes = (by_door (Ok block) is).served x (rw named_is (named_whole f p w asked.valid asked.before asked.same.pages old heap of n x some named)) in
      let one : x ≡ first = omega (arith, at, (ap address_in takes.1 ∙ takes.2)) in
      ap (λ (o : Option ℕ). run_or o (lowest_run f w heap n)) named ∙ ap (λ (y : ℕ). Some y) one
    where
      address_in : Result Block NoRoom → ℕ
      address_in (Ok b) = address_of b.name
      address_in (Err why) = 0

  scanned_served : (block : Block) (is : asked.served.answer ≡ Ok block)
      → IsScanned f d n a.found (by_pages (Ok block) is).tried (by_pages (Ok block) is).rest (Ok block) → LeavesSame
  scanned_served block is by =
      let pages = by_pages (Ok block) is in
      let legal : Legal f (triples k (pages.rest ++ pages.tried) ++ p.list) = (there (Ok block) is).legal in
      let run = scanned_gave f k p.list d n a.found _ _ block of pages.old pages.returns legal may _ by.after by.kinds by.returns by.rest_is by.outcome in
      let lowest = scanned_lowest f k p.list d n a.found _ _ block of pages.old pages.returns legal may _ by.after by.kinds by.returns by.rest_is by.outcome in
      served_same block is by.outcome.first (by.searched ++ pages.tried) by.after (cc (append_assoc by.after by.searched pages.tried)) run
      (chosen_by block is by.outcome.first (ap (λ (b : Block). address_of b.name) by.outcome.block_is) lowest (named_run w heap n) refl)

  -- ---- refused
  no_named : (room : NoRoom) (is : asked.served.answer ≡ Err room) → (o : Option ℕ) → named_run w heap n ≡ o → o ≡ None
  no_named room is None named = refl
  no_named room is (Some x) named =
      let takes = (by_door (Err room) is).served x (rw named_is (named_whole f p w asked.valid asked.before asked.same.pages old heap of n x some named)) in
      absurd (let bad : Err room ≡ Ok takes.0 = takes.1 in cc)

  refused_by : (room : NoRoom) (is : asked.served.answer ≡ Err room)
      → IsScanned f d n a.found (by_pages (Err room) is).tried (by_pages (Err room) is).rest (Err room) → LeavesSame
  refused_by room is by =
      let pages = by_pages (Err room) is in
      let steps : List Made = pages.rest ++ pages.tried in
      let now : IsBetween f (refused_to p k name steps room) = there (Err room) is in
      let told = (refused_alone f k p.list d n a.found pages.tried pages.rest pages.old pages.returns now.legal may asked.valid of room (inr by)).0 in
      let mid : Whole = triples k pages.tried ++ p.list in
      let legal_tried : Legal f mid = legal_earlier f k pages.rest pages.tried p.list now.legal in
      let legal_searched : Legal f (triples k by.searched ++ mid) =
      legal_earlier f k by.after by.searched mid (subst (λ (ms : List Made). Legal f (triples k ms ++ mid)) by.rest_is (rw triples_append now.legal)) in
      let again = subst (MayFind d) (sym (part_of_own k pages.tried p.list)) (find_again f d _ pages.tried may (agreed_steps f k p.list pages.tried asked.valid legal_tried) (by.misses.still.from _ may (agreed_steps f k p.list pages.tried asked.valid legal_tried))) in
      let looked = subst (Only looking) (sym by.rest_is) (only_both looking by.after by.searched (scans_only by.after by.own.scans) (by.looked room refl k mid legal_searched again)) in
      let quiet = always_both _ _ pages.rest _ (λ m before h. h) (quiet_by looking refl pages.rest looked) (quiet_by claiming_old refl pages.tried pages.old) in
      let none : run_or (named_run w heap n) (lowest_run f w heap n) ≡ None =
      ap (λ o. run_or o (lowest_run f w heap n)) (no_named room is _ refl) ∙ none_lowest f p w asked.valid asked.before asked.same.pages old heap of n told.0 in
      -- none of what is the same looks at the indexes
      rw (text_by None none, to (Err room) is) (refused_same f k name p u d steps room asked.valid asked.thread of asked.before now (search arith)
      (search (arith, only_both, only_within, duly_both, duly_none)) quiet told.2)

  -- ---- any
  answered : (answer : Result Block NoRoom) → asked.served.answer ≡ answer → LeavesSame
  answered (Ok block) is = elim (outcome (Ok block) is) [ inl by ↦ named_served block is by | inr by ↦ scanned_served block is by ]
  answered (Err room) is = elim (outcome (Err room) is) [ inl by ↦ absurd (let bad : Err room ≡ Ok by.0 = by.1 in cc) | inr by ↦ refused_by room is by ]

  -- A request for whole pages, served or refused, leads the text to the replay's state.
  pub pages_answered : IsSame f (after_answer p k a) (serves f k name heap (route_in f size align) (room_in f size align) align w)
  pages_answered = answered asked.served.answer refl

-- ---- THE ACT
-- what indexes name for such a request
pub named_large : (f : Profile) (r : Request) (indexes : Indexes) (found : Option ℕ) → route_in f r.size r.align ≡ Route.Large
    → IsNamedBy f indexes (Some r) found → found ≡ found_in indexes r.heap (room_in f r.size r.align / 4096)
named_large f r indexes found route named = subst (λ (way : Route). IsNamed way (λ o. o ≡ found_in indexes r.heap (room_in f r.size r.align / 4096)) (Unit {0}) found) route named

-- An operation that asks for whole pages, by the run that the index names, leads the text to the replay's state.
pub pages_same : (f : Profile) (line k name heap size align : ℕ) (indexes : Indexes) → IsThread f k → IsAdmitted f size align heap
    → route_in f size align ≡ Route.Large
    → (p p' : Progress) (w : World) → w.indexes ≡ indexes
    → (taken : IsTaken f (Act.Operates (record { line = line; actor = k; what = Alloc name heap size align })) p p' w)
    → ActIsNamedBy f indexes (Act.Operates (record { line = line; actor = k; what = Alloc name heap size align })) p p' taken.advances
    → IsSame f p' (acts_on f (Act.Operates (record { line = line; actor = k; what = Alloc name heap size align })) w)
pages_same f line k name heap size align indexes thread admitted route p p' w are taken named =
    request_taken f line k name heap size align thread p p' w taken (λ asked. pages_answered f k name heap size align p taken.advances.0 w admitted route asked
    (cc (named_large f (record { name = name; heap = heap; size = size; align = align }) indexes taken.advances.0.found route named)))
