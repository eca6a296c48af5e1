-- A GUARD GOES UP: the search of a keeper found a run. Its inner pages get memory where they have none, their block is given, and the keeper holds the two pages beside it.
use Rattle.pas_same_text.proofs.{SoughtRuns.{made_by, agreed, FoundOrFailed, unowned_free, found_pages, IsSought, sought_text, missed_text}, Common.cases_lt}
use Rattle.pas_same_text.proofs.Common.{AllByRecursion, all_map, visible, lowers, false≢true, or_cases, or_left, IsDirectoryOf, Directory, Event, Block}
use Rattle.pas_same_text.proofs.Common.{Profile, deed_in, gives_in, triples, events_by, View, part, Made, agreed_steps, IsInRun, in_span, span_in, any_covers}
use Rattle.pas_same_text.proofs.Common.{is_outer, guard_of, Guard, Record, Said, Caches, Progress, named, records_of, World, says, backs, address_on, gives}
use Rattle.pas_same_text.proofs.Common.{large_of, raises, IsBetween, raised_by, has_number, IsSame, HasSame, AreSameCaches, AreSameGuards, Raised, filter}
use Rattle.pas_same_text.proofs.Common.{address_of, route_in, room_in, Legal, part_of_own, legal_before, legal_earlier, Cached, Indexes, found_in, Act}
use Rattle.pas_same_text.proofs.Common.{numbers_from, IsThread, Request, Op, What, with_book, AnswersTried, Tried, IsTried, after_trying, each, serves, IsKnown}
use Rattle.pas_same_text.proofs.{Common.{IsKept, KeepsSame}, Pieces.{all_in_run, piece_pages, UsesOnly, free_kept, IsInUse}, LowerActs.goes_down}
use Rattle.pas_same_text.proofs.{LowerActs.{told_filtered, sweep_same}, GivenRuns.{piece, GivesPages, all_kinds, backs_are_ready, backs_text, gives_it}}
use Rattle.pas_same_text.proofs.{GivenRuns.{lives_within, page_used}, FreeGrains.{outer_held, free_unheld}, SmallActs.records_next, Tests.on_page}
use Rattle.pas_same_text.proofs.{KeepersRest.{book_finds, keeper_of}, PagesRequests.{pages_answered, named_large}, RunsFound.{shown, shown_events, shown_rest}}
use Rattle.pas_same_text.proofs.{RunsFound.{deeded, deeds_of}, MissedGuards.{all_listed, deed_listed, guards_more, left_free, outer_more, outer_or}}
use Rattle.pas_same_text.proofs.{MissedGuards.missed_same, GivenBlocks.{block_is, epoch_now, events_now, live_now, names_now, ready_deeds, ready_gives}}
use Rattle.pas_same_text.proofs.{GivenBlocks.records_now, CacheLists.{request_indexes, all_lowered_keep, each_keeps, backs_keep, same_indexes}}
use Rattle.pas_same_text.proofs.SeatedActs.{own_book, other_book, swept, swept_between, raise_legal, raise_fits, sweep_and_raise_are_the_try, tried_between}
use Rattle.pas_same_text.specs.Guards.{lowers_ended, guard_on, with_guard, is_over, guards}
use Rattle.pas_guard.specs.{Guards.left_last_first, Raises.IsRaised}
use Rattle.std.proofs.Common.{◌⊎◌, map, ◌≤◌, ◌≡◌, ℕ, ◌+◌, ◌*◌, ◌==◌, Bool, false, List, [], ◌∷◌, ◌++◌, Some, inl, inr, refl, ap, sym, ◌∙◌, subst, arith}
use Rattle.std.proofs.Common.{append_assoc, eq-eqb, eqb-true, ◌-◌, ◌/◌, Option, None, append-nil}
use Rattle.pas_answers.specs.{Indexes.{after_tried, TriedIsNamedBy}, Guarding.{said_of_guard, after_giving}}
use Rattle.pas_profile.specs.Guards.{guards_of}

module _ (name : ℕ) {f : Profile} {k heap n : ℕ} {p q : Progress} {w : World} {xs rest : List Made} {block : Block} {guards' : List Guard}
    (s : IsSought f k heap n p w xs) (run : IsRaised f (large_of heap) n (p.books k) guards' xs rest block) (there : IsBetween f q)
    (list : q.list ≡ triples k (rest ++ xs) ++ p.list)
    (caches : q.caches ≡ p.caches) (own_book : q.books k ≡ guards') (other_books : (j : ℕ) → (j == k) ≡ false → q.books j ≡ p.books j)
    (names : q.names ≡ named name (Some block) ∷ p.names)
    (records : q.records ≡ p.records ++ (records_of (events_by k (part k p.list) (rest ++ xs)) ++ Record.Said k
    (Said.Guarded run.first (run.first + n + 1) name) ∷ [])) (epoch : q.epoch ≡ p.epoch) where
  abbrev large : Directory
  large = large_of heap

  abbrev made : List ℕ
  made = deeded xs

  abbrev own : View
  own = part k p.list

  given : GivesPages f k heap run.first (n + 2) (run.first + 1) n p q w xs run.backs run.left rest run.word run.answer (left_last_first run.first n) block
  given =
      let within : (run.first ≤ run.first + 1) × (run.first + 1 + n ≤ run.first + (n + 2)) = (omega arith, omega arith) in
      let left_in_run : AllByRecursion (IsInRun run.first (n + 2)) (left_last_first run.first n) = search (arith, all_map, all_in_run) in
      assumption (
        within,
        made_by s (FoundOrFailed s run.first run.found) (run.found.deeds (part k p.list) s.met (agreed s)),
        (run.found.got.from own s.met (agreed_steps f k p.list xs s.valid s.legal)).got,
        left_in_run,
        s,
        run,
        there,
        list,
      )

  -- ---- the text
  abbrev ds : List Event
  ds = deeds_of k large made

  abbrev bs : List Event
  bs = events_by k (part k (triples k xs ++ p.list)) run.backs

  abbrev es : List Event
  es = bs ++ ds

  abbrev address : ℕ
  address = address_on (run.first + 1) 0

  abbrev tried_on : World
  tried_on = shown ds w

  abbrev v : World
  v = says (Record.Said k (Said.Guarded run.first (run.first + n + 1) name)) (with_guard (raised_by k (guard_on tried_on heap run.first n)) (gives k name heap address (4096 * n) (shown es w)))

  -- The block has its name, as it is before the backings.
  turns : gives_in tried_on.events address ≡ gives_in (shown es w).events address
  turns =
      ap (λ (ys : List Event). gives_in ys address) (shown_events ds w)
      ∙ (sym (ready_gives k large (has_number made) bs (ds ++ w.events) address (backs_are_ready given (has_number made)))
      ∙ ap (λ (ys : List Event). gives_in ys address) (sym (shown_events es w ∙ append_assoc bs ds w.events)))

  -- ---- the guards that are up
  book_is : q.books k ≡ p.books k ++ guard_of run.first n block ∷ []
  book_is = own_book ∙ run.raised

  guards_are : v.guards ≡ w.guards ++ raised_by k (guard_of run.first n block) ∷ []
  guards_are = ap (λ (gs : List Raised). gs ++ raised_by k (guard_on tried_on heap run.first n) ∷ []) (shown_rest es w).guards
      ∙ ap (λ (g : Guard). w.guards ++ raised_by k g ∷ []) (cc (turns, block_is (gives_it given)))

  -- Afterwards the replay has what the text has.
  now : HasSame f q v
  now =
      let was = subst (AreSameCaches f p.caches) (sym (shown_rest es w).caches) s.same.caches in
      let guards = subst (AreSameGuards q.books) (sym guards_are) (guards_more k (guard_of run.first n block) book_is other_books w.guards s.same.guards) in
      assumption (events_now (gives_it given), live_now (gives_it given), guards, subst (λ (cs : Caches). AreSameCaches f cs v.caches) (sym caches) was)

  -- ---- the outer pages of the guard
  -- a page of the run has a grain in use then: the block has it, or the keeper
  run_used : (x : ℕ) → IsInRun run.first (n + 2) x → IsInUse q x
  run_used x here = elim (let it : IsInRun (run.first + 1) n x ⊎ ((run.first ≡ x) ⊎ (run.first + n + 1 ≡ x)) = search (arith, cases_lt) in it) [
    | inl inner ↦ page_used given x inner
    | inr outer ↦ record {
      grain = 0;
      small = omega arith;
      used = λ free. false≢true (sym (free_unheld f q.list s.valid there.legal (256 * x + 0) free k) ∙ outer_held f q there k (256 * x + 0)
          (ap (is_outer (q.books k)) (on_page x 0 (omega arith)) ∙ (outer_more k _ book_is other_books x (search (arith, or_left, eq-eqb)))));
    }
  ]

  abbrev in_all : ℕ → Bool
  in_all x = in_span run.first (run.first + (n + 2)) x

  -- what was used: the pages of the run
  uses : UsesOnly p q in_all
  uses = record {
    cached = λ j g h. inl (ap (λ (cs : Caches). any_covers (cs j).locals g) (sym caches) ∙ h);
    outer = λ j x h. elim (outer_or k _ book_is other_books j x h) [
      | inl was ↦ inl was
      | inr new ↦ let here : IsInRun run.first (n + 2) x = search (arith, or_cases, eqb-true) in inr (span_in run.first (run.first + (n + 2)) x here.0 here.1)
    ];
    live = lives_within given;
  }

  -- ---- the pages whose deeds were made
  -- ---- ALL
  raised_here : IsSame f q v
  raised_here =
      let g = gives_it given in
      let shows : List Record = records_of (events_by k own (rest ++ xs)) in
      let line : Record = Record.Said k (Said.Guarded run.first (run.first + n + 1) name) in
      let lines = records ∙ (sym (append_assoc p.records shows (line ∷ [])) ∙ records_next (p.records ++ shows) (gives k name heap address (4096 * n) (shown es w)).records line (records_now g)) in
      let read = (shown_rest es w).read ∙ (s.same.read ∙ sym epoch) in
      let pages = piece_pages (piece given run_used v now uses (λ x. refl) (shown_rest es w).hinted (λ x e out listed. left_free f q v large s.valid there now x
      (free_kept s.valid s.between there uses _ (ap in_all (on_page x 0 (omega arith)) ∙ out)
      (unowned_free s x 0 (all_listed _ made x (found_pages s run.first run.found) listed).bare (omega arith))) refl
      (ap (λ ys. deed_in ys x) (shown_events es w ∙ append_assoc bs ds w.events)
      ∙ ready_deeds k large (λ y. false) bs _ x refl (backs_are_ready given (λ y. false)) ∙ deed_listed k large x made w.events listed) e)) in
      assumption (pages, lines, names_now g name ∙ sym names, epoch_now g (all_kinds given), read, now)

  -- Where a keeper's search found a run, the guard that the text raises there is the replay's state.
  raised_same : IsSame f q (raises k name heap run.first n tried_on)
  raised_same = search (arith, raised_here, backs_text given)

-- GUARDED REQUESTS: the keeper lowers the guards whose blocks have ended, and tries to raise one; where it raises none, the thread makes the request as any.

-- deeds change no index
deeds_keep_indexes : (k : ℕ) (d : Directory) (qs : List ℕ) (w : World) → (shown (deeds_of k d qs) w).indexes ≡ w.indexes
deeds_keep_indexes k d [] w = refl
deeds_keep_indexes k d (q ∷ qs) w = deeds_keep_indexes k d qs w

raised_indexes : (k name heap first n : ℕ) (w : World) → (raises k name heap first n w).indexes ≡ w.indexes
raised_indexes k name heap first n w = same_indexes w (each (backs k) (numbers_from (first + 1) n) w) (each_keeps (backs k) (numbers_from (first + 1) n) (backs_keep k) w)

module _ (threads : ℕ) (f : Profile) (keeper line k other name heap size align : ℕ) (p p' : Progress) (w : World) (indexes : Indexes)
    (known : IsKnown threads f (Act.Guards keeper (record { line = line; actor = k; what = What.Guarded other name heap size align })) p p' w indexes) where
  abbrev r : Request
  r = record { name = name; heap = heap; size = size; align = align }

  abbrev op : Op
  op = record { line = line; actor = k; what = What.Guarded other name heap size align }

  abbrev n : ℕ
  n = room_in f size align / 4096

  abbrev d : Directory
  d = large_of heap

  -- Its directory is one of the profile.
  of : IsDirectoryOf f d
  of = record { heap = known.planned.1.0.of_profile; kind = tt; class = tt }

  -- The keeper is an actor of the region.
  keeps : IsThread f keeper
  keeps = keeper_of threads f keeper known.planned.0.0

  -- A keeper has no local allocators.
  uncached : (p.caches keeper).locals ≡ []
  uncached = ap (λ (c : Cached). c.locals) (known.seated.uncached keeper known.planned.0.0)

  abbrev wm : World
  wm = lowers_ended keeper w

  wm_indexes : wm.indexes ≡ indexes
  wm_indexes = all_lowered_keep (filter (is_over w) (guards_of keeper w.guards)) w ∙ known.indexes_are

  -- ---- what the keeper did
  module _ (t : Tried) (h : IsTried f keeper r (part keeper p.list) (p.books keeper) t) (legal : Legal f (after_trying p keeper t).list) where
    abbrev pm : Progress
    pm = swept f keeper r p t known.taken.valid keeps known.taken.before uncached h legal

    abbrev xs : List Made
    xs = h.raise.searched

    -- After the sweep the replay is between two pieces.
    between : IsBetween f pm
    between = swept_between f keeper r p t known.taken.valid keeps known.taken.before uncached h legal

    -- The keeper sought a run.
    sought : IsSought f keeper heap n pm wm xs
    sought =
        let same : IsSame f pm wm = let ended_text : lowers_ended keeper w ≡ each lowers
        (map (raised_by keeper) (filter (goes_down false (visible p.list)) (p.books keeper))) w = search (arith, told_filtered) in rw (ended_text)
        (sweep_same f keeper false p w h.swept h.left h.lowered known.taken.valid keeps known.taken.before known.taken.same h.sweep between) in
        let met = book_finds f heap h.left (part keeper pm.list) (raise_fits f keeper r p t known.taken.valid keeps known.taken.before uncached h legal) in
        assumption (
          known.taken.valid,
          between,
          same,
          of,
          legal_earlier f keeper h.raise.after xs pm.list
              (rw h.raise.steps_are at (raise_legal f keeper r p t known.taken.valid keeps known.taken.before uncached h legal)),
          h.raise,
          met,
        )

    lists_are : triples keeper t.steps ++ p.list ≡ triples keeper (h.raise.after ++ xs) ++ pm.list
    lists_are = cc (sweep_and_raise_are_the_try f keeper r p t known.taken.valid keeps known.taken.before uncached h legal)

    -- the records after those of the sweep
    abbrev own_events : List Event
    own_events = events_by keeper (part keeper pm.list) (h.raise.after ++ xs)

    events_same : events_by keeper (h.swept ++ part keeper p.list) h.raised ≡ own_events
    events_same = cc (part_of_own keeper h.swept p.list)

    records_after : p.records ++ t.records ≡ pm.records ++ (records_of own_events ++ said_of_guard keeper name n t.block)
    records_after = search (arith, append_assoc, events_same)

  abbrev tried_by : List Made → List Record → Option Block → List Guard → Tried
  tried_by steps records block guards' = record { steps = steps; records = records; block = block; guards = guards' }

  -- ==== A GUARD WENT UP
  module _ (steps : List Made) (records : List Record) (block : Block) (guards' : List Guard)
      (h : IsTried f keeper r (part keeper p.list) (p.books keeper) (tried_by steps records (Some block) guards'))
      (reached : p' ≡ after_giving (after_trying p keeper (tried_by steps records (Some block) guards')) name block) where
    abbrev t : Tried
    t = tried_by steps records (Some block) guards'

    abbrev q : Progress
    q = after_giving (after_trying p keeper t) name block

    -- Afterwards the replay is between two pieces.
    there : IsBetween f q
    there = subst (IsBetween f) reached known.taken.after

    abbrev before : Progress
    before = pm t h there.legal

    -- The guard was raised on the run that was found.
    run : IsRaised f d n (before.books keeper) guards' h.raise.searched h.raise.after block
    run = subst (λ (gs : List Guard). IsRaised f d n gs guards' h.raise.searched h.raise.after block) (sym (own_book p.books keeper h.left)) h.raise.outcome

    said_is : said_of_guard keeper name n (Some block) ≡ Record.Said keeper (Said.Guarded run.first (run.first + n + 1) name) ∷ []
    said_is =
        let at : address_of block.name ≡ (run.first + 1) * 4096 = ap (λ (b : Block). address_of b.name) run.block_is in
        let low : address_of block.name / 4096 - 1 ≡ run.first = omega (arith, at) in
        let high : address_of block.name / 4096 + n ≡ run.first + n + 1 = omega (arith, at) in
        cc

    up_text : guards f keeper k (Some r) w ≡ raises keeper name heap run.first n (shown (deeds_of keeper d (deeded h.raise.searched)) wm)
    up_text = sought_text (sought t h there.legal) run.first run.found k name

    up_act : IsSame f p' (guards f keeper k (Some r) w) × ((guards f keeper k (Some r) w).indexes ≡ indexes)
    up_act = (
      subst (λ (y : Progress). IsSame f y (guards f keeper k (Some r) w)) (sym reached)
          (rw up_text (raised_same name (sought t h there.legal) run there (lists_are t h there.legal) refl (own_book p.books keeper guards')
          (λ j ne. other_book p.books keeper j guards' ne ∙ sym (other_book p.books keeper j h.left ne)) refl
          (records_after t h there.legal ∙ ap (λ (rs : List Record). before.records ++ (records_of (own_events t h there.legal) ++ rs)) said_is) refl)),
      simp (up_text, raised_indexes, deeds_keep_indexes, wm_indexes),
    )

  -- ==== NONE DID
  module _ (steps : List Made) (records : List Record) (guards' : List Guard)
      (h : IsTried f keeper r (part keeper p.list) (p.books keeper) (tried_by steps records None guards'))
      (is : AnswersTried f op r None (after_trying p keeper (tried_by steps records None guards')) p')
      (named : TriedIsNamedBy f indexes op r None (after_trying p keeper (tried_by steps records None guards')) p' is) where
    abbrev none : Tried
    none = tried_by steps records None guards'

    abbrev left : Progress
    left = after_trying p keeper none

    legal_left : Legal f left.list
    legal_left = legal_before f k is.0.steps left.list (subst (λ (y : Progress). Legal f y.list) is.2 known.taken.after.legal)

    left_between : IsBetween f left
    left_between = tried_between f keeper r p none known.taken.valid keeps known.taken.before uncached h legal_left

    abbrev tried : World
    tried = shown (deeds_of keeper d (deeded h.raise.searched)) wm

    searched_all : h.raise.after ++ h.raise.searched ≡ h.raise.searched
    searched_all = ap (λ (ms : List Made). ms ++ h.raise.searched) h.raise.outcome.nothing

    same_left : IsSame f left tried
    same_left = missed_same (sought none h legal_left) h.raise.outcome.found left_between
        (cc (lists_are none h legal_left, searched_all)) refl (ap (with_book p.books keeper) h.raise.outcome.same) refl
        (cc (records_after none h legal_left, append-nil (records_of (own_events none h legal_left)), searched_all)) refl

    -- the search found no run, so the text makes the request as any other
    down_text : guards f keeper k (Some r) w ≡ serves f k name heap (route_in f size align) (room_in f size align) align tried
    down_text =
        cc (missed_text (sought none h legal_left) h.raise.outcome.found k name)

    tried_indexes : tried.indexes ≡ indexes
    tried_indexes = deeds_keep_indexes keeper d (deeded h.raise.searched) wm ∙ wm_indexes

    down_act : IsSame f p' (guards f keeper k (Some r) w) × ((guards f keeper k (Some r) w).indexes ≡ after_tried f op r None left p' is indexes)
    down_act = (
      rw (down_text, is.2) (pages_answered f k name heap size align left is.0 tried known.planned.1.0 known.planned.1.1.1
          (search (arith, left_between, same_left))
          (named_large f r indexes is.0.found known.planned.1.1.1 named ∙ ap (λ (ix : Indexes). found_in ix heap n) (sym tried_indexes))),
      simp (down_text, request_indexes, tried_indexes),
    )

  -- ==== EITHER
  either_act : (steps : List Made) (records : List Record) (block : Option Block) (guards' : List Guard)
      → IsTried f keeper r (part keeper p.list) (p.books keeper) (tried_by steps records block guards')
      → (is : AnswersTried f op r block (after_trying p keeper (tried_by steps records block guards')) p')
      → TriedIsNamedBy f indexes op r block (after_trying p keeper (tried_by steps records block guards')) p' is
      → IsSame f p' (guards f keeper k (Some r) w)
      × ((guards f keeper k (Some r) w).indexes
      ≡ after_tried f op r block (after_trying p keeper (tried_by steps records block guards')) p' is indexes)
  either_act steps records (Some block) guards' h is named = up_act steps records block guards' h is
  either_act steps records None guards' h is named = down_act steps records guards' h is named

  guarded_kept : IsKept threads f (Act.Guards keeper op) p p' w indexes known
  guarded_kept =
      let t : Tried = known.taken.advances.0 in
      let both = either_act t.steps t.records t.block t.guards known.taken.advances.1 known.taken.advances.2 known.named in
      record { same = both.0; indexes_are = both.1 }

-- ---- THE ACT
-- A guarded request leads the text to the replay's state, with its indexes; no other is planned for a keeper.
pub by_what : (threads : ℕ) (f : Profile) (keeper line k : ℕ) (what : What)
    → KeepsSame threads f (Act.Guards keeper (record { line = line; actor = k; what = what }))
by_what threads f keeper line k (What.Guarded other name heap size align) p p' w indexes known =
    guarded_kept threads f keeper line k other name heap size align p p' w indexes known
by_what threads f keeper line k what p p' w indexes known = search arith
