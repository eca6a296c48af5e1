-- THE RUNS THAT A KEEPER TRIES, in the text: one after the other from the lowest up, all pages of each that is usable get deeds, until one serves.
use Rattle.std.proofs.Common.{◌≡◌, ◌≢◌, ℕ, zero, suc, ◌+◌, ◌<◌, ◌≤◌, nat_lt, Bool, true, false, if◌then◌else◌, List, [], ◌∷◌, ◌++◌, None, inl, inr, refl, ap}
use Rattle.std.proofs.Common.{sym, ◌∙◌, subst, arith, append_assoc, true≢false, ne_eqb, lt-ltb, ltb-true}
use Rattle.pas_same_text.proofs.Common.{cases_eq, cases_lt, map-append, AllByRecursion, Directory, Event, Profile, Run, deed_in, backed_in, IsInRun}
use Rattle.pas_same_text.proofs.Common.{numbers_from, World, page_numbers, deeds, are_bare, raises, raises_from, large_of, is_run, deeds_run, serves_pages}
use Rattle.pas_same_text.proofs.{Common.all_map, RunsFound.{shown, shown_events, each_in_turn, shown_both, deeds_of, AreFalling, AllInRun, deeds_in_turn}}

-- ==== PAGES FROM THE HIGHEST DOWN: those below a page, and the others
abbrev pub below : ℕ → List ℕ → List ℕ
below e [] = []
below e (q ∷ qs) = if nat_lt q e then q ∷ qs else below e qs

abbrev pub above : ℕ → List ℕ → List ℕ
above e [] = []
above e (q ∷ qs) = if nat_lt q e then [] else q ∷ above e qs

-- each of some pages is so, and so
all_and : (P Q : ℕ → Type 0) (qs : List ℕ) → AllByRecursion P qs → AllByRecursion Q qs → AllByRecursion (λ q. P q × Q q) qs
all_and P Q [] ps rs = tt
all_and P Q (q ∷ qs) ps rs = ((ps.0, rs.0), all_and P Q qs ps.1 rs.1)

by_test : (P : List ℕ → Type 0) (t : Bool) (xs ys : List ℕ) → (t ≡ true → P xs) → (t ≡ false → P ys) → P (if t then xs else ys)
by_test P t xs ys one other = search arith

module _ (e : ℕ) where
  -- A list of pages is its upper part and its lower part.
  split : (qs : List ℕ) → above e qs ++ below e qs ≡ qs
  split [] = refl
  split (q ∷ qs) = search (arith, split qs)

  -- What is so of all of some pages is so of those below a page.
  pub below_all : (P : ℕ → Type 0) (qs : List ℕ) → AllByRecursion P qs → AllByRecursion P (below e qs)
  below_all P [] all = tt
  below_all P (q ∷ qs) all = by_test (AllByRecursion P) (nat_lt q e) (q ∷ qs) (below e qs) (λ yes. all) (λ no. below_all P qs all.1)

  above_all : (P : ℕ → Type 0) (qs : List ℕ) → AllByRecursion P qs → AllByRecursion P (above e qs)
  above_all P [] all = tt
  above_all P (q ∷ qs) all = by_test (AllByRecursion P) (nat_lt q e) [] (q ∷ above e qs) (λ yes. tt) (λ no. (all.0, above_all P qs all.1))

  below_falls : (qs : List ℕ) → AreFalling qs → AreFalling (below e qs)
  below_falls [] falls = tt
  below_falls (q ∷ qs) falls = by_test AreFalling (nat_lt q e) (q ∷ qs) (below e qs) (λ yes. falls) (λ no. below_falls qs falls.1)

  above_falls : (qs : List ℕ) → AreFalling qs → AreFalling (above e qs)
  above_falls [] falls = tt
  above_falls (q ∷ qs) falls = by_test AreFalling _ [] (q ∷ above e qs) (λ yes. tt) (λ no. (above_all (λ x. x < q) qs falls.0, above_falls qs falls.1))

  below_lt : (qs : List ℕ) → AreFalling qs → AllByRecursion (λ q. q < e) (below e qs)
  below_lt [] falls = tt
  below_lt (q ∷ qs) falls = search (arith, by_test, ltb-true, all_map, below_lt qs falls.1)

  above_ge : (qs : List ℕ) → AllByRecursion (λ q. e ≤ q) (above e qs)
  above_ge [] = tt
  above_ge (q ∷ qs) = search (arith, by_test, above_ge qs)

  below_whole : (qs : List ℕ) → AllByRecursion (λ q. q < e) qs → below e qs ≡ qs
  below_whole [] all = refl
  below_whole (q ∷ qs) all = ap (λ (t : Bool). if t then q ∷ qs else below e qs) (lt-ltb q e all.0)

  below_twice : (f : ℕ) → e ≤ f → (qs : List ℕ) → below e (below f qs) ≡ below e qs
  below_twice f le [] = refl
  below_twice f le (q ∷ qs) = search (arith, by_test, below_twice f le qs)

below_none : (qs : List ℕ) → below 0 qs ≡ []
below_none [] = refl
below_none (q ∷ qs) = search (arith, below_none qs)

-- ---- their deeds
module _ (k : ℕ) (d : Directory) where
  both_deeds : (xs ys : List ℕ) (es : List Event) → deeds_of k d xs ++ (deeds_of k d ys ++ es) ≡ deeds_of k d (xs ++ ys) ++ es
  both_deeds xs ys es = sym (append_assoc (deeds_of k d xs) (deeds_of k d ys) es) ∙ ap (λ (zs : List Event). zs ++ es) (sym (map-append (λ (p : ℕ). Event.Deed k p d) xs ys))

  run_below : (f : Profile) (e : ℕ) (qs : List ℕ) (es : List Event) → Run f (deeds_of k d qs ++ es) → Run f (deeds_of k d (below e qs) ++ es)
  run_below f e [] es run = run
  run_below f e (q ∷ qs) es run = by_test (λ (xs : List ℕ). Run f (deeds_of k d xs ++ es)) (nat_lt q e) (q ∷ qs) (below e qs) (λ yes. run) (λ no. run_below f e qs es run.1)

  deed_below : (e p : ℕ) (qs : List ℕ) (es : List Event) → p < e → deed_in (deeds_of k d (below e qs) ++ es) p ≡ deed_in (deeds_of k d qs ++ es) p
  deed_below e p [] es lt = refl
  deed_below e p (q ∷ qs) es lt = search (arith, by_test, ne_eqb, true≢false, lt-ltb, deed_below e p qs es lt)

  backed_beside : (p : ℕ) (qs : List ℕ) (es : List Event) → backed_in (deeds_of k d qs ++ es) p ≡ backed_in es p
  backed_beside p [] es = refl
  backed_beside p (q ∷ qs) es = backed_beside p qs es

-- the page is of a usable run below the end
abbrev pub IsOfRun : Profile → ℕ → ℕ → World → ℕ → ℕ → Type 0
IsOfRun f heap n w end q = (r : ℕ) × IsInRun r (n + 2) q × ((1 ≤ r) × (r < end) × (is_run f w heap (n + 2) r ≡ true))

-- ==== THE WALK over the runs of n + 2 pages below `end`. The pages that get deeds are these; each is of a usable run, and each page of such a run has a deed then.
pub record IsWalked (f : Profile) (keeper heap n : ℕ) (w : World) (made : List ℕ) (end : ℕ) : Type 0 where
  pub falls : AreFalling made
  pub run : Run f (deeds_of keeper (large_of heap) made ++ w.events)
  pub of_runs : AllByRecursion (IsOfRun f heap n w end) made
  pub all : (r : ℕ) → 1 ≤ r → r < end → is_run f w heap (n + 2) r ≡ true → (q : ℕ) → IsInRun r (n + 2) q
      → deed_in (deeds_of keeper (large_of heap) made ++ w.events) q ≢ None
  pub still : (e r : ℕ) → is_run f (shown (deeds_of keeper (large_of heap) (below e made)) w) heap (n + 2) r ≡ is_run f w heap (n + 2) r

module _ (f : Profile) (keeper k name heap n : ℕ) (w : World) (made : List ℕ) (end : ℕ) (is : IsWalked f keeper heap n w made end) where
  abbrev d : Directory
  d = large_of heap

  -- the state with the deeds of the pages below this one
  abbrev upto : ℕ → World
  upto e = shown (deeds_of keeper d (below e made)) w

  -- all usable runs before p end by e
  record IsUpTo (e p : ℕ) : Type 0 where
    past : (r : ℕ) → 1 ≤ r → r < p → is_run f w heap (n + 2) r ≡ true → r + (n + 2) ≤ e
    near : e ≤ p + (n + 2)

  module _ (e p : ℕ) (low : 1 ≤ p) (high : p < end) (up : IsUpTo e p) (usable : is_run f w heap (n + 2) p ≡ true) where
    abbrev stop : ℕ
    stop = p + (n + 2)

    abbrev upper : List ℕ
    upper = above e (below stop made)

    -- The pages up to this one are those passed now and those before.
    parts : upper ++ below e made ≡ below stop made
    parts = ap (λ (xs : List ℕ). upper ++ xs) (sym (below_twice e stop up.near made)) ∙ split e (below stop made)

    -- So are the events of their deeds.
    events : deeds_of keeper d upper ++ (upto e).events ≡ deeds_of keeper d (below stop made) ++ w.events
    events = search (arith, shown_events, both_deeds, parts)

    -- The pages that were passed now are of the run.
    within : AllInRun p (n + 2) upper
    within = all_map (λ q. (e ≤ q) × ((q < stop) × IsOfRun f heap n w end q)) (IsInRun p (n + 2)) upper one
        (all_and (λ q. e ≤ q) (λ q. (q < stop) × IsOfRun f heap n w end q) upper (above_ge e (below stop made))
        (above_all e (λ q. (q < stop) × IsOfRun f heap n w end q) (below stop made)
        (all_and (λ q. q < stop) _ (below stop made) (below_lt stop made is.falls) (below_all stop (IsOfRun f heap n w end) made is.of_runs))))
      where
        one : (q : ℕ) → (e ≤ q) × ((q < stop) × IsOfRun f heap n w end q) → IsInRun p (n + 2) q
        one q h = search (arith, cases_lt)

    deeds_step : deeds_run keeper heap p (n + 2) (upto e) ≡ upto stop
    deeds_step =
        each_in_turn (deeds keeper d) (n + 2) p (upto e)
        ∙ (deeds_in_turn keeper d f (n + 2) p upper (upto e) (above_falls e _ (below_falls stop made is.falls)) within (subst (Run f) (sym events) (run_below keeper d f stop made w.events is.run))
        (λ q here none. is.all p low high usable q here (sym (deed_below keeper d stop q made w.events here.1) ∙ (ap (λ (es : List Event). deed_in es q) (sym events) ∙ none)))
        ∙ (sym (shown_both (deeds_of keeper d upper) (deeds_of keeper d (below e made)) w)
        ∙ ap (λ (es : List Event). shown es w) (sym (map-append (λ (x : ℕ). Event.Deed keeper x d) upper (below e made)) ∙ ap (deeds_of keeper d) parts)))

  -- ---- one run
  abbrev after_one : ℕ → List ℕ → Bool → Bool → World → World → World
  after_one p ps usable bare tried not_tried = if usable then (if bare then raises keeper name heap p n tried else raises_from f keeper k name heap n ps tried) else raises_from f keeper k name heap n ps not_tried

  tried_one : (e p m : ℕ) (bare : Bool) → 1 ≤ p → p < end → IsUpTo e p → is_run f w heap (n + 2) p ≡ true → are_bare w p n ≡ bare
      → raises_from f keeper k name heap n (numbers_from p (suc m)) (upto e)
      ≡ (if bare then raises keeper name heap p n (upto (p + (n + 2))) else raises_from f keeper k name heap n (numbers_from (p + 1) m) (upto (p + (n + 2))))
  tried_one e p m bare low high up usable is_bare = search (arith, shown_events, backed_beside, deeds_step)

  -- a run that doesn't serve
  pass_by : (Result : World) (e p m : ℕ) → 1 ≤ p → p < end → IsUpTo e p → (is_run f w heap (n + 2) p ≡ true → are_bare w p n ≡ false)
      → ((e : ℕ) → IsUpTo e (p + 1) → raises_from f keeper k name heap n (numbers_from (p + 1) m) (upto e) ≡ Result)
      → raises_from f keeper k name heap n (numbers_from p (suc m)) (upto e) ≡ Result
  pass_by Result e p m low high up backed rest = at (is_run f w heap (n + 2) p) refl
    where
      at : (t : Bool) → is_run f w heap (n + 2) p ≡ t → raises_from f keeper k name heap n (numbers_from p (suc m)) (upto e) ≡ Result
      at true usable = tried_one e p m false low high up usable (backed usable)
          ∙ rest (p + (n + 2)) (record { past = λ r some lt h. omega (arith, lt); near = omega arith })
      at false none = ap (λ (t : Bool). after_one p (numbers_from (p + 1) m) t (are_bare (upto e) p n) (deeds_run keeper heap p (n + 2) (upto e)) (upto e))
          (is.still e p ∙ none) ∙ rest e (search (arith, true≢false))

  -- all deeds are there
  whole : (e : ℕ) → AllByRecursion (λ q. q < e) made → upto e ≡ shown (deeds_of keeper d made) w
  whole e all = ap (λ (qs : List ℕ). shown (deeds_of keeper d qs) w) (below_whole e made all)

  -- At the first page nothing was passed.
  begin : IsUpTo 0 1
  begin = record { past = λ r some lt h. absurd (omega (arith, some, lt)); near = omega arith }

  -- There the text is where it began.
  begun : upto 0 ≡ w
  begun = ap (λ (qs : List ℕ). shown (deeds_of keeper d qs) w) (below_none made)

  -- ---- THE RUN THAT SERVES: the last one that is tried
  module _ (first : ℕ) (last : end ≡ first + 1) (region : (1 ≤ first) × (first ≤ f.pages)) (usable : is_run f w heap (n + 2) first ≡ true)
      (bare : are_bare w first n ≡ true) (lower : (r : ℕ) → 1 ≤ r → r < first → is_run f w heap (n + 2) r ≡ true → are_bare w r n ≡ false) where
    -- The text's walk goes on to the run's first page.
    walk : (m p e : ℕ) → 1 ≤ p → p ≤ first → first < p + m → IsUpTo e p
        → raises_from f keeper k name heap n (numbers_from p m) (upto e) ≡ raises keeper name heap first n (upto (first + (n + 2)))
    walk zero p e low le past up = absurd (omega (arith, le, past))
    walk (suc m) p e low le past up = elim (cases_eq p first) [
      | inl same ↦
          cc (tried_one e p m true low (omega (arith, same, last)) up (ap (is_run f w heap (n + 2)) same ∙ usable) (ap (λ (x : ℕ). are_bare w x n) same ∙ bare))
      | inr other ↦
          pass_by (raises keeper name heap first n (upto (first + (n + 2)))) e p m low (omega (arith, le, last)) up (lower p low (omega (arith, le, other)))
          (λ e' up'. walk m (p + 1) e' (omega arith) (omega (arith, le, other)) (omega (arith, past)) up')
    ]

    -- Where a run of the walk serves, the text raises the guard there, with the deeds of the walk made.
    pub found_text : raises_from f keeper k name heap n (page_numbers f) w ≡ raises keeper name heap first n (shown (deeds_of keeper d made) w)
    found_text =
        let low = region.0 in
        cc (begun, walk f.pages 1 0 (omega arith) low (omega (arith, region.1)) begin, whole (first + (n + 2)) (search (arith, all_map)))

  -- ---- NO RUN SERVES
  module _ (last : end ≡ f.pages + 1) (none : (r : ℕ) → 1 ≤ r → r < end → is_run f w heap (n + 2) r ≡ true → are_bare w r n ≡ false) where
    -- Where no run is raised, it goes on to the end.
    through : (m p e : ℕ) → 1 ≤ p → p + m ≡ end → IsUpTo e p
        → raises_from f keeper k name heap n (numbers_from p m) (upto e) ≡ serves_pages f k name heap n (shown (deeds_of keeper d made) w)
    through zero p e low at up = ap (serves_pages f k name heap n) (whole e (all_map (IsOfRun f heap n w end) (λ q. q < e) made
        (λ q h. let past = up.past h.0 h.2.0 (omega (arith, h.2.1, at)) h.2.2 in omega (arith, h.1.1, past)) is.of_runs))
    through (suc m) p e low at up = pass_by _ e p m low (omega (arith, at)) up (none p low (omega (arith, at)))
        (λ e' up'. through m (p + 1) e' (omega arith) (omega (arith, at)) up')

    -- Where no run of the walk serves, the text makes the request for whole pages, with the deeds of the walk made.
    pub none_text : raises_from f keeper k name heap n (page_numbers f) w ≡ serves_pages f k name heap n (shown (deeds_of keeper d made) w)
    none_text = ap (raises_from f keeper k name heap n (page_numbers f)) (sym begun) ∙ through f.pages 1 0 (omega arith) (omega (arith, last)) begin
