-- The best page of a survey is claimed, and serves or comes to nothing; where it came to nothing the search goes on. What a survey of looks and the claim
-- that follows it say of the state at entry, where no other actor makes a step meanwhile.
use Rattle.std.proofs.Common.{◌≡◌, ℕ, ◌+◌, ◌/◌, ◌%◌, ◌<◌, Bool, true, false, if◌then◌else◌, List, [], ◌∷◌, ◌++◌, Option, Some, inl, inr, refl, sym, ◌∙◌, subst}
use Rattle.std.proofs.{Common.{arith, true≢false, ◌≤◌, length, None, Result, append-nil, length-append, ◌==◌, ◌&&◌, Ok, eqb-true}, lemmas.Bool.cases_eq}
use Rattle.std.proofs.lemmas.Bool.{and_parts, false_from_ne_true}
use Rattle.pas_bits.{specs.Bits.has_bit, proofs.Words.none_of_zero}
use Rattle.pas_profile.specs.{Directories.number_of, Profiles.IsValid, declared.{directory.Directory.Directory, profile.Profile.Profile, word.Word.Word}}
use Rattle.pas_profile.specs.declared.event.NoRoom.{NoRoom}
use Rattle.pas_steps.specs.{Agreement.Agreed, Effects.target, Frames.AreLooks, Past.{Once, Since}, Events.{events_by, events_of}, Calls.{Leads, nothing, Does}}
use Rattle.pas_steps.specs.{Calls.{Calls, Fate, Kept, Gained, Lost, ClearAfter, Effect, on_page}, Views.{has_right, View, KnowsDeed, holds}, Desks.triples}
use Rattle.pas_steps.specs.{Desks.{Seat, Standing, Adds, CanCall, made}, Evidence.{Readings, ReadsEligible, IsAntitone, GetsRight, GetsHere}, Lists.Whole}
use Rattle.pas_steps.{specs.{Lists.{Legal, part, word_after}, declared.step.{Made.Made, Step.{Step, TheVariants.TakeRight}}}, proofs.Adding.adds_call}
use Rattle.pas_steps.proofs.{Adding.{adds_under, can_call, legal_after}, Calls.{does_none, leads_none, leads_then, still_clear, does_as, does_then}}
use Rattle.pas_steps.proofs.{Frames.{deed_stays, knows_still, looks_read}, Past.always_both, Sets.kept_kept}
use Rattle.pas_core.{specs.Rights.{eligible_bit, free_of_page}, proofs.{Deeds.looked, OneActor.{fit_entry, legal_earlier, lends_none}}}
use Rattle.pas_search.specs.{Kinds.{searching, AreSearch, AreQuiet, IsQuiet}, Serving.{Rule, ShowsFit, MayServe, ServeSteps, ServesPage, served}}
use Rattle.pas_search.specs.{Searches.{MaySearch, Searching, SearchRoom, FewEvents, Searches, KeepsFound, Finds}, Ranks.{Measure, IsOfGrains, SeenHere}}
use Rattle.pas_search.specs.Ranks.{IsRanked, TriesPage, FromSurvey, IsBestOffered, MayRank, RankRoom, Surveys, TriesBest, StoodBefore, having_made, FallsBack}
use Rattle.pas_search.specs.{declared.{serving.Served.Served, surveying.Best.Best}, Allocates.served_by, Choices.{Choice, TakesKept, choosing}}
use Rattle.pas_search.proofs.{ForBackEnds.room_kept, PagesThatServe.{IsReady, reads_vain, vain_searching, claim_rights, ready, got_search, got_before}}
use Rattle.pas_search.proofs.PagesThatServe.{served_search, finds, never_got, deeds_serves, no_deeds, got_left, events_after_quiet}
use Rattle.pas_scan.specs.Marks.{is_marked}

-- ---- looks leave each word as it was
words_same : (k : ℕ) (xs : List Made) (l : Whole) (w : Word) → AreLooks xs → word_after (triples k xs ++ l) w ≡ word_after l w
words_same k [] l w looks = refl
words_same k (m ∷ xs) l w looks = search (arith, looked, words_same k xs l w looks.1)

-- A step that reads the page's eligible bit reads its word: look or claim.
eligible_read : (d : Directory) (p : ℕ) (s : Step) (w : Whole) → ReadsEligible d p s
    → word_after w (target s) ≡ word_after w (Word.Eligible (number_of d) (p / 64))
eligible_read d p s w e = grind arith

-- ---- so what they read is true of the state before them
module _ (f : Profile) (k : ℕ) (l : Whole) where
  -- an eligible bit
  bit_told : (d : Directory) (p : ℕ) (bit : Bool) (xs : List Made) → Legal f (triples k xs ++ l) → AreLooks xs
      → Once (λ m before. ReadsEligible d p m.step × (has_bit m.answer (p % 64) ≡ bit) × (has_right before p ≡ false)) xs → eligible_bit l (number_of d) p ≡ bit
  bit_told d p bit [] legal looks h = absurd h
  bit_told d p bit (m ∷ xs) legal looks (inl z) = search (arith, words_same, eligible_read)
  bit_told d p bit (m ∷ xs) legal looks (inr h) = bit_told d p bit xs legal.1 looks.1 h

  -- a grain
  grain_told : (page b : ℕ) (r : Readings) (xs : List Made) → Legal f (triples k xs ++ l) → AreLooks xs → b < 256 → Once (SeenHere page (b / 64) r) xs
      → r b ≡ free_of_page l page b
  grain_told page b r [] legal looks lt h = absurd h
  grain_told page b r (m ∷ xs) legal looks lt (inr h) = grain_told page b r xs legal.1 looks.1 lt h
  grain_told page b r (m ∷ xs) legal looks lt (inl z) = search (arith, words_same)

  module _ (ranks : Measure) (alike : IsOfGrains ranks) (d : Directory) where
    -- the rank of a page
    rank_told : (page : ℕ) (rank : Option ℕ) (xs : List Made) → Legal f (triples k xs ++ l) → AreLooks xs → IsRanked ranks d page rank xs
        → ranks (free_of_page l page) rank
    rank_told page rank xs legal looks is = alike is.readings (free_of_page l page) rank
        (λ b lt. grain_told page b is.readings xs legal looks lt (is.read (b / 64) (omega (arith, lt)))) is.ranked

    -- ---- the page that was served from
    best_offered : {F : Type 0} (rule : Rule F) (page : ℕ) (kept : ℕ → Bool) (steps : List Made) → IsValid f → IsAntitone rule.no_fit
        → Legal f (triples k steps ++ l) → AreSearch steps → MaySearch d (part k l) → Agreed f (part k l) steps
        → FromSurvey f ranks d page steps → ShowsFit rule.no_fit kept f page (MaySearch d) steps steps → IsBestOffered rule.no_fit f ranks d l page
    best_offered rule page kept steps valid fewer legal searches may agreed from shows =
        let tries : TriesPage f ranks d page steps = from.tries in let ws : List Made = tries.surveyed in
        let all : Legal f (triples k (tries.serve ++ (_ ∷ ws)) ++ l) = subst (λ xs. Legal f (triples k xs ++ l)) tries.steps_are legal in
        let surveyed : Legal f (triples k ws ++ l) = (legal_earlier f k tries.serve (_ ∷ ws) l all).1 in record {
          this = record {
            of_region = tries.best.page;
            offered = bit_told d page true ws surveyed tries.looks tries.best.this.offered;
            fits = fit_entry rule.no_fit f k l page shows.readings steps fewer valid legal
                (lends_none searching refl steps searches.kinds) shows.fits shows.read (shows.held.from (part k l) may agreed);
          };
          rank = tries.rank;
          ranked = rank_told page (Some tries.rank) ws surveyed tries.looks tries.best.this;
          best = λ other is offered. elim (tries.best.others other is.0 (omega (arith, is.1))) [
            | inl zero ↦ absurd (true≢false (sym offered ∙ bit_told d other false ws surveyed tries.looks zero))
            | inr seen ↦ (seen.0, rank_told other seen.0 ws surveyed tries.looks seen.1, seen.2)
          ];
        }

-- ---- after looks alone all is as it was
unmarked : (p : ℕ) → is_marked [] p ≡ false
unmarked p = none_of_zero (p % 64)

looked_over : {F : Type 0} (rule : Rule F) (f : Profile) (d : Directory) (ws : List Made) → AreLooks ws → Searching rule.no_fit f d 1 [] ws
looked_over rule f d ws looks = subst (Searching rule.no_fit f d 1 []) (append-nil ws)
    (vain_searching rule f d 1 [] ws [] (reads_vain ws (looks_read ws looks)) (search (arith, leads_none, does_none, true≢false, unmarked)))

-- what the survey and the claim ask
pub rank_can : {σ : Standing} {f : Profile} {d : Directory} {n spare : ℕ} → CanCall σ (RankRoom f d n spare) → CanCall σ (MaySearch d)
rank_can can = record { view = can.view; whole = can.whole; stood = can.stood; met = can.met.may.may }

-- ---- no page has a rank
pub none_ranked : {F : Type 0} {rule : Rule F} {ranks : Measure} {tells : Bool} {d : Directory} {σ0 σ1 : Standing} → Surveys ranks d σ0 σ1 None
    → TriesBest rule ranks tells d σ0 σ1 None
none_ranked {rule = rule} {ranks = ranks} {d = d} {σ0 = σ0} surveys =
    let s = looked_over rule σ0.seat.profile d surveys.steps surveys.looks in record {
      steps = surveys.steps;
      adds = adds_under surveys.adds (λ v l stood met. tt);
      searches = s.searches;
      few = omega (arith, surveys.few);
      outcome = record { still = s.still; quiet = s.quiet; why = inl (surveys.looks, surveys.outcome) };
      told = λ t v l stood met. tt;
    }

-- ---- the best one is claimed
module _ {F : Type 0} (rule : Rule F) {ranks : Measure} (tells : Bool) {d : Directory} {σ0 σ1 : Standing} {best : Best}
    (surveys : Surveys ranks d σ0 σ1 (Some best)) where
  abbrev f : Profile
  f = σ0.seat.profile

  abbrev page : ℕ
  page = best.page

  abbrev ws : List Made
  ws = surveys.steps

  -- The search when the best page is claimed: nothing was marked yet.
  s : Searching rule.no_fit f d 1 [] ws
  s = looked_over rule f d ws surveys.looks

  survey_adds : Adds σ0 σ1 (MaySearch d) ws
  survey_adds = adds_under surveys.adds (λ v l stood met. tt)

  deed_at : (v : View) (l : Whole) → σ0.stands v l → KnowsDeed best.page d (ws ++ v)
  deed_at v l stood = surveys.outcome.deed v (surveys.adds.agreed v l stood tt)

  pub best_can : CanCall σ0 (MaySearch d) → CanCall σ1 (KnowsDeed best.page d)
  best_can can = can_call {C = MaySearch d} survey_adds can (λ v l stood met. deed_at v l stood)

  module _ {σ2 : Standing} {a : ℕ} (claim : Adds σ1 σ2 (KnowsDeed best.page d) (made (TakeRight best.page d) a ∷ [])) where
    abbrev m : Made
    m = made (TakeRight page d) a

    abbrev claimed : List Made
    claimed = m ∷ ws

    pub best_claim_adds : Adds σ0 σ2 (MaySearch d) (made (TakeRight best.page d) a ∷ surveys.steps)
    best_claim_adds = adds_call {D = KnowsDeed page d} survey_adds claim (λ v l stood met. deed_at v l stood)

    pub best_claim_quiet : AreQuiet (made (TakeRight best.page d) a ∷ surveys.steps)
    best_claim_quiet = (λ k e. refl, s.quiet)

    abbrev tries_page : (serve : List Made) → TriesPage f ranks d page (serve ++ claimed)
    tries_page serve = record { surveyed = ws; looks = surveys.looks; rank = best.rank; best = surveys.outcome; claim = a; serve = serve; steps_are = refl }

    -- another actor was first
    pub best_lost : has_bit a (best.page % 64) ≡ false → TriesBest rule ranks tells d σ0 σ2 None
    best_lost bit =
        let now : Searching rule.no_fit f d 1 [] claimed = vain_searching rule f d 1 [] (m ∷ []) ws
        (record { rights = claim_rights page d a false bit; quiet = λ k e. refl }, tt) s in record {
          steps = claimed;
          adds = best_claim_adds;
          searches = now.searches;
          few = omega (arith, surveys.few);
          outcome = record { still = now.still; quiet = now.quiet; why = inr (record { page = page; tries = tries_page []; missed = inl bit }) };
          told = λ t v l stood met. tt;
        }

    module _ (bit : has_bit a (best.page % 64) ≡ true) where
      -- The claim got the right.
      gets : GetsRight page (TakeRight page d) a
      gets = GetsRight.Claims d a bit

      -- So the page is ready to serve.
      got : Leads f (MaySearch d) (IsReady page d) claimed
      got = ready f d page m ws gets (λ v met. met.clear) s.still (λ v agreed. knows_still f d page (m ∷ []) (ws ++ v) (agreed.0, tt)
          (surveys.outcome.deed v agreed.1))

      may_serve : (v : View) (l : Whole) → σ0.stands v l → MaySearch d v → MayServe page d (claimed ++ v)
      may_serve v l stood met = (got.from v met (best_claim_adds.agreed v l stood met)).may

      pub best_can_serve : CanCall σ0 (MaySearch d) → CanCall σ2 (MayServe best.page d)
      best_can_serve can = can_call {C = MaySearch d} best_claim_adds can may_serve

      module _ {σ3 : Standing} where
        serve_at : (answer : Option F) (serve : ServesPage rule page d σ2 σ3 answer) → ServeSteps rule f page d serve.steps answer
        serve_at answer serve = subst (λ (seat : Seat). ServeSteps rule seat.profile page d serve.steps answer) best_claim_adds.seat_is serve.serves

        -- nothing fits any more
        pub best_left : ServesPage rule best.page d σ2 σ3 None → TriesBest rule ranks tells d σ0 σ3 None
        best_left serve =
            let steps = serve_at None serve in let zs : List Made = serve.steps in let left = steps.outcome in
            let lacking : Leads f (MaySearch d) (λ v w. IsReady page d v w × (has_right v page ≡ false)) claimed =
            record { from = λ v met agreed. (got.from v met agreed, surveys.outcome.lacks v agreed.1) } in record {
              steps = zs ++ claimed;
              adds = adds_call {D = MayServe page d} best_claim_adds serve.adds may_serve;
              searches = served_search page zs claimed steps.only steps.due (inl gets) (got_search f d page m ws gets s.searches);
              few = omega (arith, surveys.few, steps.short, length-append zs claimed);
              outcome = record {
                still = leads_then (Does nothing) lacking left.leaves (λ v w met r. r.0.may) (λ v w u r b. got_left page r.1 r.0.got b);
                quiet = always_both (λ n before. IsQuiet n) (λ n before. IsQuiet n) zs claimed (λ n before h. h) left.quiet best_claim_quiet;
                why = inr (record { page = page; tries = tries_page zs; missed = inr (left.unfit claimed (got_before f d page m ws gets (s.untouched page))) });
              };
              told = λ t v l stood met. tt;
            }

        -- it serves
        pub best_served : {found : F} → IsValid σ0.seat.profile → IsAntitone rule.no_fit → IsOfGrains ranks
            → ((v : View) (l : Whole) → tells ≡ true → σ3.stands v l → Legal σ3.seat.profile l)
            → ((v : View) (l : Whole) → tells ≡ true → σ0.stands v l → part σ0.seat.actor l ≡ v)
            → ServesPage rule best.page d σ2 σ3 (Some found) → TriesBest rule ranks tells d σ0 σ3 (Some (record { page = best.page; found = found }))
        best_served {found} valid fewer alike told parts serve =
            let steps = serve_at (Some found) serve in let zs : List Made = serve.steps in
            let few : FewEvents f d rule.events (zs ++ claimed) = λ k v agreed.
            let few : length (events_by k v (zs ++ claimed)) ≤ rule.events =
            subst (λ es. length es ≤ rule.events) (sym (events_after_quiet k v zs claimed best_claim_quiet)) (steps.few k (claimed ++ v)) in
            (omega (arith, few), λ known. few) in
            let adds : Adds σ0 σ3 (MaySearch d) (zs ++ claimed) = adds_call {D = MayServe page d} best_claim_adds serve.adds may_serve in
            let searches = served_search page zs claimed steps.only steps.due (inl gets) (got_search f d page m ws gets s.searches) in
            let outcome = finds f d page m ws gets rule zs got (s.untouched page) found (FromSurvey f ranks d page) steps surveys.outcome.page
            (record { tries = tries_page zs; got = bit; no_deed = deeds_serves zs claimed steps.only.kinds ∙ no_deeds claimed best_claim_quiet }) few
            (inl (λ k e. refl)) s.quiet s.searches (λ v agreed. never_got page ws (s.lacked page (unmarked page))) in record {
              steps = zs ++ claimed;
              adds = adds;
              searches = searches;
              few = omega (arith, surveys.few, steps.short, length-append zs claimed);
              outcome = outcome;
              told = λ t v l stood met.
                  let legal = legal_after adds (λ w n. told w n t) v l stood met in let same : v ≡ part σ0.seat.actor l = sym (parts v l t stood) in
                  best_offered f σ0.seat.actor l ranks alike d rule page (rule.kept found) (zs ++ claimed) valid fewer legal searches
                  (subst (MaySearch d) same met) (subst (λ w. Agreed f w (zs ++ claimed)) same (adds.agreed v l stood met)) outcome.choice outcome.shows;
            }

-- ---- where the try came to nothing
module _ {F : Type 0} {rule : Rule F} {ranks : Measure} {tells : Bool} {d : Directory} {σ σ1 : Standing} (tries : TriesBest rule ranks tells d σ σ1 None) where
  abbrev xs : List Made
  xs = tries.steps

  -- what the search that follows asks: no event was made, and what was known of deeds is known still
  pub can_go_on : {n spare spare' : ℕ} → CanCall σ (RankRoom σ.seat.profile d n spare)
      → ((v : View) (l : Whole) → σ.stands v l → spare + length (events_of σ.seat.actor v) ≡ σ.seat.room)
      → ((v : View) (l : Whole) → σ1.stands v l → spare' + length (events_of σ1.seat.actor v) ≡ σ1.seat.room)
      → CanCall σ1 (SearchRoom σ1.seat.profile d n spare')
  can_go_on {n} {spare} {spare'} can law law' =
      let keep = λ (more : ℕ) (fits : more ≤ spare). room_kept {C = MaySearch d} more tries.adds (rank_can can) tries.outcome.quiet law law' fits in
      search (arith, can_call, adds_under, cases_eq, deed_stays, still_clear, tries.adds.agreed)

  -- its parts are those of the try
  pub falls_back : {Goes : Standing → Type 0} → Goes (having_made σ (MayRank d) tries.steps) → FallsBack rule.no_fit rule.steps ranks d σ Goes
  falls_back goes = search arith

  -- ---- what is said of the desk then is said of the one that made these steps
  abbrev pub before : Standing
  before = having_made σ (MayRank d) tries.steps

  -- the state after the try is the one that it adds to
  pub stood_then : (v : View) (l : Whole) → StoodBefore σ (MayRank d) tries.steps v l → σ1.stands v l
  stood_then v l b = search arith

  pub adds_then : {σ2 : Standing} {C : View → Type 0} {ys : List Made} → Adds σ1 σ2 C ys → Adds (having_made σ (MayRank d) tries.steps) σ2 C ys
  adds_then {σ2} {C} {ys} adds = search (arith, stood_then)

  pub searches_then : {σ2 : Standing} {answer : Result (Served F) NoRoom} → Searches rule tells d σ1 σ2 answer
      → Searches rule tells d (having_made σ (MayRank d) tries.steps) σ2 answer
  searches_then {σ2} {answer} searches = search (arith, adds_then, stood_then)

-- For callers of a search: what it found, and the page that is left at once.
-- ---- what was found
-- it is kept, and none of its grains was held
pub record KeepsNew {Found : Type 0} (rule : Rule Found) (d : Directory) (served : Served Found) (v w : View) : Type 0 where
  pub found : KeepsFound rule d served v w
  pub apart : (g : ℕ) → ((served.page == g / 256) && rule.kept served.found (g % 256)) ≡ true → holds v g ≡ false

-- a page that was chosen, however it was
pub finds_call : {Found : Type 0} (rule : Rule Found) (d : Directory) {Choice : List Made → Type 0} {σ σ1 : Standing} (served : Served Found)
    {steps : List Made}
    → Adds σ σ1 (MaySearch d) steps → Finds rule σ.seat.profile d Choice steps served → Calls σ σ1 (MaySearch d) (KeepsNew rule d served) steps
finds_call rule d served adds finds = search (arith, and_parts, false_from_ne_true, true≢false, eqb-true)

-- A page that a search found is a new one of its actor.
pub found_call : {Found : Type 0} (rule : Rule Found) (d : Directory) {tells : Bool} {σ σ1 : Standing} (served : Served Found)
    (searches : Searches rule tells d σ σ1 (Ok served))
    → Calls σ σ1 (MaySearch d) (KeepsNew rule d served) searches.steps
found_call rule d served searches = finds_call rule d served searches.adds searches.outcome

-- ---- what was found, named otherwise
-- the same choice, by what has other names
abbrev pub named : {A B : Type 0} → Choice A → (Readings → B → Type 0) → (B → ℕ → Bool) → Choice B
named choice chosen kept = record { asked = choice.asked; kind = choice.kind; no_fit = choice.no_fit; chosen = chosen; kept = kept }

module _ {A B : Type 0} (choice : Choice A) (chosen : Readings → B → Type 0) (kept : B → ℕ → Bool) (page : ℕ) (a : A) (b : B)
    (same : (g : ℕ) → g < 256 → choice.kept a g ≡ kept b g) where
  takes_as : (steps : List Made) → Since (GetsHere page) (λ m before. TakesKept (choice.kept a) page m) steps
      → Since (GetsHere page) (λ m before. TakesKept (kept b) page m) steps
  takes_as [] none = none
  takes_as (m ∷ steps) (inl got) = inl got
  takes_as (m ∷ steps) (inr so) = inr ((λ word mask g is here. sym (same (g % 256) (omega arith)) ∙ so.0 word mask g is here), takes_as steps so.1)

  -- What was found is what has the same grains, where that was chosen by the same readings.
  pub finds_as : {f : Profile} {d : Directory} {So How : List Made → Type 0} {steps : List Made}
      → (finds : Finds (choosing choice) f d So steps (served_by page a)) → chosen finds.serves.readings b → How steps
      → Finds (choosing (named choice chosen kept)) f d How steps (served_by page b)
  finds_as {steps = steps} finds this how = search (arith, does_as, takes_as)

-- ---- the page is left
-- what became of the grains, and of the page's right
abbrev pub with_right : (ℕ → Fate) → ℕ → Fate → Effect
with_right grains page right = record { grains = grains; rights = λ q. if page == q then right else Kept; clears = λ q. Kept }

-- A page that was got with some grains, and left, is the actor's no longer.
pub left_after : {v w u : View} (grains : ℕ → Fate) (page : ℕ) → Does (with_right grains page Gained) v w → Does (on_page page Lost Kept) w u
    → Does (with_right grains page Lost) v u
left_after {v} {w} {u} grains page a b = does_as _ (does_then a b) (λ g. inl refl) (λ q. (grind arith)) (λ q h. subst (λ t. ClearAfter t q v u) (kept_kept _) h)
