-- The claim of one page: its right and its grains, and how it is left.
use Rattle.std.proofs.Common.{◌≡◌, ℕ, ◌==◌, Bool, true, false, if◌then◌else◌, [], ◌∷◌, ◌++◌, inl, refl, ◌∙◌, subst, arith, length-append, ap, append_assoc, ◌⊎◌}
use Rattle.std.proofs.Common.{◌+◌, ◌*◌, ◌/◌, ◌%◌, ◌<◌, ◌≤◌, ◌&&◌, List, inr, sym, true≢false, ◌≢◌, length, Some, None, MatchBool, eqb-true, eq-eqb, ne_eqb}
use Rattle.std.proofs.{Common.append-nil, lemmas.Bool.{eqb-false, cases_eq, cases_Bool, and_parts, and_from}, Math.Bool.and-true}
use Rattle.pas_profile.specs.{declared.{directory.Directory.Directory, profile.Profile.Profile, event.Event.Event, word.Word.Word}, Directories.deed_word_of}
use Rattle.pas_profile.{specs.Profiles.IsPage, proofs.Codecs.deed_word_of-positive}
use Rattle.pas_bits.{specs.{declared.mask.Mask4.Mask4, Masks.{is_set, AllSetBelow, IsLowestClear}}, proofs.Words.at_word}
use Rattle.pas_rights.specs.{Leaves.LosesHere, Puts.masked, Takes.{GetsGrains, TakesMask, takes}, Words.{words, full}, Claims.Claims, PutsBack.giving_back}
use Rattle.pas_rights.{specs.PutsBack.{taking_grains, GivesDuly, MayPutAndLeave, PutsAndLeaves}, proofs.Puts.{due_none, put_and_leave_due, puts_kinds}}
use Rattle.pas_rights.proofs.{Puts.{takes_only, takes_on, takes_keep, takes_few, takes_right, takes_leave, takes_got, takes_read}, Orders.{full_set, full_word}}
use Rattle.pas_rights.proofs.Orders.{keeps_by}
use Rattle.pas_steps.specs.{Calls.{Calls, Kept, Lost, later, Does, ClearAfter, Gained, now, Fate, nothing}, Desks.{Standing, CanCall, AnyView, Makes, Adds}}
use Rattle.pas_steps.specs.{Desks.made, Frames.{IsOnPage, KeepsRight}, Kinds.{Putting, Taking, kind_of, is_in, Kinds, LookDeed, Deeding, Only, apart, showing}}
use Rattle.pas_steps.specs.{Kinds.within, Views.{View, has_right, holds, KnowsDeed, deed_after, known_deed}, Evidence.{GetsHere, ShowsHere, KeptHere}}
use Rattle.pas_steps.specs.{Evidence.{ReadsDeed, GetsRight}, Past.{Once, Since, Always}, Agreement.Agreed, Events.{with_event, events_by}}
use Rattle.pas_steps.{specs.declared.step.{Made.Made, Step.{Step, TheVariants.{Look, Deed, TakeRight}}}, proofs.Apart.{unstamped_same, only_both, only_within}}
use Rattle.pas_steps.proofs.{Apart.{no_events, holds_same}, Called.{call_as, call_then, next_call, call_knows}, Calls.{does_as, does_then, kept_first}}
use Rattle.pas_steps.proofs.{Calls.{does_on_page, leads_as, leads_at, leads_idly, owes_over, unexamined_over}, Frames.{looks_read, right_reads, deed_stays}}
use Rattle.pas_steps.proofs.{Frames.{knows_still, rights_stay, events_append}, Past.{always_both, always_pair, once_later, once_earlier, always_map, once_map}}
use Rattle.pas_steps.proofs.{Unknown.{unknown_no_more, unknown_less}, Evidence.deed_known, Adding.{adds_none, adds_step, adds_call, adds_under, agreed_first}}
use Rattle.pas_steps.proofs.Adding.{agreed_later}
use Rattle.pas_large.specs.Pages.{OnceAfter, TookPage, TakesPage, getting, DeedsOn, OnlyDeedsShow, GetsPage, MayClaim, getting_old, claiming, claiming_old}
use Rattle.pas_large.specs.{Pages.{IsClaimed, ClaimsPage, GetsRightOf, LosesRightOf}, Evidence.{BrokenHere, TakenWholeHere, LostRightHere, LostHere}}
use Rattle.pas_large.{specs.{Evidence.{DeedsBelow, DeedsRise, MissedHere}, declared.claiming.Claimed.Claimed}, proofs.Left.{deeds_none, deeds_both, parks_none}}
use Rattle.pas_large.proofs.Left.{parks_kept, parks_both, nothing_held}
use Rattle.pas_search.{specs.Serving.{MayServe, HoldsNone, GotBefore, right_of}, proofs.PagesThatServe.{duly_none, duly_on}}
use Rattle.pas_scan.{specs.{Runs.page_looks, Usable.{OfHere, ReadUsable, MakesNoDeedHere, LeftAlone}}, proofs.LeftPages.left_alone_by}
use Rattle.pas_core.proofs.Deeds.{looked}

-- ---- all grains of a page of a run: four takes, and where some grain wasn't free, what was got is put back and the page is left
since_map : (P P' Q : Made → List Made → Type 0) (xs : List Made) → ((m : Made) (before : List Made) → P m before → P' m before) → Since P Q xs → Since P' Q xs
since_map P P' Q [] f h = h
since_map P P' Q (m ∷ xs) f (inl h) = inl (f m xs h)
since_map P P' Q (m ∷ xs) f (inr h) = inr (h.0, since_map P P' Q xs f h.1)

-- at each later step Q holds, by what is known of it and of the steps before it
pub since_more : (P Q R : Made → List Made → Type 0) (ys xs : List Made) → ((m : Made) (b : List Made) → R m b → Always R b → Q m (b ++ xs)) → Always R ys
    → Since P Q xs → Since P Q (ys ++ xs)
since_more P Q R [] xs f all h = h
since_more P Q R (m ∷ ys) xs f all h = inr (f m ys all.0 all.1, since_more P Q R ys xs f all.1 h)

-- What held once in the later steps of a call, after its earlier ones, held once in all of them.
pub after_more : (P : Made → List Made → Type 0) (ys zs xs : List Made) → OnceAfter (zs ++ xs) P ys → OnceAfter xs P (ys ++ zs)
after_more P ys zs xs h = once_earlier (λ m b. P m (b ++ (zs ++ xs))) (λ m b. P m (b ++ xs)) ys zs (λ m b x. subst (P m) (sym (append_assoc b zs xs)) x) h

-- ---- all grains that were free were got, by four takes
module _ (d : Directory) (page : ℕ) (got : Mask4) {σ σ1 : Standing} (taken : TakesMask page full σ σ1 got) where
  abbrev answers : ℕ → ℕ
  answers = words taken.answers

  abbrev ts : List Made
  ts = takes page (words full) (words taken.answers) 4

  ts_due : Always GivesDuly ts
  ts_due = due_none (Taking ∷ []) ts refl (takes_only page (words full) answers 4)

  ts_read : (before : List Made) → GotBefore page before → (word : ℕ) → word < 4
      → Since (ShowsHere page word (is_set taken.answers)) (KeptHere page) (ts ++ before)
  ts_read before met word lt = search (arith, takes_read, at_word, full_word)

  take_call : Calls σ σ1 (MayServe page d) (GetsGrains (masked page got)) ts
  take_call = call_as (GetsGrains (masked page got)) taken.calls (λ v met. met.right) (λ v w met gets. gets)

  set_read : (x : ℕ) → is_set got x ≡ true → is_set taken.answers x ≡ true
  set_read x h = (and_parts (is_set taken.answers x) (is_set full x) (sym (taken.got_is x) ∙ h)).0

  -- ---- all grains of the page were
  module _ (all : AllSetBelow got 256) where
    on_page : (g : ℕ) → masked page got g ≡ (page == g / 256)
    on_page g = ap (λ t. (page == g / 256) && t) (all (g % 256) (omega arith)) ∙ and-true (page == g / 256)

    -- Grains that were got make the page taken.
    took : (v w : View) → GetsGrains (masked page got) v w → TookPage page v w
    took v w gets = search (arith, does_as, on_page, eq-eqb)

    -- Takes that got all grains of a page keep it.
    pub keeps_all : TakesPage d page σ σ1 true
    keeps_all = record {
      steps = ts;
      adds = take_call.adds;
      on = takes_on page (words full) answers 4;
      kinds = only_within (Taking ∷ []) taking_grains ts refl (takes_only page (words full) answers 4);
      due = ts_due;
      few = let few = takes_few page (words full) answers 4 in omega (arith, few);
      outcome = record {
        few = takes_few page (words full) answers 4;
        leads = record { from = λ v met agreed. took v (ts ++ v) (take_call.leads.from v met agreed) };
        keeps = takes_keep page (words full) answers 4;
        whole = λ before met word lt. since_map _ (TakenWholeHere page word) (KeptHere page) (ts ++ before) (λ m before h. ((h.0, λ b lt'. sym (h.2 b lt') ∙ set_read (64 * word + b) (all (64 * word + b) (omega (arith, lt, lt')))), h.1)) (ts_read before met word lt);
      };
    }

  -- ---- some grain wasn't
  took_call : Calls σ σ1 (MayServe page d) (λ v w. GetsGrains (masked page got) v w × KnowsDeed page d w) ts
  took_call = call_knows page d take_call (λ v met. met.deed)

  -- what the takes got is held, and they kept the right
  may_put_back : (v : View) → MayServe page d v → GetsGrains (masked page got) v (ts ++ v) × KnowsDeed page d (ts ++ v)
      → MayPutAndLeave page d (masked page got) (ts ++ v)
  may_put_back v met gets = search arith

  -- Grains that were taken of a page may be put back, and the page be left.
  pub can_put : CanCall σ (MayServe page d) → CanCall σ1 (MayPutAndLeave page d (masked page got))
  can_put can = next_call took_call can may_put_back

  module _ {σ2 : Standing} (back : PutsAndLeaves page d got σ1 σ2) (x : ℕ) (clear : IsLowestClear got x) where
    -- what was got is lost again
    again : (t had : Bool) → (t ≡ true → had ≡ false)
        → (later (if t then Gained else Kept) (if t then Lost else Kept) ≡ Kept)
        ⊎ ((had ≡ false) × (now (later (if t then Gained else Kept) (if t then Lost else Kept)) false ≡ false))
    again t had none = grind arith

    left_call : Calls σ σ2 (MayServe page d) (Does (right_of page Lost)) ((back.after ++ back.puts) ++ ts)
    left_call = call_then (Does (right_of page Lost)) took_call back.calls may_put_back
        (λ v met gets back. does_as _ (does_then gets.0.does back) (λ g. again (masked page got g) (holds v g) (gets.0.apart g)) (λ q. kept_first _) (λ q h. h))

    puts_keep : KeepsRight page back.puts
    puts_keep = keeps_by page (Putting ∷ []) back.puts refl (puts_kinds page got 4 back.puts back.put_order)

    -- The page was broken after its right was got.
    broken : (before : List Made) → GotBefore page before → OnceAfter before (BrokenHere page) ((back.after ++ back.puts) ++ ts)
    broken before met =
        let xs = ts ++ before in let right = takes_right page (words full) answers 4 before met.right in let kept = rights_stay _ xs page puts_keep right in
        after_more (BrokenHere page) (back.after ++ back.puts) ts before (after_more (BrokenHere page) back.after back.puts xs
        (once_map (LosesHere page) (λ m b. BrokenHere page m (b ++ (back.puts ++ xs))) back.after (λ m b h. record {
          left = h.0;
          kept = right_reads page b (back.puts ++ xs) (looks_read b h.1) ∙ kept;
          got = once_later (GetsHere page) b (back.puts ++ xs) (once_later (GetsHere page) back.puts xs (once_later (GetsHere page) ts before met.got));
          readings = is_set taken.answers;
          none = λ all. true≢false (sym (taken.got_is x ∙ and_from (is_set taken.answers x) (is_set full x) (all x clear.within) (full_set x clear.within)) ∙ clear.clear);
          read = λ word lt. let shows = ShowsHere page word (is_set taken.answers) in
              search (arith, since_more, right_reads, looks_read, rights_stay, puts_keep, ts_read);
        }) back.left))

    -- of what was taken nothing is held
    all_back : (before : List Made) → HoldsNone page before → HoldsNone page (((back.after ++ back.puts) ++ ts) ++ before)
    all_back before none g at = ap (λ s. holds s g) (append_assoc (back.after ++ back.puts) ts _) ∙ nothing_held page d got back _ g (λ other. takes_leave page full _ got taken.got_is g before other ∙ none g at)

    -- Takes that missed a grain, after which all was put back and left, leave the page broken.
    pub leaves_broken : TakesPage d page σ σ2 false
    leaves_broken = record {
      steps = (back.after ++ back.puts) ++ ts;
      adds = left_call.adds;
      on = always_both _ (λ m before. IsOnPage page m.step) (back.after ++ back.puts) ts (λ m before h. h) back.on (takes_on page (words full) answers 4);
      kinds = only_both taking_grains _ ts (only_within giving_back taking_grains _ refl back.kinds) (only_within (Taking ∷ []) taking_grains ts refl (takes_only page (words full) answers 4));
      due = put_and_leave_due page d got ts (takes_got page full taken.answers got taken.got_is) ts_due back;
      few = let n = length-append (back.after ++ back.puts) ts in let b = takes_few page (words full) answers 4 in omega (arith, n, back.few, b);
      outcome = record { leads = left_call.leads; lacks = λ before. ap (λ s. has_right s page) (append_assoc (back.after ++ back.puts) ts _) ∙ back.lacks _; none = all_back; broken = broken };
    }

-- ---- the right of a page of a run: a look at its deed word, and a claim or a deed
-- a deed that was read is known
read_here : (p : ℕ) (a known : ℕ) → (if p == p then a else known) ≡ a
read_here p a known = ap (λ t. if t then a else known) (eq-eqb p p refl)

known_here : (s : Step) (a p known : ℕ) (d : Directory) → ReadsDeed p s → a ≡ deed_word_of d → deed_after s a p known ≡ deed_word_of d
known_here s a p known d h e = search (arith, read_here, ne_eqb, deed_word_of-positive)

-- A page that was read as of a directory is known to be so.
pub known_of : (f : Profile) (d : Directory) (p : ℕ) (xs : List Made) (v : View) → Agreed f v xs → Once (OfHere d p) xs → KnowsDeed p d (xs ++ v)
known_of f d p [] v agreed h = absurd h
known_of f d p (m ∷ xs) v agreed (inl h) = known_here m.step m.answer p (known_deed (xs ++ v) p) d h.0 h.1
known_of f d p (m ∷ xs) v agreed (inr h) = knows_still f d p (m ∷ []) (xs ++ v) (agreed.0, tt) (known_of f d p xs v agreed.1 h)

abbrev pub deed_look : ℕ → ℕ → Made
deed_look page a = made (Look (Word.Deed page)) a

-- ---- both steps
module _ {σ σ1 : Standing} (deeds : Bool) (d : Directory) (page a : ℕ) (m : Made) (adds : Adds σ σ1 AnyView (m ∷ deed_look page a ∷ []))
    (on : IsOnPage page m.step) (kind : is_in getting (kind_of m.step) ≡ true) where
  abbrev pair : List Made
  pair = m ∷ deed_look page a ∷ []

  -- this becomes of the right, and of nothing else
  pair_does : (r : Fate) (v : View) → Agreed σ.seat.profile v pair → has_right (pair ++ v) page ≡ now r (has_right v page)
      → Does (right_of page r) v (pair ++ v)
  pair_does r v agreed right =
      let kinds : Only getting pair = (kind, (refl, tt)) in
      let does = does_on_page σ.seat.profile page r Kept getting refl refl pair v kinds (on, (IsOnPage.Looks (Word.Deed page), tt)) agreed right
      (λ is. search (arith, unstamped_same, owes_over, unexamined_over)) in
      does_as (right_of page r) does (λ x. inl refl) (λ q. refl) (λ q h. subst (λ t. ClearAfter t q v (pair ++ v)) (looked (page == q) Kept) h)

  pair_outcome : (got : Bool) → ((v : View) → has_right (pair ++ v) page ≡ now (if got then Gained else Kept) (has_right v page))
      → (got ≡ true → (v : View) → Agreed σ.seat.profile v pair → KnowsDeed page d (pair ++ v)) → (got ≡ true → GetsRight page m.step m.answer)
      → (got ≡ false → (x : Directory) → m.step ≡ Deed page x → m.answer ≡ 0 → ⊥)
      → (got ≡ false → deeds ≡ false → LostRightHere d page m (deed_look page a ∷ []))
      → (got ≡ false → (before : List Made) (v : View) → LeftAlone page before → ReadUsable d page before → Agreed σ.seat.profile v (pair ++ before)
      → LostHere d page m (deed_look page a ∷ before))
      → MatchBool got (GetsRightOf σ.seat.profile d page pair) (LosesRightOf deeds σ.seat.profile d page pair)
  pair_outcome true right known gets undeeded missed lost = record {
    leads = record { from = λ v met agreed. let does = pair_does _ v agreed (right v) in record { does = does; may = record { right = right v; deed = known refl v agreed; clear = does.clear _ (met.clear.on _) } } };
    got = λ before alone. record { right = right before; got = inl (gets refl); none = λ g at. holds_same getting refl g pair before (kind, (refl, tt)) ∙ alone.none g at; newest = gets refl };
  }
  pair_outcome false right known gets undeeded missed lost = record {
    leads = record { from = λ v met agreed. does_as nothing (pair_does Kept v agreed (right v)) (λ x. inl refl) (λ q. looked (page == q) Kept) (λ q h. h) };
    alone = record { right = right []; none = λ g at. holds_same getting refl g pair [] (kind, (refl, tt)); parks = parks_none getting _ pair refl (kind, (refl, tt)); deeds = (undeeded refl, ((λ x e z. cc), tt)) };
    missed = λ none. inl (inr (inl (missed refl none)));
    lacks = λ before none. right before ∙ none;
    lost = λ may before v alone usable agreed. inl (lost refl before v alone usable agreed);
  }

  pair_gets : (got : Bool) → (deeds ≡ false → Only getting_old pair) → (deeds ≡ false → got ≡ true → Once (OfHere d page) pair) → DeedsOn d page (m ∷ [])
      → OnlyDeedsShow σ.seat.profile pair → MatchBool got (GetsRightOf σ.seat.profile d page pair) (LosesRightOf deeds σ.seat.profile d page pair)
      → GetsPage deeds d page σ σ1 got
  pair_gets got old of made shows outcome = record {
    steps = pair;
    adds = adds;
    on = (on, (IsOnPage.Looks (Word.Deed page), tt));
    kinds = (kind, (refl, tt));
    old = old;
    of = of;
    few = omega arith;
    made = (made.0, (λ p e same z. cc, tt));
    rise = ((λ p e same z. ((λ q x other y. cc), tt)), ((λ p e same z. cc), tt));
    shows = shows;
    outcome = outcome;
  }

-- ---- the claim of a page whose deed word was read as the directory's
pub claim_gets : {σ σ1 σ2 : Standing} (deeds : Bool) (d : Directory) (page a : ℕ) → a ≡ deed_word_of d → Makes σ σ1 (Look (Word.Deed page)) a → (got : Bool)
    → Claims page d σ1 σ2 got → GetsPage deeds d page σ σ2 got
claim_gets {σ} {σ1} {σ2} deeds d page a is look got h =
    let m : Made = made (TakeRight page d) h.answer in let f : Profile = σ.seat.profile in let known = λ (v : View). read_here page a _ ∙ is in
    let adds = adds_call {D = KnowsDeed page d} (adds_step adds_none look (λ v l stood met. tt)) h.calls.adds (λ v l stood met. known v) in
    pair_gets deeds d page a m adds (IsOnPage.Claims d) refl got (λ none. (refl, (refl, tt))) (λ none gets. inr (inl (ReadsDeed.Looks, is)))
    ((λ p e same z. cc), tt) (λ k v agreed. let still = unknown_no_more f (m ∷ deed_look page a ∷ []) v agreed in omega (arith, still))
    (pair_outcome deeds d page a m adds (IsOnPage.Claims d) refl got (λ v. (search (arith, eq-eqb)))
    (λ e v agreed. knows_still f d page (m ∷ []) _ (agreed.0, tt) (known v)) (λ e. GetsRight.Claims d h.answer (sym h.got_is ∙ e)) (λ e x same z. cc)
    (λ e none. (refl, sym h.got_is ∙ e, refl, inl ((λ x. cc), tt)))
    (λ e before v alone usable agreed. inl (refl, sym h.got_is ∙ e, alone.right, inl ((λ e. cc), alone.parks))))

-- ---- the deed of a page whose deed word was read as another word
module _ {σ σ1 σ2 : Standing} (d : Directory) (page a b : ℕ) (is : IsPage σ.seat.profile page) (ne : a ≢ deed_word_of d)
    (look : Makes σ σ1 (Look (Word.Deed page)) a) (deed : Makes σ1 σ2 (Deed page d) b) where
  abbrev both : List Made
  both = made (Deed page d) b ∷ deed_look page a ∷ []

  deed_adds : Adds σ σ2 AnyView both
  deed_adds = adds_step (adds_step adds_none look (λ v l stood met. tt)) deed (λ v l stood met. tt)

  deed_shows : OnlyDeedsShow σ.seat.profile both
  deed_shows k v agreed =
      let count = λ (t : Bool) (e : (b == 0) ≡ t). ap (λ x. length (with_event (if x then Some (Event.Deed k page d) else None) [])) e in
      elim (cases_eq b 0) [
        | inl z ↦
            let one : length (events_by k v both) ≡ 1 = count true (eq-eqb b 0 z) in
            let fewer = unknown_less _ page both v agreed is (search (arith, cases_eq, deed_stays))
            (λ none. deed_word_of-positive d (sym (deed_known page d b (deed_look page a ∷ v) z) ∙ none)) in omega (arith, one, fewer)
        | inr some ↦ let none = count false (ne_eqb b 0 some) in let still = unknown_no_more σ.seat.profile both v agreed in omega (arith, none, still)
      ]

  -- A deed that is tried on a page without one gets the page exactly where its answer is 0.
  pub deed_gets : GetsPage true d page σ σ2 (b == 0)
  deed_gets = pair_gets true d page a _ deed_adds (IsOnPage.Deeds d) refl _ (λ none. absurd (true≢false none)) (λ none. absurd (true≢false none)) ((λ p e same z. (cc, cc)), tt) deed_shows
      (pair_outcome true d page a _ deed_adds (IsOnPage.Deeds d) refl (b == 0) (λ v. (search (arith, eq-eqb)))
      (λ e v agreed. deed_known page d b (deed_look _ a ∷ v) (eqb-true b 0 e)) (λ e. GetsRight.Deeds d b (eqb-true b 0 e)) (λ e x same z. eqb-false b 0 e z) (λ e none. absurd (true≢false none))
      (λ e before v alone usable agreed. inr (refl, eqb-false b 0 e, inr (search (arith, known_of, deed_word_of-positive)), ((λ x h z. cc), alone.deeds))))

-- ---- no deed may be made: only its deed word was read
pub look_gets : {σ σ1 : Standing} (d : Directory) (page a : ℕ) → a ≢ deed_word_of d → Makes σ σ1 (Look (Word.Deed page)) a → GetsPage false d page σ σ1 false
look_gets {σ} d page a other look = record {
  steps = deed_look page a ∷ [];
  adds = adds_step adds_none look (λ v l stood met. tt);
  on = (IsOnPage.Looks (Word.Deed page), tt);
  kinds = (refl, tt);
  old = λ none. (refl, tt);
  of = λ none gets. absurd (true≢false (sym gets));
  few = omega arith;
  made = ((λ p e same z. cc), tt);
  rise = ((λ p e same z. cc), tt);
  shows = λ k v agreed. let still = unknown_no_more σ.seat.profile (deed_look page a ∷ []) v agreed in omega (arith, still);
  outcome = record {
    leads = leads_idly σ.seat.profile (LookDeed ∷ []) refl (deed_look page a ∷ []) (refl, tt);
    alone = left_alone_by (LookDeed ∷ []) refl refl page (deed_look page a ∷ []) (refl, tt);
    missed = λ none. inl (inl (ReadsDeed.Looks, other));
    lacks = λ before none. none;
    lost = λ may. absurd (true≢false (sym may));
  };
}

-- what is known of a deed afterwards was known of it before, or nothing was
pub knew_before : (f : Profile) (d : Directory) (p : ℕ) (xs : List Made) (v : View) → Agreed f v xs → (known_deed (xs ++ v) p ≡ 0) ⊎ KnowsDeed p d (xs ++ v)
    → (known_deed v p ≡ 0) ⊎ KnowsDeed p d v
knew_before f d p xs v agreed after = search (arith, cases_eq, deed_stays)

-- ---- the claim of one page of a run: its right, and then its grains
pub claim_lost : {σ σ1 : Standing} {deeds : Bool} {d : Directory} {page : ℕ} → GetsPage deeds d page σ σ1 false → ClaimsPage deeds d page σ σ1 Claimed.Lost
claim_lost get = record {
  steps = get.steps;
  adds = adds_under get.adds (λ v l stood met. tt);
  on = get.on;
  kinds = only_within getting claiming get.steps refl get.kinds;
  old = λ none. only_within getting_old claiming_old get.steps refl (get.old none);
  returns = duly_none getting get.steps refl refl get.kinds;
  few = omega (arith, get.few);
  made = get.made;
  rise = get.rise;
  shows = get.shows;
  outcome = record { still = leads_as get.outcome.leads _ (λ v w met does. does); lacks = get.outcome.lacks; alone = get.outcome.alone; missed = get.outcome.missed; lost = get.outcome.lost };
}

abbrev pub MadeHere : Directory → ℕ → Made → List Made → Type 0
MadeHere d page m before = (p : ℕ) (e : Directory) → m.step ≡ Deed p e → m.answer ≡ 0 → (e ≡ d) × (p ≡ page)

-- steps of a kind that makes no deeds and no events
pub no_deeds : (ks : Kinds) (d : Directory) (page : ℕ) (steps : List Made) → is_in ks Deeding ≡ false → Only ks steps → DeedsOn d page steps
no_deeds ks d page steps none = search (arith, always_map, true≢false)

-- ---- the order of deeds
abbrev RisesHere : Made → List Made → Type 0
RisesHere m before = (p : ℕ) (e : Directory) → m.step ≡ Deed p e → m.answer ≡ 0 → DeedsBelow p before

abbrev BelowHere : ℕ → Made → List Made → Type 0
BelowHere end m before = (p : ℕ) (e : Directory) → m.step ≡ Deed p e → m.answer ≡ 0 → p < end

-- each deed that was made is of this page or of one above it
abbrev FromHere : ℕ → Made → List Made → Type 0
FromHere first m before = (p : ℕ) (e : Directory) → m.step ≡ Deed p e → m.answer ≡ 0 → first ≤ p

abbrev pub DeedsFrom : ℕ → List Made → Type 0
DeedsFrom first = Always (FromHere first)

-- Deeds of pages below one are of pages below each higher one.
pub below_wider : (a b : ℕ) (steps : List Made) → a ≤ b → DeedsBelow a steps → DeedsBelow b steps
below_wider a b steps le = always_map (BelowHere a) (BelowHere b) steps (λ m before h p e same z. let lt = h p e same z in omega (arith, lt, le))

-- Two lists whose deeds are of pages below one are so together.
pub below_both : (end : ℕ) (ys xs : List Made) → DeedsBelow end ys → DeedsBelow end xs → DeedsBelow end (ys ++ xs)
below_both end ys xs = always_both (BelowHere end) (BelowHere end) ys xs (λ m before h. h)

below_on : (d : Directory) (page : ℕ) (steps : List Made) → DeedsOn d page steps → DeedsBelow (page + 1) steps
below_on d page steps = always_map (MadeHere d page) (BelowHere (page + 1)) steps (λ m before h p e same z. let at = (h p e same z).1 in omega (arith, at))

-- Deeds on one page are from that page on.
pub from_on : (d : Directory) (page : ℕ) (steps : List Made) → DeedsOn d page steps → DeedsFrom page steps
from_on d page steps = always_map (MadeHere d page) (FromHere page) steps (λ m before h p e same z. let at = (h p e same z).1 in omega (arith, at))

-- steps of a kind that makes no deeds
pub rise_none : (ks : Kinds) (steps : List Made) → is_in ks Deeding ≡ false → Only ks steps → DeedsRise steps
rise_none ks steps none = search (arith, always_map, true≢false)

-- Steps of kinds without a deed make deeds from any page on only, as they make none.
from_none : (ks : Kinds) (first : ℕ) (steps : List Made) → is_in ks Deeding ≡ false → Only ks steps → DeedsFrom first steps
from_none ks first steps none = search (arith, always_map, true≢false)

-- any deed is of a page from the first on
pub from_first : (steps : List Made) → DeedsRise steps → DeedsFrom 0 steps
from_first steps = always_map RisesHere (FromHere 0) steps (λ m before h p e same z. omega arith)

-- Steps of kinds without a deed make deeds below any page only, as they make none.
pub below_none : (ks : Kinds) (end : ℕ) (steps : List Made) → is_in ks Deeding ≡ false → Only ks steps → DeedsBelow end steps
below_none ks end steps none = search (arith, always_map, true≢false)

-- the later deeds are of pages from this one on, and the earlier ones of pages below it
pub rise_both : (first : ℕ) (ys xs : List Made) → DeedsRise ys → DeedsRise xs → DeedsFrom first ys → DeedsBelow first xs → DeedsRise (ys ++ xs)
rise_both first ys xs later before from below = always_both _ _ ys xs
    (λ m b h p e same z. below_both p b xs (h.0 p e same z) (below_wider first p xs (h.1 p e same z) below)) (always_pair _ _ ys later from) before

-- Two lists of which deeds alone show events show deeds alone together.
pub shows_both : (f : Profile) (ys xs : List Made) → OnlyDeedsShow f ys → OnlyDeedsShow f xs → OnlyDeedsShow f (ys ++ xs)
shows_both f ys xs later first k v agreed = search (arith, agreed_first, agreed_later, events_append, length-append, append_assoc)

-- ---- steps that make no deed, after others
pub rise_later : (ks : Kinds) (end : ℕ) (ys xs : List Made) → is_in ks Deeding ≡ false → Only ks ys → DeedsBelow end xs → DeedsRise xs → DeedsRise (ys ++ xs)
rise_later ks end ys xs none only below rise = rise_both end ys xs (rise_none ks ys none only) rise (from_none ks end ys none only) below

-- Steps that show no event, after steps of which deeds alone show some, leave it so.
shows_later : (ks : Kinds) → apart ks showing ≡ true → (f : Profile) (ys xs : List Made) → Only ks ys → OnlyDeedsShow f xs → OnlyDeedsShow f (ys ++ xs)
shows_later ks none f ys xs only = shows_both f ys xs
    (λ k v agreed. let no = ap (λ es. length es) (no_events ks none k v ys only) in let stays = unknown_no_more f ys v agreed in omega (arith, no, stays))

-- The steps are of these kinds, and their deeds rise, are below this page and alone show events.
pub record Orderly (ks : Kinds) (f : Profile) (end : ℕ) (steps : List Made) : Type 0 where
  pub kinds : Only ks steps
  pub rise : DeedsRise steps
  pub below : DeedsBelow end steps
  pub shows : OnlyDeedsShow f steps

-- Deeds below a page are below each higher one.
pub orderly_wider : {ks : Kinds} {f : Profile} (a b : ℕ) (steps : List Made) → a ≤ b → Orderly ks f a steps → Orderly ks f b steps
orderly_wider a b steps le o = record { kinds = o.kinds; rise = o.rise; below = below_wider a b steps le o.below; shows = o.shows }

-- Steps without a deed and without an event leave it so.
pub orderly_later : {ls : Kinds} (ks : Kinds) {f : Profile} {end : ℕ} (ys xs : List Made) → is_in ks Deeding ≡ false → apart ks showing ≡ true
    → within ks ls ≡ true → Only ks ys → Orderly ls f end xs → Orderly ls f end (ys ++ xs)
orderly_later {ls} ks {f} {end} ys xs none quiet among only o = record {
  kinds = only_both ls ys xs (only_within ks ls ys among only) o.kinds;
  rise = rise_later ks end ys xs none only o.below o.rise;
  below = below_both end ys xs (below_none ks end ys none only) o.below;
  shows = shows_later ks quiet f ys xs only o.shows;
}

-- Takes and puts of grains show no event.
pub shows_taking : (f : Profile) (steps : List Made) → Only taking_grains steps → OnlyDeedsShow f steps
shows_taking f steps only k v agreed = let none = ap length (no_events taking_grains refl k v _ only) in let still = unknown_no_more f _ v agreed in omega (arith, none, still)

-- ---- effects
-- what was got is lost again
pub undone : {v w u : View} (grains rights : ℕ → Bool) → ((g : ℕ) → grains g ≡ true → holds v g ≡ false) → ((p : ℕ) → rights p ≡ true → has_right v p ≡ false)
    → Does (record { grains = λ g. if grains g then Gained else Kept; rights = λ q. if rights q then Gained else Kept; clears = λ q. Kept }) v w
    → Does (record { grains = λ g. if grains g then Lost else Kept; rights = λ q. if rights q then Lost else Kept; clears = λ q. Kept }) w u → Does nothing v u
undone {v} grains rights apart lacks a b = search (arith, cases_Bool, true≢false)

module _ {deeds : Bool} {d : Directory} {page : ℕ} {σ σ1 : Standing} (get : GetsPage deeds d page σ σ1 true) where
  module _ {σ2 : Standing} {whole : Bool} (takes : TakesPage d page σ1 σ2 whole) where
    abbrev all : List Made
    all = takes.steps ++ get.steps

    just_before : GotBefore page get.steps
    just_before = subst (GotBefore page) (append-nil get.steps) (get.outcome.got [] (left_alone_by page_looks refl refl page [] tt))

    all_adds : Adds σ σ2 (MayClaim d page) all
    all_adds = adds_call {D = MayServe page d} (adds_under get.adds _) takes.adds (λ v l stood met. (get.outcome.leads.from v met (get.adds.agreed v l stood tt)).may)

    no_deed : deeds ≡ false → Always (MakesNoDeedHere page) all
    no_deed none = deeds_both page takes.steps get.steps (deeds_none taking_grains page takes.steps refl takes.kinds) (deeds_none getting_old page get.steps refl (get.old none))

    -- What the claim's steps come to is what it promises.
    claims : (claimed : Claimed) → IsClaimed deeds σ.seat.profile d page (takes.steps ++ get.steps) claimed → ClaimsPage deeds d page σ σ2 claimed
    claims claimed outcome = record {
      steps = all;
      adds = all_adds;
      on = always_both (λ m before. IsOnPage page m.step) (λ m before. IsOnPage page m.step) takes.steps get.steps (λ m before h. h) takes.on get.on;
      kinds = only_both claiming takes.steps get.steps (only_within taking_grains claiming takes.steps refl takes.kinds) (only_within getting claiming get.steps refl get.kinds);
      old = λ none. only_both claiming_old _ get.steps (only_within taking_grains claiming_old takes.steps refl takes.kinds) (only_within getting_old claiming_old get.steps refl (get.old none));
      returns = duly_on page takes.steps get.steps takes.on takes.due just_before.got (duly_none getting get.steps refl refl get.kinds);
      few = let n = length-append takes.steps get.steps in omega (arith, n, takes.few, get.few);
      rise = rise_later taking_grains (page + 1) takes.steps get.steps refl takes.kinds (below_on d page get.steps get.made) get.rise;
      made = always_both _ (MadeHere d page) takes.steps get.steps (λ m before h. h) (no_deeds taking_grains d page takes.steps refl takes.kinds) get.made;
      shows = shows_both σ.seat.profile takes.steps get.steps (shows_taking σ.seat.profile takes.steps takes.kinds) get.shows;
      outcome = outcome;
    }

  -- ---- all its grains were got
  -- what was got wasn't had
  got_lacked : (v : View) → MayClaim d page v → Agreed σ.seat.profile v get.steps → has_right v page ≡ false
  got_lacked v met agreed = met.lacks (knew_before σ.seat.profile d page get.steps v agreed (inr (get.outcome.leads.from v met agreed).may.deed))

  -- A page that was got and taken whole is claimed whole.
  pub claim_whole : {σ2 : Standing} → TakesPage d page σ1 σ2 true → ClaimsPage deeds d page σ σ2 Claimed.Whole
  claim_whole takes =
      let took = leads_at {R = TookPage page} get.adds.seat_is takes.outcome.leads in
      claims takes Claimed.Whole (record {
        few = let n = length-append takes.steps get.steps in omega (arith, n, takes.outcome.few, get.few);
        leads = record {
          from = λ v met agreed.
              let f = σ.seat.profile in let zs = takes.steps in
              let got = get.outcome.leads.from v met (agreed_later f v zs get.steps agreed) in
              let now = agreed_first f v zs get.steps agreed in
              let took = took.from (get.steps ++ v) got.may now in
              search (arith, append_assoc, does_as, does_then, took, kept_first, eqb-true, got_lacked, agreed_later, knows_still, got.does.held, took.apart);
        };
        gets = once_later (GetsHere page) takes.steps get.steps (just_before takes).got;
        of = λ none. record {
          right = rights_stay takes.steps get.steps page takes.outcome.keeps (just_before takes).right;
          of = once_later (OfHere d page) takes.steps get.steps (get.of none refl);
          got = once_later (GetsHere page) takes.steps get.steps (just_before takes).got;
          deeds = no_deed takes none;
          parks = parks_both page takes.steps get.steps (parks_kept page takes.steps takes.outcome.keeps) (parks_none getting page get.steps refl get.kinds);
        };
        right = λ before alone. ap (λ s. has_right s page) (append_assoc takes.steps _ _) ∙ rights_stay _ _ page takes.outcome.keeps (get.outcome.got before alone).right;
        whole = λ before alone word lt. rw (append_assoc takes.steps get.steps before) (takes.outcome.whole (get.steps ++ before) (get.outcome.got before alone) word lt);
      })

  -- ---- some weren't free
  pub claim_broken : {σ2 : Standing} → TakesPage d page σ1 σ2 false → ClaimsPage deeds d page σ σ2 Claimed.Broken
  claim_broken takes =
      let left = leads_at {R = Does (right_of page Lost)} get.adds.seat_is takes.outcome.leads in
      claims takes Claimed.Broken (record {
        still = search (arith, agreed_later, append_assoc, eqb-true, got_lacked, agreed_first, get.outcome.leads.from, left.from);
        lacks = λ before none. ap (λ s. has_right s page) (append_assoc takes.steps get.steps before) ∙ takes.outcome.lacks (get.steps ++ before);
        left = λ none. record {
          right = takes.outcome.lacks get.steps;
          none = takes.outcome.none get.steps (just_before takes).none;
          deeds = no_deed takes none;
          parks = inr (
            once_later (OfHere d page) takes.steps get.steps (get.of none refl),
            once_earlier _ (BrokenHere page) takes.steps get.steps (λ m b x. x) (takes.outcome.broken get.steps (just_before takes)),
          );
        };
        missed = λ none. once_earlier _ (MissedHere d page) takes.steps get.steps (λ m b x. inr (inr x)) (takes.outcome.broken get.steps (just_before takes));
        broken = λ before alone. after_more (BrokenHere page) takes.steps get.steps before (takes.outcome.broken _ (get.outcome.got before alone));
      })
