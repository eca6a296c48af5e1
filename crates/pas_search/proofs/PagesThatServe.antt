-- Which pages a call gives up, takes back and hints: those that it got, and hints after the looks that they rest on. And what it puts: what it took.
use Rattle.std.proofs.Common.{arith, ◌≡◌, ℕ, Bool, true, List, [], ◌∷◌, ◌++◌, inr, sym, ◌∙◌, subst, true≢false, suc, ◌≤◌, ◌==◌, false, if◌then◌else◌, ◌⊎◌, inl}
use Rattle.std.proofs.Common.{None, Some, refl, ap, append-nil, ◌%◌, ◌&&◌, ◌<◌, ◌≢◌, ◌+◌, ◌/◌, ◌||◌, ◌*◌, ◌-◌, length, length-append, Option, append_assoc}
use Rattle.std.proofs.{Common.{eq-eqb, eqb-true, ne_eqb}, Math.Nat.{mul-le-mul_right, suc-mul}, lemmas.Bool.{cases_Bool, cases_lt, cases_eq}}
use Rattle.pas_rights.{specs.{Puts.PutsHere, PutsBack.GivesDuly}, proofs.Puts.{giving, due_later, due_none, unparking}}
use Rattle.pas_steps.specs.Evidence.{GetsHere, GetsRight, LacksAfter, ZeroHere, OneHere, UnfitHere, Searched, ReadsEligible, ReadsDeed, DeedHere, AllDeeds}
use Rattle.pas_steps.specs.{Frames.{IsOnPage, OnlyOn, IsRead, OnlyReads, OnlyScans}, Past.{Once, Always}, Events.{events_by, event_of, events_of}}
use Rattle.pas_steps.specs.{Agreement.{Agrees, Agreed}, Clear.IsClear, Lists.Whole, Kinds.{Kinds, Offering, Parking, Unparking, Hinting, kind_of, place_of}}
use Rattle.pas_steps.specs.{Kinds.{is_in, apart, Only, unbacking, Deeding}, declared.step.{Made.Made, Step.{Step, TheVariants.{Unpark, Deed, Look, TakeRight}}}}
use Rattle.pas_steps.specs.{Views.{View, has_right, Stays, Puts, grain_move, held_after, holds, KnowsDeed, known_free, epoch_of}, Desks.{made, Seat, Standing}}
use Rattle.pas_steps.specs.{Desks.{AnyView, Adds, CanCall, Makes}, Calls.{Leads, Fate, Kept, Gained, Lost, now, nothing, ClearAfter, Does, grain_fate}}
use Rattle.pas_steps.{specs.Calls.{right_fate, opens}, proofs.{Apart.{in_apart, only_within, only_both, same_over}, Past.{always_both, always_map}}}
use Rattle.pas_steps.proofs.{Past.{always_pair, once_earlier, once_later}, Calls.{does_none, does_then, does_as, does_step, right_is, leads_then}}
use Rattle.pas_steps.proofs.{Calls.{does_after_nothing, kept_first, leads_as}, Frames.{events_append, right_own, with_few, right_on, holds_on_page}}
use Rattle.pas_steps.proofs.{Frames.{knows_still, scans_look, looks_read}, Sets.got_lost, Adding.{adds_call, can_call, agreed_first, agreed_later, adds_step}}
use Rattle.pas_steps.proofs.Evidence.{zero_before, deed_known, deed_before, unknown}
use Rattle.pas_search.specs.Kinds.{IsReturnOf, ReturnsDuly, KeepsMarks, serving, searching, OnlyServes, AreSearch, IsQuiet, AreQuiet, IsDeedOrBack, EventsAt}
use Rattle.pas_search.specs.{Kinds.{makes_deed, deeds_made}, Serving.{righted, IsUntouched, Rule, MayServe, GotBefore, right_of, served, Keeps, ReadsNoneHeld}}
use Rattle.pas_search.specs.{Serving.{ServeSteps, ServesPage}, Searches.{offered_steps, OfferedHere, Searching, MaySearch, FromOffered, FewEvents, Finds}}
use Rattle.pas_search.{specs.Searches.{GoesOn, SearchesOffered, BareRoom, SearchesBare}, proofs.ForBackEnds.{events_quiet, room_after, room_kept}}
use Rattle.pas_profile.specs.{declared.{directory.Directory.Directory, event.Event.Event, profile.Profile.Profile, word.Word.Word}, Profiles.IsPage}
use Rattle.pas_bits.specs.Bits.{has_bit}
use Rattle.pas_scan.specs.{Marks.is_marked, Rows.{row_end, row_words, words_to}, Scan.{IsFirstOffered, FindsOffered, FindsBare}}
use Rattle.pas_core.proofs.OneActor.{no_event_fails_test}

-- ---- steps of two calls
-- Two lists of steps that return duly do so together.
pub duly_both : (ys xs : List Made) → Always ReturnsDuly ys → Always ReturnsDuly xs → Always ReturnsDuly (ys ++ xs)
duly_both ys xs = always_both ReturnsDuly ReturnsDuly ys xs
    (λ m before h. ((λ page is. once_earlier (GetsHere page) (GetsHere page) before xs (λ n b gets. gets) (h.0 page is), due_later m before xs h.1)))

-- ---- kinds
abbrev pub turning_back : Kinds
turning_back = Offering ∷ Parking ∷ Unparking ∷ Hinting ∷ []

no_return : (ks : Kinds) (page : ℕ) (s : Step) → apart ks turning_back ≡ true → is_in ks (kind_of s) ≡ true → IsReturnOf page s → ⊥
no_return ks page s out is returns = true≢false (sym (grind arith) ∙ in_apart ks turning_back (place_of (kind_of s)) out is)

-- steps of other kinds
pub duly_none : (ks : Kinds) (steps : List Made) → apart ks turning_back ≡ true → apart ks giving ≡ true → Only ks steps → Always ReturnsDuly steps
duly_none ks steps out due only = search (arith, always_pair, always_map, no_return, due_none)

-- Steps of kinds that turn no page back keep its marks.
pub keeps_marks : (ks : Kinds) (page : ℕ) (steps : List Made) → apart ks turning_back ≡ true → Only ks steps → Always (KeepsMarks page) steps
keeps_marks ks page steps out = search (arith, always_map, no_return)

-- ---- pages
pub return_page : (p q : ℕ) (s : Step) → IsReturnOf q s → IsOnPage p s → q ≡ p
return_page p q s e h = grind arith

-- these steps return none but these pages
abbrev pub ReturnsIn : (ℕ → Bool) → List Made → Type 0
ReturnsIn pages = Always (λ m before. (page : ℕ) → IsReturnOf page m.step → pages page ≡ true)

-- pages that were got before
pub duly_in : (pages : ℕ → Bool) (ys xs : List Made) → ReturnsIn pages ys → Always GivesDuly (ys ++ xs) → ((p : ℕ) → pages p ≡ true → Once (GetsHere p) xs)
    → Always ReturnsDuly xs → Always ReturnsDuly (ys ++ xs)
duly_in pages [] xs within due got all = all
duly_in pages (y ∷ ys) xs within due got all = ((λ q is. once_later _ ys xs (got q (within.0 q is)), due.0), duly_in pages ys xs within.1 due.1 got all)

-- Steps on a page that the call got, which give duly, return duly.
pub duly_on : (p : ℕ) (ys xs : List Made) → OnlyOn p ys → Always GivesDuly ys → Once (GetsHere p) xs → Always ReturnsDuly xs → Always ReturnsDuly (ys ++ xs)
duly_on p [] xs on due got all = all
duly_on p (y ∷ ys) xs on due got all = (
  (
    λ q is. subst (λ r. Once (GetsHere r) (ys ++ xs)) (sym (return_page p q y.step is on.0)) (once_later _ ys xs got),
    due_later y ys xs due.0,
  ),
  duly_on p ys xs on.1 due.1 got all,
)

-- a page that was never got isn't returned
pub never_returned : (p : ℕ) (xs : List Made) → (Once (GetsHere p) xs → ⊥) → Always ReturnsDuly xs → Always (KeepsMarks p) xs
never_returned p [] never all = tt
never_returned p (m ∷ xs) never all = (λ is. absurd (never (inr (all.0.0 p is))), never_returned p xs (λ got. never (inr got)) all.1)

-- ---- after puts the page is taken back from the parked pages, and nothing else
unparks : (page : ℕ) (s : Step) → is_in unparking (kind_of s) ≡ true → IsReturnOf page s → s ≡ Unpark page
unparks page s is e = grind (arith, true≢false)

-- Steps that take a page back after grains were put on it keep its marks.
pub marks_after : (page : ℕ) (ys xs : List Made) → Only unparking ys → Once (PutsHere page) xs → Always (KeepsMarks page) xs
    → Always (KeepsMarks page) (ys ++ xs)
marks_after page [] xs only put all = all
marks_after page (y ∷ ys) xs only put all = ((λ is. (unparks page y.step only.0 is, once_later _ ys xs put)), marks_after page ys xs only.1 put all)

-- The steps of a search so far, and a page whose right the call got by its newest step: the back end leaves it, or keeps what its answer says.
-- ---- kinds
-- a search goes on with a page whose right it got
pub served_search : (p : ℕ) (ys xs : List Made) → OnlyServes p ys → Always GivesDuly ys → Once (GetsHere p) xs → AreSearch xs → AreSearch (ys ++ xs)
served_search p ys xs only due got are = search (arith, only_both, only_within, duly_on)

-- ---- events
-- the events of steps, where those before made none
pub events_after_quiet : (k : ℕ) (v : View) (ys xs : List Made) → AreQuiet xs → events_by k v (ys ++ xs) ≡ events_by k (xs ++ v) ys
events_after_quiet k v ys xs quiet = events_append k ys xs v ∙ ap (λ es. events_by k (xs ++ v) ys ++ es) (events_quiet k v xs quiet) ∙ append-nil _

serve_event : (d : Directory) (p : ℕ) (s : Step) (a : ℕ) → is_in serving (kind_of s) ≡ true → IsOnPage p s → IsQuiet (made s a) ⊎ IsDeedOrBack d p s
serve_event d p s a kind (IsOnPage.Deeds e) = absurd (true≢false (sym kind))
serve_event d p s a kind IsOnPage.Backs = inr IsDeedOrBack.Backs
serve_event d p s a kind on = inl (λ k e. refl)

-- the events of a back end's steps, and of those before
serves_events : (d : Directory) (p : ℕ) (ys xs : List Made) → OnlyServes p ys → EventsAt d p xs → EventsAt d p (ys ++ xs)
serves_events d p [] xs only rest = rest
serves_events d p (m ∷ ys) xs only rest = (serve_event d p _ _ only.kinds.0 only.on.0, serves_events d p ys xs (record { kinds = only.kinds.1; on = only.on.1 }) rest)

-- ---- deeds
quiet_deed : (s : Step) (a : ℕ) → IsQuiet (made s a) → makes_deed s a ≡ false
quiet_deed (Deed q d) a h = no_event_fails_test (a == 0) (Event.Deed 0 q d) (h 0 0)
quiet_deed s a h = refl

no_deed : (s : Step) (a : ℕ) → is_in (Deeding ∷ []) (kind_of s) ≡ false → makes_deed s a ≡ false
no_deed s a h = grind (arith, true≢false)

-- The steps of a back end make no deed.
pub deeds_serves : (ys xs : List Made) → Only serving ys → deeds_made (ys ++ xs) ≡ deeds_made xs
deeds_serves = same_over deeds_made (Deeding ∷ []) serving (λ m before h. ap (λ t. if t then suc (deeds_made before) else deeds_made before) (no_deed m.step m.answer h)) refl

-- Steps that make no event make no deed.
pub no_deeds : (ys : List Made) → AreQuiet ys → deeds_made ys ≡ 0
no_deeds [] h = refl
no_deeds (m ∷ more) h = ap (λ t. if t then suc (deeds_made more) else deeds_made more) (quiet_deed m.step m.answer h.0) ∙ no_deeds more h.1

-- ---- one step
-- of each page this becomes of its right, and nothing else changes
pub record Rights (fates : ℕ → Fate) (m : Made) : Type 0 where
  pub grains : (x : ℕ) → grain_move m.step m.answer x ≡ Stays
  pub rights : (q : ℕ) → right_fate m.step m.answer q ≡ fates q
  pub opens : (q : ℕ) → opens m.step m.answer q ≡ false
  pub kind : is_in searching (kind_of m.step) ≡ true
  pub returns : (q : ℕ) → IsReturnOf q m.step → ⊥

right_then : (fates : ℕ → Fate) (m : Made) (v : View) (q : ℕ) → Rights fates m → has_right (m ∷ v) q ≡ now (fates q) (has_right v q)
right_then fates m v q h = right_is m.step m.answer q (has_right v q) ∙ ap (λ t. now t (has_right v q)) (h.rights q)

holds_then : (fates : ℕ → Fate) (m : Made) (v : View) (x : ℕ) → Rights fates m → holds (m ∷ v) x ≡ holds v x
holds_then fates m v x h = ap (λ t. held_after t (holds v x)) (h.grains x)

does_rights : (f : Profile) (fates : ℕ → Fate) (m : Made) (v : View) → Rights fates m → Agrees f v m.step m.answer → Does (righted fates) v (m ∷ v)
does_rights f fates m v h agrees = does_as (righted fates) (does_step f m.step m.answer v (in_apart searching unbacking _ refl h.kind) agrees)
    (λ x. inl (ap grain_fate (h.grains x))) h.rights (λ q c. subst (λ t. ClearAfter (if t then Lost else Kept) q v (m ∷ v)) (h.opens q) c)

look_rights : (word : Word) (a : ℕ) → Rights (λ q. Kept) (made (Look word) a)
look_rights word a = record { grains = λ x. refl; rights = λ q. refl; opens = λ q. refl; kind = grind arith; returns = λ q h. elim h [ ] }

-- a deed or a claim gets the right where this test says so
abbrev pub gained : Bool → ℕ → ℕ → Fate
gained got p q = if got && (p == q) then Gained else Kept

-- A deed gets the right of its page where it found none, and changes nothing else.
deed_rights : (p : ℕ) (d : Directory) (a : ℕ) (got : Bool) → (a == 0) ≡ got → Rights (gained got p) (made (Deed p d) a)
deed_rights p d a got e = search arith

pub claim_rights : (p : ℕ) (d : Directory) (a : ℕ) (got : Bool) → has_bit a (p % 64) ≡ got → Rights (gained got p) (made (TakeRight p d) a)
claim_rights p d a got e = search (arith, eqb-true)

-- the right was got
gets_rights : (p : ℕ) (s : Step) (a : ℕ) → GetsRight p s a → Rights (gained true p) (made s a)
gets_rights p s a e = grind (arith, claim_rights, deed_rights, eq-eqb)

-- ---- steps that changed nothing
pub record IsVain (m : Made) : Type 0 where
  pub rights : Rights (λ q. Kept) m
  pub quiet : IsQuiet m

abbrev pub AreVain : List Made → Type 0
AreVain = Always (λ m before. IsVain m)

-- Reads alone are steps that a search makes in vain.
pub reads_vain : (steps : List Made) → OnlyReads steps → AreVain steps
reads_vain steps = always_map (λ m before. IsRead m.step m.answer) (λ m before. IsVain m) steps (λ m before is. (grind (arith, look_rights, deed_rights, ne_eqb)))

vain_leads : (f : Profile) (steps : List Made) → AreVain steps → Leads f AnyView (Does nothing) steps
vain_leads f [] vain = record { from = λ v met agreed. does_none v }
vain_leads f (m ∷ more) vain = record { from = λ v met agreed. does_then ((vain_leads f more vain.1).from v tt agreed.1) (does_rights f _ m _ vain.0.rights agreed.0) }

vain_right : (q : ℕ) (steps : List Made) (v : View) → AreVain steps → has_right (steps ++ v) q ≡ has_right v q
vain_right q [] v vain = refl
vain_right q (m ∷ more) v vain = right_then (λ q. Kept) m (more ++ v) q vain.0.rights ∙ vain_right q more v vain.1

vain_holds : (x : ℕ) (steps : List Made) (v : View) → AreVain steps → holds (steps ++ v) x ≡ holds v x
vain_holds x [] v vain = refl
vain_holds x (m ∷ more) v vain = holds_then (λ q. Kept) m (more ++ v) x vain.0.rights ∙ vain_holds x more v vain.1

-- Steps in vain get no right that wasn't there.
pub vain_lacks : (p : ℕ) (ys xs : List Made) → AreVain ys → has_right xs p ≡ false → Always (LacksAfter p) xs → Always (LacksAfter p) (ys ++ xs)
vain_lacks p [] xs vain none all = all
vain_lacks p (m ∷ more) xs vain none all = (vain_right p (m ∷ more) xs vain ∙ none, vain_lacks p more xs vain.1 none all)

vain_quiet : (steps : List Made) → AreVain steps → AreQuiet steps
vain_quiet steps = always_map (λ m before. IsVain m) (λ m before. IsQuiet m) steps (λ m before h. h.quiet)

-- such a step returns no page, and puts nothing
returns_none : (fates : ℕ → Fate) (m : Made) (before : List Made) → Rights fates m → ReturnsDuly m before
returns_none fates m before h = (
  λ q is. absurd (h.returns q is),
  (
    λ q same. absurd (h.returns q (subst (IsReturnOf q) (sym same) IsReturnOf.Hints)),
    λ q word mask g same here. let puts = ap (λ t. if t then Puts else Stays) (sym here) ∙ ap (λ s. grain_move s m.answer g) (sym same) ∙ h.grains g in cc,
  ),
)

-- Steps in vain before a search are a search with it.
pub vain_search : (ys xs : List Made) → AreVain ys → AreSearch xs → AreSearch (ys ++ xs)
vain_search ys xs vain are = record {
  kinds = always_both (λ m before. IsVain m) (λ m before. is_in searching (kind_of m.step) ≡ true) ys xs (λ m before h. h.rights.kind) vain are.kinds;
  returns = always_both (λ m before. IsVain m) ReturnsDuly ys xs (λ m before h. returns_none (λ q. Kept) m (before ++ xs) h.rights) vain are.returns;
}

offered_before : (d : Directory) (p : ℕ) (ys xs : List Made) → AreVain ys → has_right xs p ≡ false → Always (LacksAfter p) xs → Once (OneHere d p) ys
    → Once (OfferedHere d p) (ys ++ xs)
offered_before d p [] xs vain none lacks h = absurd h
offered_before d p (m ∷ more) xs vain none lacks (inl z) = inl ((z.0, z.1, right_own p more xs none ∙ z.2), vain_lacks p more xs vain.1 none lacks)
offered_before d p (m ∷ more) xs vain none lacks (inr h) = inr (offered_before d p more xs vain.1 none lacks h)

module _ {F : Type 0} (rule : Rule F) (f : Profile) (d : Directory) (next : ℕ) (marks : List ℕ) where
  -- What a search has passed by so far was searched.
  pub searched : (steps : List Made) → Searching rule.no_fit f d next marks steps → Searched rule.no_fit d next steps
  searched steps s p low high = search (arith, cases_Bool)

  -- steps that changed nothing, where the pages from `next` to below `end` were read as 0
  zeros_searching : (end : ℕ) (ys xs : List Made) → AreVain ys → Searching rule.no_fit f d next marks xs
      → ((p : ℕ) → next ≤ p → p < end → Once (ZeroHere d p) (ys ++ xs)) → Searching rule.no_fit f d end marks (ys ++ xs)
  zeros_searching end ys xs vain s zeros = record {
    still = leads_then (Does nothing) s.still (vain_leads f ys vain) (λ v w met a. tt) (λ v w u a b. does_then a b);
    searches = vain_search ys xs vain s.searches;
    quiet = always_both (λ m before. IsQuiet m) (λ m before. IsQuiet m) ys xs (λ m before h. h) (vain_quiet ys vain) s.quiet;
    untouched = λ p. (record { right = vain_right p ys xs vain ∙ (s.untouched p).right; none = λ g at. vain_holds g ys xs vain ∙ (s.untouched p).none g at });
    marked = λ p m. once_later (UnfitHere rule.no_fit p) ys xs (s.marked p m);
    zeros = λ p low high m. elim (cases_lt p next) [ inl lt ↦ once_later (ZeroHere d p) ys xs (s.zeros p low lt m) | inr ge ↦ zeros p ge high ];
    lacked = λ p m. vain_lacks p ys xs vain (s.untouched p).right (s.lacked p m);
  }

  -- Steps in vain leave a search where it is.
  pub vain_searching : (ys xs : List Made) → AreVain ys → Searching rule.no_fit f d next marks xs → Searching rule.no_fit f d next marks (ys ++ xs)
  vain_searching ys xs vain s = zeros_searching next ys xs vain s (λ p low high. absurd (omega (arith, low, high)))

-- ---- effects, one after the other
got_served : {F : Type 0} (rule : Rule F) (page : ℕ) (found : F) {v w u : View} → Does (right_of page Gained) v w → Does (served rule page found) w u
    → Does (served rule page found) v u
got_served rule page found a b = search (arith, does_as, does_then, kept_first)

pub got_left : (page : ℕ) {v w u : View} → has_right v page ≡ false → Does (right_of page Gained) v w → Does (right_of page Lost) w u → Does nothing v u
got_left page {v} lacked a b = search (arith, got_lost, eqb-true)

lacks_on : (page p : ℕ) (ys xs : List Made) → OnlyOn page ys → p ≢ page → has_right xs p ≡ false → Always (LacksAfter p) xs → Always (LacksAfter p) (ys ++ xs)
lacks_on page p [] xs h ne none all = all
lacks_on page p (m ∷ more) xs h ne none all = (right_on page p (m ∷ more) xs h ne ∙ none, lacks_on page p more xs h.1 ne none all)

-- the page may be served from
pub record IsReady (page : ℕ) (d : Directory) (v w : View) : Type 0 where
  -- A claim that got the right makes the page ready to serve.
  pub got : Does (right_of page Gained) v w
  pub may : MayServe page d w

module _ (f : Profile) (d : Directory) (page : ℕ) (m : Made) (ws : List Made) (gets : GetsRight page m.step m.answer) where
  -- The step gets this page's right, and changes nothing else.
  turns : Rights (λ q. if page == q then Gained else Kept) m
  turns = gets_rights page m.step m.answer gets

  -- A step that gets a page's right has it.
  pub got_right : (v : View) → has_right (m ∷ v) page ≡ true
  got_right v = search (arith, right_then, turns, eq-eqb)

  pub got_before : IsUntouched page ws → GotBefore page (m ∷ ws)
  got_before h = search (arith, holds_then, turns)

  -- A step that gets a page's right is one of a search.
  pub got_search : AreSearch ws → AreSearch (m ∷ ws)
  got_search are = record { kinds = (turns.kind, are.kinds); returns = (returns_none (λ q. if page == q then Gained else Kept) m ws turns, are.returns) }

  -- A page whose right was got by the newest step is ready to serve.
  pub ready : {B : View → Type 0} → ((v : View) → B v → IsClear v) → Leads f B (Does nothing) ws
      → ((v : View) → Agreed f v (m ∷ ws) → KnowsDeed page d (m ∷ (ws ++ v))) → Leads f B (IsReady page d) (m ∷ ws)
  ready clear still deed = record {
    from = λ v met agreed.
        let got = does_after_nothing (right_of page Gained) (still.from v met agreed.1) (does_rights f _ m (ws ++ v) turns agreed.0) in
        record { got = got; may = record { right = got_right (ws ++ v); deed = deed v agreed; clear = got.clear page ((clear v met).on page) } };
  }

  -- ---- the back end's steps
  module _ {F : Type 0} (rule : Rule F) (zs : List Made) (ready : Leads f (MaySearch d) (IsReady page d) (m ∷ ws)) (untouched : IsUntouched page ws) where
    -- A back end that kept something of a ready page finds it.
    pub finds : (found : F) (Choice : List Made → Type 0) → ServeSteps rule f page d zs (Some found) → IsPage f page → Choice (zs ++ (m ∷ ws))
        → FewEvents f d rule.events (zs ++ (m ∷ ws)) → IsQuiet m ⊎ IsDeedOrBack d page m.step → AreQuiet ws
        → AreSearch ws → ((v : View) → Agreed f v (m ∷ ws) → Once (GetsHere page) ws → ⊥)
        → Finds rule f d Choice (zs ++ (m ∷ ws)) (record { page = page; found = found })
    finds found Choice serve is choice few event quiet are never =
        let shows = serve.outcome.shows (m ∷ ws) (got_before untouched) in
        let kept : Leads f _ (λ w u. Keeps rule page _ w u × KnowsDeed page d u) zs = record { from = λ w may agreed. (serve.outcome.keeps.from w may agreed, knows_still f d page zs w agreed may.deed) } in
        record {
          page = is;
          keeps = leads_then _ ready kept (λ v w met r. r.may) (λ v w u r k. record { keeps = record { does = got_served rule page _ r.got k.0.does; backed = k.0.backed }; deed = k.1 });
          choice = choice;
          shows = record {
            readings = shows.readings;
            fits = shows.fits;
            took = shows.took;
            read = shows.read;
            held = leads_then (ReadsNoneHeld page shows.readings) ready shows.held (λ v w met r. r.may) (λ v w u r h g at has. h g at (r.got.held g ∙ has));
          };
          serves = serve.outcome.serves (m ∷ ws) (got_before untouched);
          marks = λ v met agreed. always_both _ _ zs _ (λ n before h is. let put = h is in (put.0, once_earlier _ _ before _ (λ x b puts. puts) put.1)) serve.outcome.marks
              (λ is. absurd (turns.returns page is), never_returned page ws (never v (agreed_later f v zs (m ∷ ws) agreed)) are.returns);
          few = few;
          events = serves_events d page zs (m ∷ ws) serve.only (event, always_map (λ m before. IsQuiet m) _ ws (λ m before q. inl q) quiet);
        }

-- a page whose right the call never had was never got
pub never_got : (p : ℕ) (xs : List Made) → Always (LacksAfter p) xs → Once (GetsHere p) xs → ⊥
never_got p [] lacks got = got
never_got p (m ∷ xs) lacks (inl gets) = search (arith, true≢false, right_then, gets_rights, eq-eqb)
never_got p (m ∷ xs) lacks (inr got) = never_got p xs lacks.1 got

-- ---- how many steps are made
offered_grows : (each words : ℕ) {a b : ℕ} → a ≤ b → offered_steps each words a ≤ offered_steps each words b
unfolding offered_steps
offered_grows each words le = let more = mul-le-mul_right (each + words + 1) le in omega (arith, le, more)

-- from the search from `next` on, which finds the page, to that from the page after it
pub offered_further : (each words : ℕ) {next page end : ℕ} → 1 ≤ page → next ≤ page → end ≤ page / 64 + words
    → offered_steps each words (next - 1) + (end - next / 64) + (each + 1) ≤ offered_steps each words page
unfolding offered_steps
offered_further each words {next} {page} {end} some le within =
    let more : suc (next - 1) * (each + words + 1) ≤ page * (each + words + 1) = mul-le-mul_right (each + words + 1) (omega (arith, some, le)) in
    omega (arith, some, le, within, more, suc-mul (next - 1) (each + words + 1))

-- the search goes on from the page after this one
few_past : (each page : ℕ) (f : Profile) (steps : List Made) → length steps ≤ offered_steps each (row_words f.pages) page
    → length steps ≤ offered_steps each (row_words f.pages) (page + 1 - 1)
few_past each page f steps few = let same : page ≡ page + 1 - 1 = omega arith in subst (λ n. length steps ≤ offered_steps each (row_words f.pages) n) same few

pub row_within : (f : Profile) (page : ℕ) → page ≤ f.pages → row_end f page ≤ page / 64 + row_words f.pages
row_within f page le = omega (arith, le)

-- ---- an offered page
module _ {F : Type 0} (rule : Rule F) (f : Profile) (d : Directory) (page : ℕ) (marks : List ℕ) (m : Made) (ws zs : List Made)
    (gets : GetsRight page m.step m.answer) (quiet : IsQuiet m) (on_m : OnlyOn page (m ∷ [])) (on : OnlyOn page zs)
    (ready : Leads f (MaySearch d) (IsReady page d) (m ∷ ws)) (s : Searching rule.no_fit f d page marks ws) where
  others_lack : (p : ℕ) → p ≢ page → is_marked marks p ≡ false → Always (LacksAfter p) (zs ++ (m ∷ ws))
  others_lack p ne mark =
      let none = (s.untouched p).right in
      lacks_on page p zs (m ∷ ws) on ne (right_on page p (m ∷ []) ws on_m ne ∙ none) (lacks_on page p (m ∷ []) ws on_m ne none (s.lacked p mark))

  others_untouched : (p : ℕ) → p ≢ page → IsUntouched p (zs ++ (m ∷ ws))
  others_untouched p ne = record {
    right = right_on page p zs (m ∷ ws) on ne ∙ right_on page p (m ∷ []) ws on_m ne ∙ (s.untouched p).right;
    none = λ g at. let away = λ (e : g / 256 ≡ page). ne (sym at ∙ e) in holds_on_page _ g zs _ on away ∙ holds_on_page _ g (m ∷ []) ws on_m away ∙ (s.untouched p).none g at;
  }

  -- it serves
  from_offered : (found : F) → ServeSteps rule f page d zs (Some found) → IsPage f page → is_marked marks page ≡ false → Once (OfferedHere d page) ws
      → Finds rule f d (FromOffered rule.no_fit d page) (zs ++ (m ∷ ws)) (record { page = page; found = found })
  from_offered found serve is unmarked offered = finds f d page m ws gets rule zs ready (s.untouched page) found (FromOffered rule.no_fit d page) serve is
      (record {
        offered = once_later (OfferedHere d page) zs (m ∷ ws) (inr offered);
        searched = λ p low high. elim (cases_Bool (is_marked marks p)) [
          | inl mark ↦ inl (once_later (UnfitHere rule.no_fit p) zs (m ∷ ws) (inr (s.marked p mark)))
          | inr mark ↦ inr (others_lack p (λ e. absurd (omega (arith, e, high))) mark, once_later (ZeroHere d p) zs (m ∷ ws) (inr (s.zeros p low high mark)))
        ];
        no_deed = deeds_serves zs (m ∷ ws) serve.only.kinds ∙ no_deeds (m ∷ ws) (quiet, s.quiet);
      })
      (λ k v agreed. let few = subst (λ es. length es ≤ rule.events) (sym (events_after_quiet k v zs (m ∷ ws) (quiet, s.quiet))) (serve.few k _) in (omega (arith, few), λ known. few))
      (inl quiet) s.quiet s.searches (λ v agreed. never_got page ws (s.lacked page unmarked))

  -- it was left
  goes_on : (marks' : List ℕ) → ((p : ℕ) → is_marked marks' p ≡ ((page == p) || is_marked marks p)) → ServeSteps rule f page d zs None
      → ((v : View) → MaySearch d v → Agreed f v ws → has_right v page ≡ false) → ((p : ℕ) → page ≤ p → is_marked marks p ≡ false)
      → page ≤ f.pages → length (zs ++ (m ∷ ws)) ≤ offered_steps rule.steps (row_words f.pages) page → GoesOn rule f d (page + 1) marks' (zs ++ (m ∷ ws))
  goes_on marks' more serve lacked rest within few =
      let left = serve.outcome in let got = got_before f d page m ws gets (s.untouched page) in
      let lacking : Leads f _ (λ v w. IsReady page d v w × (has_right v page ≡ false)) (m ∷ ws) = record { from = λ v met agreed. (ready.from v met agreed, lacked v met agreed.1) } in
      let here : is_marked marks' page ≡ true = more page ∙ ap (λ x. x || is_marked marks page) (eq-eqb page page refl) in
      let others : (p : ℕ) → p ≢ page → is_marked marks' p ≡ is_marked marks p = λ p ne. more p ∙ ap (λ x. x || is_marked marks p) (ne_eqb page p (λ e. ne (sym e))) in
      let unmarked : (p : ℕ) → is_marked marks' p ≡ false → p ≢ page = λ p mark e. true≢false (sym here ∙ ap (is_marked marks') (sym e) ∙ mark) in
      record {
        searching = record {
          still = leads_then (Does nothing) lacking left.leaves (λ v w met r. r.0.may) (λ v w u r b. got_left page r.1 r.0.got b);
          searches = served_search page zs (m ∷ ws) serve.only serve.due (inl gets) (got_search f d page m ws gets s.searches);
          quiet = always_both (λ m before. IsQuiet m) (λ m before. IsQuiet m) zs (m ∷ ws) (λ m before h. h) left.quiet (quiet, s.quiet);
          untouched = λ p. elim (cases_eq p page) [
            | inl e ↦ subst (λ q. IsUntouched q (zs ++ (m ∷ ws))) (sym e) (left.untouched (m ∷ ws) got)
            | inr ne ↦ others_untouched p ne
          ];
          marked = λ p mark. elim (cases_eq p page) [
            | inl e ↦ subst (λ q. Once (UnfitHere rule.no_fit q) (zs ++ (m ∷ ws))) (sym e) (left.unfit (m ∷ ws) got)
            | inr ne ↦ once_later (UnfitHere rule.no_fit p) zs (m ∷ ws) (inr (s.marked p (sym (others p ne) ∙ mark)))
          ];
          zeros = λ p low high mark. let ne = unmarked p mark in once_later (ZeroHere d p) zs (m ∷ ws) (inr (s.zeros p low (omega (arith, high, ne)) (sym (others p ne) ∙ mark)));
          lacked = λ p mark. let ne = unmarked p mark in others_lack p ne (sym (others p ne) ∙ mark);
        };
        rest = λ p low. others p (λ e. absurd (omega (arith, e, low))) ∙ rest p (omega (arith, low));
        within = omega (arith, within);
        few = few_past rule.steps page f (zs ++ (m ∷ ws)) few;
      }

-- A page that looks show as the first offered one from there on, and that was claimed and left since nothing fits, is passed.
pub passes_page : {F : Type 0} (rule : Rule F) (f : Profile) (d : Directory) (next page a : ℕ) (marks marks' : List ℕ) (xs looks zs : List Made)
    → GoesOn rule f d next marks xs → IsFirstOffered f d next looks page → OnlyScans looks → length looks ≡ words_to f next page → has_bit a (page % 64) ≡ true
    → ((p : ℕ) → is_marked marks' p ≡ ((page == p) || is_marked marks p)) → ServeSteps rule f page d zs None
    → GoesOn rule f d (page + 1) marks' (zs ++ (made (TakeRight page d) a ∷ (looks ++ xs)))
passes_page rule f d next page a marks marks' xs looks zs goes first scans count bit more serve =
    let m = made (TakeRight page d) a in let gets = GetsRight.Claims d a bit in
    let at : Searching rule.no_fit f d page marks (looks ++ xs) = zeros_searching rule f d next marks page looks xs (reads_vain looks (looks_read looks (scans_look looks scans))) goes.searching
    (λ p low high. zero_before d p looks xs (goes.searching.untouched p).right (first.lower p low high)) in
    let deed : (v : View) → KnowsDeed page d ((looks ++ xs) ++ v) = λ v. subst (KnowsDeed page d) (sym (append_assoc looks xs v)) (first.deed (xs ++ v)) in
    let lacked : (v : View) → MaySearch d v → Agreed f v (looks ++ xs) → has_right v page ≡ false = λ v met agreed. sym
    ((goes.searching.still.from v met (agreed_later f v looks xs agreed)).right page) ∙ first.lacks (xs ++ v) (agreed_first f v looks xs agreed) in
    let further = offered_further rule.steps _ {end = row_end f page} first.of_region.0 first.from_next (row_within f page first.of_region.1) in
    goes_on rule f d page marks m (looks ++ xs) zs gets (λ k e. refl) (IsOnPage.Claims d, tt) serve.only.on
    (ready f d page m (looks ++ xs) gets (λ v met. met.clear) at.still (λ v agreed. knows_still f d page (m ∷ []) ((looks ++ xs) ++ v) (agreed.0, tt) (deed v)))
    at marks' more serve lacked (λ p low. goes.rest p (omega (arith, first.from_next, low))) first.of_region.1
    (omega (arith, goes.few, count, further, serve.short, length-append zs (m ∷ (looks ++ xs)), length-append looks xs))

-- the search of offered pages, so far
pub record TriesPages {F : Type 0} (rule : Rule F) (d : Directory) (next : ℕ) (marks : List ℕ) (desk desk' : Standing) : Type 0 where
  pub steps : List Made
  pub adds : Adds desk desk' (MaySearch d) steps
  pub goes : GoesOn rule desk.seat.profile d next marks steps

module _ {F : Type 0} {rule : Rule F} {σ0 σ : Standing} {d : Directory} {next : ℕ} {marks : List ℕ} (tries : TriesPages rule d next marks σ0 σ) where
  abbrev pub f : Profile
  f = σ0.seat.profile

  abbrev pub earlier : List Made
  earlier = tries.steps

  -- no page is offered any more
  pub none_offered : {σ1 : Standing} {d' : Directory} → d' ≡ d → {next' : ℕ} → 1 ≤ next → next ≤ f.pages → FindsOffered d' next σ σ1 next' None
      → SearchesOffered rule d σ0 σ1 marks None
  none_offered {σ1} same {next'} some low found =
      let find : FindsOffered d next σ σ1 next' None = subst (λ x. FindsOffered x next σ σ1 next' None) same found in
      let pages : σ.seat.profile.pages ≡ f.pages = ap (λ (s : Seat). s.profile.pages) tries.adds.seat_is in
      let s = zeros_searching rule f d next marks _ find.steps earlier (reads_vain find.steps (looks_read find.steps (scans_look find.steps find.scans))) tries.goes.searching
      (λ p low high. zero_before d p find.steps earlier (tries.goes.searching.untouched p).right (find.outcome.1 p low (omega (arith, high, pages)))) in
      record { steps = find.steps ++ earlier; adds = adds_call {D = AnyView} tries.adds find.adds _; searches = s.searches; few = let all = offered_further rule.steps (row_words f.pages) {end = f.pages / 64 + 1} (omega (arith, some, low)) low (omega arith) in omega (arith, tries.goes.few, find.count, pages, all, length-append find.steps earlier); outcome = s }

  module _ {σ1 : Standing} {d' : Directory} (same : d' ≡ d) {next' page : ℕ} (found : FindsOffered d' next σ σ1 next' (Some page)) where
    -- What was found offered is found by the search's own directory.
    pub find : FindsOffered d next σ σ1 next' (Some page)
    find = subst (λ x. FindsOffered x next σ σ1 next' (Some page)) same found

    abbrev pub looked : List Made
    looked = find.steps ++ earlier

    -- The looks that found the page change nothing.
    vain : AreVain find.steps
    vain = reads_vain find.steps (looks_read find.steps (scans_look find.steps find.scans))

    -- The page is the lowest one that was read as offered.
    first : IsFirstOffered f d next find.steps page
    first = subst (λ (s : Seat). IsFirstOffered s.profile d next find.steps page) tries.adds.seat_is find.outcome.1

    at_page : Searching rule.no_fit f d page marks looked
    at_page = zeros_searching rule f d next _ page _ _ vain tries.goes.searching (λ p low high. zero_before d p _ _ (tries.goes.searching.untouched p).right (first.lower p low high))

    rest_at : (p : ℕ) → page ≤ p → is_marked marks p ≡ false
    rest_at p low = tries.goes.rest p (omega (arith, first.from_next, low))

    -- The next page to be looked at is the one behind that which was found.
    pub further : next' ≡ page + 1
    further = find.outcome.0

    deed_at : (v : View) → KnowsDeed page d (looked ++ v)
    deed_at v = subst (KnowsDeed page d) (sym (append_assoc find.steps earlier v)) (first.deed (earlier ++ v))

    -- The actor hasn't the page's right when it was found.
    lacked : (v : View) → MaySearch d v → Agreed f v looked → has_right v page ≡ false
    lacked v met agreed = search (arith, agreed_later, agreed_first)

    -- A page that was found offered may be claimed.
    pub claim_can : CanCall σ0 (MaySearch d) → CanCall σ1 (KnowsDeed page d)
    claim_can can = can_call {C = MaySearch d} (adds_call {D = AnyView} tries.adds find.adds (λ v l stood met. tt)) can (λ v l stood met. deed_at v)

    module _ {σ2 : Standing} {a : ℕ} (claim : Adds σ1 σ2 (KnowsDeed page d) (made (TakeRight page d) a ∷ [])) where
      abbrev pub claimed : List Made
      claimed = made (TakeRight page d) a ∷ looked

      -- with the steps of the back end
      few_after : (ys : List Made) → length ys ≤ rule.steps → length (ys ++ claimed) ≤ offered_steps rule.steps (row_words f.pages) page
      few_after ys short =
          let counted = subst (λ (s : Seat). length find.steps ≡ words_to s.profile next page) tries.adds.seat_is find.count in
          let further = offered_further rule.steps _ {end = row_end f page} first.of_region.0 first.from_next (row_within f page first.of_region.1) in
          omega (arith, tries.goes.few, counted, further, short, length-append ys claimed, length-append find.steps earlier)

      -- The search so far, with the claim of the page that was found, is one call.
      pub claim_adds : Adds σ0 σ2 (MaySearch d) claimed
      claim_adds = adds_call {D = KnowsDeed page d} (adds_call {D = AnyView} tries.adds find.adds (λ v l stood met. tt)) claim (λ v l stood met. deed_at v)

      -- The search so far, with the claim, makes no event.
      pub claim_quiet : AreQuiet claimed
      claim_quiet = (λ k e. refl, at_page.quiet)

      -- another actor was first
      pub lost_tries : {marks' : List ℕ} → marks' ≡ marks → has_bit a (page % 64) ≡ false → TriesPages rule d next' marks' σ0 σ2
      lost_tries {marks'} unmarked bit = record {
        steps = claimed;
        adds = claim_adds;
        goes = subst (λ k. GoesOn rule f d k marks' claimed) (sym further) (subst (λ x. GoesOn rule f d (page + 1) x claimed) (sym unmarked) (record {
          searching = zeros_searching rule f d page _ _ (made _ a ∷ []) _ (record { rights = claim_rights page d a false bit; quiet = λ k e. refl }, tt) at_page
              (λ p low high. let same : page ≡ p = omega (arith, low, high) in inl (subst (λ q. ReadsEligible d q (TakeRight page d) × (has_bit a (q % 64) ≡ false) × (has_right looked q ≡ false)) same (ReadsEligible.Claims, bit, (at_page.untouched page).right)));
          rest = λ p low. rest_at p (omega (arith, low));
          within = omega (arith, first.of_region.1);
          few = few_past rule.steps page f claimed (few_after [] (omega arith));
        }));
      }

      module _ (bit : has_bit a (page % 64) ≡ true) where
        got : Leads f (MaySearch d) (IsReady page d) claimed
        got = ready f d page _ looked (GetsRight.Claims d a bit) (λ v met. met.clear) at_page.still
            (λ v agreed. knows_still f d page (made (TakeRight page d) a ∷ []) (looked ++ v) (agreed.0, tt) (deed_at v))

        -- A page that was claimed may serve.
        pub serve_can : CanCall σ0 (MaySearch d) → CanCall σ2 (MayServe page d)
        serve_can can = can_call {C = MaySearch d} claim_adds can (λ v l stood met. (got.from v met (claim_adds.agreed v l stood met)).may)

        module _ {σ3 : Standing} where
          serve_at : (answer : Option F) (serve : ServesPage rule page d σ2 σ3 answer) → ServeSteps rule f page d serve.steps answer
          serve_at answer serve = subst (λ (s : Seat). ServeSteps rule s.profile page d serve.steps answer) claim_adds.seat_is serve.serves

          serve_adds : (answer : Option F) (serve : ServesPage rule page d σ2 σ3 answer) → Adds σ0 σ3 (MaySearch d) (serve.steps ++ claimed)
          serve_adds answer serve = adds_call {D = MayServe page d} claim_adds serve.adds (λ v l stood met. (got.from v met (claim_adds.agreed v l stood met)).may)

          -- A claimed page that serves is what the search of offered pages found.
          pub found_there : (marks' : List ℕ) {found : F} → ServesPage rule page d σ2 σ3 (Some found)
              → SearchesOffered rule d σ0 σ3 marks' (Some (record { page = page; found = found }))
          found_there marks' {found} serve = let s = at_page in record {
            steps = serve.steps ++ claimed;
            adds = serve_adds (Some found) serve;
            few = let most = few_after _ serve.serves.short in let all = offered_grows rule.steps (row_words f.pages) first.of_region.1 in omega (arith, most, all);
            searches = served_search page _ claimed serve.serves.only serve.serves.due (inl (GetsRight.Claims d a bit)) (got_search f d page _ looked (GetsRight.Claims d a bit) s.searches);
            outcome = from_offered rule f d page marks _ looked serve.steps (GetsRight.Claims d a bit) (λ k e. refl)
                (IsOnPage.Claims d, tt) serve.serves.only.on got s found (serve_at (Some found) serve) first.of_region (rest_at page (omega arith))
                (offered_before d _ _ _ vain (tries.goes.searching.untouched page).right (tries.goes.searching.lacked page (rest_at page (omega arith))) first.one);
          }

          -- A claimed page that was left is tried, and the search goes on behind it.
          pub left_tries : {k : ℕ} → k ≡ page + 1 → (marks' : List ℕ) → ((p : ℕ) → is_marked marks' p ≡ ((page == p) || is_marked marks p))
              → (serve : ServesPage rule page d σ2 σ3 None) → TriesPages rule d k marks' σ0 σ3
          left_tries is marks' more serve = record { steps = serve.steps ++ claimed; adds = serve_adds None serve; goes = subst (λ j. GoesOn rule f d j marks' (serve.steps ++ claimed)) (sym is) (goes_on rule f d page marks _ looked serve.steps (GetsRight.Claims d a bit) (λ k e. refl) (IsOnPage.Claims d, tt) serve.serves.only.on got at_page marks' more (serve_at None serve) lacked rest_at first.of_region.1 (few_after serve.steps serve.serves.short)) }

-- ---- a deed that was made
deed_frees : (p : ℕ) (d : Directory) (a : ℕ) (v : View) (g : ℕ) → a ≡ 0 → g / 256 ≡ p → known_free (made (Deed p d) a ∷ v) g ≡ true
deed_frees p d a v g e at = search (arith, eq-eqb)

-- Who has room for a page without a deed is clear.
pub clear_can : {σ : Standing} {f : Profile} {n spare : ℕ} → CanCall σ (BareRoom f n spare) → CanCall σ IsClear
clear_can can = record { view = can.view; whole = can.whole; stood = can.stood; met = can.met.clear }

-- the search of pages without a deed, so far: each deed word below that of page `from` was read as not 0
pub record PassesDeeds (from : ℕ) (desk desk' : Standing) : Type 0 where
  pub steps : List Made
  pub adds : Adds desk desk' IsClear steps
  pub reads : OnlyReads steps
  pub deeds : AllDeeds from steps
  pub within : from ≤ desk.seat.profile.pages + 1
  pub few : length steps + 2 ≤ 2 * from

module _ {σ0 σ : Standing} (d : Directory) {from : ℕ} (passes : PassesDeeds from σ0 σ) where
  abbrev pub region : Profile
  region = σ0.seat.profile

  abbrev pub xs : List Made
  xs = passes.steps

  more_reads : (ys : List Made) → OnlyReads ys → OnlyReads (ys ++ xs)
  more_reads ys h = always_both (λ m before. IsRead m.step m.answer) (λ m before. IsRead m.step m.answer) ys xs (λ m before is. is) h passes.reads

  more_deeds : (end : ℕ) (ys : List Made) → ((p : ℕ) → from ≤ p → p < end → Once (DeedHere p) ys) → AllDeeds end (ys ++ xs)
  more_deeds end ys more p low high = elim (cases_lt p _) [ inl lt ↦ once_later _ ys xs (passes.deeds p low lt) | inr ge ↦ deed_before p ys xs (more p ge high) ]

  -- each page has a deed
  pub all_bare : {F : Type 0} {rule : Rule F} → region.pages < from → SearchesBare rule d σ0 σ None
  all_bare past = record { steps = xs; adds = passes.adds; few = omega (arith, passes.few, passes.within); outcome = (passes.reads, λ p low high. passes.deeds p low (omega (arith, past, high))) }

  -- Where no page without a deed was found, the search of such pages has none.
  pub none_bare : {F : Type 0} {rule : Rule F} {σ1 : Standing} → FindsBare from σ σ1 None → SearchesBare rule d σ0 σ1 None
  none_bare find =
      let pages = ap (λ s. s.profile.pages) passes.adds.seat_is in let deeds = more_deeds _ _ (λ p low high. find.outcome p low (omega (arith, high, pages))) in
      record { steps = find.steps ++ xs; adds = adds_call {D = AnyView} passes.adds find.adds _; few = omega (arith, passes.few, passes.within, find.count, pages, length-append find.steps xs); outcome = (more_reads _ (looks_read _ (scans_look _ find.scans)), deeds) }

  module _ {σ1 : Standing} {page : ℕ} (find : FindsBare from σ σ1 (Some page)) where
    abbrev pub read : List Made
    read = find.steps ++ xs

    abbrev pub tried : ℕ → List Made
    tried a = made (Deed page d) a ∷ read

    found_reads : OnlyReads read
    found_reads = more_reads find.steps (looks_read find.steps (scans_look find.steps find.scans))

    found_deeds : AllDeeds page read
    found_deeds = more_deeds page find.steps find.outcome.lower

    reads_adds : Adds σ0 σ1 IsClear read
    reads_adds = adds_call {D = AnyView} passes.adds find.adds (λ v l stood met. tt)

    of_region : IsPage region page
    of_region = subst (λ (s : Seat). IsPage s.profile page) passes.adds.seat_is find.outcome.of_region

    -- there is room for the event of its deed
    module _ {n spare : ℕ} (can : CanCall σ0 (BareRoom region n spare))
        (law : (v : View) (l : Whole) → σ0.stands v l → spare + length (events_of σ0.seat.actor v) ≡ σ0.seat.room) where
      -- There is room for the events of the back end and for that of a deed, since some page's deed isn't known.
      wide : n + 1 ≤ spare
      wide = search (arith, unknown, reads_adds, once_earlier, of_region)

      -- There is room for the event of the deed.
      pub deed_room : {spare' : ℕ} → ((v : View) (l : Whole) → σ1.stands v l → spare' + length (events_of σ1.seat.actor v) ≡ σ1.seat.room) → 1 ≤ spare'
      deed_room law' = room_kept {C = IsClear} 1 reads_adds (clear_can can) (vain_quiet read (reads_vain read found_reads)) law law' (omega (arith, wide))

      -- and for those of the back end
      pub serve_room : {σ2 : Standing} {spare' : ℕ} {a : ℕ} → Adds σ0 σ2 IsClear (tried a)
          → ((v : View) (l : Whole) → σ2.stands v l → spare' + length (events_of σ2.seat.actor v) ≡ σ2.seat.room) → n ≤ spare'
      serve_room {a = a} deed_adds law' = room_after {C = IsClear} n 1 deed_adds (clear_can can) (λ k v.
          let none = ap length (events_quiet k v read (vain_quiet read (reads_vain read found_reads))) in
          let more = with_few (event_of k (epoch_of (read ++ v)) (Deed page d) a) (events_by k v read) in omega (arith, none, more)) law law' wide

    module _ {σ2 : Standing} {a : ℕ} (makes : Makes σ1 σ2 (Deed page d) a) where
      -- The search so far, with the deed that was tried, is one call.
      pub deed_adds : Adds σ0 σ2 IsClear (tried a)
      deed_adds = adds_step {C = IsClear} {step = Deed page d} reads_adds makes (λ v l stood met. tt)

      few_tried : (ys : List Made) → length (ys ++ tried a) + 2 ≤ length ys + 2 * (page + 1)
      few_tried ys = omega (arith, passes.few, find.count, find.outcome.from_there, length-append ys (tried a), length-append find.steps xs)

      lost_deeds : a ≢ 0 → AllDeeds (page + 1) (tried a)
      lost_deeds ne p low high = elim (cases_lt p page) [
        | inl lt ↦ inr (found_deeds p low lt)
        | inr ge ↦ let same : page ≡ p = omega (arith, high, ge) in inl (subst (λ q. ReadsDeed q (Deed page d)) same (ReadsDeed.Deeds d), ne)
      ]

      -- A deed that came too late passes its page.
      pub lost_passes : a ≢ 0 → PassesDeeds (page + 1) σ0 σ2
      lost_passes ne = record { steps = tried a; adds = deed_adds; reads = (IsRead.Reads page d a ne, found_reads); deeds = lost_deeds ne; within = omega (arith, of_region.1); few = let most = few_tried [] in omega (arith, most) }

      -- the deed was made
      module _ (made_it : a ≡ 0) where
        deed_got : Leads region IsClear (IsReady page d) (tried a)
        deed_got = ready region d page _ read (GetsRight.Deeds d a made_it) (λ v clear. clear)
            (leads_as (vain_leads region read (reads_vain read found_reads)) _ (λ v w clear does. does)) (λ v agreed. deed_known page d a (read ++ v) made_it)

        -- A page whose deed was made may serve.
        pub deed_can : CanCall σ0 IsClear → CanCall σ2 (MayServe page d)
        deed_can can = can_call {C = IsClear} deed_adds can (λ v l stood met. (deed_got.from v met (deed_adds.agreed v l stood met)).may)

        module _ {F : Type 0} {rule : Rule F} {σ3 : Standing} where
          -- all grains of the page are known as free, so it isn't left
          pub not_left : CanCall σ0 IsClear → ServesPage rule page d σ2 σ3 None → ⊥
          not_left can serve =
              let v : View = made (Deed page d) a ∷ (read ++ can.view) in
              let may : MayServe page d v = (deed_got.from can.view can.met (deed_adds.agreed can.view can.whole can.stood can.met)).may in
              serve.serves.outcome.not_free v may (serve.adds.agreed v _ (deed_adds.added can.view can.whole can.stood can.met) may) (λ g at. deed_frees page d a (read ++ can.view) g made_it at)

          -- A page whose deed was made, and which serves, is what the search of such pages found.
          pub served_bare : {found : F} → ServesPage rule page d σ2 σ3 (Some found) → SearchesBare rule d σ0 σ3 (Some (record { page = page; found = found }))
          served_bare {found} serve = record {
            steps = serve.steps ++ (tried a);
            adds = adds_call {D = MayServe page d} deed_adds serve.adds (λ v l stood met. (deed_got.from v met (deed_adds.agreed v l stood met)).may);
            few = let most = few_tried serve.steps in omega (arith, most, of_region.1, serve.serves.short);
            outcome = record {
              page = of_region;
              before = read;
              reads = found_reads;
              lower = found_deeds;
              serve = serve.steps;
              serves = subst (λ (s : Seat). ServeSteps rule s.profile page d serve.steps (Some found)) deed_adds.seat_is serve.serves;
              steps_are = ap (λ n. serve.steps ++ (made (Deed page d) n ∷ read)) made_it;
            };
          }
