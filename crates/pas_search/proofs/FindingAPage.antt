-- The answer of a search: an offered page serves, a page does whose deed was made, or the request is refused; and what it says of the states at entry and exit.
use Rattle.std.proofs.Common.{◌≡◌, ℕ, ◌+◌, ◌*◌, ◌/◌, ◌<◌, ◌≤◌, true, false, List, [], ◌∷◌, ◌++◌, refl, sym, ◌∙◌, subst, arith, ◌⊎◌, inl, inr, append_assoc}
use Rattle.std.proofs.Common.{true≢false, ◌≢◌, ap, Result, Ok, Err, MatchResult, Bool, length, length-append, suc, Some, None, eq-eqb, ne_eqb}
use Rattle.std.proofs.lemmas.Bool.{cases_Bool, cases_lt, cases_eq}
use Rattle.pas_profile.specs.declared.{directory.Directory.Directory, profile.Profile.Profile, event.NoRoom.{NoRoom, TheVariants.{NoSpace, Held}}}
use Rattle.pas_profile.specs.{declared.word.Word.Word, Directories.{deed_word_of, number_of}, Profiles.{IsValid, IsPage, IsDirectoryOf}}
use Rattle.pas_profile.proofs.Codecs.{deed_word_of-positive}
use Rattle.pas_steps.specs.{declared.step.{Made.Made, Step.{Step, TheVariants.Deed}}, Views.{has_right, KnowsDeed, View, deed_after, known_deed}, Past.Once}
use Rattle.pas_steps.specs.{Past.{Always, Since}, Frames.OnlyScans, Effects.target, Agreement.Agreed, Clear.IsClear, Events.{events_of, events_by}}
use Rattle.pas_steps.specs.{Unknown.HasRoom, Calls.{nothing, Does}, Evidence.{UnfitHere, ZeroHere, DeedHere, ParkedHere, ParkedLater, LeftHere, LacksAfter}}
use Rattle.pas_steps.specs.Evidence.{MissingHere, HeldHere, Accounted, AllDeeds, ReadsDeed, KeptHere, OneHere, GetsRight, GetsHere, IsAntitone, Readings}
use Rattle.pas_steps.{specs.{Lists.{Whole, part, word_after, Legal}, Desks.{triples, Seat, Standing, AnyView, made, Adds, CanCall}}, proofs.Frames.scans_look}
use Rattle.pas_steps.proofs.{Frames.{looks_read, deed_stays, right_own, right_of_own, events_append}, Past.{once_later, once_earlier, once_map}}
use Rattle.pas_steps.proofs.{Parts.part_of_own, Unknown.all_known, Calls.still_clear, Evidence.{deed_before, unknown, deed_known}, Adding.{adds_call, can_call}}
use Rattle.pas_steps.proofs.Adding.{legal_after, adds_under}
use Rattle.pas_scan.specs.{Marks.is_marked, Scan.{IsMember, AllParked, IsVerdict, last_block, Judges}}
use Rattle.pas_search.specs.{Serving.{Rule, ShowsFit}, Alone.{page_found, FindsWhatThereIs}, Kinds.{AreSearch, IsDeedOrBack, deeds_made, searching}}
use Rattle.pas_search.specs.Searches.{search_steps, Searching, AllAccounted, IsRefusal, IsRefused, MaySearch, DeedMadeHere, IsHeld, IsServed, SearchRoom}
use Rattle.pas_search.specs.{Searches.{BareRoom, FromOffered, ByDeed, SearchesOffered, ServesBare, SearchesBare, Searches}, Telling.IsLowestOffered}
use Rattle.pas_search.{specs.{Telling.{IsLowestBare, IsInHands, IsTrueReason, IsTold}, declared.serving.Served.Served}, proofs.PagesThatServe.no_deeds}
use Rattle.pas_search.proofs.PagesThatServe.{served_search, deeds_serves, AreVain, reads_vain, vain_lacks, vain_search, searched, vain_searching, ready}
use Rattle.pas_search.proofs.{PagesThatServe.{got_search, finds}, ForBackEnds.{events_quiet, room_kept}}
use Rattle.pas_core.proofs.{Deeds.{known_is, numbered_ne}, Nexts.agreed_steps, Rights.{is_offered, is_parked, spotted, own_eligible, is_with}}
use Rattle.pas_core.proofs.OneActor.{spot_same, zero_told, offer_told, offered_was, parked_told, entry_lacks, legal_before, offered_lacks, not_in_hands}
use Rattle.pas_core.proofs.OneActor.{LendsNone, unfit_exit, fit_entry, deed_quiet, deed_exit, deed_none, lends_none, plain_answer, legal_earlier, unfit_lacks}
use Rattle.pas_core.{proofs.OneActor.{no_fit_there, none_serves, in_hands, is_with_own}, specs.{Fits.HasNoFit, Alone.{ShowsNone, ShowsAnswer, IsPlainAnswer}}}
use Rattle.pas_core.specs.Rights.{AllRest, free_of_page}

-- a page that was read as 0 and whose right the call never had
missing : (d : Directory) (p : ℕ) (xs : List Made) → Once (ZeroHere d p) xs → Always (LacksAfter p) xs → Since (MissingHere d p) (LacksAfter p) xs
missing d p [] h lacks = absurd h
missing d p (m ∷ more) (inl z) lacks = inl (inl z, lacks.0)
missing d p (m ∷ more) (inr h) lacks = inr (lacks.0, missing d p more h lacks.1)

held_here : (d : Directory) (p : ℕ) (ys xs : List Made) → AreVain ys → has_right xs p ≡ false → Once (ZeroHere d p) xs → Always (LacksAfter p) xs
    → Once (ParkedHere false p) ys → Once (HeldHere d p) (ys ++ xs)
held_here d p [] xs vain none zero_read lacks h = absurd h
held_here d p (m ∷ more) xs vain none zero_read lacks (inl k) = search (arith, right_own, missing, once_later, vain_lacks)
held_here d p (m ∷ more) xs vain none zero_read lacks (inr h) = inr (held_here d p more xs vain.1 none zero_read lacks h)

module _ {F : Type 0} (rule : Rule F) (f : Profile) (d : Directory) (marks : List ℕ) (ys xs : List Made) (scans : OnlyScans ys)
    (s : Searching rule.no_fit f d (f.pages + 1) marks xs) where
  -- The verdict's steps are looks, so they change nothing.
  vain : AreVain ys
  vain = reads_vain ys (looks_read ys (scans_look ys scans))

  all_accounted : (end : ℕ) → end ≤ f.pages + 1 → AllParked f marks d end ys → AllAccounted f d end (ys ++ xs)
  all_accounted end limit all v agreed p low high is = elim (cases_Bool (is_marked marks p)) [
    | inl m ↦ inl (once_later (LeftHere p) ys xs (once_map (UnfitHere rule.no_fit p) (LeftHere p) xs (λ m before u. (u.left, u.kept, u.got)) (s.marked p m)))
    | inr m ↦ inr (once_earlier _ _ ys xs (λ m' before k. ((k.0, k.1, right_own p before xs ((s.untouched p).right) ∙ k.2), inl (once_later _ _ xs (s.zeros p low (omega (arith, limit, high)) m))))
        (all (xs ++ v) p high (record { of_region = (low, omega (arith, limit, high)); of_directory = subst (KnowsDeed p d) (append_assoc ys xs v) is; unmarked = m })))
  ]

  -- The verdict is the refusal's reason, read over the whole search.
  refusal : (answer : NoRoom) → IsVerdict f marks d ys answer → IsRefusal f d (ys ++ xs) answer
  refusal NoSpace all = all_accounted (f.pages + 1) (omega arith) all
  refusal (Held page) h =
      let m : IsMember f marks d (ys ++ []) page = h.0 [] in let is = m.of_region in record {
        page_of = is;
        of_directory = λ v agreed. subst (KnowsDeed page d) (sym (append_assoc ys xs v)) (h.0 (xs ++ v)).of_directory;
        held = held_here d page ys xs vain (s.untouched page).right (s.zeros page is.0 (omega (arith, is.1)) m.unmarked) (s.lacked page m.unmarked) h.1;
        lacked = vain_lacks page ys xs vain (s.untouched page).right (s.lacked page m.unmarked);
        lower = all_accounted page (omega (arith, is.1)) h.2;
      }

  -- A search whose pages all have deeds is refused as the verdict says.
  refused : (answer : NoRoom) → IsVerdict f marks d ys answer → AllDeeds (f.pages + 1) xs → IsRefused rule.no_fit f d (ys ++ xs) answer
  refused answer verdict all = let now = vain_searching rule f d (f.pages + 1) marks ys xs vain s in record {
    still = now.still;
    quiet = now.quiet;
    no_deed = no_deeds (ys ++ xs) now.quiet;
    searched = searched rule f d (f.pages + 1) marks (ys ++ xs) now;
    deeds = λ p low high. once_later (DeedHere p) ys xs (all p low high);
    answer = refusal answer verdict;
  }

not_below : (n m : ℕ) → (m < n → ⊥) → n ≤ m
not_below n m h = elim (cases_lt m n) [ inl lt ↦ absurd (h lt) | inr ge ↦ ge ]

-- ---- a deed word that was read as not 0 is known
read_known : (p : ℕ) (s : Step) (a : ℕ) (known : ℕ) → ReadsDeed p s → a ≢ 0 → deed_after s a p known ≢ 0
read_known p s a known e some = grind (arith, eq-eqb, ne_eqb)

deed_read : (f : Profile) (v : View) (p : ℕ) (xs : List Made) → Agreed f v xs → Once (DeedHere p) xs → known_deed (xs ++ v) p ≢ 0
deed_read f v p [] agreed h = absurd h
deed_read f v p (m ∷ xs) agreed (inl z) = read_known p m.step m.answer (known_deed (xs ++ v) p) z.0 z.1
deed_read f v p (m ∷ xs) agreed (inr h) =
    let some = deed_read f v p xs agreed.1 h in λ e. some (sym (deed_stays f (m ∷ []) (xs ++ v) p (agreed.0, tt) some) ∙ e)

-- ---- by a deed
-- THE PAGE whose deed was made is the lowest one without a deed, and none that was offered fitted.
pub by_deed : (no_fit : Readings → Type 0) (f : Profile) (k : ℕ) (l : Whole) (d : Directory) (page : ℕ) (xs : List Made) → IsAntitone no_fit → IsPage f page
    → Legal f (triples k xs ++ l) → LendsNone xs → Once (DeedMadeHere no_fit f d page) xs → IsLowestBare no_fit f d l page
by_deed no_fit f k l d page [] fewer is legal searches h = absurd h
by_deed no_fit f k l d page (m ∷ xs) fewer is legal searches (inr h) = by_deed no_fit f k l d page xs fewer is legal.1 searches.1 h
by_deed no_fit f k l d page (m ∷ xs) fewer is legal searches (inl h) = record {
  this = record { of_region = is; no_deed = deed_none k l page xs (sym (legal.0.answer_is ∙ ap (λ s. word_after (triples k xs ++ l) (target s)) h.deed) ∙ h.made) };
  none_offered = λ other fit. no_fit_there no_fit f k l d (f.pages + 1) xs fewer legal.1 searches.1 h.searched other (omega (arith, fit.of_region.1)) fit;
  lowest = λ other bare. not_below page other (λ lt. deed_exit f k l other xs legal.1 (h.lower other bare.of_region.0 lt) (deed_quiet f k l other xs legal.1 h.quiet ∙ bare.no_deed));
}

-- THE PAGE that was found offered, where something fits on it, is the lowest such one.
pub lowest_offered : (no_fit : Readings → Type 0) (f : Profile) (k : ℕ) (l : Whole) (d : Directory) (page : ℕ) (xs : List Made) → IsValid f → IsDirectoryOf f d
    → IsAntitone no_fit → IsPage f page → Legal f (triples k xs ++ l) → LendsNone xs → (KnowsDeed page d (part k l) → has_right (part k l) page ≡ false)
    → FromOffered no_fit d page xs → (no_fit (free_of_page l page) → ⊥) → IsLowestOffered no_fit f d l page
lowest_offered no_fit f k l d page xs valid of fewer is legal lends may from fit = record {
  this = record { of_region = is; offered = offered_was f k l d page xs valid of legal may from.offered; fits = fit };
  lowest = λ other fits. not_below page other (λ lt. no_fit_there no_fit f k l d page xs fewer legal lends from.searched other lt fits);
}

-- ---- WHO HAS A PAGE after the steps of an actor alone
-- the call never had the page's right, or it has it, or it had it once
lacked_or_had : (p : ℕ) (xs : List Made) → Always (LacksAfter p) xs ⊎ ((has_right xs p ≡ true) ⊎ Once (KeptHere p) xs)
lacked_or_had p [] = inl tt
lacked_or_had p (m ∷ xs) = search (arith, cases_Bool, (lacked_or_had p xs))

-- what the actor knows of the deed is the word at exit
pub known_exit : (f : Profile) (k : ℕ) (l : Whole) (xs : List Made) → Legal f (triples k xs ++ l) → (p : ℕ) → known_deed (xs ++ part k l) p ≢ 0
    → known_deed (xs ++ part k l) p ≡ word_after (triples k xs ++ l) (Word.Deed p)
known_exit f k l xs legal p some =
    let w : Whole = triples k xs ++ l in
    let same : known_deed (part k w) p ≡ known_deed (xs ++ part k l) p = ap (λ v. known_deed v p) (part_of_own k xs l) in
    sym same ∙ known_is (known_deed (part k w) p) (word_after w (Word.Deed p)) ((spotted f w legal p).known k) (λ z. some (sym same ∙ z))

module _ (f : Profile) (k : ℕ) (l : Whole) (d : Directory) (xs : List Made) (valid : IsValid f) (of : IsDirectoryOf f d) (legal : Legal f (triples k xs ++ l))
    (may : (p : ℕ) → KnowsDeed p d (part k l) → has_right (part k l) p ≡ false) where
  -- A page is in nobody's hands that was got and left, or read as parked or as offered, where the actor's right is as it was.
  pub not_held_there : (p : ℕ) → has_right (xs ++ part k l) p ≡ has_right (part k l) p → Accounted d p xs ⊎ Once (OneHere d p) xs
      → IsInHands f d (triples k xs ++ l) p → ⊥
  not_held_there p same account hands =
      let at = spotted f (triples k xs ++ l) legal p in
      let none = entry_lacks f k l d p xs valid (legal_before f k xs l legal) (may p) hands.of_directory in
      let had : Once (KeptHere p) xs → ⊥ = (λ once. not_in_hands f k l d p xs of legal (same ∙ none) once hands.of_directory hands.not_offered hands.not_parked) in
      elim (lacked_or_had p xs) [
        | inl lacked ↦
            let spot = spot_same f k l p xs legal none lacked in
            elim account [
              | inl (inl left) ↦ had (once_map (LeftHere p) (KeptHere p) xs (λ m before h. h.1) left)
              | inl (inr parked) ↦ true≢false (cc (parked_told f k l p true xs legal none lacked (once_map (ParkedLater d p) (ParkedHere true p) xs (λ m before h. h.0) parked)))
              | inr offered ↦ true≢false (sym (at.eligible (number_of d) ∙ (ap (is_offered (number_of d)) spot ∙ offer_told f k l d p true xs legal none lacked offered)) ∙ hands.not_offered)
            ]
        | inr (inl has) ↦ true≢false (sym (right_of_own p xs (part k l) has) ∙ (same ∙ none))
        | inr (inr once) ↦ had once
      ]

  -- A page of the directory whose right the call never had, and which it read as neither offered nor parked, is in some actor's hands.
  pub held_there : (p : ℕ) → IsPage f p → KnowsDeed p d (xs ++ part k l) → Always (LacksAfter p) xs → Once (ZeroHere d p) xs → Once (ParkedHere false p) xs
      → IsInHands f d (triples k xs ++ l) p
  held_there p here known lacked zero_read parked =
      let at = spotted f (triples k xs ++ l) legal p in
      let deed = sym (known_exit f k l xs legal p (λ z. deed_word_of-positive d (sym known ∙ z))) ∙ known in
      let none = entry_lacks f k l d p xs valid (legal_before f k xs l legal) (may p) deed in
      let spot = spot_same f k l p xs legal none lacked in
      search (arith, is_offered, zero_told, is_parked, parked_told, at.eligible)

module _ {F : Type 0} (rule : Rule F) (f : Profile) (k : ℕ) (l : Whole) (d : Directory) (xs : List Made) (valid : IsValid f) (of : IsDirectoryOf f d)
    (fewer : IsAntitone rule.no_fit)
    (legal : Legal f (triples k xs ++ l)) (searches : LendsNone xs) (may : MaySearch d (part k l)) (agreed : Agreed f (part k l) xs) where
  abbrev w : Whole
  w = triples k xs ++ l

  -- a page that was chosen, and of which this was read with the right
  could_serve : (p : ℕ) (kept : ℕ → Bool) → IsPage f p → FromOffered rule.no_fit d p xs ⊎ ByDeed rule.no_fit f d p xs
      → ShowsFit rule.no_fit kept f p (MaySearch d) xs xs → IsLowestOffered rule.no_fit f d l p ⊎ IsLowestBare rule.no_fit f d l p
  could_serve p kept here choice shows = elim choice [
    | inl from ↦ inl (lowest_offered rule.no_fit f k l d p xs valid of fewer here legal searches (may.rights p) from
        (fit_entry rule.no_fit f k l p shows.readings xs fewer valid legal searches shows.fits shows.read (shows.held.from (part k l) may agreed)))
    | inr deed ↦ inr (by_deed rule.no_fit f k l d p xs fewer here legal searches deed.made_here)
  ]

  -- ---- a refusal
  exit_none : (room : NoRoom) → IsRefused rule.no_fit f d xs room → HasNoFit rule.no_fit f d w
  exit_none room is = record {
    offered = λ page fit. let high = fit.of_region.1 in elim (is.searched page fit.of_region.0 (omega (arith, high))) [
      | inl u ↦ fit.fits (unfit_exit rule.no_fit f k l page xs fewer valid legal searches (λ g. (is.still.from (part k l) may agreed).held g) u)
      | inr z ↦
          let lacks : has_right (part k l) page ≡ false =
          sym ((is.still.from (part k l) may agreed).right page) ∙ ap (λ v. has_right v page) (sym (part_of_own k xs l)) ∙ offered_lacks f k w (number_of d) page legal fit.offered in
          true≢false (sym fit.offered ∙ (spotted f w legal page).eligible (number_of d) ∙ ap (is_offered (number_of d)) (spot_same f k l page xs legal lacks z.0) ∙ zero_told f k l d page xs legal lacks z.0 z.1)
    ];
    bare = λ page bare. deed_exit f k l page xs legal (is.deeds page bare.of_region.0 (omega (arith, bare.of_region.1))) bare.no_deed;
  }

  accounted_out : (room : NoRoom) → IsRefused rule.no_fit f d xs room → (p : ℕ) → (KnowsDeed p d (xs ++ part k l) → Accounted d p xs) → IsInHands f d w p → ⊥
  accounted_out room is p account hands =
      let some = deed_read f (part k l) p xs agreed (is.deeds p hands.of_region.0 (omega (arith, hands.of_region.1))) in
      not_held_there f k l d xs valid of legal may.rights p ((is.still.from (part k l) may agreed).right p)
      (inl (account (known_exit f k l xs legal p some ∙ hands.of_directory))) hands

  held_in_hands : (room : NoRoom) → IsRefused rule.no_fit f d xs room → (p : ℕ) → IsHeld f d xs p → IsInHands f d w p
  held_in_hands room is p held =
      held_there f k l d xs valid of legal may.rights p held.page_of (held.of_directory (part k l) agreed) held.lacked
      (search (arith, unfit_lacks, is.searched)) (once_map (HeldHere d p) (ParkedHere false p) xs (λ m before h. h.0) held.held)

  -- The reason of a refusal is true of the state at exit.
  reason : (room : NoRoom) → IsRefused rule.no_fit f d xs room → IsTrueReason f d w room
  reason NoSpace is = λ page hands. accounted_out NoSpace is page (is.answer (part k l) agreed page hands.of_region.0 (omega (arith, hands.of_region.1))) hands
  reason (Held p) is = (held_in_hands _ is p is.answer, λ other lt hands. accounted_out _ is other (is.answer.lower _ agreed other hands.of_region.0 lt) hands)

  -- The answer of a search, served or refused, is told of the states at entry and exit.
  all_told : (answer : Result (Served F) NoRoom) → MatchResult answer (IsServed rule f d xs) (IsRefused rule.no_fit f d xs)
      → IsTold (λ (s : Served F). s.page) rule.no_fit f d l w answer
  all_told (Ok served) h = could_serve served.page (rule.kept served.found) h.page h.choice h.shows
  all_told (Err room) h = ((none_serves rule.no_fit f k l d xs fewer legal searches h.searched h.deeds h.quiet), exit_none room h, reason room h)

-- ---- an offered page serves
-- what a search promises of its steps
pub record Ends {F : Type 0} (rule : Rule F) (d : Directory) (desk desk' : Standing) (answer : Result (Served F) NoRoom) : Type 0 where
  pub steps : List Made
  pub adds : Adds desk desk' (MaySearch d) steps
  pub searches : AreSearch steps
  pub few : length steps ≤ search_steps rule.steps desk.seat.profile.pages
  pub outcome : MatchResult answer (IsServed rule desk.seat.profile d steps) (IsRefused rule.no_fit desk.seat.profile d steps)

-- A search of offered pages that found one ends with it.
-- its parts are those of the search of offered pages
pub ends_offered : {F : Type 0} {rule : Rule F} {σ σ1 : Standing} {d' : Directory} (d : Directory) → d' ≡ d → {marks : List ℕ} {served : Served F}
    → SearchesOffered rule d' σ σ1 marks (Some served) → Ends rule d σ σ1 (Ok served)
ends_offered {F} {rule} {σ} {σ1} d same {marks} {served} found = search arith

-- ---- by a deed
-- a page that was got has a deed
got_here : (p : ℕ) (s : Step) (a known : ℕ) → GetsRight p s a → deed_after s a p known ≢ 0
got_here p s a known e none = grind (arith, eq-eqb, numbered_ne, deed_word_of-positive)

got_known : (f : Profile) (p : ℕ) (xs : List Made) (v : View) → Agreed f v xs → Once (GetsHere p) xs → known_deed (xs ++ v) p ≢ 0
got_known f p [] v agreed got none = got
got_known f p (m ∷ xs) v agreed (inl gets) none = got_here p m.step m.answer (known_deed (xs ++ v) p) gets none
got_known f p (m ∷ xs) v agreed (inr got) none = let some = got_known f p xs v agreed.1 got in some (sym (deed_stays f (m ∷ []) (xs ++ v) p (agreed.0, tt) some) ∙ none)

module _ {F : Type 0} (rule : Rule F) (f : Profile) (d : Directory) (marks : List ℕ) (os steps : List Made)
    (s : Searching rule.no_fit f d (f.pages + 1) marks os) (served : Served F) (bare : ServesBare rule f d steps served) where
  abbrev m : Made
  m = made (Deed served.page d) 0

  abbrev ws : List Made
  ws = bare.before ++ os

  abbrev call : List Made
  call = bare.serve ++ (m ∷ ws)

  -- What the search of offered pages has passed by when it ends.
  now : Searching rule.no_fit f d (f.pages + 1) marks ws
  now = vain_searching rule f d (f.pages + 1) marks bare.before os (reads_vain bare.before bare.reads) s

  all_steps : steps ++ os ≡ call
  all_steps = ap (λ ys. ys ++ os) bare.steps_are ∙ append_assoc bare.serve (m ∷ bare.before) os

  one_deed : deeds_made call ≡ 1
  one_deed = deeds_serves bare.serve (m ∷ ws) bare.serves.only.kinds ∙ ap suc (no_deeds ws now.quiet)

  deed_made : ByDeed rule.no_fit f d served.page call
  deed_made = record {
    made_here = once_later _ _ (m ∷ ws) (inl (record { deed = refl; made = refl; searched = searched rule f d _ marks ws now; lower = λ q low high. deed_before q _ os (bare.lower q low high); quiet = now.quiet }));
    one_deed = one_deed;
  }

  deed_search : AreSearch (steps ++ os)
  deed_search = subst AreSearch (sym all_steps) (served_search served.page bare.serve (m ∷ ws) bare.serves.only bare.serves.due (inl (GetsRight.Deeds d 0 refl))
      (got_search f d served.page m ws (GetsRight.Deeds d 0 refl) now.searches))

  deed_serves : IsServed rule f d (steps ++ os) served
  deed_serves = subst (λ call. IsServed rule f d call served) (sym all_steps) (finds f d _ m ws (GetsRight.Deeds d 0 refl) rule bare.serve
      (ready f d _ m ws (GetsRight.Deeds d 0 refl) (λ v met. met.clear) now.still (λ v agreed. deed_known _ d 0 (ws ++ v) refl)) (now.untouched served.page)
      served.found (λ call. FromOffered rule.no_fit d served.page call ⊎ ByDeed rule.no_fit f d served.page call) bare.serves bare.page (inr deed_made)
      (λ k v agreed.
      let some : length (events_by k ((m ∷ ws) ++ v) bare.serve) ≤ rule.events = bare.serves.few k ((m ∷ ws) ++ v) in
      let counts = ap length (events_append k bare.serve (m ∷ ws) v) ∙ length-append (events_by k ((m ∷ ws) ++ v) bare.serve) (events_by k v (m ∷ ws)) in
      let deed = one_deed in (
        omega (arith, ap (λ es. suc (length es)) (events_quiet k v ws now.quiet), some, counts, deed),
        λ known. absurd (unknown f v _ call agreed (once_later _ bare.serve (m ∷ ws) (inl (ReadsDeed.Deeds d, refl))) (known _ bare.page)),
      ))
      (inr IsDeedOrBack.Deeds) now.quiet now.searches (λ v agreed got. unknown f (ws ++ v) served.page (m ∷ []) (agreed.0, tt) (inl (ReadsDeed.Deeds d, refl)) (got_known f served.page ws v agreed.1 got)))

-- what the search of offered pages asks
pub may_can : {σ : Standing} {f : Profile} {d : Directory} {n spare : ℕ} → CanCall σ (SearchRoom f d n spare) → CanCall σ (MaySearch d)
may_can can = record { view = can.view; whole = can.whole; stood = can.stood; met = can.met.may }

profile_kept : {σ σ' : Standing} {C : View → Type 0} {xs : List Made} → Adds σ σ' C xs → σ'.seat.profile ≡ σ.seat.profile
profile_kept adds = ap (λ (s : Seat). s.profile) adds.seat_is

module _ {F : Type 0} {rule : Rule F} {σ σ1 : Standing} {d' : Directory} (d : Directory) (same : d' ≡ d) {marks : List ℕ}
    (found : SearchesOffered rule d' σ σ1 marks None) where
  -- The search of offered pages found none.
  offered : SearchesOffered rule d σ σ1 marks None
  offered = subst (λ x. SearchesOffered rule x σ σ1 marks None) same found

  abbrev f : Profile
  f = σ.seat.profile

  clear_then : (v : View) → MaySearch d v → Agreed σ.seat.profile v offered.steps → IsClear (offered.steps ++ v)
  clear_then v met agreed = still_clear (offered.outcome.still.from v met agreed) met.clear

  bare_adds : {σ2 : Standing} {ys : List Made} → Adds σ1 σ2 IsClear ys → Adds σ σ2 (MaySearch d) (ys ++ offered.steps)
  bare_adds adds = adds_call {D = IsClear} offered.adds adds (λ v l stood met. clear_then v met (offered.adds.agreed v l stood met))

  pages_kept : σ1.seat.profile.pages ≡ f.pages
  pages_kept = ap (λ (x : Profile). x.pages) (profile_kept offered.adds)

  -- A search of pages without a deed that found one ends with it.
  pub ends_bare : {σ2 : Standing} {served : Served F} → SearchesBare rule d σ1 σ2 (Some served) → Ends rule d σ σ2 (Ok served)
  ends_bare {served = served} bare = let found = subst (λ x. ServesBare rule x d bare.steps served) (profile_kept offered.adds) bare.outcome in record {
    steps = bare.steps ++ offered.steps;
    adds = bare_adds bare.adds;
    few = omega (arith, offered.few, bare.few, pages_kept, length-append bare.steps offered.steps);
    searches = deed_search rule f d marks offered.steps bare.steps offered.outcome served found;
    outcome = deed_serves rule f d marks offered.steps bare.steps offered.outcome served found;
  }

  -- ---- a refusal
  -- A search that found neither, and was judged, ends refused for that reason.
  pub ends_refused : {σ2 σ3 : Standing} (room : NoRoom) → SearchesBare rule d σ1 σ2 None → Judges marks d σ2 σ3 room → Ends rule d σ σ3 (Err room)
  ends_refused room bare judged =
      let verdict = subst (λ x. IsVerdict x marks d judged.steps room) (profile_kept (bare_adds bare.adds)) judged.verdict in
      let xs : List Made = bare.steps ++ offered.steps in
      let s = vain_searching rule f d (f.pages + 1) marks bare.steps offered.steps (reads_vain bare.steps bare.outcome.0) offered.outcome in
      let deeds : AllDeeds (f.pages + 1) xs = λ p low high. deed_before p bare.steps offered.steps (bare.outcome.1 p low (omega (arith, high, pages_kept))) in
      record {
        steps = judged.steps ++ xs;
        adds = adds_call {D = AnyView} (bare_adds bare.adds) judged.adds (λ v l stood met. tt);
        few =
            let last : last_block f room ≤ f.pages / 64 = (grind arith) in
            let short = subst (λ x. length judged.steps ≤ 65 * (last_block x room + 1)) (profile_kept (bare_adds bare.adds)) judged.few in
            omega (arith, last, short, offered.few, bare.few, pages_kept, length-append judged.steps xs, length-append bare.steps offered.steps);
        searches = vain_search judged.steps xs (reads_vain judged.steps (looks_read judged.steps (scans_look judged.steps judged.scans))) s.searches;
        outcome = refused rule f d marks judged.steps xs judged.scans s room verdict deeds;
      }

  -- Once no page without a deed was found, the verdict may be asked for.
  pub verdict_can : {σ2 : Standing} → SearchesBare rule d σ1 σ2 None → CanCall σ (MaySearch d) → CanCall σ2 AnyView
  verdict_can bare can = can_call {C = MaySearch d} (bare_adds bare.adds) can (λ v l stood met. tt)

  -- what the search of pages without a deed asks: what was known of deeds is known still, and no event was made
  pub bare_can : {spare spare' : ℕ} → CanCall σ (SearchRoom σ.seat.profile d rule.events spare)
      → ((v : View) (l : Whole) → σ.stands v l → spare + length (events_of σ.seat.actor v) ≡ σ.seat.room)
      → ((v : View) (l : Whole) → σ1.stands v l → spare' + length (events_of σ1.seat.actor v) ≡ σ1.seat.room)
      → CanCall σ1 (BareRoom σ1.seat.profile rule.events spare')
  bare_can {spare} {spare'} can law law' =
      let keep = λ (n : ℕ) (fits : n ≤ spare). room_kept {C = MaySearch d} n offered.adds (may_can can) offered.outcome.quiet law law' fits in
      can_call {C = SearchRoom f d _ _} (adds_under offered.adds (λ v l stood met. met.may)) can (λ v l stood met. let agreed = offered.adds.agreed v l stood met.may in record {
        clear = clear_then v met.may agreed;
        room = subst (λ x. HasRoom x rule.events spare' (offered.steps ++ v)) (sym (profile_kept offered.adds)) (keep rule.events met.room.0, elim met.room.1 [ inl all ↦ inl (all_known f _ v agreed all) | inr wide ↦ inr (keep _ wide) ]);
      })

-- ---- with what it says on a desk that tells the whole state
pub searches_by : {F : Type 0} {rule : Rule F} {σ σ' : Standing} {answer : Result (Served F) NoRoom} (tells : Bool) (d : Directory) → IsValid σ.seat.profile
    → IsDirectoryOf σ.seat.profile d → IsAntitone rule.no_fit
    → ((v : View) (l : Whole) → tells ≡ true → σ'.stands v l → Legal σ'.seat.profile l)
    → ((v : View) (l : Whole) → tells ≡ true → σ.stands v l → part σ.seat.actor l ≡ v) → Ends rule d σ σ' answer → Searches rule tells d σ σ' answer
searches_by {F} {rule} {σ} {σ'} {answer} tells d valid of fewer told parts ends = search (arith, all_told, legal_after, lends_none)

-- A search whose actor alone made steps meanwhile: its promise is what the law of the lone search asks.
abbrev pub IsOutcome : {F : Type 0} → Rule F → Profile → Directory → List Made → Result (Served F) NoRoom → Type 0
IsOutcome rule f d steps answer = MatchResult answer (IsServed rule f d steps) (IsRefused rule.no_fit f d steps)

-- ---- its promise is what the law asks
shows_none : {F : Type 0} (rule : Rule F) (f : Profile) (d : Directory) (steps : List Made) (room : NoRoom) → IsRefused rule.no_fit f d steps room
    → ShowsNone rule.no_fit f d steps
shows_none rule f d steps room is = record { searched = is.searched; deeds = is.deeds; quiet = is.quiet }

-- What a search promises shows its answer.
pub shows_answer : {F : Type 0} (rule : Rule F) (f : Profile) (d : Directory) (v : View) (steps : List Made) → MaySearch d v → Agreed f v steps
    → (answer : Result (Served F) NoRoom) → IsOutcome rule f d steps answer → ShowsAnswer rule.no_fit f d v steps (page_found answer)
shows_answer rule f d v steps may agreed answer is = grind (arith, once_map, shows_none)

-- ---- where no other actor made a step meanwhile
module _ {F : Type 0} (rule : Rule F) (f : Profile) (d : Directory) (k : ℕ) (l : Whole) (steps : List Made) (valid : IsValid f) (of : IsDirectoryOf f d)
    (fewer : IsAntitone rule.no_fit) (legal : Legal f (triples k steps ++ l)) (searches : AreSearch steps) (may : MaySearch d (part k l)) where
  -- Each answer of the search agrees with the actor's view of its moment.
  agreed : Agreed f (part k l) steps
  agreed = agreed_steps f k l steps valid legal

  -- The answer of a search whose actor went on alone is told of the states at entry and exit.
  pub told_alone : (answer : Result (Served F) NoRoom) → IsOutcome rule f d steps answer
      → IsTold (λ (s : Served F). s.page) rule.no_fit f d l (triples k steps ++ l) answer
  told_alone = all_told rule f k l d steps valid of fewer legal (lends_none searching refl steps searches.kinds) may agreed

  -- Where all are at rest, the answer of a lone search is the plain one: no page is held.
  pub plain_alone : AllRest f l → (answer : Result (Served F) NoRoom) → IsOutcome rule f d steps answer → IsPlainAnswer rule.no_fit f d l (page_found answer)
  plain_alone rest answer is = plain_answer _ f d k l steps _ valid of fewer rest (record { legal = legal; lends_none = lends_none searching refl steps searches.kinds; shows = shows_answer rule f d _ steps may agreed _ is })

-- ---- an answer, whatever a back end takes
-- the search found this page, and what was read of it fits
pub record FoundPage (no_fit : Readings → Type 0) (f : Profile) (d : Directory) (steps : List Made) : Type 0 where
  pub page : ℕ
  pub of_region : IsPage f page
  pub choice : FromOffered no_fit d page steps ⊎ ByDeed no_fit f d page steps
  pub kept : ℕ → Bool
  pub shows : ShowsFit no_fit kept f page (MaySearch d) steps steps

abbrev pub IsFoundOrRefused : {A : Type 0} → (Readings → Type 0) → Profile → Directory → List Made → Result A NoRoom → Type 0
IsFoundOrRefused no_fit f d steps answer = MatchResult answer (λ found. FoundPage no_fit f d steps) (IsRefused no_fit f d steps)

abbrev any_of : (Readings → Type 0) → Rule (Unit {0})
any_of no_fit = record { suits = λ d. Unit {0}; no_fit = no_fit; kept = λ found b. false; keeps_right = λ found. false; serves = λ page steps found. Unit {0}; events = 0; steps = 0 }

module _ (no_fit : Readings → Type 0) (f : Profile) (d : Directory) (k : ℕ) (l : Whole) (steps : List Made) (valid : IsValid f) (of : IsDirectoryOf f d)
    (fewer : IsAntitone no_fit) (legal : Legal f (triples k steps ++ l)) (searches : AreSearch steps) (may : MaySearch d (part k l)) where
  -- A search that was refused while its actor went on alone tells that no page fits, before and after it, and why.
  pub refused_told : (room : NoRoom) → IsRefused no_fit f d steps room
      → HasNoFit no_fit f d l × HasNoFit no_fit f d (triples k steps ++ l) × IsTrueReason f d (triples k steps ++ l) room
  refused_told room is = told_alone (any_of no_fit) f d k l steps valid of fewer legal searches may (Err room) is

  -- a page that was found could serve before
  could_before : FoundPage no_fit f d steps → HasNoFit no_fit f d l → ⊥
  could_before found none = elim (could_serve (any_of no_fit) f k l d steps valid of fewer legal (lends_none searching refl steps searches.kinds) may
      (agreed_steps f k l steps valid legal) _ _ found.of_region found.choice found.shows) [
        | inl offered ↦ none.offered found.page offered.this
        | inr bare ↦ none.bare found.page bare.this
      ]

  none_before : (room : NoRoom) → IsRefused no_fit f d steps room → HasNoFit no_fit f d l
  none_before room is = (refused_told room is).0

  held_by_none : AllRest f l → (page : ℕ) → IsRefused no_fit f d steps (Held page) → ⊥
  held_by_none rest page is = (plain_alone (any_of no_fit) f d k l steps valid of fewer legal searches may rest (Err (Held page)) is).not_held page refl

  finds_what_there_is : {A : Type 0} (answer : Result A NoRoom) → IsFoundOrRefused no_fit f d steps answer → FindsWhatThereIs no_fit f d l answer
  finds_what_there_is answer is = search (arith, could_before, none_before, held_by_none)

-- the same of a search after which the actor went on, as the list with its later steps is legal
pub found_before : {A : Type 0} (no_fit : Readings → Type 0) (f : Profile) (d : Directory) (k : ℕ) (l : Whole) (after searched : List Made) → IsValid f
    → IsDirectoryOf f d → IsAntitone no_fit → Legal f (triples k (after ++ searched) ++ l) → AreSearch searched → MaySearch d (part k l)
    → (answer : Result A NoRoom) → IsFoundOrRefused no_fit f d searched answer → FindsWhatThereIs no_fit f d l answer
found_before no_fit f d k l after searched valid of fewer legal searches may = finds_what_there_is _ f d k l _ valid of fewer (legal_earlier f k _ _ l legal) searches may

-- ---- a page that is in some actor's hands
none_in_hands : (f : Profile) (d : Directory) (w : Whole) (p : ℕ) → IsDirectoryOf f d → Legal f w → ((j : ℕ) → has_right (part j w) p ≡ false)
    → IsInHands f d w p → ⊥
none_in_hands f d w p of legal none hands =
    let at = spotted f w legal p in
    let with = in_hands _ _ at.deed (λ z. deed_word_of-positive d (sym hands.of_directory ∙ z)) (sym (own_eligible f w legal p d of hands.of_directory) ∙ hands.not_offered) (sym at.parked ∙ hands.not_parked) in
    true≢false (sym (at.has with.0 ∙ ap (is_with with.0) with.1 ∙ is_with_own with.0) ∙ none with.0)

-- the actor has no right of a page of the directory
abbrev pub OwnLacks : ℕ → Directory → Whole → Type 0
OwnLacks k d w = (p : ℕ) → word_after w (Word.Deed p) ≡ deed_word_of d → has_right (part k w) p ≡ false

-- so it is where it had none before and these steps leave all as it was
pub still_lacks : (f : Profile) (k : ℕ) (l : Whole) (d : Directory) (steps : List Made) → IsValid f → Legal f (triples k steps ++ l)
    → ((p : ℕ) → KnowsDeed p d (part k l) → has_right (part k l) p ≡ false) → Does nothing (part k l) (steps ++ part k l)
    → OwnLacks k d (triples k steps ++ l)
still_lacks f k l d steps valid legal may still p deed = search (arith, part_of_own, entry_lacks, legal_before)

-- where no other actor has a right there, no page of the directory is in anybody's hands
pub none_held_there : (f : Profile) (k : ℕ) (d : Directory) (w : Whole) (room : NoRoom) → IsDirectoryOf f d → Legal f w → OwnLacks k d w
    → ((j p : ℕ) → k ≢ j → has_right (part j w) p ≡ false) → IsTrueReason f d w room → room ≡ NoSpace
none_held_there f k d w room of legal own others reason = grind (arith, none_in_hands, cases_eq)
