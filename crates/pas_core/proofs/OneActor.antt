-- Laws of one actor alone, in a list that is legal as a whole: what its steps leave as it was, which grains are free and where rights are before and
-- after them, and what its search finds.
use Rattle.pas_core.proofs.{Deeds.{word_stays, looked, deed_kept, known_is, numbered_ne}, Rights.{put_keeps, one_has_right, offered_has_deed, offered_spot}}
use Rattle.pas_core.proofs.Rights.{own_eligible, is_on_offer, Spot, With, is_with, is_offered, is_parked, spot_of, DeedFits, IsSpotted, step_suits, spotted}
use Rattle.pas_core.{proofs.{Grains.{Fits, free_moved, free_step, step_fits, placed_once, is_held_by-true}, Nexts.agrees_next}, specs.Rights.free_of_page}
use Rattle.pas_core.specs.{Rights.{eligible_bit, parked_bit, AllRest}, Good.{Place, Held, is_free, is_held_by, IsPlacedOnce}, Fits.{IsOfferedFit, HasNoFit}}
use Rattle.pas_core.specs.Alone.{ShowsNone, ShowsHeld, ShowsAnswer, SearchesAlone, IsPlainAnswer}
use Rattle.std.proofs.Common.{◌≡◌, ℕ, ◌/◌, true, false, if◌then◌else◌, List, [], ◌∷◌, ◌++◌, refl, ap, ◌∙◌, true≢false, ◌≢◌, ◌+◌, ◌*◌, ◌%◌, ◌<◌, ◌==◌, Bool}
use Rattle.std.proofs.{Common.{◌||◌, sym, arith, inl, inr, None, Some, subst, Result, Ok, Err, eq-eqb, eqb-true}, lemmas.Bool.{cases_Bool, cond_both, or_left}}
use Rattle.std.proofs.lemmas.Bool.{or_parts, or_from, cases_eq, false≢true, and_parts}
use Rattle.pas_bits.specs.Bits.{has_bit}
use Rattle.pas_profile.specs.{Directories.{number_of, deed_word_of}, Layouts.same_word, Profiles.{IsValid, IsDirectoryOf}, declared.word.Word.Word}
use Rattle.pas_profile.specs.declared.{profile.Profile.Profile, event.{Event.Event, NoRoom.{NoRoom, TheVariants.NoSpace}}, directory.Directory.Directory}
use Rattle.pas_profile.proofs.Codecs.{deed_word_of-positive, numbered}
use Rattle.pas_steps.specs.{Effects.{target, new_value, free_word_at}, Desks.{triples, triple}, Past.{Once, Always}, Events.event_of, Allowed.Allowed}
use Rattle.pas_steps.specs.{Agreement.Agrees, Views.{epoch_of, View, Move, Stays, Gets, Puts, Gives, Ends, grain_move, held_after, holds, way, had_after}}
use Rattle.pas_steps.specs.{Views.{has_right, known_deed, KnowsDeed}, Lists.{Whole, part, word_after, Legal}, Kinds.{Kinds, kind_of, is_in, apart, Only}}
use Rattle.pas_steps.specs.{Kinds.{Taking, Claiming, Deeding, lending}, declared.step.{Made.Made, Step.{Step, TheVariants.Deed}}, Evidence.Readings}
use Rattle.pas_steps.specs.Evidence.{IsAntitone, ReadsFree, ReadsDeed, ShowsHere, KeptHere, UnfitHere, DeedHere, ReadsEligible, ReadsParked, ZeroHere, OneHere}
use Rattle.pas_steps.{specs.Evidence.{ParkedHere, LacksAfter, Searched, AllDeeds}, proofs.{Apart.in_apart, Past.{since_once, always_map, once_map}}}
use Rattle.pas_steps.proofs.{Parts.{part_of_own, part_of_others, each_part}, Adding.triples_append, Frames.{right_own, right_of_own, lacks_now, deed_stays}}

-- ==== Bits of free and eligible words, and deed words, that steps of some kinds leave as they were.

-- what no step of these kinds ends holds of a word after them
over : (Q : ℕ → Type 0) (x : Word) (ks ls : Kinds)
    → ((e : ℕ) (s : Step) (old : ℕ) → is_in ls (kind_of s) ≡ false → Q old → Q (if same_word (target s) x then new_value e s old else old)) → apart ks ls ≡ true
    → (k : ℕ) (xs : List Made) (l : Whole) → Only ks xs → Q (word_after l x) → Q (word_after (triples k xs ++ l) x)
over Q x ks ls step w k [] l only h = h
over Q x ks ls step w k (m ∷ xs) l only h = search (arith, in_apart, over Q x ks ls step w k xs l only.1 h)

-- where none takes, free grains stay free
pub free_stays : (ks : Kinds) → apart ks (Taking ∷ []) ≡ true → (k : ℕ) (xs : List Made) (l : Whole) (p w b : ℕ) → Only ks xs
    → has_bit (word_after l (Word.Free p w)) b ≡ true → has_bit (word_after (triples k xs ++ l) (Word.Free p w)) b ≡ true
free_stays ks apart k xs l p w b = over (λ n. has_bit n b ≡ true) _ ks _ (λ e s old other. (λ h. grind (arith, looked, put_keeps, true≢false))) apart k xs l

-- where none claims, offered pages stay offered
pub offered_stays : (ks : Kinds) → apart ks (Claiming ∷ []) ≡ true → (k : ℕ) (xs : List Made) (l : Whole) (n j b : ℕ) → Only ks xs
    → has_bit (word_after l (Word.Eligible n j)) b ≡ true → has_bit (word_after (triples k xs ++ l) (Word.Eligible n j)) b ≡ true
offered_stays ks apart k xs l n j b = over (λ a. has_bit a b ≡ true) _ ks _ (λ e s old other. (λ h. grind (arith, looked, put_keeps, true≢false))) apart k xs l

-- where none makes a deed, deed words stay
pub deed_same : (ks : Kinds) → apart ks (Deeding ∷ []) ≡ true → (k : ℕ) (xs : List Made) (l : Whole) (p : ℕ) → Only ks xs
    → word_after (triples k xs ++ l) (Word.Deed p) ≡ word_after l (Word.Deed p)
deed_same ks apart k xs l p only = over (λ n. n ≡ word_after l (Word.Deed p)) _ ks _ (λ e s old other h. (grind (arith, looked, true≢false)) ∙ h) apart k xs l only refl

-- ==== Which grains are free, and which deed words there are, before and after the steps of an actor that gives and ends no block.

-- ---- how such steps move a grain
abbrev IsPlain : Move → Type 0
IsPlain Stays = Unit {0}
IsPlain Gets = Unit {0}
IsPlain Puts = Unit {0}
IsPlain (Gives a) = ⊥
IsPlain (Ends a) = ⊥

-- no block is given or ended
abbrev pub LendsNone : List Made → Type 0
LendsNone = Always (λ m before. is_in lending (kind_of m.step) ≡ false)

-- Steps of kinds apart from gives and ends give and end no block.
pub lends_none : (ks : Kinds) → apart ks lending ≡ true → (xs : List Made) → Only ks xs → LendsNone xs
lends_none ks w xs = search (arith, always_map, in_apart)

-- the bit of a grain of the region: it is set where the grain is free
abbrev pub bit_of : Whole → ℕ → Bool
bit_of l g = has_bit (word_after l (free_word_at g)) (g % 64)

holds_own : (g : ℕ) (xs : List Made) (v : View) → holds v g ≡ false → holds (xs ++ v) g ≡ holds xs g
holds_own g [] v h = h
holds_own g (m ∷ xs) v h = ap (held_after (grain_move m.step m.answer g)) (holds_own g xs v h)

bit_moved : (f : Profile) (k : ℕ) (l : Whole) (g : ℕ) (m : Made) (xs : List Made) → Legal f (triples k (m ∷ xs) ++ l)
    → bit_of (triples k (m ∷ xs) ++ l) g ≡ free_moved (grain_move m.step m.answer g) (bit_of (triples k xs ++ l) g)
bit_moved f k l g m xs legal = free_step f (triples k xs ++ l) (epoch_of (part k (triples k xs ++ l))) m.step m.answer g legal.0.of_region legal.0.answer_is

-- ---- a grain that was free at entry is free, or the call holds it
pub free_or_held : (f : Profile) (k : ℕ) (l : Whole) (g : ℕ) (xs : List Made) → Legal f (triples k xs ++ l) → LendsNone xs → bit_of l g ≡ true
    → (bit_of (triples k xs ++ l) g || holds xs g) ≡ true
free_or_held f k l g [] legal lends free = or_left (bit_of l g) false free
free_or_held f k l g (m ∷ xs) legal lends free =
    ap (λ x. x || held_after (grain_move m.step m.answer g) (holds xs g)) (bit_moved f k l g m xs legal)
    ∙ (let plain_move : IsPlain (grain_move m.step m.answer g) = grind (arith, cond_both, true≢false) in
    grind (arith, plain_move, free_or_held f k l g xs legal.1 lends.1 free))

-- ---- a grain that is neither free nor the actor's stays so
abbrev pub Used : ℕ → Whole → ℕ → List Made → Type 0
Used k l g xs = (bit_of (triples k xs ++ l) g ≡ false) × (holds (xs ++ part k l) g ≡ false)

used_move : (k : ℕ) (m : Move) (o : Place) (bit held : Bool) → IsPlain m → Fits k m o → is_free o ≡ false → is_held_by k o ≡ false → bit ≡ false → held ≡ false
    → (free_moved m bit ≡ false) × (held_after m held ≡ false)
used_move k s o bit held plain fits not_free not_held b h = grind (arith, true≢false, eq-eqb)

used_next : (f : Profile) (k : ℕ) (l : Whole) (g : ℕ) (m : Made) (xs : List Made) → IsValid f → Legal f (triples k (m ∷ xs) ++ l)
    → is_in lending (kind_of m.step) ≡ false → Used k l g xs → Used k l g (m ∷ xs)
used_next f k l g m xs valid legal search used =
    let w : Whole = triples k xs ++ l in
    let at : IsPlacedOnce w g = placed_once f w valid legal.1 g in
    let moved = used_move k _ at.place _ _ (grind (arith, cond_both, true≢false))
    (step_fits f w k _ _ g at valid legal.0.of_region legal.0.allowed legal.0.answer_is)
    (sym at.free ∙ used.0) (sym (at.held k) ∙ ap (λ v. holds v g) (part_of_own k xs l) ∙ used.1) used.0 used.1 in
    (bit_moved f k l g m xs legal ∙ moved.0, moved.1)

used_all : (f : Profile) (k : ℕ) (l : Whole) (g : ℕ) (xs : List Made) → IsValid f → Legal f (triples k xs ++ l) → LendsNone xs → Used k l g [] → Used k l g xs
used_all f k l g [] valid legal lends used = used
used_all f k l g (m ∷ xs) valid legal lends used = used_next f k l g m xs valid legal lends.0 (used_all f k l g xs valid legal.1 lends.1 used)

-- ---- what a reading of a free word shows
free_read : (page word : ℕ) (s : Step) (w : Whole) → ReadsFree page word s → word_after w (target s) ≡ word_after w (Word.Free page word)
free_read page word s w e = grind arith

-- What a look shows of a grain is its bit at that moment.
pub shown : (f : Profile) (k : ℕ) (l : Whole) (page b : ℕ) (r : Readings) (m : Made) (xs : List Made) → Legal f (triples k (m ∷ xs) ++ l) → b < 256
    → ShowsHere page (b / 64) r m xs → r b ≡ (bit_of (triples k xs ++ l) (page * 256 + b) || holds xs (page * 256 + b))
shown f k l page b r m xs legal lt s = search (arith, free_read)

-- A grain of a page is free where its bit is set.
pub of_page : (l : Whole) (page b : ℕ) → free_of_page l page b ≡ bit_of l (page * 256 + b)
of_page l page b = let bit : b % 64 ≡ (page * 256 + b) % 64 = omega arith in ap (λ n. has_bit (word_after l (free_word_at (page * 256 + b))) n) bit

-- a grain that was free at entry is read as free
pub free_shown : (f : Profile) (k : ℕ) (l : Whole) (page b : ℕ) (r : Readings) (xs : List Made) → Legal f (triples k xs ++ l) → LendsNone xs → b < 256
    → bit_of l (page * 256 + b) ≡ true → Once (ShowsHere page (b / 64) r) xs → r b ≡ true
free_shown f k l page b r [] legal lends lt free h = absurd h
free_shown f k l page b r (m ∷ xs) legal lends lt free (inr h) = free_shown f k l page b r xs legal.1 lends.1 lt free h
free_shown f k l page b r (m ∷ xs) legal lends lt free (inl s) = shown f k l page b r m xs legal lt s ∙ free_or_held f k l _ xs legal.1 lends.1 free

-- one that was read as not free, and that the actor didn't hold at entry, is used from then on
shown_used : (f : Profile) (k : ℕ) (l : Whole) (page b : ℕ) (r : Readings) (xs : List Made) → IsValid f → Legal f (triples k xs ++ l) → LendsNone xs → b < 256
    → r b ≡ false → holds (part k l) (page * 256 + b) ≡ false → Once (ShowsHere page (b / 64) r) xs → Used k l (page * 256 + b) xs
shown_used f k l page b r [] valid legal lends lt miss none h = absurd h
shown_used f k l page b r (m ∷ xs) valid legal lends lt miss none (inr h) = used_next f k l _ m xs valid legal lends.0 (shown_used f k l page b r xs valid legal.1 lends.1 lt miss none h)
shown_used f k l page b r (m ∷ xs) valid legal lends lt miss none (inl s) =
    let parts = or_parts _ _ (sym (shown f k l page b r m xs legal lt s) ∙ miss) in
    used_next f k l _ m xs valid legal lends.0 (parts.0, holds_own _ xs _ none ∙ parts.1)

-- one that was used at entry is read as not free
used_shown : (f : Profile) (k : ℕ) (l : Whole) (page b : ℕ) (r : Readings) (xs : List Made) → IsValid f → Legal f (triples k xs ++ l) → LendsNone xs → b < 256
    → Used k l (page * 256 + b) [] → Once (ShowsHere page (b / 64) r) xs → r b ≡ false
used_shown f k l page b r [] valid legal lends lt used h = absurd h
used_shown f k l page b r (m ∷ xs) valid legal lends lt used (inr h) = used_shown f k l page b r xs valid legal.1 lends.1 lt used h
used_shown f k l page b r (m ∷ xs) valid legal lends lt used (inl s) =
    let now : Used k l (page * 256 + b) xs = used_all f k l _ xs valid legal.1 lends.1 used in
    shown f k l page b r m xs legal lt s ∙ or_from _ _ now.0 (sym (holds_own _ xs _ used.1) ∙ now.1)

-- ---- a page that didn't fit
-- it fitted neither at entry ..
pub unfit_entry : (no_fit : Readings → Type 0) (f : Profile) (k : ℕ) (l : Whole) (page : ℕ) (xs : List Made) → IsAntitone no_fit → Legal f (triples k xs ++ l)
    → LendsNone xs → Once (UnfitHere no_fit page) xs → no_fit (free_of_page l page)
unfit_entry no_fit f k l page [] fewer legal lends h = absurd h
unfit_entry no_fit f k l page (m ∷ xs) fewer legal lends (inr h) = unfit_entry no_fit f k l page xs fewer legal.1 lends.1 h
unfit_entry no_fit f k l page (m ∷ xs) fewer legal lends (inl u) =
    fewer u.readings (free_of_page l page) (λ b lt free. free_shown f k l page b u.readings xs legal.1 lends.1 lt (sym (of_page l page b) ∙ free)
    (since_once _ _ xs (u.read (b / 64) (omega (arith, lt))))) u.none

unfit_used : (no_fit : Readings → Type 0) (f : Profile) (k : ℕ) (l : Whole) (page : ℕ) (xs : List Made) → IsValid f → Legal f (triples k xs ++ l) → LendsNone xs
    → Once (UnfitHere no_fit page) xs
    → (r : Readings) × no_fit r × ((b : ℕ) → b < 256 → r b ≡ false → holds (part k l) (page * 256 + b) ≡ false → Used k l (page * 256 + b) xs)
unfit_used no_fit f k l page [] valid legal lends h = absurd h
unfit_used no_fit f k l page (m ∷ xs) valid legal lends (inr h) =
    let old = unfit_used no_fit f k l page xs valid legal.1 lends.1 h in
    (old.0, old.1, λ b lt miss none. used_next f k l _ m xs valid legal lends.0 (old.2 b lt miss none))
unfit_used no_fit f k l page (m ∷ xs) valid legal lends (inl u) = (
  u.readings,
  u.none,
  λ b lt miss none. used_next f k l _ m xs valid legal lends.0
      (shown_used f k l page b u.readings xs valid legal.1 lends.1 lt miss none (since_once _ _ xs (u.read (b / 64) (omega (arith, lt))))),
)

-- .. nor at exit, where the actor holds what it held
pub unfit_exit : (no_fit : Readings → Type 0) (f : Profile) (k : ℕ) (l : Whole) (page : ℕ) (xs : List Made) → IsAntitone no_fit → IsValid f
    → Legal f (triples k xs ++ l) → LendsNone xs → ((g : ℕ) → holds (xs ++ part k l) g ≡ holds (part k l) g) → Once (UnfitHere no_fit page) xs
    → no_fit (free_of_page (triples k xs ++ l) page)
unfit_exit no_fit f k l page xs fewer valid legal lends still h =
    let w : Whole = triples k xs ++ l in
    let r = unfit_used no_fit f k l page xs valid legal lends h in
    fewer r.0 (free_of_page w page) (λ b lt free. let g : ℕ = page * 256 + b in
    elim (cases_Bool (r.0 b)) [
      | inl hit ↦ hit
      | inr miss ↦ elim (cases_Bool _) [
        | inr none ↦ absurd (true≢false (sym free ∙ of_page w page b ∙ (r.2 b lt miss none).0))
        | inl held ↦
            let at : IsPlacedOnce w g = placed_once f w valid legal g in
            let mine : is_held_by k at.place ≡ true = sym (at.held k) ∙ ap (λ v. holds v g) (part_of_own k xs l) ∙ still g ∙ held in
            absurd (true≢false (sym free ∙ of_page w page b ∙ at.free ∙ ap is_free (is_held_by-true k at.place mine)))
      ]
    ]) r.1

-- a page that was read as fitting fitted at entry, where no grain that the actor held was read as free
pub fit_entry : (no_fit : Readings → Type 0) (f : Profile) (k : ℕ) (l : Whole) (page : ℕ) (r : Readings) (xs : List Made) → IsAntitone no_fit → IsValid f
    → Legal f (triples k xs ++ l) → LendsNone xs
    → (no_fit r → ⊥) → ((word : ℕ) → word < 4 → Once (ShowsHere page word r) xs) → ((g : ℕ) → g / 256 ≡ page → holds (part k l) g ≡ true → r (g % 256) ≡ false)
    → no_fit (free_of_page l page) → ⊥
fit_entry no_fit f k l page r xs fewer valid legal lends fits read held none =
    fits (fewer (free_of_page l page) r (λ b lt hit. let g : ℕ = page * 256 + b in
    let rest : g % 256 ≡ b = omega (arith, lt) in
    elim (cases_Bool _) [
      | inl free ↦ of_page l page b ∙ free
      | inr used ↦ elim (cases_Bool _) [
        | inl mine ↦ absurd (true≢false (sym hit ∙ ap r (sym rest) ∙ held g (omega (arith, lt)) mine))
        | inr none ↦ absurd (true≢false (sym hit ∙ used_shown f k l page b r xs valid legal lends lt (used, none) (read (b / 64) (omega (arith, lt)))))
      ]
    ]) none)

-- ---- deed words
abbrev pub MakesNoEvent : List Made → Type 0
MakesNoEvent = Always (λ m before. (k epoch : ℕ) → event_of k epoch m.step m.answer ≡ None)

-- A step that makes its event only where it passes a test, and makes none, doesn't pass it.
pub no_event_fails_test : (t : Bool) (e : Event) → (if t then Some e else None) ≡ None → t ≡ false
no_event_fails_test t e h = grind arith

-- A deed that isn't made leaves the word.
no_deed_written : (t z : Bool) (word old : ℕ) → (t ≡ true → z ≡ false) → (if t then (if z then word else old) else old) ≡ old
no_deed_written t z word old h = grind arith

deed_step : (w : Whole) (e : ℕ) (s : Step) (a p : ℕ) → a ≡ word_after w (target s) → ((k epoch : ℕ) → event_of k epoch s a ≡ None)
    → (if same_word (target s) (Word.Deed p) then new_value e s (word_after w (Word.Deed p)) else word_after w (Word.Deed p)) ≡ word_after w (Word.Deed p)
deed_step w e (Deed q d) a p is quiet = no_deed_written _ _ _ _
    (λ h. ap (λ n. n == 0) (sym (is ∙ ap (λ x. word_after w (Word.Deed x)) (eqb-true q p h))) ∙ no_event_fails_test _ (Event.Deed 0 q d) (quiet 0 0))
deed_step w e s a p is quiet = search (arith, looked)

-- without events it stays as it was
pub deed_quiet : (f : Profile) (k : ℕ) (l : Whole) (p : ℕ) (xs : List Made) → Legal f (triples k xs ++ l) → MakesNoEvent xs
    → word_after (triples k xs ++ l) (Word.Deed p) ≡ word_after l (Word.Deed p)
deed_quiet f k l p [] legal quiet = refl
deed_quiet f k l p (m ∷ xs) legal quiet = search (arith, deed_step, deed_quiet f k l p xs legal.1 quiet.1)

-- A look at a page's deed word reads that word.
pub deed_read : (p : ℕ) (s : Step) (w : Whole) → ReadsDeed p s → word_after w (target s) ≡ word_after w (Word.Deed p)
deed_read p s w e = grind arith

-- one that was read as not 0 isn't 0 at exit
pub deed_exit : (f : Profile) (k : ℕ) (l : Whole) (p : ℕ) (xs : List Made) → Legal f (triples k xs ++ l) → Once (DeedHere p) xs
    → word_after (triples k xs ++ l) (Word.Deed p) ≢ 0
deed_exit f k l p [] legal h = absurd h
deed_exit f k l p (m ∷ xs) legal (inl z) = search (arith, deed_read, deed_kept)
deed_exit f k l p (m ∷ xs) legal (inr h) =
    let some = deed_exit f k l p xs legal.1 h in λ e. some (sym (deed_kept (triples k xs ++ l) (triple k m) p some) ∙ e)

-- where there is no deed there was none
pub deed_none : (k : ℕ) (l : Whole) (p : ℕ) (xs : List Made) → word_after (triples k xs ++ l) (Word.Deed p) ≡ 0 → word_after l (Word.Deed p) ≡ 0
deed_none k l p [] h = h
deed_none k l p (m ∷ xs) h = deed_none k l p xs (search (arith, word_stays))

-- ==== Where the right of a page is before and after the steps.

-- ---- a page whose right the call never had stays where it was
-- A right that is with an actor is with just that actor.
pub is_with_own : (k : ℕ) → is_with k (With k) ≡ true
is_with_own k = eq-eqb k k refl

not_with : (l : Whole) (k p : ℕ) → IsSpotted l p → has_right (part k l) p ≡ false → spot_of l p ≡ With k → ⊥
not_with l k p at lacks e = true≢false (sym (at.has k ∙ ap (is_with k) e ∙ is_with_own k) ∙ lacks)

-- A page's right stays where it was while an actor alone never has it.
pub spot_same : (f : Profile) (k : ℕ) (l : Whole) (p : ℕ) (xs : List Made) → Legal f (triples k xs ++ l) → has_right (part k l) p ≡ false
    → Always (LacksAfter p) xs → spot_of (triples k xs ++ l) p ≡ spot_of l p
spot_same f k l p [] legal none lacks = refl
spot_same f k l p (m ∷ xs) legal none lacks =
    search (arith, spotted, lacks_now, part_of_own, right_own, true≢false, step_suits, not_with, spot_same f k l p xs legal.1 none lacks.1)

-- ---- readings of the page's bits
eligible_read : (d : Directory) (p : ℕ) (s : Step) (w : Whole) → ReadsEligible d p s
    → word_after w (target s) ≡ word_after w (Word.Eligible (number_of d) (p / 64))
eligible_read d p s w e = grind arith

-- An eligible bit that an actor alone read, without ever having the page's right, tells whether the page was offered.
pub offer_told : (f : Profile) (k : ℕ) (l : Whole) (d : Directory) (p : ℕ) (set : Bool) (xs : List Made) → Legal f (triples k xs ++ l)
    → has_right (part k l) p ≡ false → Always (LacksAfter p) xs
    → Once (λ m before. ReadsEligible d p m.step × (has_bit m.answer (p % 64) ≡ set) × (has_right before p ≡ false)) xs
    → is_offered (number_of d) (spot_of l p) ≡ set
offer_told f k l d p set [] legal none lacks h = absurd h
offer_told f k l d p set (m ∷ xs) legal none lacks (inr h) = offer_told f k l d p set xs legal.1 none lacks.1 h
offer_told f k l d p set (m ∷ xs) legal none lacks (inl z) =
    let w : Whole = triples k xs ++ l in
    let at : IsSpotted w p = spotted f w legal.1 p in
    ap (is_offered (number_of d)) (sym (spot_same f k l p xs legal.1 none lacks.1)) ∙ sym (at.eligible (number_of d))
    ∙ ap (λ n. has_bit n (p % 64)) (sym (eligible_read d p _ w z.0) ∙ sym legal.0.answer_is) ∙ z.1

-- So a page whose bit was read as 0 wasn't offered.
pub zero_told : (f : Profile) (k : ℕ) (l : Whole) (d : Directory) (p : ℕ) (xs : List Made) → Legal f (triples k xs ++ l) → has_right (part k l) p ≡ false
    → Always (LacksAfter p) xs → Once (ZeroHere d p) xs → is_offered (number_of d) (spot_of l p) ≡ false
zero_told f k l d p = offer_told f k l d p false

-- the page was offered when the call read its bit as 1
pub one_told : (f : Profile) (k : ℕ) (l : Whole) (d : Directory) (p : ℕ) (xs : List Made) → Legal f (triples k xs ++ l)
    → Once (λ m before. OneHere d p m before × Always (LacksAfter p) before) xs
    → (ys : List Made) × Legal f (triples k ys ++ l) × Always (LacksAfter p) ys × (eligible_bit (triples k ys ++ l) (number_of d) p ≡ true)
one_told f k l d p [] legal h = absurd h
one_told f k l d p (m ∷ xs) legal (inr h) = one_told f k l d p xs legal.1 h
one_told f k l d p (m ∷ xs) legal (inl z) = (xs, legal.1, z.1, ap (λ n. has_bit n (p % 64)) (sym (eligible_read d p _ _ z.0.0) ∙ sym legal.0.answer_is) ∙ z.0.1)

parked_read : (p : ℕ) (s : Step) (w : Whole) → ReadsParked p s → word_after w (target s) ≡ word_after w (Word.Parked (p / 64))
parked_read p s w (ReadsParked.Looks j ej) = ap (λ x. word_after w (Word.Parked x)) ej

-- A parked bit that an actor alone read, without ever having the page's right, is what it was before.
pub parked_told : (f : Profile) (k : ℕ) (l : Whole) (p : ℕ) (set : Bool) (xs : List Made) → Legal f (triples k xs ++ l) → has_right (part k l) p ≡ false
    → Always (LacksAfter p) xs → Once (ParkedHere set p) xs → is_parked (spot_of l p) ≡ set
parked_told f k l p set [] legal none lacks h = absurd h
parked_told f k l p set (m ∷ xs) legal none lacks (inr h) = parked_told f k l p set xs legal.1 none lacks.1 h
parked_told f k l p set (m ∷ xs) legal none lacks (inl z) =
    cc (spot_same f k l p xs legal.1 none lacks.1, (spotted f _ legal.1 p).parked, parked_read p _ _ z.0)

-- ---- the deed word stays, once it is there
pub deed_later : (k : ℕ) (l : Whole) (p : ℕ) (xs : List Made) → word_after l (Word.Deed p) ≢ 0
    → word_after (triples k xs ++ l) (Word.Deed p) ≡ word_after l (Word.Deed p)
deed_later k l p [] some = refl
deed_later k l p (m ∷ xs) some = let e = deed_later k l p xs some in deed_kept (triples k xs ++ l) (triple k m) p (λ z. some (sym e ∙ z)) ∙ e

-- ---- an actor that has a right knows the page's deed
own_known : (f : Profile) (v : View) (m : Made) (p : ℕ) → Allowed f v m.step → Agrees f v m.step m.answer → (has_right v p ≡ true → known_deed v p ≢ 0)
    → (had : Bool) → has_right v p ≡ had → had_after (way m.step m.answer p) had ≡ true → known_deed (m ∷ v) p ≢ 0
own_known f v m p allowed agrees known had e h = grind (arith, deed_stays, and_parts, false≢true, deed_word_of-positive, cond_both, numbered_ne, eqb-true)

right_known : (f : Profile) (l : Whole) → IsValid f → Legal f l → (k p : ℕ) → has_right (part k l) p ≡ true → known_deed (part k l) p ≢ 0
right_known f l valid legal k p = each_part f (λ l k v. has_right v p ≡ true → known_deed v p ≢ 0) (λ k h. absurd (false≢true h))
    (λ t l legal before. own_known f _ t.made p legal.0.allowed (agrees_next f l _ _ _ _ valid legal.1 refl legal.0.of_region legal.0.answer_is) before _ refl)
    (λ t l k legal other before. before) l legal k

-- An actor that has no right of a page that it knows to be of the directory had none at entry of a page that turns out to be so.
pub entry_lacks : (f : Profile) (k : ℕ) (l : Whole) (d : Directory) (p : ℕ) (xs : List Made) → IsValid f → Legal f l
    → (KnowsDeed p d (part k l) → has_right (part k l) p ≡ false) → word_after (triples k xs ++ l) (Word.Deed p) ≡ deed_word_of d
    → has_right (part k l) p ≡ false
entry_lacks f k l d p xs valid legal may deed = elim (cases_Bool _) [
  | inl has ↦
      let known : known_deed (part k l) p ≢ 0 = right_known f l valid legal k p has in
      let is : known_deed (part k l) p ≡ word_after l (Word.Deed p) = known_is _ _ ((spotted f l legal p).known k) known in
      let there : word_after (triples k xs ++ l) (Word.Deed p) ≡ word_after l (Word.Deed p) = deed_later k l p xs (λ z. known (is ∙ z)) in
      absurd (true≢false (sym has ∙ may (is ∙ sym there ∙ deed)))
  | inr none ↦ none
]

-- The list before the steps of one actor of a legal list is legal.
pub legal_before : (f : Profile) (k : ℕ) (xs : List Made) (l : Whole) → Legal f (triples k xs ++ l) → Legal f l
legal_before f k [] l legal = legal
legal_before f k (x ∷ xs) l legal = legal_before f k xs l legal.1

-- with the earlier ones of its steps alone
pub legal_earlier : (f : Profile) (k : ℕ) (ys xs : List Made) (l : Whole) → Legal f (triples k (ys ++ xs) ++ l) → Legal f (triples k xs ++ l)
legal_earlier f k ys xs l legal = legal_before f k ys (triples k xs ++ l) (subst (Legal f) (sym (triples_append k ys xs l)) legal)

-- the deed of a page that is offered to a directory
pub offered_deed : (f : Profile) (l : Whole) (d : Directory) (p : ℕ) → IsDirectoryOf f d → Legal f l → eligible_bit l (number_of d) p ≡ true
    → word_after l (Word.Deed p) ≡ deed_word_of d
offered_deed f l d p of legal bit = offered_has_deed f l legal (number_of d) p bit ∙ numbered d of.kind

-- An actor hasn't the right of a page that is offered.
pub offered_lacks : (f : Profile) (k : ℕ) (l : Whole) (n p : ℕ) → Legal f l → eligible_bit l n p ≡ true → has_right (part k l) p ≡ false
offered_lacks f k l n p legal bit = let at : IsSpotted l p = spotted f l legal p in at.has k ∙ ap (is_with k) (offered_spot l n p at bit)

-- A page that an actor alone read as offered, never having had its right, was offered.
pub offered_was : (f : Profile) (k : ℕ) (l : Whole) (d : Directory) (p : ℕ) (xs : List Made) → IsValid f → IsDirectoryOf f d → Legal f (triples k xs ++ l)
    → (KnowsDeed p d (part k l) → has_right (part k l) p ≡ false) → Once (λ m before. OneHere d p m before × Always (LacksAfter p) before) xs
    → eligible_bit l (number_of d) p ≡ true
offered_was f k l d p xs valid of legal may once =
    let first : Legal f l = legal_before f k xs l legal in
    let read = one_told f k l d p xs legal once in
    let lacks = entry_lacks f k l d p read.0 valid first may (offered_deed f (triples k read.0 ++ l) d p of read.1 read.3) in
    (spotted f l first p).eligible (number_of d) ∙ ap (is_offered (number_of d)) (sym (spot_same f k l p read.0 read.1 lacks read.2))
    ∙ sym ((spotted f (triples k read.0 ++ l) read.1 p).eligible (number_of d)) ∙ read.3

-- ---- a page whose right the call once had is in nobody's hands but the actor's
had_then : (f : Profile) (k : ℕ) (l : Whole) (p j : ℕ) (xs : List Made) → Legal f (triples k xs ++ l) → k ≢ j → Once (KeptHere p) xs
    → has_right (part j l) p ≡ true → ⊥
had_then f k l p j [] legal ne h there = h
had_then f k l p j (m ∷ xs) legal ne (inr h) there = had_then f k l p j xs legal.1 ne h there
had_then f k l p j (m ∷ xs) legal ne (inl h) there =
    let w : Whole = triples k xs ++ l in
    ne (one_has_right f w legal.1 k j p (ap (λ v. has_right v p) (part_of_own k xs l) ∙ right_of_own p xs _ h)
    (ap (λ v. has_right v p) (part_of_others j k xs l ne) ∙ there))

-- the page has a deed, and is neither offered nor parked, so some actor has its right
pub in_hands : (o : Spot) (word : ℕ) → DeedFits o word → word ≢ 0 → is_on_offer o ≡ false → is_parked o ≡ false → (j : ℕ) × (o ≡ With j)
in_hands o word fits some offer parked = grind (arith, true≢false)

-- A page whose right an actor alone had and gave up is offered or parked, where it has the directory's deed.
pub not_in_hands : (f : Profile) (k : ℕ) (l : Whole) (d : Directory) (p : ℕ) (xs : List Made) → IsDirectoryOf f d → Legal f (triples k xs ++ l)
    → has_right (xs ++ part k l) p ≡ false → Once (KeptHere p) xs
    → word_after (triples k xs ++ l) (Word.Deed p) ≡ deed_word_of d → eligible_bit (triples k xs ++ l) (number_of d) p ≡ false
    → parked_bit (triples k xs ++ l) p ≡ false → ⊥
not_in_hands f k l d p xs of legal lacks once deed not_offered not_parked =
    let w : Whole = triples k xs ++ l in
    let at : IsSpotted w p = spotted f w legal p in
    let some : word_after w (Word.Deed p) ≢ 0 = λ z. deed_word_of-positive d (sym deed ∙ z) in
    let with : (j : ℕ) × (spot_of w p ≡ With j) = search (arith, in_hands, own_eligible) in
    let j : ℕ = with.0 in
    let has : has_right (part j w) p ≡ true = at.has j ∙ ap (is_with j) with.1 ∙ is_with_own j in
    elim (cases_eq k j) [
      | inl same ↦ true≢false (sym (ap (λ x. has_right (part x w) p) same ∙ has) ∙ ap (λ v. has_right v p) (part_of_own k xs l) ∙ lacks)
      | inr ne ↦ had_then f k l p j xs legal ne once (sym (ap (λ v. has_right v p) (part_of_others j k xs l ne)) ∙ has)
    ]

-- ==== One actor alone goes on with one search, after a list at whose end all are at rest.

-- a page that was got and left isn't one whose right the call never had
pub unfit_lacks : (no_fit : Readings → Type 0) (p : ℕ) (xs : List Made) → Once (UnfitHere no_fit p) xs → Always (LacksAfter p) xs → ⊥
unfit_lacks no_fit p [] h lacks = h
unfit_lacks no_fit p (m ∷ more) (inl u) lacks = true≢false (sym u.kept ∙ lacks_now p more lacks.1)
unfit_lacks no_fit p (m ∷ more) (inr h) lacks = unfit_lacks no_fit p more h lacks.1

-- a deed that was made was on a page without one
deed_made : (f : Profile) (k : ℕ) (l : Whole) (d : Directory) (p : ℕ) (xs : List Made) → Legal f (triples k xs ++ l)
    → Once (λ m before. (m.step ≡ Deed p d) × (m.answer ≡ 0)) xs → word_after l (Word.Deed p) ≡ 0
deed_made f k l d p [] legal h = absurd h
deed_made f k l d p (m ∷ xs) legal (inl z) = deed_none k l p xs (sym (legal.0.answer_is ∙ ap (λ s. word_after (triples k xs ++ l) (target s)) z.0) ∙ z.1)
deed_made f k l d p (m ∷ xs) legal (inr h) = deed_made f k l d p xs legal.1 h

-- Of the pages that were searched none was offered and fitted; and where no deed word was read as 0 and no event made, no page could serve.
pub no_fit_there : (no_fit : Readings → Type 0) (f : Profile) (k : ℕ) (l : Whole) (d : Directory) (end : ℕ) (xs : List Made) → IsAntitone no_fit
    → Legal f (triples k xs ++ l) → LendsNone xs → Searched no_fit d end xs → (page : ℕ) → page < end → IsOfferedFit no_fit f d l page → ⊥
no_fit_there no_fit f k l d end xs fewer legal lends searched page high fit =
    let first : Legal f l = legal_before f k xs l legal in
    elim (searched page fit.of_region.0 high) [
      | inl u ↦ fit.fits (unfit_entry no_fit f k l page xs fewer legal lends u)
      | inr z ↦ true≢false (sym fit.offered ∙ (spotted f l first page).eligible (number_of d) ∙ zero_told f k l d page xs legal (offered_lacks f k l _ page first fit.offered) z.0 z.1)
    ]

pub none_serves : (no_fit : Readings → Type 0) (f : Profile) (k : ℕ) (l : Whole) (d : Directory) (xs : List Made) → IsAntitone no_fit
    → Legal f (triples k xs ++ l) → LendsNone xs → Searched no_fit d (f.pages + 1) xs → AllDeeds (f.pages + 1) xs → MakesNoEvent xs → HasNoFit no_fit f d l
none_serves no_fit f k l d xs fewer legal lends searched deeds quiet = record {
  offered = λ page fit. no_fit_there no_fit f k l d (f.pages + 1) xs fewer legal lends searched page (omega (arith, fit.of_region.1)) fit;
  bare = λ page bare. deed_exit f k l page xs legal (deeds page bare.of_region.0 (omega (arith, bare.of_region.1))) (deed_quiet f k l page xs legal quiet ∙ bare.no_deed);
}

module _ (no_fit : Readings → Type 0) (f : Profile) (d : Directory) (k : ℕ) (l : Whole) (xs : List Made) (valid : IsValid f) (of : IsDirectoryOf f d)
    (fewer : IsAntitone no_fit)
    (rest : AllRest f l) (legal : Legal f (triples k xs ++ l)) (lends : LendsNone xs) where
  abbrev w : Whole
  w = triples k xs ++ l

  -- ---- a page that serves could before the search
  -- ---- no page is in another's hands
  nobody_holds : (page : ℕ) → ShowsNone no_fit f d xs → ShowsHeld f d (part k l) page xs → ⊥
  nobody_holds page none shows =
      let lacks : has_right (part k l) page ≡ false = rest.rights page k in
      let same = spot_same f k l page xs legal lacks shows.lacked in
      let at = spotted f w legal page in
      let known : known_deed (part k w) page ≡ deed_word_of d = ap (λ v. known_deed v page) (part_of_own k xs l) ∙ shows.of_directory in
      let deed : word_after w (Word.Deed page) ≡ deed_word_of d = sym (known_is _ _ (at.known k) (λ z. deed_word_of-positive d (sym known ∙ z))) ∙ known in
      let not_offered : is_offered (number_of d) (spot_of l page) ≡ false = search (arith, unfit_lacks, zero_told) in
      let not_parked : is_parked (spot_of l page) ≡ false = parked_told f k l page false xs legal lacks shows.lacked (once_map _ _ xs (λ m before h. h.0) shows.held) in
      let with = in_hands _ _ at.deed (λ z. deed_word_of-positive d (sym deed ∙ z))
      (sym (own_eligible f w legal page d of deed) ∙ at.eligible (number_of d) ∙ ap (is_offered (number_of d)) same ∙ not_offered) (ap is_parked same ∙ not_parked) in
      true≢false (sym ((spotted f l (legal_before f k xs l legal) page).has with.0 ∙ ap (is_with with.0) (sym same ∙ with.1) ∙ is_with_own with.0)
      ∙ rest.rights page with.0)

  -- An answer that one actor's steps show is true of the state.
  plain : (answer : Result ℕ NoRoom) → ShowsAnswer no_fit f d (part k l) xs answer → IsPlainAnswer no_fit f d l answer
  plain (Ok page) (inl shows) = record {
    not_held = λ p bad. absurd cc;
    none_fits = λ bad. absurd cc;
    no_space = λ none. absurd (none.offered page (record {
      of_region = shows.of_region;
      offered = offered_was f k l d page xs valid of legal (λ known. rest.rights page k) shows.offered;
      fits = fit_entry no_fit f k l page shows.readings xs fewer valid legal lends shows.fits shows.read shows.none_held;
    }));
  }
  plain (Ok page) (inr shows) = record { not_held = λ p bad. absurd cc; none_fits = λ bad. absurd cc; no_space = λ none. absurd (none.bare page (record { of_region = shows.of_region; no_deed = deed_made f k l d page xs legal shows.made })) }
  plain (Err NoSpace) shows = record { not_held = λ p bad. absurd cc; none_fits = λ is. none_serves no_fit f k l d xs fewer legal lends shows.searched shows.deeds shows.quiet; no_space = λ none. refl }
  plain (Err (NoRoom.Held page)) shows = absurd (nobody_holds page shows.0 shows.1)

-- after rest a search alone finds what there is
pub plain_answer : (no_fit : Readings → Type 0) (f : Profile) (d : Directory) (k : ℕ) (l : Whole) (xs : List Made) (answer : Result ℕ NoRoom) → IsValid f
    → IsDirectoryOf f d → IsAntitone no_fit → AllRest f l
    → SearchesAlone no_fit f d k l xs answer → IsPlainAnswer no_fit f d l answer
plain_answer no_fit f d k l xs answer valid of fewer rest search = plain no_fit f d k l xs valid of fewer rest search.legal search.lends_none answer search.shows
