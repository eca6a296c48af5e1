-- Steps for each free word in turn, and readings that stand while the right is kept.
use Rattle.std.proofs.Common.{◌≡◌, ℕ, zero, suc, ◌+◌, ◌*◌, ◌/◌, ◌%◌, ◌<◌, ◌≤◌, Bool, true, false, ◌||◌, List, [], ◌∷◌, ◌++◌, length, slice_index, inl, inr}
use Rattle.std.proofs.Common.{refl, ap, sym, ◌∙◌, subst, arith, append_assoc, length-append, true≢false, ◌≢◌, ◌-◌, ◌^◌, ◌==◌, not, ◌&&◌, if◌then◌else◌, ◌⊎◌}
use Rattle.std.proofs.{Common.{MatchBool, eq-eqb, lt-ltb, Option, None, Some, ne_eqb, eqb-true}, lemmas.Bool.{cases_eq, and_from, not_from_false}}
use Rattle.std.proofs.lemmas.Bool.{false_from_ne_true, cases_Bool, MatchBool-at_false}
use Rattle.pas_bits.{specs.{Bits.has_bit, Masks.{is_set, IsEmpty}, declared.mask.Mask4.Mask4}, proofs.Words.{at_word, full_bit}}
use Rattle.pas_profile.specs.{declared.{profile.Profile.Profile, directory.{Directory.Directory, Kind.Kind}, word.Word.Word}, Directories.IsDirectory}
use Rattle.pas_profile.{specs.Directories.deed_word_of, proofs.{Sizes.usable_grains_ge, Codecs.{read-deed_word_of, deed_word_of-positive}}}
use Rattle.pas_steps.specs.{Agreement.Agreed, Past.{Always, Since, Once}, Clear.{OwesNothing, IsClearOn}, Evidence.{KeptHere, Readings, ReadsFree, ShowsHere}}
use Rattle.pas_steps.specs.{Frames.{GivesUp, KeepsRight, AreLooks, OnlyOn, IsOnPage, IsReturn, OnlyReturns}, Views.{View, has_right, all_ones, usable_by_kind}}
use Rattle.pas_steps.specs.Views.{no_usable, holds, known_free, Way, Rests, had_after, known_deed, KnowsDeed, owes_check, owes_hint, is_unstamped, examines}
use Rattle.pas_steps.specs.{Kinds.{Kinds, Offering, Parking, kind_of, is_in, apart, Only, LookFree, Claiming, returning}, declared.step.Made.Made}
use Rattle.pas_steps.specs.{declared.step.Step.TheVariants.{Look, Offer, Park, TakeRight}, Desks.{AnyView, Standing, Makes, Adds, made}, Calls.{Kept, Gained}}
use Rattle.pas_steps.{specs.Calls.{now, Fate, Lost, Does, on_page}, proofs.Adding.{agreed_first, agreed_later, adds_step, adds_none, adds_call, adds_under}}
use Rattle.pas_steps.proofs.{Apart.{in_apart, holds_same, rights_same, deeds_same, unstamped_same}, Frames.{rights_stay, examined_on, returns_on}}
use Rattle.pas_steps.proofs.{Past.{always_both, always_map, once_later}, Bits.all_below-from, Flags.{stays_set, ends_none}, Calls.{does_on_page, does_as}}
use Rattle.pas_steps.proofs.Calls.{does_returns, returns_are}
use Rattle.pas_rights.specs.{Words.{each_word, words, full, ones}, Puts.masked, Claims.Claims, Looks.{looks, HasUsable, HasNoUsable, IsAllFree, HasUsed}}
use Rattle.pas_rights.specs.{Looks.{looks_until, AreUsed, is_free, HintsWhere, HintSteps, ReadsPage, ReadsUntilUsed}, Leaves.{ReoffersWhere, OfferSteps}}
use Rattle.pas_rights.specs.{Leaves.{ParkSteps, EndsLeave, LeaveSteps, LosesHere, MayLeave, Leaves}, Returns.{ReofferSteps, ReturnSteps, ReoffersPage}}
use Rattle.pas_rights.specs.{Returns.{Returned, Settles}, declared.reading.Used.Used}

-- ---- each word
pub each_always : (P : Made → Type 0) (steps : ℕ → List Made) → ((word : ℕ) → Always (λ m before. P m) (steps word)) → (n : ℕ)
    → Always (λ m before. P m) (each_word steps n)
each_always P steps each zero = tt
each_always P steps each (suc n) = always_both (λ m before. P m) (λ m before. P m) _ _ (λ m before p. p) (each n) (each_always P steps each n)

-- Steps for each word of at most one step are at most as many as words.
pub each_few : (steps : ℕ → List Made) → ((word : ℕ) → length (steps word) ≤ 1) → (n : ℕ) → length (each_word steps n) ≤ n
each_few steps each zero = omega arith
each_few steps each (suc n) = let rest = each_few steps each n in grind (arith, rest, length-append)

-- the answers for one word agree with the view after those below it
pub each_agreed : (f : Profile) (steps : ℕ → List Made) (n word : ℕ) (v : View) → word < n → Agreed f v (each_word steps n)
    → Agreed f (each_word steps word ++ v) (steps word)
each_agreed f steps zero word v lt agreed = absurd (omega (arith, lt))
each_agreed f steps (suc n) word v lt agreed = elim (cases_eq word n) [
  | inl e ↦ subst (λ k. Agreed f (each_word steps k ++ v) (steps k)) (sym e) (agreed_first f v _ _ agreed)
  | inr ne ↦ each_agreed f steps n word v (omega (arith, lt, ne)) (agreed_later f v _ _ agreed)
]

-- ---- the right
abbrev giving_up : Kinds
giving_up = Offering ∷ Parking ∷ []

-- Steps of kinds that give no right up keep the page's right.
pub keeps_by : (page : ℕ) (ks : Kinds) (steps : List Made) → apart ks giving_up ≡ true → Only ks steps → KeepsRight page steps
keeps_by page ks steps w = always_map (λ m before. is_in ks (kind_of m.step) ≡ true) (λ m before. GivesUp page m.step → ⊥) steps
    (λ m before is up. true≢false (sym (grind arith) ∙ in_apart ks giving_up _ w is))

-- a reading stands while the right is kept
pub since_kept : (P : Made → List Made → Type 0) (page : ℕ) (ys xs : List Made) → KeepsRight page ys → has_right xs page ≡ true → Since P (KeptHere page) xs
    → Since P (KeptHere page) (ys ++ xs)
since_kept P page [] xs keeps right h = h
since_kept P page (y ∷ ys) xs keeps right h = inr (rights_stay ys xs page keeps.1 right, since_kept P page ys xs keeps.1 right h)

-- what was read of one word, with the right, stands after all of them
pub words_read : (P : Made → List Made → Type 0) (page : ℕ) (steps : ℕ → List Made) → ((word : ℕ) → KeepsRight page (steps word)) → (before : List Made)
    → has_right before page ≡ true → (n word : ℕ) → word < n
    → Since P (KeptHere page) (steps word ++ (each_word steps word ++ before)) → Since P (KeptHere page) (each_word steps n ++ before)
words_read P page steps keeps before right zero word lt here = absurd (omega (arith, lt))
words_read P page steps keeps before right (suc n) word lt here = subst (Since P (KeptHere page)) (sym (append_assoc _ _ before)) (elim (cases_eq word n) [
  | inl e ↦ subst (λ k. Since P (KeptHere page) (steps k ++ (each_word steps k ++ before))) e here
  | inr ne ↦ since_kept P page _ _ (keeps n) (rights_stay _ before page (each_always (λ m. GivesUp page m.step → ⊥) steps keeps n) right)
      (words_read P page steps keeps before right n word (omega (arith, lt, ne)) here)
])

-- ---- bits
-- A grain's bit lies where division says.
pub bit_of : (m : Mask4) (n g : ℕ) → n ≡ g / 64 % 4 → has_bit (slice_index m.0 n) (g % 64) ≡ is_set m (g % 256)
bit_of m n g at = search arith

-- a grain of a page, by its number there
pub bit_on : (m : Mask4) (page b : ℕ) → b < 256 → has_bit (slice_index m.0 ((page * 256 + b) / 64 % 4)) ((page * 256 + b) % 64) ≡ is_set m b
bit_on m page b lt = let at : (page * 256 + b) % 256 ≡ b = omega (arith, lt) in bit_of m ((page * 256 + b) / 64 % 4) (page * 256 + b) refl ∙ ap (is_set m) at

-- A test that is joined with one that doesn't hold is the test itself.
pub or_none : (x y : Bool) → y ≡ false → x ≡ (x || y)
or_none x y e = grind arith

-- ==== Looks at the free words of a page, and what they show.

-- ---- the steps
abbrev word_look : ℕ → (ℕ → ℕ) → ℕ → List Made
word_look page answers word = made (Look (Word.Free page word)) (answers word) ∷ []

-- The looks at a page's free words are of that kind alone.
pub looks_only : (page : ℕ) (answers : ℕ → ℕ) (n : ℕ) → Only (LookFree ∷ []) (looks page answers n)
looks_only page answers = each_always (λ m. is_in (LookFree ∷ []) (kind_of m.step) ≡ true) (word_look page answers) (λ word. (refl, tt))

-- The looks at a page's free words are on that page.
pub looks_on : (page : ℕ) (answers : ℕ → ℕ) (n : ℕ) → OnlyOn page (looks page answers n)
looks_on page answers = each_always (λ m. IsOnPage page m.step) (word_look page answers) (λ word. (IsOnPage.Looks _, tt))

-- The looks at a page's free words are looks.
pub looks_are : (page : ℕ) (answers : ℕ → ℕ) (n : ℕ) → AreLooks (looks page answers n)
looks_are page answers zero = tt
looks_are page answers (suc n) = (tt, looks_are page answers n)

-- The looks at n free words are at most n.
pub looks_few : (page : ℕ) (answers : ℕ → ℕ) (n : ℕ) → length (looks page answers n) ≤ n
looks_few page answers = each_few (word_look page answers) (λ word. omega arith)

-- ---- on a view
module _ (page : ℕ) (answers : ℕ → ℕ) where
  -- a grain that is held was read as not free, and one that is known as free as free
  pub looks_held : (f : Profile) (n : ℕ) (v : View) → Agreed f v (looks page answers n) → (g : ℕ) → g / 256 ≡ page → g / 64 % 4 < n → holds v g ≡ true
      → has_bit (answers (g / 64 % 4)) (g % 64) ≡ false
  looks_held f n v agreed g at lt held = let w = g / 64 % 4 in
      (each_agreed f (word_look page answers) n w v lt agreed).0.held g at refl (holds_same (LookFree ∷ []) refl g _ v (looks_only page answers w) ∙ held)

  looks_keep_known : (n : ℕ) (v : View) (g : ℕ) → known_free v g ≡ true → known_free (looks page answers n ++ v) g ≡ true
  looks_keep_known zero v g known = known
  looks_keep_known (suc n) v g known = stays_set _ _ (looks_keep_known n v g known)

  -- A grain that its actor knows to be free is read as free.
  pub looks_free : (f : Profile) (n : ℕ) (v : View) → Agreed f v (looks page answers n) → (g : ℕ) → g / 256 ≡ page → g / 64 % 4 < n → known_free v g ≡ true
      → has_bit (answers (g / 64 % 4)) (g % 64) ≡ true
  looks_free f n v agreed g at lt known = let w = g / 64 % 4 in (each_agreed f (word_look page _) n w v lt agreed).0.free g at refl (looks_keep_known w v g known)

  -- what was read as free with the right is known as free
  pub looks_know : (n : ℕ) (v : View) (g : ℕ) → (page == g / 256) ≡ true → has_right v (g / 256) ≡ true → g / 64 % 4 < n
      → has_bit (answers (g / 64 % 4)) (g % 64) ≡ true → known_free (looks page answers n ++ v) g ≡ true
  looks_know zero v g at right lt bit = absurd (omega (arith, lt))
  looks_know (suc n) v g at right lt bit =
      let seen = (n == g / 64 % 4) && (page == g / 256) && has_right (looks _ _ n ++ v) _ && has_bit _ _ in let before = known_free (looks page _ n ++ v) g in
      elim (cases_eq n _) [
        | inl e ↦ ap (λ t. if t then true else before) (and_from _ _ (and_from _ _ (and_from _ _ (eq-eqb n _ e) at)
            (rights_same (LookFree ∷ []) refl _ _ v (looks_only page answers n) ∙ right)) (ap (λ w. has_bit (answers w) (g % 64)) e ∙ bit))
        | inr ne ↦ stays_set seen before (looks_know n v g at right (omega (arith, lt, ne)) bit)
      ]

  -- what they show, after steps that have the right of the page and hold none of its grains
  pub looks_read : (r : Readings) → ((word b : ℕ) → b < 64 → r (64 * word + b) ≡ has_bit (answers word) b) → (before : List Made) → has_right before page ≡ true
      → ((g : ℕ) → g / 256 ≡ page → holds before g ≡ false)
      → (n word : ℕ) → word < n → word < 4 → Since (ShowsHere page word r) (KeptHere page) (looks page answers n ++ before)
  looks_read r bits before right none n word lt small = words_read (ShowsHere page word r) page (word_look page answers)
      (λ w. keeps_by page (LookFree ∷ []) (word_look page answers w) refl (refl, tt)) before right n word lt
      (inl (
        ReadsFree.Looks,
        rights_same (LookFree ∷ []) refl page (looks page answers word) before (looks_only page answers word) ∙ right,
        λ b hb.
            let g = page * 256 + (64 * word + b) in
            bits word b hb ∙ or_none _ _ (holds_same (LookFree ∷ []) refl g _ before (looks_only page answers word) ∙ none g (omega (arith, small, hb))),
      ))

-- ---- the grains that blocks of a directory may cover
-- on a page that isn't of a class each grain is usable
pub full_mask : (k : Kind) (g : ℕ) → g < 256 → (k ≡ Kind.Bitfit) ⊎ ((k ≡ Kind.Shared) ⊎ (k ≡ Kind.Large))
    → has_bit (slice_index ((2 ^ 64 - 1) ∷ (2 ^ 64 - 1) ∷ (2 ^ 64 - 1) ∷ (2 ^ 64 - 1) ∷ []) (g / 64)) (g % 64) ≡ usable_by_kind k g
full_mask k g h is = ap (λ n. has_bit n (g % 64)) (grind arith) ∙ full_bit (g % 64) (omega arith) ∙ sym (grind arith)

-- The full mask has each grain of a page.
pub full_set : (g : ℕ) → g < 256 → is_set full g ≡ true
full_set g lt = ap (λ n. has_bit n (g % 64)) (grind arith) ∙ full_bit (g % 64) (omega arith)

-- Each word of the full mask has a bit.
pub full_word : (w : ℕ) → w < 4 → words full w ≢ 0
full_word w lt z = let all : slice_index ((2 ^ 64 - 1) ∷ (2 ^ 64 - 1) ∷ (2 ^ 64 - 1) ∷ (2 ^ 64 - 1) ∷ []) w ≡ 2 ^ 64 - 1 = grind arith in omega (arith, all, z)

-- The full mask of a page has just the grains of that page.
pub on_full : (page g : ℕ) → masked page full g ≡ (page == g / 256)
on_full page g = ap (λ t. (page == g / 256) && t) (full_set (g % 256) (omega arith)) ∙ (grind arith)

-- some grain of the mask is usable, or none is
module _ (d : Directory) (free usable both : Mask4) (are : (g : ℕ) → g < 256 → is_set usable g ≡ usable_by_kind d.kind g)
    (both_are : (g : ℕ) → is_set both g ≡ (is_set free g && is_set usable g)) where
  -- Where no free grain is usable, there is no usable one.
  pub usable_none : IsEmpty both → HasNoUsable d free
  usable_none empty g lt set = false_from_ne_true _ (λ is. true≢false (sym (and_from _ _ set (are g lt ∙ is)) ∙ sym (both_are g) ∙ empty g lt))

-- Where no free grain is usable, no free word of the page has a usable one.
no_usable_word : (d : Directory) (free : Mask4) → IsDirectory d → HasNoUsable d free → (w : ℕ) → w < 4 → no_usable (deed_word_of d) w (words free w) ≡ true
no_usable_word d free is none w small = search (arith, all_below-from, not_from_false, read-deed_word_of, at_word)

-- so some grain isn't free where no usable one is
pub none_used : (d : Directory) (free : Mask4) → IsDirectory d → HasNoUsable d free → HasUsed free
none_used d free is none = (0, omega arith, false_from_ne_true _ (λ set. true≢false (sym (grind (arith, usable_grains_ge, lt-ltb)) ∙ none 0 (omega arith) set)))

-- The cases of a turned test are those of the test, the other way round.
pub match_not : (P Q R S : Type 0) (b : Bool) → MatchBool b P Q → (P → S) → (Q → R) → MatchBool (not b) R S
match_not P Q R S b h f g = grind arith

-- a word that isn't all ones
used_word : (free : Mask4) → HasUsed free → (w : ℕ) × (w < 4) × (words free w ≢ all_ones)
used_word free used = search (arith, true≢false, full_bit)

-- What each step of these calls asks, and how their steps stand in order.
-- ---- what looks at the free words keep
pub until_only : (p : ℕ) (used : Option Used) → Only (LookFree ∷ []) (looks_until p used)
until_only p used = grind (arith, looks_only)

-- Looks at free words leave each right where it was.
right_looks : (p q : ℕ) (answers : ℕ → ℕ) (n : ℕ) (v : View) → has_right (looks p answers n ++ v) q ≡ has_right v q
right_looks p q answers n v = rights_same (LookFree ∷ []) refl q (looks p answers n) v (looks_only p answers n)

-- Looks at free words leave what is known of deeds as it was.
deed_looks : (p q : ℕ) (answers : ℕ → ℕ) (n : ℕ) (v : View) → known_deed (looks p answers n ++ v) q ≡ known_deed v q
deed_looks p q answers n v = deeds_same (LookFree ∷ []) refl q (looks p answers n) v (looks_only p answers n)

-- ---- rights
pub same_page : (p : ℕ) → (p == p) ≡ true
same_page p = eq-eqb p p refl

-- What a step ends on its own page is off afterwards.
pub ends : (p : ℕ) (before : Bool) → (if p == p then false else before) ≡ false
ends p before = ap (λ t. if t then false else before) (same_page p)

-- What a step does to its own page's right it does where it found the bit set.
pub gets : (p : ℕ) (w : Way) (a : ℕ) (before : Bool) → had_after w before ≡ true → has_bit a (p % 64) ≡ true
    → had_after (if (p == p) && has_bit a (p % 64) then w else Rests) before ≡ true
gets p w a before got h = search (arith, same_page)

-- A step that gives its own page's right up leaves its actor without it.
gives : (p : ℕ) (w : Way) (before : Bool) → had_after w before ≡ false → had_after (if p == p then w else Rests) before ≡ false
gives p w before h = ap (λ t. had_after (if t then w else Rests) before) (same_page p) ∙ h

-- ---- what may be done
pub knows_some : (p : ℕ) (d : Directory) (v : View) → KnowsDeed p d v → known_deed v p ≢ 0
knows_some p d v knows z = deed_word_of-positive d (sym knows ∙ z)

-- ---- only looks at the page and returns of its right
returns_append : (p : ℕ) (ys xs : List Made) → OnlyReturns p ys → OnlyReturns p xs → OnlyReturns p (ys ++ xs)
returns_append p ys xs a b = always_both (λ m before. IsReturn p m.step) (λ m before. IsReturn p m.step) ys xs (λ m before h. h) a b

looks_return : (p : ℕ) (answers : ℕ → ℕ) (n : ℕ) → OnlyReturns p (looks p answers n)
looks_return p answers = each_always (λ m. IsReturn p m.step) (λ word. made _ (answers word) ∷ []) (λ word. (IsReturn.LooksFree word, tt))

until_return : (p : ℕ) (used : Option Used) → OnlyReturns p (looks_until p used)
until_return p None = looks_return p ones 4
until_return p (Some used) = (IsReturn.LooksFree used.word, looks_return p ones used.word)

hints_return : (p : ℕ) (all_free : Bool) (steps : List Made) → HintsWhere all_free p steps → OnlyReturns p steps
hints_return p true steps (inl h) = subst (OnlyReturns p) (sym h.2) (IsReturn.LooksBacked, tt)
hints_return p true steps (inr h) = subst (OnlyReturns p) (sym h.1) (IsReturn.Hints, (IsReturn.LooksBacked, tt))
hints_return p false steps h = subst (OnlyReturns p) (sym h) tt

reoffer_returns : (p : ℕ) (d : Directory) (steps : List Made) → ReofferSteps p d steps → OnlyReturns p steps
reoffer_returns p d steps (inl h) = subst (OnlyReturns p) (sym h.2) (IsReturn.Unparks, tt)
reoffer_returns p d steps (inr h) = subst (OnlyReturns p) (sym h.3) (IsReturn.Offers d, (IsReturn.Unparks, tt))

reoffers_return : (p : ℕ) (d : Directory) (usable : Bool) (steps : List Made) → ReoffersWhere usable p d steps → OnlyReturns p steps
reoffers_return p d true steps h = reoffer_returns p d steps h
reoffers_return p d false steps h = subst (OnlyReturns p) (sym h) tt

end_returns : (p : ℕ) (d : Directory) (usable all_free : Bool) (steps : List Made) → EndsLeave usable p d all_free steps → OnlyReturns p steps
end_returns p d true all_free steps h = rw h.steps_are (returns_append p h.after _ (hints_return p all_free h.after h.hints) (IsReturn.Offers d, tt))
end_returns p d false all_free steps h = subst (OnlyReturns p) (sym h.steps_are)
    (returns_append p h.after (looks p (words h.later) 4 ++ (made (Park p) h.parked ∷ [])) (reoffers_return p d h.usable h.after h.reoffers)
    (returns_append p (looks p (words h.later) 4) (made (Park p) h.parked ∷ []) (looks_return p (words h.later) 4) (IsReturn.Parks, tt)))

-- The steps of a leave only return grains to that page.
pub leave_returns : (p : ℕ) (d : Directory) (steps : List Made) → LeaveSteps p d steps → OnlyReturns p steps
leave_returns p d steps h = rw h.steps_are (returns_append p h.after _ (end_returns p d h.usable h.all_free h.after h.ends) (looks_return p (words h.free) 4))

-- The steps of a return only return grains to that page.
pub return_returns : (p : ℕ) (d : Directory) (steps : List Made) → ReturnSteps p d steps → OnlyReturns p steps
return_returns p d steps h = subst (OnlyReturns p) (sym h.steps_are) (returns_append p h.after _ (hints_return p _ h.after h.hints)
    (returns_append p _ h.first (until_return p h.used) (reoffer_returns p d h.first h.reoffers)))

-- ---- the steps of a leave, on a view or on a list before them
offered_on : (p : ℕ) (d : Directory) (all_free : Bool) (steps : List Made) (v : View) (h : OfferSteps p d all_free steps)
    → steps ++ v ≡ h.after ++ (made (Offer p d) h.offered ∷ v)
offered_on p d all_free steps v h = ap (λ s. s ++ v) h.steps_are ∙ append_assoc h.after (made (Offer p d) h.offered ∷ []) v

-- The steps of a park stand in this order: the park, looks, and what follows.
parked_on : (p : ℕ) (d : Directory) (steps : List Made) (v : View) (h : ParkSteps p d steps)
    → steps ++ v ≡ h.after ++ (looks p (words h.later) 4 ++ (made (Park p) h.parked ∷ v))
parked_on p d steps v h = search (arith, append_assoc)

-- The steps of a leave stand in this order: looks, and what follows.
left_on : (p : ℕ) (d : Directory) (steps : List Made) (v : View) (h : LeaveSteps p d steps) → steps ++ v ≡ h.after ++ (looks p (words h.free) 4 ++ v)
left_on p d steps v h = ap (λ s. s ++ v) h.steps_are ∙ append_assoc h.after (looks p (words h.free) 4) v

-- The steps of a return stand in this order: the page is offered again where it was parked, looks, and a hint.
returned_on : (p : ℕ) (d : Directory) (steps : List Made) (v : View) (h : ReturnSteps p d steps)
    → steps ++ v ≡ h.after ++ (looks_until p h.used ++ (h.first ++ v))
returned_on p d steps v h = ap (λ s. s ++ v) h.steps_are ∙ append_assoc h.after _ v ∙ ap (λ s. h.after ++ s) (append_assoc _ h.first v)

end_loses : (p : ℕ) (d : Directory) (usable all_free : Bool) (steps before : List Made) → AreLooks before → EndsLeave usable p d all_free steps
    → Once (LosesHere p) (steps ++ before)
end_loses p d true all_free steps before are h = rw (offered_on p d all_free steps before h) (once_later _ h.after _ (inl (GivesUp.Offers d, are)))
end_loses p d false all_free steps before are h = subst (Once (LosesHere p)) (sym (parked_on p d steps before h))
    (once_later (LosesHere p) h.after _ (once_later (LosesHere p) (looks p (words h.later) 4) (made (Park p) h.parked ∷ before) (inl (GivesUp.Parks, are))))

-- ---- how many steps they are
-- Two steps at most: the right is taken back and offered, or it isn't had.
reoffer_few : (p : ℕ) (d : Directory) (steps : List Made) → ReofferSteps p d steps → length steps ≤ 2
reoffer_few p d steps e = grind arith

reoffers_few : (p : ℕ) (d : Directory) (usable : Bool) (steps : List Made) → ReoffersWhere usable p d steps → length steps ≤ 2
reoffers_few p d usable steps h = grind (arith, reoffer_few)

end_few : (p : ℕ) (d : Directory) (usable all_free : Bool) (steps : List Made) → EndsLeave usable p d all_free steps → length steps ≤ 7
end_few p d usable all_free steps h = grind (arith, length-append, reoffers_few)

-- A leave makes at most eleven steps.
pub leave_few : (p : ℕ) (d : Directory) (steps : List Made) → LeaveSteps p d steps → length steps ≤ 11
leave_few p d steps h =
    omega (arith, ap length h.steps_are ∙ length-append h.after (looks p (words h.free) 4), end_few p d h.usable h.all_free h.after h.ends)

-- Looks up to the first used word are at most four.
pub until_few : (p : ℕ) (used : Option Used) → AreUsed used → length (looks_until p used) ≤ 4
until_few p used are = grind (arith, looks_few)

-- What follows a put makes at most eight steps.
pub return_few : (p : ℕ) (d : Directory) (steps : List Made) → ReturnSteps p d steps → length steps ≤ 8
return_few p d steps h = search (arith, length-append, until_few, reoffer_few)

-- ==== What a claim comes to.

claimed_right : (p : ℕ) (d : Directory) (a : ℕ) (got : Bool) (v : View) → got ≡ has_bit a (p % 64)
    → has_right (made (TakeRight p d) a ∷ v) p ≡ now (if got then Gained else Kept) (has_right v p)
claimed_right p d a got v is = grind (arith, gets, same_page)

-- A take of a right claims the page exactly where its bit was set.
pub claims : {σ σ' : Standing} (p : ℕ) (d : Directory) (a : ℕ) (got : Bool) → got ≡ has_bit a (p % 64) → Makes σ σ' (TakeRight p d) a → Claims p d σ σ' got
claims {σ} p d a got is makes = record {
  answer = a;
  got_is = is;
  calls = record {
    adds = adds_step adds_none makes (λ v l stood met. met);
    leads = record {
      from = λ v met agreed. does_on_page _ p _ Kept (Claiming ∷ []) refl refl (made _ a ∷ []) v (refl, tt) (IsOnPage.Claims d, tt) agreed (claimed_right p d a got v is)
          (λ is. record { stamped = is.stamped; owes = record { checks = λ w lt. is.owes.checks w lt; hint = is.owes.hint }; examined = is.examined });
    };
  };
}

-- ==== What is owed on a page after the steps of these calls, and whether the right is the actor's.

-- ---- what an ending keeps
check_kept : (p w : ℕ) (answers : ℕ → ℕ) (n : ℕ) (v : View) → owes_check v p w ≡ false → owes_check (looks p answers n ++ v) p w ≡ false
check_kept p w answers zero v h = h
check_kept p w answers (suc n) v h = let before = looks p answers n ++ v in ends_none _ _ (check_kept p w answers n v h)

hint_kept : (p : ℕ) (answers : ℕ → ℕ) (n : ℕ) (v : View) → owes_hint v p ≡ false → owes_hint (looks p answers n ++ v) p ≡ false
hint_kept p answers zero v h = h
hint_kept p answers (suc n) v h = ends_none ((p == p) && not (answers n == all_ones)) (owes_hint (looks p answers n ++ v) p) (hint_kept p answers n v h)

-- ---- a look that shows no usable grain ends the check of its word
ended : (n w p deed : ℕ) (none owed : Bool) → n ≡ w → deed ≢ 0 → none ≡ true → (if (n == w) && (p == p) && not (deed == 0) && none then false else owed) ≡ false
ended n w p deed none owed same some h = cc (eq-eqb n w same, same_page p, ne_eqb deed 0 some)

check_looks : (p w : ℕ) (d : Directory) (answers : ℕ → ℕ) (n : ℕ) (v : View) → known_deed v p ≡ deed_word_of d → no_usable (deed_word_of d) w (answers w) ≡ true
    → w < n → owes_check (looks p answers n ++ v) p w ≡ false
check_looks p w d answers zero v knows none lt = absurd (omega (arith, lt))
check_looks p w d answers (suc n) v knows none lt =
    let deed : known_deed (looks p answers n ++ v) p ≡ deed_word_of d = deed_looks p p answers n v ∙ knows in
    elim (cases_eq n w) [
      | inr ne ↦ ends_none _ _ (check_looks p w d answers n v knows none (omega (arith, lt, ne)))
      | inl same ↦ search (arith, ended, deed_word_of-positive)
    ]

-- ---- a look that shows a used grain ends the hint
hint_looks : (p w : ℕ) (answers : ℕ → ℕ) (n : ℕ) (v : View) → answers w ≢ all_ones → w < n → owes_hint (looks p answers n ++ v) p ≡ false
hint_looks p w answers zero v ne lt = absurd (omega (arith, lt))
hint_looks p w answers (suc n) v ne lt = elim (cases_eq w n) [
  | inl same ↦ search (arith, same_page, ne_eqb)
  | inr other ↦ ends_none _ _ (hint_looks p w answers n v ne (omega (arith, lt, other)))
]

-- ---- hints
hint_ends : (f : Profile) (p : ℕ) (steps : List Made) (v : View) → HintSteps p steps → Agreed f v steps → owes_hint (steps ++ v) p ≡ false
hint_ends f p steps v e agreed = grind (arith, same_page, eq-eqb, ends)

-- A hint, or none, leaves what is to be checked.
hints_check : (p w : ℕ) (all_free : Bool) (steps : List Made) (v : View) → HintsWhere all_free p steps → owes_check (steps ++ v) p w ≡ owes_check v p w
hints_check p w all_free steps v h = grind arith

-- And it leaves the right.
hints_right : (p : ℕ) (all_free : Bool) (steps : List Made) (v : View) → HintsWhere all_free p steps → has_right (steps ++ v) p ≡ has_right v p
hints_right p all_free steps v h = grind arith

-- ---- a page that is taken back and offered
-- An offer once more leaves what hint is owed.
reoffer_hint : (p : ℕ) (d : Directory) (steps : List Made) (v : View) → ReofferSteps p d steps → owes_hint (steps ++ v) p ≡ owes_hint v p
reoffer_hint p d steps v e = grind arith

reoffer_lacks : (p : ℕ) (d : Directory) (steps : List Made) (v : View) → ReofferSteps p d steps → has_right v p ≡ false → has_right (steps ++ v) p ≡ false
reoffer_lacks p d steps v e lacks = grind (arith, same_page, gives)

-- with the right the parked bit is read as 0
reoffer_right : (f : Profile) (p : ℕ) (d : Directory) (steps : List Made) (v : View) → ReofferSteps p d steps → Agreed f v steps
    → has_right (steps ++ v) p ≡ has_right v p
reoffer_right f p d steps v e agreed = grind (arith, same_page, gives, cases_Bool, true≢false)

-- ---- the two ends of a leave, on the view after the looks
after_reoffer : (p : ℕ) (d : Directory) (usable : Bool) (steps : List Made) (v : View) → ReoffersWhere usable p d steps
    → ((w : ℕ) → w < 4 → usable ≡ false → owes_check v p w ≡ false) → owes_hint v p ≡ false → OwesNothing p (steps ++ v)
after_reoffer p d usable steps v h checks hint = grind (arith, ends, reoffer_hint)

end_owes : (f : Profile) (p : ℕ) (d : Directory) (usable all_free : Bool) (steps : List Made) (v : View) → IsDirectory d → EndsLeave usable p d all_free steps
    → Agreed f v steps → known_deed v p ≡ deed_word_of d
    → (usable ≡ false → all_free ≡ false) → (all_free ≡ false → owes_hint v p ≡ false) → OwesNothing p (steps ++ v)
end_owes f p d true all_free steps v is h agreed knows used hint =
    search (arith, agreed_first, offered_on, hints_check, ends, hint_ends)
end_owes f p d false all_free steps v is h agreed knows used hint =
    let parked : View = made (Park p) h.parked ∷ v in
    rw (parked_on p d steps v h) (after_reoffer p d h.usable h.after _ h.reoffers (λ w lt none. check_looks p w d (words h.later) 4 parked knows (no_usable_word d h.later is (MatchBool-at_false (HasUsable d h.later) _ none h.usable_is) w lt) lt) (hint_kept p (words h.later) 4 parked (hint (used refl))))

leave_used : (d : Directory) (free : Mask4) (usable all_free : Bool) → IsDirectory d → MatchBool usable (HasUsable d free) (HasNoUsable d free)
    → MatchBool all_free (IsAllFree free) (HasUsed free) → usable ≡ false → all_free ≡ false
leave_used d free usable all_free is usable_is all_free_is none = search (arith, none_used, true≢false)

-- After a leave nothing is owed on the page.
leave_owes : (f : Profile) (p : ℕ) (d : Directory) (steps : List Made) (v : View) → IsDirectory d → LeaveSteps p d steps → Agreed f v steps
    → known_deed v p ≡ deed_word_of d → OwesNothing p (steps ++ v)
leave_owes f p d steps v is h agreed knows = let looked = looks p (words h.free) 4 in subst (OwesNothing p) (sym (left_on p d steps v h))
    (end_owes f p d h.usable h.all_free h.after _ is h.ends (agreed_first f v h.after looked (subst (Agreed f v) h.steps_are agreed))
    (deed_looks p p (words h.free) 4 v ∙ knows)
    (leave_used d h.free h.usable h.all_free is h.usable_is h.all_free_is)
    (λ none. let used = used_word h.free (MatchBool-at_false _ _ none h.all_free_is) in hint_looks p used.0 (words h.free) 4 v used.2 used.1))

end_lacks : (p : ℕ) (d : Directory) (usable all_free : Bool) (steps : List Made) (v : View) → EndsLeave usable p d all_free steps
    → has_right (steps ++ v) p ≡ false
end_lacks p d a all_free steps v h = search (arith, offered_on, hints_right, parked_on, reoffer_lacks, right_looks)

-- After a leave its actor hasn't the page's right.
pub leave_lacks : (p : ℕ) (d : Directory) (steps : List Made) (v : View) → LeaveSteps p d steps → has_right (steps ++ v) p ≡ false
leave_lacks p d steps v h = ap (λ s. has_right s p) (left_on p d steps v h) ∙ end_lacks p d h.usable h.all_free h.after (looks p (words h.free) 4 ++ v) h.ends

-- ---- after grains were put back
until_check : (p w : ℕ) (used : Option Used) (v : View) → owes_check v p w ≡ false → owes_check (looks_until p used ++ v) p w ≡ false
until_check p w used v h = grind (arith, check_kept, ends_none)

until_hint : (p : ℕ) (used : Option Used) (v : View) → AreUsed used → is_free used ≡ false → owes_hint (looks_until p used ++ v) p ≡ false
until_hint p used v are e = grind (arith, true≢false, same_page, ne_eqb)

-- After a return nothing is owed on the page.
return_owes : (f : Profile) (p : ℕ) (d : Directory) (steps : List Made) (v : View) → ReturnSteps p d steps → Agreed f v steps → OwesNothing p (steps ++ v)
return_owes f p d steps v h agreed =
    let looked : View = looks_until p h.used ++ (h.first ++ v) in
    let all : Agreed f v (h.after ++ (looks_until p h.used ++ h.first)) = subst (Agreed f v) h.steps_are agreed in
    let later : Agreed f looked h.after = subst (λ s. Agreed f s h.after) (append_assoc _ h.first v) (agreed_first f v h.after _ all) in
    subst (OwesNothing p) (sym (returned_on p d steps v h)) record {
      checks = λ w lt. hints_check p w _ h.after looked h.hints ∙ until_check p w h.used (h.first ++ v) (grind (arith, ends));
      hint = grind (arith, hint_ends, until_hint p h.used (h.first ++ v) h.are);
    }

-- A return leaves the page's right where it was.
return_right : (f : Profile) (p : ℕ) (d : Directory) (steps : List Made) (v : View) → ReturnSteps p d steps → Agreed f v steps
    → has_right (steps ++ v) p ≡ has_right v p
return_right f p d steps v h agreed =
    let first : Agreed f v h.first = agreed_later f v _ h.first (agreed_later f v h.after _ (subst (Agreed f v) h.steps_are agreed)) in
    ap (λ s. has_right s p) (returned_on p d steps v h) ∙ hints_right p _ h.after _ h.hints
    ∙ (rights_same (LookFree ∷ []) refl p (looks_until p h.used) (h.first ++ v) (until_only p h.used)) ∙ reoffer_right f p d h.first v h.reoffers first

-- ==== The promises of the calls, put together from those of their parts.

-- after looks the page may still be left
pub may_still : (p : ℕ) (d : Directory) (free : Mask4) (v : View) → MayLeave p d v → MayLeave p d (looks p (words free) 4 ++ v)
may_still p d free v met = record { right = right_looks p p (words free) 4 v ∙ met.right; deed = deed_looks p p (words free) 4 v ∙ met.deed }

-- steps of a return or a leave, with what they come to
settles : (f : Profile) (p : ℕ) (r : Fate) (steps : List Made) (v : View) → OnlyReturns p steps → Agreed f v steps
    → has_right (steps ++ v) p ≡ now r (has_right v p) → OwesNothing p (steps ++ v) → Settles p r v (steps ++ v)
settles f p r steps v only agreed right owes =
    let clear : is_unstamped v p ≡ false → examines v p ≡ false → IsClearOn p (steps ++ v) = λ stamped examined. assumption
    (unstamped_same returning refl p steps v (returns_are p steps only) ∙ stamped, examined_on p p steps v (returns_on p steps only) examined) in
    record { does = does_returns f p r Kept steps v only agreed right (λ is. clear is.stamped is.examined); owes = owes; clear = clear }

-- a page that was neither unstamped nor examined is clear then
pub settled_clear : {v w : View} (p : ℕ) (r : Fate) → Settles p r v w → is_unstamped v p ≡ false → examines v p ≡ false → Does (on_page p r Gained) v w
settled_clear {v} {w} p r s stamped examined = does_as _ s.does (λ x. inl refl) (λ q. refl) (λ q. (λ h. grind (arith, eqb-true)))

-- The steps of a leave, as one call, are a leave.
leaves : {σ σ' : Standing} (p : ℕ) (d : Directory) (steps : List Made) → IsDirectory d → Adds σ σ' (MayLeave p d) steps → LeaveSteps p d steps → Leaves p d σ σ'
leaves {σ} {σ'} p d steps is adds order = record {
  steps = steps;
  calls = record {
    adds = adds;
    leads = record {
      from = λ v met agreed. settles _ p Lost steps v (leave_returns p d steps order) agreed (leave_lacks p d steps v order) (leave_owes _ p d steps v is order agreed met.deed);
    };
  };
  order = order;
  returns = leave_returns p d steps order;
  left = subst (Once (LosesHere p)) (sym order.steps_are) (end_loses p d order.usable order.all_free order.after _ (looks_are p (words order.free) 4) order.ends);
  few = leave_few p d steps order;
}

-- the looks, and the end that they call for
pub leaves_by : {σ σ1 σ2 : Standing} (usable all_free : Bool) (p : ℕ) (d : Directory) (free : Mask4) → IsDirectory d → ReadsPage p σ σ1 free
    → MatchBool usable (HasUsable d free) (HasNoUsable d free) → MatchBool all_free (IsAllFree free) (HasUsed free)
    → (after : List Made) → Adds σ1 σ2 (MayLeave p d) after → EndsLeave usable p d all_free after → Leaves p d σ σ2
leaves_by {σ} {σ1} {σ2} usable all_free p d free is reads usable_is all_free_is after adds ends =
    leaves p d (after ++ looks p (words free) 4) is (adds_call (adds_under reads (λ v l stood met. tt)) adds (λ v l stood met. may_still p d free v met))
    record { free = free; usable = usable; usable_is = usable_is; all_free = all_free; all_free_is = all_free_is; after = after; ends = ends; steps_are = refl }

-- the looks that show a free grain and one that isn't, and the offer
pub leaves_offered : {σ σ' : Standing} (p : ℕ) (d : Directory) (free : Mask4) (offered : ℕ) → IsDirectory d → HasUsable d free → HasUsed free
    → Adds σ σ' (MayLeave p d) (made (Offer p d) offered ∷ looks p (words free) 4)
    → (left : Leaves p d σ σ') × (left.steps ≡ made (Offer p d) offered ∷ looks p (words free) 4)
unfolding leaves
leaves_offered p d free offered is usable used adds = (
  leaves p d (made (Offer p d) offered ∷ looks p (words free) 4) is adds (record {
    free = free;
    usable = true;
    usable_is = usable;
    all_free = false;
    all_free_is = used;
    after = made (Offer p d) offered ∷ [];
    ends = record { offered = offered; after = []; hints = refl; steps_are = refl };
    steps_are = refl;
  }),
  refl,
)

-- the deed is known after the parking and the later looks
pub knows_parked : (p : ℕ) (d : Directory) (k : ℕ) (later : Mask4) (v : View) → KnowsDeed p d v
    → KnowsDeed p d (looks p (words later) 4 ++ (made (Park p) k ∷ []) ++ v)
knows_parked p d k later v knows = search (arith, append_assoc, deed_looks)

-- the steps after grains were put back
pub returned_by : {σ σ1 σ2 σ3 : Standing} (p : ℕ) (d : Directory) (used : Option Used) → (r : ReoffersPage p d σ σ1) → (s : ReadsUntilUsed p σ1 σ2 used)
    → (after : List Made) → Adds σ2 σ3 AnyView after → HintsWhere (is_free used) p after → Returned p d σ σ3
returned_by {σ} {σ1} {σ2} {σ3} p d used r s after adds hints =
    let steps = after ++ (looks_until p used ++ r.steps) in
    let order : ReturnSteps p d steps = record { first = r.steps; reoffers = r.order; used = used; are = s.are; after = after; hints = hints; steps_are = refl } in
    search (arith, adds_call, settles, return_returns, return_right, return_owes, return_few)
