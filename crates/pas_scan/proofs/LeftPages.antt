-- Readings of pages, and the runs that they show.
use Rattle.std.proofs.Common.{◌≡◌, ℕ, ◌+◌, ◌*◌, ◌/◌, ◌<◌, true, false, ◌||◌, List, [], ◌∷◌, ◌++◌, inl, inr, refl, ap, sym, ◌∙◌, true≢false, arith, ◌≢◌, ◌-◌}
use Rattle.std.proofs.{Common.{◌≤◌, Bool, if◌then◌else◌, subst, MatchBool, ◌%◌, ◌^◌, length-append, zero, suc, nat_lt, lt-ltb, le-ltb}, lemmas.Bool.cases_lt}
use Rattle.std.proofs.Math.Bool.{or-false}
use Rattle.pas_bits.{specs.Bits.has_bit, proofs.Words.full_bit}
use Rattle.pas_profile.specs.{declared.{directory.Directory.Directory, profile.Profile.Profile, word.Word.Word}, Directories.{number_of, deed_word_of}}
use Rattle.pas_steps.specs.{Views.{held_after, grain_move, holds, has_right, all_ones}, Past.{Once, Since}, Kinds.{Kinds, kind_of, place_of, is_in, apart}}
use Rattle.pas_steps.specs.{Kinds.{moving, righting, Only}, declared.step.{Step.{Step, TheVariants.{Deed, Look}}, Made.Made}, Evidence.{OneHere, NoDeedHere}}
use Rattle.pas_steps.{specs.{Evidence.{ReadsEligible, ReadsDeed, ReadsFree}, Desks.{Standing, AnyView, Adds, made}}, proofs.Apart.{in_apart, holds_same}}
use Rattle.pas_steps.proofs.{Apart.{rights_same, only_both}, Frames.right_own, Adding.adds_call, Bits.all_set, Past.{once_later, once_earlier, always_map}}
use Rattle.pas_steps.proofs.Past.{always_both, once_map}
use Rattle.pas_scan.specs.Usable.{DeedReadHere, OfHere, IsAllFree, WholeHere, ReadUsable, ParksNotHere, IsFresh, UnusableHere, LeftAlone, UsedHere}
use Rattle.pas_scan.specs.{Passed.held_looks, Runs.{HasUnusable, IsFirstRun, HasNoRun, page_looks, FreeLookHere, UsedLookHere, LooksFree, ReadsUsable}}

-- ==== Readings of one page, with steps that stood before, which left the page alone.

-- ---- what the call holds, where the steps before it hold nothing
pub holds_own : (g : ℕ) (ys xs : List Made) → holds xs g ≡ false → holds (ys ++ xs) g ≡ holds ys g
holds_own g [] xs h = h
holds_own g (m ∷ ys) xs h = ap (held_after (grain_move m.step m.answer g)) (holds_own g ys xs h)

-- ---- steps that move no grain and no right leave each page alone
other_kind : (ks : Kinds) → apart ks righting ≡ true → (s t : Step) → is_in righting (kind_of t) ≡ true → is_in ks (kind_of s) ≡ true → s ≡ t → ⊥
other_kind ks none s t rights is e = true≢false (sym (ap (λ x. is_in righting (kind_of x)) e ∙ rights) ∙ in_apart ks righting (place_of (kind_of s)) none is)

-- Steps of kinds that get no right have none.
pub lacks_by : (ks : Kinds) → apart ks righting ≡ true → (p : ℕ) (xs : List Made) → Only ks xs → has_right xs p ≡ false
lacks_by ks none p xs only = sym (right_own p xs [] refl) ∙ rights_same ks none p xs [] only

-- Steps of kinds that move no grain hold none.
pub holds_none_by : (ks : Kinds) → apart ks moving ≡ true → (g : ℕ) (xs : List Made) → Only ks xs → holds xs g ≡ false
holds_none_by ks none g xs only = sym (holds_own g xs [] refl) ∙ holds_same ks none g xs [] only

-- Steps of kinds that neither get rights nor move grains leave a page alone.
pub left_alone_by : (ks : Kinds) → apart ks righting ≡ true → apart ks moving ≡ true → (p : ℕ) (xs : List Made) → Only ks xs → LeftAlone p xs
left_alone_by ks rights grains p xs only = search (arith, lacks_by, holds_none_by, always_map, other_kind)

-- ---- readings
pub since_earlier : (P Q R S : Made → List Made → Type 0) (ys xs : List Made) → ((m : Made) (before : List Made) → P m before → R m (before ++ xs))
    → ((m : Made) (before : List Made) → Q m before → S m (before ++ xs)) → Since P Q ys → Since R S (ys ++ xs)
since_earlier P Q R S [] xs first later h = absurd h
since_earlier P Q R S (m ∷ ys) xs first later (inl h) = inl (first m ys h)
since_earlier P Q R S (m ∷ ys) xs first later (inr h) = inr (later m ys h.0, since_earlier P Q R S ys xs first later h.1)

own_grain : (page word b : ℕ) (ys xs : List Made) → LeftAlone page xs → word < 4 → b < 64
    → holds (ys ++ xs) (page * 256 + (64 * word + b)) ≡ holds ys (page * 256 + (64 * word + b))
own_grain page word b ys xs alone w lt = holds_own (page * 256 + (64 * word + b)) ys xs (alone.none (page * 256 + (64 * word + b)) (omega (arith, w, lt)))

free_before : (page word a : ℕ) (ys xs : List Made) → LeftAlone page xs → word < 4 → IsAllFree page word a ys → IsAllFree page word a (ys ++ xs)
free_before page word a ys xs alone w free b lt = ap (λ t. has_bit a b || t) (own_grain page word b ys xs alone w lt) ∙ free b lt

free_after : (page word a : ℕ) (ys xs : List Made) → LeftAlone page xs → word < 4 → IsAllFree page word a (ys ++ xs) → IsAllFree page word a ys
free_after page word a ys xs alone w free b lt = ap (λ t. has_bit a b || t) (sym (own_grain page word b ys xs alone w lt)) ∙ free b lt

one_before : (d : Directory) (p : ℕ) (xs : List Made) → LeftAlone p xs → (m : Made) (before : List Made) → OneHere d p m before → OneHere d p m (before ++ xs)
one_before d p xs alone m before h = (h.0, h.1, right_own p before xs alone.right ∙ h.2)

-- A page that was read as usable is so read behind steps that left it alone.
pub usable_before : (d : Directory) (p : ℕ) (ys xs : List Made) → LeftAlone p xs → ReadUsable d p ys → ReadUsable d p (ys ++ xs)
usable_before d p ys xs alone (inl bare) = inl (once_earlier (NoDeedHere p) (NoDeedHere p) ys xs (λ m before h. h) bare)
usable_before d p ys xs alone (inr whole) = inr record {
  of = once_earlier _ _ ys xs (λ m before h. h) whole.of;
  offered = once_earlier _ _ ys xs (one_before d p xs alone) whole.offered;
  free = λ w lt. once_earlier _ _ ys xs (λ m before h. (h.0, free_before p w _ before xs alone lt h.1)) (whole.free w lt);
}

fresh_before : (d : Directory) (p : ℕ) (ys xs : List Made) → LeftAlone p xs → IsFresh d p ys → IsFresh d p (ys ++ xs)
fresh_before d p ys xs alone (inl none) = inl (always_both (ParksNotHere p) (ParksNotHere p) ys xs (λ m before h. h) none alone.parks)
fresh_before d p ys xs alone (inr since) = inr (since_earlier _ _ _ _ ys xs (one_before d p xs alone) (λ m before h. h) since)

-- A step that reads a page as not usable does so behind steps that left it alone.
pub unusable_here : (d : Directory) (p : ℕ) (xs : List Made) → LeftAlone p xs → (m : Made) (before : List Made) → UnusableHere d p m before
    → UnusableHere d p m (before ++ xs)
unusable_here d p xs alone m before (inl other) = inl other
unusable_here d p xs alone m before (inr (inl zero_read)) = search (arith, right_own, fresh_before, once_earlier)
unusable_here d p xs alone m before (inr (inr used)) = inr (inr (used.0, used.1, used.2, λ free. used.3 (free_after p used.0 _ before xs alone used.1 free)))

-- A page that was once read as not usable is so read behind steps that left it alone.
pub unusable_before : (d : Directory) (p : ℕ) (ys xs : List Made) → LeftAlone p xs → Once (UnusableHere d p) ys → Once (UnusableHere d p) (ys ++ xs)
unusable_before d p ys xs alone h = once_earlier (UnusableHere d p) (UnusableHere d p) ys xs (unusable_here d p xs alone) h

-- ---- later steps
pub usable_later : (d : Directory) (p : ℕ) (ys xs : List Made) → ReadUsable d p xs → ReadUsable d p (ys ++ xs)
usable_later d p ys xs e = grind (arith, once_later)

-- A deed word that was read is read behind other steps, too.
pub deed_before : (p : ℕ) (ys xs : List Made) → Once (DeedReadHere p) ys → Once (DeedReadHere p) (ys ++ xs)
deed_before p ys xs h = once_earlier (DeedReadHere p) (DeedReadHere p) ys xs (λ m before h. h) h

-- ==== The run of usable pages that ends before a page, and the lower runs.

-- The pages from `next` to below `page` were read. The last `length` pages before it are usable, those below `next` by earlier steps, and each run
-- that begins before these has a page that isn't.
pub record RunSoFar (d : Directory) (from next n page length : ℕ) (steps : List Made) : Type 0 where
  pub short : length < n
  pub within : from + length ≤ page
  pub usable : (p : ℕ) → page ≤ p + length → next ≤ p → p < page → ReadUsable d p steps
  pub lower : (s : ℕ) → from ≤ s → s + length < page → HasUnusable d n s steps
  pub deeds : (p : ℕ) → next ≤ p → p < page → Once (DeedReadHere p) steps

unusable_later : (d : Directory) (n s : ℕ) (ys xs : List Made) → HasUnusable d n s xs → HasUnusable d n s (ys ++ xs)
unusable_later d n s ys xs h = (h.0, h.1, once_later (UnusableHere d h.0) ys xs h.2)

-- No page lies between the run's start and its length so far.
pub run_none : (d : Directory) (from next n length : ℕ) → from ≤ next → next < from + n → length ≡ next - from → RunSoFar d from next n next length []
run_none d from next n length le some long = search arith

deeds_more : (from page : ℕ) (ys xs : List Made) → ((p : ℕ) → from ≤ p → p < page → Once (DeedReadHere p) xs) → Once (DeedReadHere page) ys → (p : ℕ) → from ≤ p
    → p < page + 1 → Once (DeedReadHere p) (ys ++ xs)
deeds_more from page ys xs before here p ge lt = search (arith, cases_lt, once_later, deed_before)

-- one usable page more
pages_more : (d : Directory) (next page length : ℕ) (ys xs : List Made) → LeftAlone page xs
    → ((p : ℕ) → page ≤ p + length → next ≤ p → p < page → ReadUsable d p xs) → ReadUsable d page ys → (p : ℕ) → page + 1 ≤ p + (length + 1) → next ≤ p
    → p < page + 1 → ReadUsable d p (ys ++ xs)
pages_more d next page length ys xs alone before here p ge le lt = elim (cases_lt p page) [
  | inl low ↦ usable_later d p ys xs (before p (omega (arith, ge)) le low)
  | inr high ↦ let same : page ≡ p = omega (arith, lt, high) in subst (λ q. ReadUsable d q (ys ++ xs)) same (usable_before d page ys xs alone here)
]

lower_more : (d : Directory) (from n page length : ℕ) (ys xs : List Made) → ((s : ℕ) → from ≤ s → s + length < page → HasUnusable d n s xs) → (s : ℕ) → from ≤ s
    → s + (length + 1) < page + 1 → HasUnusable d n s (ys ++ xs)
lower_more d from n page length ys xs before s ge lt = unusable_later d n s ys xs (before s ge (omega (arith, lt)))

-- a page that isn't usable
lower_bad : (d : Directory) (from n page length : ℕ) (ys xs : List Made) → LeftAlone page xs → length < n
    → ((s : ℕ) → from ≤ s → s + length < page → HasUnusable d n s xs) → Once (UnusableHere d page) ys → (s : ℕ) → from ≤ s → s + 0 < page + 1
    → HasUnusable d n s (ys ++ xs)
lower_bad d from n page length ys xs alone short before here s ge lt = elim (cases_lt (s + length) page) [
  | inl low ↦ unusable_later d n s ys xs (before s ge low)
  | inr high ↦ (page, (omega (arith, lt), omega (arith, high, short)), unusable_before d page ys xs alone here)
]

-- A page that was read as usable makes the run so far one longer, and one that wasn't ends it.
pub run_more : (d : Directory) (from next n page length : ℕ) (ys xs : List Made) (usable : Bool) → LeftAlone page xs → from ≤ page
    → RunSoFar d from next n page length xs → Once (DeedReadHere page) ys → MatchBool usable (ReadUsable d page ys) (Once (UnusableHere d page) ys)
    → (if usable then length + 1 else 0) ≢ n → RunSoFar d from next n (page + 1) (if usable then length + 1 else 0) (ys ++ xs)
run_more d from next n page length ys xs true alone le so_far deed here ne = search (arith, pages_more, lower_more, deeds_more)
run_more d from next n page length ys xs false alone le so_far deed here ne = let short = so_far.short in record {
  short = omega (arith, short);
  within = omega (arith, le);
  usable = λ p ge high lt. absurd (omega (arith, ge, lt));
  lower = lower_bad d from n page length ys xs alone so_far.short so_far.lower here;
  deeds = deeds_more next page ys xs so_far.deeds deed;
}

-- the run is long enough
pub run_found : (f : Profile) (d : Directory) (from next n page length : ℕ) (ys xs : List Made) (usable : Bool) → 1 ≤ n → LeftAlone page xs → page ≤ f.pages
    → RunSoFar d from next n page length xs → Once (DeedReadHere page) ys → MatchBool usable (ReadUsable d page ys) (Once (UnusableHere d page) ys)
    → (if usable then length + 1 else 0) ≡ n → IsFirstRun f d from next n (ys ++ xs) (page + 1 - n)
run_found f d from next n page length ys xs false some alone le so_far deed here e = absurd (omega (arith, some, e))
run_found f d from next n page length ys xs true some alone le so_far deed here e = let within = so_far.within in record {
  from_there = omega (arith, within, e);
  of_region = omega (arith, within, e, le);
  usable = λ p in_run above. pages_more d next page length ys xs alone so_far.usable here p (omega (arith, within, e, in_run.0)) above (omega (arith, within, e, in_run.1));
  lower = λ s ge lt. lower_more d from n page length ys xs so_far.lower s ge (omega (arith, within, e, lt));
  deeds = λ p ge lt. deeds_more next page ys xs so_far.deeds deed p ge (omega (arith, within, e, lt));
}

-- no run is, since what was so up to the last page is so up to the end
pub run_ended : (f : Profile) (d : Directory) (from next n page length : ℕ) (xs : List Made) → f.pages + 1 ≤ page → RunSoFar d from next n page length xs
    → HasNoRun f d from next n xs
run_ended f d from next n page length xs end so_far = search arith

-- ==== The looks at one page, and what they show.

-- ---- free words
-- looks at free words, by steps that hold nothing
free_here : (page word : ℕ) (m : Made) (before : List Made) → FreeLookHere page word m before → WholeHere page word m before
free_here page word m before h = (
  subst (ReadsFree page word) (sym h.0) ReadsFree.Looks,
  λ b lt. ap (λ n. has_bit n b || holds before (page * 256 + (64 * word + b))) h.1 ∙ ap (λ t. t || holds before (page * 256 + (64 * word + b))) (full_bit b lt),
)

used_not_free : (page word a : ℕ) (before : List Made) → a < 2 ^ 64 → a ≢ all_ones → ((b : ℕ) → b < 64 → holds before (page * 256 + (64 * word + b)) ≡ false)
    → IsAllFree page word a before → ⊥
used_not_free page word a before small ne none free = ne (all_set a small (λ b lt. sym (or-false _) ∙ ap (λ t. has_bit a b || t) (sym (none b lt)) ∙ free b lt))

used_once : (page : ℕ) (ys : List Made) → Only page_looks ys → Once (UsedLookHere page) ys → Once (UsedHere page) ys
used_once page [] are h = absurd h
used_once page (m ∷ ys) are (inl h) = inl (h.0, h.1, subst (ReadsFree page h.0) (sym h.2) ReadsFree.Looks, used_not_free page h.0 _ ys h.4 h.3 (λ b lt. holds_none_by page_looks refl _ ys are.1))
used_once page (m ∷ ys) are (inr h) = inr (used_once page ys are.1 h)

-- ---- one page: a look at its deed word, one at its eligible word, and looks at its free words
abbrev pub deed_look : ℕ → ℕ → Made
deed_look page a = made (Look (Word.Deed page)) a

abbrev pub eligible_look : Directory → ℕ → ℕ → Made
eligible_look d page a = made (Look (Word.Eligible (number_of d) (page / 64))) a

abbrev pub two_looks : Directory → ℕ → ℕ → ℕ → List Made
two_looks d page a e = eligible_look d page e ∷ deed_look page a ∷ []

-- A look at a deed word reads it.
pub deed_read : (page a : ℕ) → Once (DeedReadHere page) (deed_look page a ∷ [])
deed_read page a = inl ReadsDeed.Looks

-- A deed word that reads as 0 shows a usable page.
pub bare : (d : Directory) (page a : ℕ) → a ≡ 0 → ReadUsable d page (deed_look page a ∷ [])
bare d page a e = inl (inl (ReadsDeed.Looks, e))

-- A deed word of another directory shows a page that isn't usable.
pub other_deed : (d : Directory) (page a : ℕ) → a ≢ 0 → a ≢ deed_word_of d → Once (UnusableHere d page) (deed_look page a ∷ [])
other_deed d page a some ne = inl (inl (ReadsDeed.Looks, some, ne))

of_deed : (d : Directory) (page a : ℕ) → a ≡ deed_word_of d → Once (OfHere d page) (deed_look page a ∷ [])
of_deed d page a e = inl (ReadsDeed.Looks, e)

-- A page of the directory whose eligible bit was read as 0 isn't usable.
pub not_offered : (d : Directory) (page a e : ℕ) → a ≡ deed_word_of d → has_bit e (page % 64) ≡ false → Once (UnusableHere d page) (two_looks d page a e)
not_offered d page a e is bit = inl (inr (inl (((ReadsEligible.Looks (number_of d) (page / 64) refl refl, bit, refl), inl (λ h. cc, tt)), of_deed d page a is)))

all_looks : (d : Directory) (page a e : ℕ) (ys : List Made) → Only page_looks ys → Only page_looks (ys ++ two_looks d page a e)
all_looks d page a e ys only = only_both page_looks ys (two_looks d page a e) only (refl, (refl, tt))

-- what the looks at the free words show after these
offered_free : (d : Directory) (page a e : ℕ) (free : Bool) (ys : List Made) → Only page_looks ys → a ≡ deed_word_of d → has_bit e (page % 64) ≡ true
    → MatchBool free ((w : ℕ) → w < 4 → Once (FreeLookHere page w) ys) (Once (UsedLookHere page) ys)
    → MatchBool free (ReadUsable d page (ys ++ two_looks d page a e)) (Once (UnusableHere d page) (ys ++ two_looks d page a e))
offered_free d page a e false ys are is bit used =
    once_map _ _ _ (λ m before u. inr (inr u)) (used_once page _ (all_looks d page a e ys are) (once_earlier _ _ ys _ (λ m before h. h) used))
offered_free d page a e true ys are is bit free =
    let base = two_looks d page a e in
    inr record {
      of = once_later _ ys base (inr (of_deed d page a is));
      offered = once_later _ ys base (inl (ReadsEligible.Looks (number_of d) (page / 64) refl refl, bit, refl));
      free = λ w lt. once_map _ _ _ (free_here page w) (once_earlier _ _ ys base (λ m before h. h) (free w lt));
    }

-- ---- the looks at free words, one more
pub free_more : (page word a : ℕ) (ys : List Made) → a ≡ all_ones → ((w : ℕ) → w < word → Once (FreeLookHere page w) ys) → (w : ℕ) → w < word + 1
    → Once (FreeLookHere page w) (made (Look (Word.Free page word)) a ∷ ys)
free_more page word a ys e before w lt = search (arith, cases_lt)

-- ---- all looks at a page that is of the directory and offered
pub reads_by : {σ σ1 σ2 : Standing} (d : Directory) (page a e : ℕ) (free : Bool) → Adds σ σ1 AnyView (two_looks d page a e) → a ≡ deed_word_of d
    → has_bit e (page % 64) ≡ true → LooksFree page σ1 σ2 free → ReadsUsable d page σ σ2 free
reads_by d page a e free adds is bit h = record {
  steps = h.steps ++ two_looks d page a e;
  adds = adds_call adds h.adds (λ v l stood met. tt);
  kinds = all_looks d page a e h.steps h.kinds;
  few = (let n = length-append h.steps (two_looks d page a e) in omega (arith, n, h.few));
  deed = once_later (DeedReadHere page) h.steps (two_looks d page a e) (inr (deed_read page a));
  outcome = offered_free d page a e free h.steps h.kinds is bit h.outcome;
}

-- ==== Pages of the directory that aren't offered, one after the other.

-- Looks at them are of the kinds of a search.
pub held_kinds : (d : Directory) (deeds offered : ℕ → ℕ) (next n : ℕ) → Only page_looks (held_looks d deeds offered next n)
held_kinds d deeds offered next zero = tt
held_kinds d deeds offered next (suc n) = (refl, (refl, held_kinds d deeds offered next n))

-- Behind them no run is so far.
abbrev pub kept_after : ℕ → ℕ → ℕ
kept_after length zero = length
kept_after length (suc n) = 0

pub run_past : (d : Directory) (from next n length many : ℕ) (deeds offered : ℕ → ℕ) → from ≤ next → RunSoFar d from next n next length []
    → ((p : ℕ) → next ≤ p → p < next + many → deeds p ≡ deed_word_of d) → ((p : ℕ) → next ≤ p → p < next + many → has_bit (offered p) (p % 64) ≡ false)
    → RunSoFar d from next n (next + many) (kept_after length many) (held_looks d deeds offered next many)
run_past d from next n length zero deeds offered le so_far of held = subst (λ p. RunSoFar d from next n p length []) (omega arith) so_far
run_past d from next n length (suc many) deeds offered le so_far of held =
    let page : ℕ = next + many in let xs = held_looks d deeds offered next many in
    let before = run_past d from next n length many deeds offered le so_far (λ p low high. of p low (omega (arith, high))) (λ p low high. held p low (omega (arith, high))) in
    let short = before.short in
    subst (λ p. RunSoFar d from next n p 0 (two_looks d page (deeds page) (offered page) ++ xs)) (omega arith)
    (run_more d from next n page (kept_after length many) (two_looks d page (deeds page) (offered page)) xs false
    (left_alone_by page_looks refl refl page xs (held_kinds d deeds offered next many)) (omega (arith, le)) before (inr (deed_read page (deeds page)))
    (not_offered d page (deeds page) (offered page) (of page (omega arith) (omega arith)) (held page (omega arith) (omega arith))) (omega (arith, short)))

-- The length is kept where no page was passed by.
pub kept_is : (next length many : ℕ) → (if nat_lt next (next + many) then 0 else length) ≡ kept_after length many
kept_is next length many = search (arith, le-ltb, lt-ltb)
