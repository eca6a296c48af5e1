-- What a claim without a deed gets of a page, and what is left of it: the page is as it was for the steps of the call, or it was broken.
use Rattle.std.proofs.Common.{◌≡◌, ◌≢◌, ℕ, zero, suc, ◌+◌, ◌*◌, ◌/◌, ◌%◌, ◌<◌, Bool, true, false, ◌||◌, MatchBool, List, [], ◌∷◌, ◌++◌, ◌⊎◌, inl, inr, refl, ap}
use Rattle.std.proofs.{Common.{sym, ◌∙◌, subst, arith, append_assoc, true≢false, eq-eqb, ◌≤◌, length, length-append}, lemmas.Bool.{cases_Bool, cases_eq}}
use Rattle.std.proofs.lemmas.Bool.{cond_both}
use Rattle.pas_bits.{specs.{declared.mask.Mask4.Mask4, Masks.is_set, Bits.has_bit}, proofs.Words.at_word}
use Rattle.pas_profile.specs.{Directories.IsDirectory, declared.directory.Directory.Directory}
use Rattle.pas_rights.specs.{Leaves.{EndsLeave, LeaveSteps}, Puts.{masked, PutsBelow}, PutsBack.{giving_back, GivesDuly, PutsAndLeaves}, Words.{words, full}}
use Rattle.pas_rights.{specs.Looks.{looks, HasUsable, HasNoUsable, HintsEmpty, ReadsBacked, ReadsAllFree, TakesNone}, proofs.Puts.{leave_due, puts_kinds}}
use Rattle.pas_rights.proofs.Orders.{leave_returns, looks_only, looks_read, none_used, on_full}
use Rattle.pas_steps.specs.{Desks.{Standing, made}, Past.{Once, Always}, InTurn.InTurn, Evidence.{OneHere, ShowsHere, KeptHere, GetsHere}, Frames.IsOnPage}
use Rattle.pas_steps.specs.{Frames.{OnlyOn, GivesUp, KeepsRight}, Kinds.{Kinds, LookFree, Deeding, Taking, Giving, Ending, Putting, Parking, kind_of, is_in}}
use Rattle.pas_steps.specs.{Kinds.{Only, returning, Backing}, Views.{View, holds, has_right}, declared.step.{Made.Made, Step.TheVariants.{Park, Back}}}
use Rattle.pas_steps.proofs.{Apart.{holds_over, holds_same, rights_same}, Calls.returns_are, Frames.{right_own, right_on, holds_on_page}, Past.always_both}
use Rattle.pas_steps.proofs.Past.{always_map, once_earlier, once_later, in_turn_always}
use Rattle.pas_scan.{specs.Usable.{OfHere, ParksNotHere, IsFresh, MakesNoDeedHere, LeftAlone}, proofs.LeftPages.{holds_own, since_earlier}}
use Rattle.pas_large.specs.{Evidence.{BrokenHere, MissedHere, GotOf, LeftOrBroken}, Pages.OnceAfter, Gives.{BackStep, pages_from}}

-- ---- steps of kinds that make no deeds, and that park nothing
pub deeds_none : (ks : Kinds) (page : ℕ) (steps : List Made) → is_in ks Deeding ≡ false → Only ks steps → Always (MakesNoDeedHere page) steps
deeds_none ks page steps none = always_map _ _ steps (λ m before is d e z. absurd (true≢false (sym is ∙ ap (λ s. is_in ks (kind_of s)) e ∙ none)))

-- Steps of kinds without a park park no page.
pub parks_none : (ks : Kinds) (page : ℕ) (steps : List Made) → is_in ks Parking ≡ false → Only ks steps → Always (ParksNotHere page) steps
parks_none ks page steps none = always_map _ (ParksNotHere page) steps (λ m before is e. absurd (true≢false (sym is ∙ ap (λ s. is_in ks (kind_of s)) e ∙ none)))

-- Steps that keep a page's right don't park it.
pub parks_kept : (page : ℕ) (steps : List Made) → KeepsRight page steps → Always (ParksNotHere page) steps
parks_kept page steps = always_map _ (ParksNotHere page) steps (λ m before keeps e. keeps (subst (GivesUp page) (sym e) GivesUp.Parks))

-- Two lists of steps that don't park a page don't park it together.
pub parks_both : (page : ℕ) (ys xs : List Made) → Always (ParksNotHere page) ys → Always (ParksNotHere page) xs → Always (ParksNotHere page) (ys ++ xs)
parks_both page ys xs = always_both (ParksNotHere page) (ParksNotHere page) ys xs (λ m before h. h)

-- Two lists of steps that don't make a page's deed don't make it together.
pub deeds_both : (page : ℕ) (ys xs : List Made) → Always (MakesNoDeedHere page) ys → Always (MakesNoDeedHere page) xs → Always (MakesNoDeedHere page) (ys ++ xs)
deeds_both page ys xs = always_both (MakesNoDeedHere page) (MakesNoDeedHere page) ys xs (λ m before h. h)

-- ---- each step is on another page than this one
abbrev pub OffPage : ℕ → List Made → Type 0
OffPage p = Always (λ m before. (q : ℕ) × (p ≢ q) × IsOnPage q m.step)

-- Steps on one page are off every other.
pub off_on : (q p : ℕ) (ys : List Made) → p ≢ q → OnlyOn q ys → OffPage p ys
off_on q p ys ne = always_map (λ m before. IsOnPage q m.step) (λ m before. (r : ℕ) × (p ≢ r) × IsOnPage r m.step) ys (λ m before on. (q, ne, on))

off_right : (p : ℕ) (ys xs : List Made) → OffPage p ys → has_right (ys ++ xs) p ≡ has_right xs p
off_right p [] xs off = refl
off_right p (m ∷ ys) xs off = right_on off.0.0 p (m ∷ []) (ys ++ xs) (off.0.2, tt) off.0.1 ∙ off_right p ys xs off.1

off_holds : (p g : ℕ) (ys xs : List Made) → g / 256 ≡ p → OffPage p ys → holds (ys ++ xs) g ≡ holds xs g
off_holds p g [] xs at off = refl
off_holds p g (m ∷ ys) xs at off = holds_on_page off.0.0 g (m ∷ []) (ys ++ xs) (off.0.2, tt) (λ e. off.0.1 (sym at ∙ e)) ∙ off_holds p g ys xs at off.1

-- Steps off a page don't park it.
pub off_parks : (p : ℕ) (ys : List Made) → OffPage p ys → Always (ParksNotHere p) ys
off_parks p ys = always_map (λ m before. (q : ℕ) × (p ≢ q) × IsOnPage q m.step) (ParksNotHere p) ys (λ m before off. (λ e. search arith))

-- Steps off a page don't make its deed.
pub off_deeds : (p : ℕ) (ys : List Made) → OffPage p ys → Always (MakesNoDeedHere p) ys
off_deeds p ys = always_map _ (MakesNoDeedHere p) ys (λ m before off x e z. (search arith))

-- ---- a page that was left alone, or left or broken
pub left_of_alone : (d : Directory) (p : ℕ) (xs : List Made) → LeftAlone p xs → LeftOrBroken d p xs
left_of_alone d p xs alone = record { right = alone.right; none = alone.none; deeds = alone.deeds; parks = inl alone.parks }

-- steps on other pages follow
pub left_off : (d : Directory) (p : ℕ) (ys xs : List Made) → OffPage p ys → LeftOrBroken d p xs → LeftOrBroken d p (ys ++ xs)
left_off d p ys xs off left = record {
  right = off_right p ys xs off ∙ left.right;
  none = λ g at. off_holds p g ys xs at off ∙ left.none g at;
  deeds = deeds_both p ys xs (off_deeds p ys off) left.deeds;
  parks = elim left.parks [ inl parks ↦ inl (parks_both p ys xs (off_parks p ys off) parks) | inr broken ↦ inr (once_later _ ys xs broken.0, once_later _ ys xs broken.1) ];
}

-- A page that was got stays so by steps off it.
pub got_off : (d : Directory) (p : ℕ) (ys xs : List Made) → OffPage p ys → GotOf d p xs → GotOf d p (ys ++ xs)
got_off d p ys xs off got = search (arith, off_right, once_later, deeds_both, off_deeds, parks_both, off_parks)

-- ---- one page, with steps that stood before and have neither its right nor a grain of it
module _ (d : Directory) (p : ℕ) (xs : List Made) (left : LeftOrBroken d p xs) where
  -- Behind steps that left a page alone its right is where later steps took it.
  pub right_at : (b : List Made) → has_right (b ++ xs) p ≡ has_right b p
  right_at b = right_own p b xs left.right

  -- Behind steps that left a page alone, its grains are held where later steps took them.
  pub held_at : (b : List Made) (word i : ℕ) → word < 4 → i < 64 → holds (b ++ xs) (p * 256 + (64 * word + i)) ≡ holds b (p * 256 + (64 * word + i))
  held_at b word i w lt = holds_own (p * 256 + (64 * word + i)) b xs (left.none (p * 256 + (64 * word + i)) (omega (arith, w, lt)))

  -- A page's right that later steps keep is kept behind steps that left the page alone.
  pub kept_at : (m : Made) (b : List Made) → KeptHere p m b → KeptHere p m (b ++ xs)
  kept_at m b h = right_at b ∙ h

  -- A page that later steps broke was broken behind steps that left the page alone.
  pub broken_at : (m : Made) (b : List Made) → BrokenHere p m b → BrokenHere p m (b ++ xs)
  broken_at m b h = record {
    left = h.left;
    kept = right_at b ∙ h.kept;
    got = once_earlier (GetsHere p) (GetsHere p) b xs (λ m c h. h) h.got;
    readings = h.readings;
    none = h.none;
    read = λ word lt. since_earlier _ (KeptHere p) (ShowsHere p word h.readings) (KeptHere p) b xs
        (λ m b h. (h.0, right_at b ∙ h.1, λ i lt'. h.2 i lt' ∙ ap (λ t. has_bit m.answer i || t) (sym (held_at b word i lt lt')))) kept_at (h.read word lt);
  }

-- steps that left it alone stood before
pub left_before : (d : Directory) (p : ℕ) (ys xs : List Made) → LeftAlone p xs → LeftOrBroken d p ys → LeftOrBroken d p (ys ++ xs)
left_before d p ys xs alone left = record {
  right = right_own p ys xs alone.right ∙ left.right;
  none = λ g at. holds_own g ys xs (alone.none g at) ∙ left.none g at;
  deeds = deeds_both p ys xs left.deeds alone.deeds;
  parks = elim left.parks [
    | inl parks ↦ inl (parks_both p ys xs parks alone.parks)
    | inr broken ↦ inr (once_earlier (OfHere d p) (OfHere d p) ys xs (λ m b h. h) broken.0, once_earlier (BrokenHere p) (BrokenHere p) ys xs (broken_at d p xs (left_of_alone d p xs alone)) broken.1)
  ];
}

-- A page that later steps got was got behind steps that left it alone.
pub got_before : (d : Directory) (p : ℕ) (ys xs : List Made) → LeftAlone p xs → GotOf d p ys → GotOf d p (ys ++ xs)
got_before d p ys xs alone got = search (arith, right_own, once_earlier, deeds_both, parks_both)

fresh_before : (d : Directory) (p : ℕ) (ys xs : List Made) → LeftAlone p xs → IsFresh d p ys → IsFresh d p (ys ++ xs)
fresh_before d p ys xs alone (inl never) = inl (parks_both p ys xs never alone.parks)
fresh_before d p ys xs alone (inr since) = inr (since_earlier (OneHere d p) _ (OneHere d p) (ParksNotHere p) ys xs (λ m b h. (h.0, h.1, right_own p b xs alone.right ∙ h.2)) (λ m b h. h) since)

missed_at : (d : Directory) (p : ℕ) (xs : List Made) → LeftAlone p xs → (m : Made) (b : List Made) → MissedHere d p m b → MissedHere d p m (b ++ xs)
missed_at d p xs alone m b (inl other) = inl other
missed_at d p xs alone m b (inr (inl lost)) = inr (inl (lost.0, lost.1, right_own p b xs alone.right ∙ lost.2, fresh_before d p b xs alone lost.3))
missed_at d p xs alone m b (inr (inr broken)) = inr (inr (broken_at d p xs (left_of_alone d p xs alone) m b broken))

-- A page that later steps missed was missed behind steps that left it alone.
pub missed_before : (d : Directory) (p : ℕ) (ys xs : List Made) → LeftAlone p xs → Once (MissedHere d p) ys → Once (MissedHere d p) (ys ++ xs)
missed_before d p ys xs alone = once_earlier (MissedHere d p) (MissedHere d p) ys xs (missed_at d p xs alone)

-- ---- grains that were put back aren't held
abbrev taking_up : Kinds
taking_up = Taking ∷ Giving ∷ Ending ∷ []

still_none : (g : ℕ) (steps : List Made) (v : View) → Only giving_back steps → holds v g ≡ false → holds (steps ++ v) g ≡ false
still_none g = holds_over (λ v. holds v g ≡ false) taking_up giving_back (λ m v h none. (search (arith, cond_both))) refl

below_gone : (page : ℕ) (mask : Mask4) (g : ℕ) (v : View) → masked page mask g ≡ true → (n : ℕ) (steps : List Made) → PutsBelow page mask n steps
    → g / 64 % 4 < n → holds (steps ++ v) g ≡ false
below_gone page mask g v is zero steps h lt = absurd (omega (arith, lt))
below_gone page mask g v is (suc n) steps h lt = ap (λ s. holds (s ++ v) g) h.4 ∙ ap (λ s. holds s g) (append_assoc h.0 h.1 v) ∙ elim (cases_eq n (g / 64 % 4)) [
  | inl e ↦ search (arith, true≢false)
  | inr ne ↦ still_none g h.0 (h.1 ++ v) (search arith) (below_gone page mask g v is n h.1 h.3 (omega (arith, lt, ne)))
]

-- ---- hints, with steps that stood before
hint_later : (m : Made) (before xs : List Made) → HintsEmpty m before → HintsEmpty m (before ++ xs)
hint_later m before xs empty page same = let e = empty page same in record {
  backed = since_earlier (ReadsBacked page) (TakesNone page) (ReadsBacked page) (TakesNone page) before xs (λ n b r. r) (λ n b r. r) e.backed;
  free = λ word lt. since_earlier _ (TakesNone page) (ReadsAllFree page word) (TakesNone page) before xs (λ n b r. r) (λ n b r. r) (e.free word lt);
}

-- Two lists of steps that hint only what they read as empty do so together.
pub hints_both : (ys xs : List Made) → Always HintsEmpty ys → Always HintsEmpty xs → Always HintsEmpty (ys ++ xs)
hints_both ys xs = always_both HintsEmpty HintsEmpty ys xs (λ m before is. hint_later m before xs is)

hints_none : (steps : List Made) → Only (Putting ∷ []) steps → Always HintsEmpty steps
hints_none steps = always_map _ HintsEmpty steps (λ m before is page same. absurd (true≢false (sym is ∙ ap (λ s. is_in (Putting ∷ []) (kind_of s)) same)))

-- ---- a page that is put back and left
module _ {σ σ1 : Standing} (page : ℕ) (d : Directory) (mask : Mask4) (h : PutsAndLeaves page d mask σ σ1) where
  put_gone : (before : List Made) (g : ℕ) → masked page mask g ≡ true → holds (h.after ++ (h.puts ++ before)) g ≡ false
  put_gone before g is = holds_same returning refl g h.after (h.puts ++ before) (returns_are page h.after (leave_returns page d h.after h.order))
      ∙ below_gone page mask g before is 4 h.puts h.put_order (omega arith)

  -- of what is put nothing is held, nor of what wasn't held before
  pub nothing_held : (before : List Made) (g : ℕ) → (masked page mask g ≡ false → holds before g ≡ false) → holds ((h.after ++ h.puts) ++ before) g ≡ false
  nothing_held before g others = search (arith, cases_Bool, append_assoc, put_gone, still_none)

  -- Grains that are put back when a page is left hint only pages that were read as empty.
  pub left_hints : (before : List Made) → Always HintsEmpty before → Always HintsEmpty ((h.after ++ h.puts) ++ before)
  left_hints before all = hints_both (h.after ++ h.puts) before (hints_both h.after h.puts (always_map GivesDuly HintsEmpty h.after (λ m b due. due.0)
      (leave_due page d h.after h.order)) (hints_none h.puts (puts_kinds page mask 4 h.puts h.put_order))) all

-- ---- .. with all its grains: it was parked only where not all of them were read as free
module _ (page : ℕ) (d : Directory) (is : IsDirectory d) (free : Mask4) (xs : List Made) (right : has_right xs page ≡ true) (got : Once (GetsHere page) xs)
    (none : (g : ℕ) → g / 256 ≡ page → holds xs g ≡ false) where
  abbrev first : List Made
  first = looks page (words free) 4

  abbrev BrokenAfter : Made → List Made → Type 0
  BrokenAfter m b = BrokenHere page m (b ++ xs)

  park_breaks : (a : ℕ) → HasNoUsable d free → BrokenAfter (made (Park page) a) first
  park_breaks a unusable = record {
    left = GivesUp.Parks;
    kept = rights_same (LookFree ∷ []) refl page first xs (looks_only page (words free) 4) ∙ right;
    got = once_later (GetsHere page) first xs got;
    readings = is_set free;
    none = λ all. let used = none_used d free is unusable in true≢false (sym (all used.0 used.1) ∙ used.2);
    read = λ word lt. looks_read page (words free) (is_set free) (λ w b small. at_word free w b small) xs right none 4 word lt lt;
  }

  end_parks : (usable all_free : Bool) (after : List Made) → MatchBool usable (HasUsable d free) (HasNoUsable d free) → EndsLeave usable page d all_free after
      → Always (ParksNotHere page) (after ++ first) ⊎ Once BrokenAfter (after ++ first)
  end_parks usable all_free after has h = search (arith, parks_both, parks_none, looks_only, once_later, park_breaks)

-- A page that was got and then put back and left is as it was, or it was broken.
pub released : {σ σ1 : Standing} (page : ℕ) (d : Directory) → IsDirectory d → (before : List Made) → GotOf d page before → (h : PutsAndLeaves page d full σ σ1)
    → LeftOrBroken d page ((h.after ++ h.puts) ++ before)
released page d is before got h =
    let all = h.after ++ h.puts in
    let ws = h.puts ++ before in
    let putting = puts_kinds page full 4 h.puts h.put_order in
    let gone : (g : ℕ) → g / 256 ≡ page → holds ws g ≡ false = λ g at. below_gone page full g _ (on_full page g ∙ eq-eqb page _ (sym at)) 4 h.puts h.put_order (omega arith) in
    let right : has_right ws page ≡ true = rights_same (Putting ∷ []) refl page h.puts before putting ∙ got.right in
    let leave = h.order in let left = subst (λ s. Always (ParksNotHere page) s ⊎ OnceAfter ws (BrokenHere page) s) (sym leave.steps_are)
    (end_parks page d is leave.free ws right (once_later (GetsHere page) h.puts before got.got) gone leave.usable leave.all_free leave.after
    leave.usable_is leave.ends) in
    record {
      right = h.lacks before;
      none = λ g at. nothing_held page d full h before g (λ other. absurd (true≢false (sym (on_full page g ∙ eq-eqb page (g / 256) (sym at)) ∙ other)));
      deeds = deeds_both page all before (deeds_none giving_back page all refl h.kinds) got.deeds;
      parks = elim left [
        | inl parks ↦ inl (parks_both page all before (parks_both page h.after h.puts parks (parks_none (Putting ∷ []) page h.puts refl putting)) got.parks)
        | inr broken ↦ inr (
          once_later (OfHere d page) all before got.of,
          rw (append_assoc h.after h.puts before) (once_earlier (λ m b. BrokenHere page m (b ++ ws)) (BrokenHere page) h.after ws (λ m b x. x) broken),
        )
      ];
    }

-- The steps for the pages of a run in their order: which steps they are, and how many.
-- ---- one back for each page
pub only_backs : (first n : ℕ) (steps : List Made) → InTurn BackStep (pages_from first n) steps → Only (Backing ∷ []) steps
only_backs first n = in_turn_always BackStep _ (λ page piece back. subst (Only (Backing ∷ [])) (sym back.1) (refl, tt)) (pages_from first n)

-- each back is of one of these pages
abbrev pub BacksIn : ℕ → ℕ → List Made → Type 0
BacksIn first end = Always (λ m before. (page : ℕ) → m.step ≡ Back page → (first ≤ page) × (page < end))

-- Backs of the pages of a run in turn are backs of pages in its span.
pub backs_in : (first n : ℕ) (steps : List Made) → InTurn BackStep (pages_from first n) steps → BacksIn first (first + n) steps
backs_in first zero steps h = subst (BacksIn first (first + zero)) (sym h) tt
backs_in first (suc n) steps h =
    search (arith, always_map, (backs_in first n h.1 h.3))

-- Backs of the pages of a run in turn are at most one step a page.
pub backs_few : (first n : ℕ) (steps : List Made) → InTurn BackStep (pages_from first n) steps → length steps ≤ n
backs_few first zero steps h = let none : length steps ≡ 0 = ap length h in omega (arith, none)
backs_few first (suc n) steps h =
    search (arith, length-append, (backs_few first n h.1 h.3))

-- ---- a leave of each page
pub only_leaves : (d : Directory) (pages : List ℕ) (steps : List Made) → InTurn (λ page piece. LeaveSteps page d piece) pages steps → Only returning steps
only_leaves d = in_turn_always (λ page piece. LeaveSteps page d piece) _ (λ page piece leave. returns_are page piece (leave_returns page d piece leave))
