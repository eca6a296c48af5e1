-- The grains of a mask of one page, put back word by word.
use Rattle.std.proofs.Common.{◌≡◌, ◌≢◌, ℕ, zero, suc, ◌<◌, ◌+◌, ◌/◌, ◌%◌, ◌≤◌, ◌==◌, nat_lt, Bool, true, false, ◌&&◌, ◌||◌, List, [], ◌∷◌, ◌++◌, length}
use Rattle.std.proofs.Common.{slice_index, ◌^◌, inl, inr, refl, ap, sym, ◌∙◌, subst, arith, append_assoc, true≢false, eqb-true, ne_eqb, lt-ltb, le-ltb, ◌*◌}
use Rattle.std.proofs.{Common.{if◌then◌else◌, add-one, append-nil, Option, length-append, MatchBool}, lemmas.Bool.{cases_eq, and_parts, and_right, and_from}}
use Rattle.std.proofs.{lemmas.Bool.{and_left, or_right, or_from, false_from_ne_true, Decides.nat_tests}, Math.Bool.and_comm}
use Rattle.pas_bits.{specs.{Bits.has_bit, Masks.{is_set, HasMember, IsEmpty}, declared.mask.Mask4.Mask4}, proofs.Words.{none_of_zero, full_bit, at_word}}
use Rattle.pas_steps.specs.{Calls.{Calls, Does, put, Kept, Gained, grain_fate, Fate, Lost, later, ClearAfter}, Effects.in_mask, InTurn.numbers_below}
use Rattle.pas_steps.specs.{Desks.{Standing, made, CanCall}, Past.{Once, Always, Since}, Agreement.{Agreed, AgreesFree}, Clear.IsClearOn, Frames.IsOnPage}
use Rattle.pas_steps.specs.{Frames.{OnlyOn, KeepsRight, GivesUp}, Kinds.{Putting, Only, is_in, kind_of, Taking, Kinds, LookFree, LookBacked, Unparking}}
use Rattle.pas_steps.specs.{Kinds.{Hinting, apart}, Views.{View, holds, Gets, Stays, has_right, known_free, KnowsDeed}, declared.step.Made.Made}
use Rattle.pas_steps.{specs.{declared.step.Step.TheVariants.{Take, Look}, Evidence.{Readings, ReadsFree, ShowsHere, KeptHere}}, proofs.Apart.unstamped_same}
use Rattle.pas_steps.proofs.{Apart.{rights_same, only_both, only_within, holds_same, in_apart}, Called.{call_then, call_as, call_none, call_knows, next_call}}
use Rattle.pas_steps.proofs.{Adding.{agreed_first, agreed_later, adds_under}, Flags.ap_if, Frames.returns_on, Calls.{does_none, does_then, does_as, does_step}}
use Rattle.pas_steps.proofs.{Calls.{kept_first, returns_are}, Sets.{put_both, put_as, put_nothing, both_fates, same_truth, kept_kept}, Past.in_turn_always}
use Rattle.pas_steps.proofs.{Past.{in_turn_length, once_earlier, once_later, always_both, always_map}, Bits.none_set}
use Rattle.pas_rights.specs.{Puts.{masked, MayPut, WordPut, PutsBelow, PutsHere, MayPutWord, PutsWord, PutsMask, IsRunMask}, PutsBack.GivesDuly}
use Rattle.pas_rights.specs.{PutsBack.{MayPutAndReturn, given_back, PutsAndReturns, MayPutAndLeave, PutsAndLeaves, BackSteps}, Words.words, Leaves.MayLeave}
use Rattle.pas_rights.specs.{Leaves.{Leaves, ReoffersWhere, EndsLeave, LeaveSteps}, Looks.{looks_until, is_free, HintsWhere, looks, IsAllFree, HasUsed}}
use Rattle.pas_rights.specs.{Looks.{ReadsAllFree, TakesNone}, Takes.{word_take, takes, taken, GetsGrains, TakesMask}, Returns.{ReofferSteps, ReturnSteps}}
use Rattle.pas_rights.{specs.{Returns.{Settles, Returned}, declared.reading.Used.Used}, proofs.Orders.{each_always, each_few, each_agreed, keeps_by}}
use Rattle.pas_rights.proofs.Orders.{words_read, bit_of, or_none, looks_held, leave_lacks, until_only, looks_only}
use Rattle.pas_profile.specs.declared.{profile.Profile.Profile, directory.Directory.Directory, word.Word.Word}

-- ---- one word
none_in : (page word mask g : ℕ) → mask ≡ 0 → in_mask page word mask g ≡ false
none_in page word mask g z = and_right ((word == g / 64 % 4) && (page == g / 256)) (has_bit mask (g % 64)) (ap (λ m. has_bit m (g % 64)) z ∙ none_of_zero _)

-- A word without grains to put leaves the view as it is.
pub word_none : (page word mask : ℕ) (v : View) → mask ≡ 0 → Does (put (in_mask page word mask) page) v v
word_none page word mask v z = put_nothing (in_mask page word mask) page (does_none v) (λ g. none_in page word mask g z)

word_on : (page word mask : ℕ) (steps : List Made) → WordPut page word mask steps → OnlyOn page steps
word_on page word mask steps (inl none) = subst (OnlyOn page) (sym none.1) tt
word_on page word mask steps (inr some) = subst (OnlyOn page) (sym some.2) (IsOnPage.Puts word mask, tt)

-- ---- the words below n
abbrev pub masked_below : ℕ → Mask4 → ℕ → ℕ → Bool
masked_below page mask n g = nat_lt (g / 64 % 4) n && masked page mask g

-- A grain is in a word of a mask exactly where the mask has it and the word is its own.
pub in_word : (page : ℕ) (mask : Mask4) (n g : ℕ) → in_mask page n (slice_index mask.0 n) g ≡ ((n == g / 64 % 4) && masked page mask g)
in_word page mask n g = grind arith

-- The words below one more are those below it, and that one.
next_word : (w n : ℕ) → nat_lt w (n + 1) ≡ (nat_lt w n || (n == w))
next_word w n = grind (arith, nat_tests)

-- What either of two tests lets through a third is what both together let through it.
shared : (s t m : Bool) → ((s && m) || (t && m)) ≡ ((s || t) && m)
shared s t m = grind arith

-- The puts of the words of a mask are puts alone.
pub puts_kinds : (page : ℕ) (mask : Mask4) (n : ℕ) (steps : List Made) → PutsBelow page mask n steps → Only (Putting ∷ []) steps
puts_kinds page mask n = in_turn_always (λ word piece. WordPut page word (slice_index mask.0 word) piece) (λ m. is_in (Putting ∷ []) (kind_of m.step) ≡ true) (λ word. (λ steps e. grind arith)) _

puts_on : (page : ℕ) (mask : Mask4) (n : ℕ) (steps : List Made) → PutsBelow page mask n steps → OnlyOn page steps
puts_on page mask n = in_turn_always (λ word piece. WordPut page word (slice_index mask.0 word) piece) (λ m. IsOnPage page m.step) (λ word. word_on page word _) _

-- The puts of a mask are at most four.
pub puts_few : (page : ℕ) (mask : Mask4) (steps : List Made) → PutsBelow page mask 4 steps → length steps ≤ 4
puts_few page mask = in_turn_length (λ word piece. WordPut page word (slice_index mask.0 word) piece) 1 (λ word. (λ steps e. grind arith)) (numbers_below 4)

made_below : (page : ℕ) (mask : Mask4) (n w : ℕ) (steps : List Made) → PutsBelow page mask n steps → w < n → slice_index mask.0 w ≢ 0
    → Once (PutsHere page) steps
made_below page mask zero w steps h lt some = absurd (omega (arith, lt))
made_below page mask (suc n) w steps h lt some = subst (Once (PutsHere page)) (sym h.4) (elim (cases_eq w n) [
  | inl e ↦ once_earlier _ _ h.0 h.1 (λ m before put. put) (grind arith)
  | inr ne ↦ once_later _ h.0 h.1 (made_below page mask n w h.1 h.3 (omega (arith, lt, ne)) some)
])

-- A mask with a grain makes some put on the page.
pub some_put : (page : ℕ) (mask : Mask4) (steps : List Made) → PutsBelow page mask 4 steps → HasMember mask → Once (PutsHere page) steps
some_put page mask steps h some =
    search (arith, made_below, true≢false, none_of_zero)

-- ---- what is put was held
-- What the later steps hold is held by them behind others, too.
holds_more : (g : ℕ) (ys xs : List Made) → holds ys g ≡ true → holds (ys ++ xs) g ≡ true
holds_more g [] xs h = absurd (true≢false (sym h))
holds_more g (y ∷ ys) xs h = grind (arith, holds_more g ys xs)

-- the mask's grains of the words from n on are held still, and each that was put was held
abbrev StillHeld : ℕ → Mask4 → ℕ → List Made → Type 0
StillHeld page mask n steps = ((g : ℕ) → masked page mask g ≡ true → n ≤ g / 64 % 4 → holds steps g ≡ true) × Always GivesDuly steps

word_taken : (page : ℕ) (mask : Mask4) (n : ℕ) (piece xs : List Made) → WordPut page n (slice_index mask.0 n) piece → StillHeld page mask n xs
    → StillHeld page mask (suc n) (piece ++ xs)
word_taken page mask n piece xs e h = grind (arith, in_word, ne_eqb, and_parts, eqb-true)

puts_below : (page : ℕ) (mask : Mask4) (xs : List Made) → ((g : ℕ) → masked page mask g ≡ true → holds xs g ≡ true) → Always GivesDuly xs
    → (n : ℕ) (steps : List Made) → PutsBelow page mask n steps → StillHeld page mask n (steps ++ xs)
puts_below page mask xs held all zero steps h = subst (λ s. StillHeld page mask 0 (s ++ xs)) (sym h) ((λ g is le. held g is), all)
puts_below page mask xs held all (suc n) steps h =
    let rest = puts_below page mask xs held all n h.1 h.3 in grind (arith, rest, append_assoc, word_taken)

-- Puts of grains that the call holds give duly.
pub puts_due : (page : ℕ) (mask : Mask4) (steps xs : List Made) → PutsBelow page mask 4 steps → ((g : ℕ) → masked page mask g ≡ true → holds xs g ≡ true)
    → Always GivesDuly xs → Always GivesDuly (steps ++ xs)
puts_due page mask steps xs order held all = (puts_below page mask xs held all 4 steps order).1

-- ---- the calls
pub may_put_word : (page : ℕ) (mask : Mask4) (n : ℕ) (steps : List Made) (v : View) → PutsBelow page mask n steps → MayPut page mask v
    → Does (put (masked_below page mask n) page) v (steps ++ v) → MayPutWord page n (slice_index mask.0 n) (steps ++ v)
may_put_word page mask n steps v order met does = record {
  held = search (arith, and_parts, in_word, eqb-true, le-ltb);
  stamped = unstamped_same (Putting ∷ []) refl page steps v (puts_kinds page mask n steps order) ∙ met.stamped;
}

-- Before the first word no grain of a mask was put.
pub puts_none : (page : ℕ) (mask : Mask4) (v : View) → Does (put (masked_below page mask 0) page) v v
puts_none page mask v = put_nothing (masked_below page mask 0) page (does_none v) (λ g. ap (λ t. t && masked page mask g) (le-ltb (g / 64 % 4) 0 (omega arith)))

-- After one word more the grains of a mask up to it are put.
pub puts_more : {σ σ1 σ2 : Standing} (page : ℕ) (mask : Mask4) (n : ℕ) (steps : List Made) → PutsBelow page mask n steps
    → Calls σ σ1 (MayPut page mask) (Does (put (masked_below page mask n) page)) steps
    → (p : PutsWord page n (slice_index mask.0 n) σ1 σ2) → Calls σ σ2 (MayPut page mask) (Does (put (masked_below page mask (n + 1)) page)) (p.steps ++ steps)
puts_more page mask n steps order calls p = search (arith, call_then, may_put_word, put_both, in_word, shared, next_word)

-- After all four words all grains of a mask are put.
pub puts_all : {σ σ1 : Standing} (page : ℕ) (mask : Mask4) (steps : List Made) → PutsBelow page mask 4 steps
    → Calls σ σ1 (MayPut page mask) (Does (put (masked_below page mask 4) page)) steps → PutsMask page mask σ σ1
puts_all page mask steps order calls = record {
  steps = steps;
  calls = call_as _ calls (λ v met. met) (λ v w met d. put_as _ _ page d (λ g. ap (λ t. t && masked page mask g) (lt-ltb (g / 64 % 4) 4 (omega arith))));
  order = order;
  kinds = puts_kinds page mask 4 steps order;
  on = puts_on page mask 4 steps order;
  few = puts_few page mask steps order;
}

-- ---- a run within one word
-- The words of a run's mask are empty but for the one that the run lies in.
pub other_words_empty : (g n : ℕ) (mask : Mask4) → IsRunMask g n mask → g % 64 + n ≤ 64 → ((w : ℕ) → slice_index mask.0 w < 2 ^ 64) → (w : ℕ) → w < 4
    → w ≢ g / 64 → slice_index mask.0 w ≡ 0
other_words_empty g n mask is within fit w lt ne =
    none_set _ (fit w) (λ b small. sym (at_word mask w b small) ∙ is (64 * w + b) ∙ grind (arith, nat_tests, within, ne, small))

module _ (page word : ℕ) (mask : Mask4) (empty : (w : ℕ) → w < 4 → w ≢ word → slice_index mask.0 w ≡ 0) where
  none_below : (n : ℕ) → n ≤ 4 → n ≤ word → PutsBelow page mask n []
  none_below zero few le = refl
  none_below (suc n) few le = ([], [], inl (empty n few (λ e. omega (arith, e, le)), refl), none_below n (omega (arith, few)) (omega (arith, le)), refl)

  one_below : (n : ℕ) (steps : List Made) → n ≤ 4 → word < n → WordPut page word (slice_index mask.0 word) steps → PutsBelow page mask n steps
  one_below zero steps few lt h = absurd (omega (arith, lt))
  one_below (suc n) steps few lt h = elim (cases_eq word n) [
    | inl e ↦ (steps, [], subst (λ w. WordPut page w (slice_index mask.0 w) steps) e h, none_below n (omega (arith, few)) (omega (arith, e)), sym (append-nil steps))
    | inr ne ↦ ([], steps, inl (empty n few (λ e. ne (sym e)), refl), one_below n steps (omega (arith, few)) (omega (arith, lt, ne)) h, refl)
  ]

  all_in : (g : ℕ) → in_mask page word (slice_index mask.0 word) g ≡ masked_below page mask 4 g
  all_in g = grind (arith, in_word, none_of_zero, empty, nat_tests, eqb-true)

  -- Where all grains of a mask are in one word, a put of that word is one of the mask.
  pub may_put_one : (v : View) → MayPut page mask v → MayPutWord page word (slice_index mask.0 word) v
  may_put_one v met = record { held = λ g is. met.held g (and_parts _ _ (sym (all_in g) ∙ is)).1; stamped = met.stamped }

  pub puts_one : {σ σ1 : Standing} → word < 4 → PutsWord page word (slice_index mask.0 word) σ σ1 → PutsMask page mask σ σ1
  puts_one lt p = puts_all page mask p.steps (one_below 4 p.steps (omega arith) lt p.order)
      (call_as _ p.calls may_put_one (λ v w met d. put_as _ _ page d all_in))

-- ==== Grains of one page, taken word by word.

-- ---- the steps
-- the grain is got by the take of this word
abbrev got_word : ℕ → ℕ → ℕ → ℕ → ℕ → Bool
got_word page word mask a g = in_mask page word mask g && has_bit a (g % 64)

-- the grain is of the page, in its word's mask, and was read as free; and its word is below n
abbrev got_in : ℕ → (ℕ → ℕ) → (ℕ → ℕ) → ℕ → Bool
got_in page masks answers g = (page == g / 256) && (has_bit (masks (g / 64 % 4)) (g % 64) && has_bit (answers (g / 64 % 4)) (g % 64))

abbrev pub got_below : ℕ → (ℕ → ℕ) → (ℕ → ℕ) → ℕ → ℕ → Bool
got_below page masks answers n g = nat_lt (g / 64 % 4) n && got_in page masks answers g

-- ---- one word
module _ (page word mask a : ℕ) where
  abbrev one : Bool → List Made
  one t = if t then [] else made (Take page word mask) a ∷ []

  word_holds : (t : Bool) (g : ℕ) (v : View) → (mask == 0) ≡ t → holds (one t ++ v) g ≡ (got_word page word mask a g || holds v g)
  word_holds t g v e = grind (arith, none_in, eqb-true)

  word_does : (f : Profile) (t : Bool) (v : View) → (mask == 0) ≡ t → Agreed f v (one t) → Does (taken (got_word page word mask a)) v (one t ++ v)
  word_does f true v e agreed = search (arith, does_as, does_none, none_in, eqb-true)
  word_does f false v e agreed = does_as _ (does_step f _ a v refl agreed.0) (λ g. inl (ap_if grain_fate (got_word page word mask a g) Gets Stays)) (λ q. refl) (λ q h. h)

  word_agrees : (f : Profile) (t : Bool) (v : View) → (mask == 0) ≡ t → mask ≢ 0 → Agreed f v (one t) → AgreesFree v page word a
  word_agrees f t v e some agreed = grind (arith, eqb-true)

  word_known : (t : Bool) (g : ℕ) (v : View) → word ≢ g / 64 % 4 → known_free (one t ++ v) g ≡ known_free v g
  word_known t g v ne = grind (arith, ne_eqb)

  word_shows : (t : Bool) (r : Readings) (v : View) → (mask == 0) ≡ t → mask ≢ 0 → has_right v page ≡ true
      → ((b : ℕ) → b < 64 → r (64 * word + b) ≡ has_bit a b) → ((b : ℕ) → b < 64 → holds v (page * 256 + (64 * word + b)) ≡ false)
      → Since (ShowsHere page word r) (KeptHere page) (one t ++ v)
  word_shows true r v e some right bits none = absurd (some (eqb-true mask 0 e))
  word_shows false r v e some right bits none = inl (ReadsFree.Takes mask, right, λ b lt. bits b lt ∙ or_none (has_bit a b) _ (none b lt))

-- ---- the words below n
module _ (page : ℕ) (masks answers : ℕ → ℕ) where
  abbrev piece : ℕ → List Made
  piece word = word_take page word (masks word) (answers word)

  -- What is so of each take of a word is so of the takes of a page.
  pub takes_always : (P : Made → Type 0) → ((word : ℕ) → P (made (Take page word (masks word)) (answers word))) → (n : ℕ)
      → Always (λ m before. P m) (takes page masks answers n)
  takes_always P each = each_always P (λ word. word_take page word (masks word) (answers word)) (λ word. (grind arith))

  -- The takes of a page are takes alone.
  pub takes_only : (n : ℕ) → Only (Taking ∷ []) (takes page masks answers n)
  takes_only = takes_always (λ m. is_in (Taking ∷ []) (kind_of m.step) ≡ true) (λ word. refl)

  -- The takes of a page are on that page.
  pub takes_on : (n : ℕ) → OnlyOn page (takes page masks answers n)
  takes_on = takes_always (λ m. IsOnPage page m.step) (λ word. IsOnPage.Takes word (masks word))

  -- The takes of a page keep its right.
  pub takes_keep : (n : ℕ) → KeepsRight page (takes page masks answers n)
  takes_keep n = keeps_by page (Taking ∷ []) (takes page masks answers n) refl (takes_only n)

  -- The takes of n words are at most n.
  pub takes_few : (n : ℕ) → length (takes page masks answers n) ≤ n
  takes_few = each_few (λ word. word_take page word (masks word) (answers word)) (λ word. (grind arith))

  -- An actor that has a page's right has it after takes.
  pub takes_right : (n : ℕ) (v : View) → has_right v page ≡ true → has_right (takes page masks answers n ++ v) page ≡ true
  takes_right n v right = rights_same (Taking ∷ []) refl page (takes page masks answers n) v (takes_only n) ∙ right

  got_more : (n g : ℕ) → (got_below page masks answers n g || got_word page n (masks n) (answers n) g) ≡ got_below page masks answers (suc n) g
  got_more n g = search (arith, shared, next_word, add-one)

  none_got_below : (g : ℕ) → got_below page masks answers 0 g ≡ false
  none_got_below g = ap (λ t. t && got_in page masks answers g) (le-ltb (g / 64 % 4) 0 (omega arith))

  -- a grain is held after them that was got, or was held before
  pub takes_hold : (n g : ℕ) (v : View) → holds (takes page masks answers n ++ v) g ≡ (got_below page masks answers n g || holds v g)
  takes_hold zero g v = ap (λ t. t || holds v g) (sym (none_got_below g))
  takes_hold (suc n) g v =
      let rest = takes_hold n g v in grind (arith, rest, append_assoc, word_holds, got_more)

  takes_do : (f : Profile) (n : ℕ) (v : View) → Agreed f v (takes page masks answers n)
      → Does (taken (got_below page masks answers n)) v (takes page masks answers n ++ v)
  takes_do f zero v agreed = does_as _ (does_none v) (λ g. inl (ap (λ t. if t then Gained else Kept) (sym (none_got_below g)))) (λ q. refl) (λ q h. h)
  takes_do f (suc n) v agreed = let before = takes page masks answers n in
      subst (Does (taken (got_below page masks answers (suc n))) v) (sym (append_assoc _ before v)) (does_as _
      (does_then (takes_do f n v (agreed_later f v _ before agreed)) (word_does page n _ _ f _ _ refl (agreed_first f v _ before agreed)))
      (λ g. inl (both_fates Gained _ _ _ refl (got_more n g))) (λ q. refl) (λ q h. h))

  known_takes : (n g : ℕ) (v : View) → n ≤ g / 64 % 4 → known_free (takes page masks answers n ++ v) g ≡ known_free v g
  known_takes zero g v le = refl
  known_takes (suc n) g v le = let rest = known_takes n g v (omega (arith, le)) in grind (arith, rest, append_assoc, word_known)

  module _ (f : Profile) (n : ℕ) (v : View) (agreed : Agreed f v (takes page masks answers n)) (g : ℕ) (at : g / 256 ≡ page) (lt : g / 64 % 4 < n)
      (some : masks (g / 64 % 4) ≢ 0) where
    abbrev w : ℕ
    w = g / 64 % 4

    agrees_here : AgreesFree (takes page masks answers w ++ v) page w (answers w)
    agrees_here = word_agrees page w (masks w) (answers w) f (masks w == 0) (takes page masks answers w ++ v) refl some (each_agreed f piece n w v lt agreed)

    -- a grain that is held was read as not free, and one that is known as free as free
    pub takes_held : holds v g ≡ true → has_bit (answers (g / 64 % 4)) (g % 64) ≡ false
    takes_held held = agrees_here.held g at refl (takes_hold w g v ∙ or_right (got_below page masks answers w g) (holds v g) held)

    -- A grain that its actor knows to be free was free in its word's take.
    pub takes_free : known_free v g ≡ true → has_bit (answers (g / 64 % 4)) (g % 64) ≡ true
    takes_free known = agrees_here.free g at refl (known_takes w g v (omega arith) ∙ known)

  -- what they show, after steps that have the right of the page and hold none of its grains
  pub takes_read : (r : Readings) → ((word b : ℕ) → b < 64 → r (64 * word + b) ≡ has_bit (answers word) b) → (before : List Made) → has_right before page ≡ true
      → ((g : ℕ) → g / 256 ≡ page → holds before g ≡ false)
      → (n word : ℕ) → word < n → word < 4 → masks word ≢ 0 → Since (ShowsHere page word r) (KeptHere page) (takes page masks answers n ++ before)
  takes_read r bits before right none n word lt small some = words_read _ page piece
      (λ w. keeps_by page (Taking ∷ []) _ refl (grind arith)) before right n word lt
      (word_shows page word _ _ _ r _ refl some (rights_same (Taking ∷ []) refl page _ before (takes_only word) ∙ right) (bits word) (λ b hb.
      let g = page * 256 + (64 * word + b) in
      takes_hold word g before ∙ or_from _ _ (and_left (nat_lt (g / 64 % 4) word) (got_in page masks answers g) (le-ltb _ word (omega (arith, small, hb)))) (none g (omega (arith, small, hb)))))

-- ---- the grains of a mask
module _ (page : ℕ) (mask answers got : Mask4) (got_is : (g : ℕ) → is_set got g ≡ (is_set answers g && is_set mask g)) where
  -- a word that has a grain of the mask
  some_of : (g : ℕ) → is_set mask (g % 256) ≡ true → words mask (g / 64 % 4) ≢ 0
  some_of g set z = true≢false (sym set ∙ sym (bit_of mask (g / 64 % 4) g refl) ∙ ap (λ n. has_bit n (g % 64)) z ∙ none_of_zero (g % 64))

  -- a grain that wasn't got is held as before
  pub takes_leave : (g : ℕ) (v : View) → masked page got g ≡ false → holds (takes page (words mask) (words answers) 4 ++ v) g ≡ holds v g
  takes_leave g v none = takes_hold page (words mask) (words answers) 4 g v ∙ ap (λ t. t || holds v g) ((search (arith, lt-ltb, and_comm, bit_of)) ∙ none)

  -- and one that was got is held by these steps alone
  pub takes_got : (g : ℕ) → masked page got g ≡ true → holds (takes page (words mask) (words answers) 4) g ≡ true
  takes_got g is = ap (λ s. holds s g) (sym (append-nil (takes page (words mask) (words answers) 4))) ∙ takes_hold page (words mask) (words answers) 4 g [] ∙ ap (λ t. t || false) ((search (arith, lt-ltb, and_comm, bit_of)) ∙ is)

  -- Takes of a mask get just those of its grains that were read as free.
  pub takes_get : (f : Profile) (v : View) → Agreed f v (takes page (words mask) (words answers) 4)
      → GetsGrains (masked page got) v (takes page (words mask) (words answers) 4 ++ v)
  takes_get f v agreed = record {
    does = does_as _ (takes_do page (words mask) (words answers) f 4 v agreed) (λ g. inl (ap (λ t. if t then Gained else Kept) (search (arith, lt-ltb, and_comm, bit_of)))) (λ q. refl) (λ q h. h);
    apart = λ g here.
        let at = and_parts (page == g / 256) (is_set got (g % 256)) here in let both = and_parts _ (is_set mask (g % 256)) (sym (got_is (g % 256)) ∙ at.1) in
        false_from_ne_true _ (λ held. true≢false (sym both.0 ∙ sym (bit_of answers _ g refl)
        ∙ takes_held page (words mask) (words answers) f 4 v agreed g (sym (eqb-true page _ at.0)) (omega arith) (some_of g both.1) held));
  }

  -- all of the mask is got that is known as free
  takes_all : (f : Profile) (v : View) → Agreed f v (takes page (words mask) (words answers) 4) → ((g : ℕ) → masked page mask g ≡ true → known_free v g ≡ true)
      → (g : ℕ) → masked page got g ≡ masked page mask g
  takes_all f v agreed known g = same_truth _ _ (λ here. let at = and_parts (page == g / 256) (is_set got (g % 256)) here in
      and_from _ _ at.0 (and_parts (is_set answers (g % 256)) (is_set mask (g % 256)) (sym (got_is (g % 256)) ∙ at.1)).1)
      (λ here. let at = and_parts (page == g / 256) (is_set mask (g % 256)) here in
      and_from _ _ at.0 (got_is (g % 256) ∙ and_from _ _
      (sym (bit_of answers _ g refl) ∙ takes_free page (words mask) (words answers) f 4 v agreed g (sym (eqb-true page _ at.0)) (omega arith) (some_of g at.1) (known g here)) at.1))

-- ---- grains that are known as free
pub record MayTakeAll (page : ℕ) (mask : Mask4) (v : View) : Type 0 where
  pub right : has_right v page ≡ true
  pub free : (g : ℕ) → masked page mask g ≡ true → known_free v g ≡ true

-- Takes of a mask whose grains are known to be free get all of them.
pub takes_known : {σ σ1 : Standing} (page : ℕ) (mask got : Mask4) (took : TakesMask page mask σ σ1 got)
    → Calls σ σ1 (MayTakeAll page mask) (Does (taken (masked page mask))) (takes page (words mask) (words took.answers) 4)
takes_known {σ} page mask got took = record {
  adds = adds_under took.calls.adds (λ v l stood met. met.right);
  leads = record {
    from = λ v met agreed.
        does_as _ (took.calls.leads.from v met.right agreed).does (λ g. inl (ap (λ t. if t then Gained else Kept) (takes_all page mask took.answers got took.got_is _ v agreed met.free g))) (λ q. refl) (λ q h. h);
  };
}

-- ==== Grains of a page are put back, and what follows that; and its right meanwhile.

-- ---- what follows puts keeps a right
abbrev settling : Kinds
settling = LookFree ∷ LookBacked ∷ Unparking ∷ Hinting ∷ []

return_keeps : (f : Profile) (page : ℕ) (d : Directory) (steps : List Made) (v : View) → ReturnSteps page d steps → Agreed f v steps → has_right v page ≡ true
    → KeepsRight page steps
return_keeps f page d steps v h agreed right =
    let looked = looks_until page h.used in
    let first : Agreed f v h.first = agreed_later f v looked h.first (agreed_later f v h.after _ (subst (Agreed f v) h.steps_are agreed)) in
    keeps_by page settling steps refl (subst (Only settling) (sym h.steps_are) (only_both settling h.after _ (grind arith)
    (only_both settling looked h.first (only_within (LookFree ∷ []) settling looked refl (until_only page h.used)) (grind (arith, true≢false)))))

-- where a grain of the page is held its free words aren't all ones, so the page isn't hinted either
abbrev pub unparking : Kinds
unparking = LookFree ∷ Unparking ∷ []

unparks_alone : (f : Profile) (page : ℕ) (d : Directory) (steps : List Made) (v : View) → ReofferSteps page d steps → Agreed f v steps → has_right v page ≡ true
    → Only unparking steps
unparks_alone f page d steps v e agreed right = grind (arith, true≢false)

hints_not : (f : Profile) (page g : ℕ) (used : Option Used) (v : View) (after : List Made) → HintsWhere (is_free used) page after
    → Agreed f v (looks_until page used) → g / 256 ≡ page → holds v g ≡ true → Only unparking after
hints_not f page g used v after h agreed at held = grind (arith, true≢false, full_bit, looks_held)

-- A return of a page all of whose grains its actor holds only takes it back from the parked ones.
pub return_holds : (f : Profile) (page : ℕ) (d : Directory) (steps : List Made) (v : View) → ReturnSteps page d steps → Agreed f v steps
    → has_right v page ≡ true → (g : ℕ) → g / 256 ≡ page → holds v g ≡ true → Only unparking steps
return_holds f page d steps v h agreed right g at held =
    let looked = looks_until page h.used in
    let before : Agreed f v (looked ++ h.first) = agreed_later f v h.after _ (subst (Agreed f v) h.steps_are agreed) in
    let first : Only unparking h.first = unparks_alone f page d h.first v h.reoffers (agreed_later f v looked h.first before) right in
    subst (Only unparking) (sym h.steps_are) (only_both unparking h.after _ (hints_not f page g h.used _ _ h.hints (agreed_first f v looked _ before) at (holds_same unparking refl g _ v first ∙ held)) (only_both unparking looked h.first (only_within (LookFree ∷ []) unparking looked refl (until_only page h.used)) first))

-- ---- the page is clear again where it was
-- steps that follow puts, on the same page
both_on : (page : ℕ) (ys xs : List Made) → OnlyOn page ys → OnlyOn page xs → OnlyOn page (ys ++ xs)
both_on page ys xs = always_both (λ m before. IsOnPage page m.step) (λ m before. IsOnPage page m.step) ys xs (λ m before h. h)

-- An empty mask is put back without a step.
pub puts_nothing : {σ : Standing} (page : ℕ) (d : Directory) (mask : Mask4) → IsEmpty mask → PutsAndReturns page d mask σ σ
puts_nothing page d mask empty = record {
  steps = [];
  calls = call_none (λ v met. does_as _ (does_none v) (λ g. inl (ap (λ t. if t then Lost else Kept) (sym (and_right (page == g / 256) (is_set mask (g % 256)) (empty (g % 256) (omega arith)))))) (λ q. refl) (λ q h. h));
  order = inl (empty, refl);
  kinds = tt;
  on = tt;
  few = omega arith;
  keeps = λ v agreed right. tt;
}

module _ {σ σ1 : Standing} (page : ℕ) (d : Directory) (mask : Mask4) (puts : PutsMask page mask σ σ1) where
  -- ---- the puts, for a caller that knows the deed
  put_call : {B : View → Type 0} → ((v : View) → B v → MayPut page mask v) → ((v : View) → B v → KnowsDeed page d v)
      → Calls σ σ1 B (λ v w. Does (put (masked page mask) page) v w × KnowsDeed page d w) puts.steps
  put_call may knows = call_knows page d (call_as (Does (put (masked page mask) page)) puts.calls may (λ v w met does. does)) knows

  clear_after : {r : Fate} (v u : View) → Settles page r (puts.steps ++ v) u → (q : ℕ)
      → ClearAfter (later (if page == q then Lost else Kept) (if page == q then Kept else Kept)) q v u → IsClearOn q v → IsClearOn q u
  clear_after v u settles q = λ h. grind arith

  -- ---- and what follows every put
  return_call : Calls σ σ1 (MayPutAndReturn page d mask) (λ v w. Does (put (masked page mask) page) v w × KnowsDeed page d w) puts.steps
  return_call = put_call (λ v met. met.puts) (λ v met. met.deed)

  -- After its grains were put back, what follows puts may be done.
  pub may_return : CanCall σ (MayPutAndReturn page d mask) → CanCall σ1 (KnowsDeed page d)
  may_return can = next_call return_call can (λ v met after. after.1)

  module _ {σ2 : Standing} (ret : Returned page d σ1 σ2) where
    keeps_right : (v : View) → Agreed σ.seat.profile v (ret.steps ++ puts.steps) → has_right v page ≡ true → KeepsRight page (ret.steps ++ puts.steps)
    keeps_right v agreed right = always_both (λ m before. GivesUp page m.step → ⊥) (λ m before. GivesUp page m.step → ⊥) ret.steps puts.steps (λ m before h. h)
        (return_keeps _ page d ret.steps (puts.steps ++ v) ret.order (agreed_first _ v ret.steps puts.steps agreed) (rights_same (Putting ∷ []) refl page puts.steps v puts.kinds ∙ right))
        (keeps_by page (Putting ∷ []) puts.steps refl puts.kinds)

    -- A put and what follows it give the grains back, and keep the right where it was.
    pub returned_call : Calls σ σ2 (MayPutAndReturn page d mask) (Does (given_back (masked page mask))) (ret.steps ++ puts.steps)
    returned_call = call_then _ return_call ret.calls (λ v met after. after.1)
        (λ v met a b. does_as _ (does_then a.0 b.does) (λ g. inl refl) (λ q. kept_kept _) (clear_after v (ret.steps ++ (puts.steps ++ v)) b))

    -- A mask with a grain was put back, and what follows done.
    pub puts_some : HasMember mask → PutsAndReturns page d mask σ σ2
    puts_some some = record {
      steps = ret.steps ++ puts.steps;
      calls = returned_call;
      order = inr (some, puts.steps, ret.steps, puts.order, ret.order, refl);
      kinds = search (arith, only_both, only_within, returns_are page ret.steps ret.returns);
      on = both_on page ret.steps puts.steps (returns_on page ret.steps ret.returns) puts.on;
      few = let all = length-append ret.steps puts.steps in omega (arith, all, ret.few, puts.few);
      keeps = keeps_right;
    }

  -- ---- and the page is left
  leave_call : Calls σ σ1 (MayPutAndLeave page d (masked page mask)) (λ v w. Does (put (masked page mask) page) v w × KnowsDeed page d w) puts.steps
  leave_call = put_call (λ v met. record { held = met.held; stamped = met.clear.stamped }) (λ v met. met.deed)

  may_leave : (v : View) → MayPutAndLeave page d (masked page mask) v
      → Does (put (masked page mask) page) v (puts.steps ++ v) × KnowsDeed page d (puts.steps ++ v) → MayLeave page d (puts.steps ++ v)
  may_leave v met after = record { right = after.0.right page ∙ met.right; deed = after.1 }

  -- After its grains were put back, the page may be left.
  pub can_leave : CanCall σ (MayPutAndLeave page d (masked page mask)) → CanCall σ1 (MayLeave page d)
  can_leave can = next_call leave_call can may_leave

  -- A mask that was put back, and a leave, put back and leave the page.
  pub puts_and_leaves : {σ2 : Standing} → Leaves page d σ1 σ2 → PutsAndLeaves page d mask σ σ2
  puts_and_leaves left = record {
    puts = puts.steps;
    after = left.steps;
    calls = call_then _ leave_call left.calls may_leave (λ v met a b. does_as _ (does_then a.0 b.does) (λ g. inl refl)
        (λ q. kept_first (if page == q then Lost else Kept)) (clear_after v (left.steps ++ (puts.steps ++ v)) b));
    on = both_on page left.steps puts.steps (returns_on page left.steps left.returns) puts.on;
    kinds = search (arith, only_both, only_within);
    few = let all = length-append left.steps puts.steps in omega (arith, all, left.few, puts.few);
    put_order = puts.order;
    order = left.order;
    left = left.left;
    lacks = λ before. ap (λ s. has_right s page) (append_assoc left.steps puts.steps before) ∙ leave_lacks page d left.steps (puts.steps ++ before) left.order;
  }

-- A page is hinted only after looks that read it as backed, and each of its grains as free; and grains are put only after they were taken.
-- ---- steps of two calls
read_earlier : (P Q : Made → Type 0) (ys xs : List Made) → Since (λ m before. P m) (λ m before. Q m) ys → Since (λ m before. P m) (λ m before. Q m) (ys ++ xs)
read_earlier P Q [] xs h = absurd h
read_earlier P Q (y ∷ ys) xs (inl h) = inl h
read_earlier P Q (y ∷ ys) xs (inr h) = inr (h.0, read_earlier P Q ys xs h.1)

-- A step that gives duly does so after more steps before the call.
pub due_later : (m : Made) (before xs : List Made) → GivesDuly m before → GivesDuly m (before ++ xs)
due_later m before xs h = (
  λ page is. let e = h.0 page is in record {
    backed = read_earlier (λ n. (n.step ≡ Look (Word.Backed page)) × (n.answer ≡ 1)) (λ n. TakesNone page n []) before xs e.backed;
    free = λ word lt. read_earlier (λ n. ReadsAllFree page word n []) (λ n. TakesNone page n []) before xs (e.free word lt);
  },
  λ page word mask g same here. holds_more g before xs (h.1 page word mask g same here),
)

-- Two lists of steps that give duly do so together.
pub due_both : (ys xs : List Made) → Always GivesDuly ys → Always GivesDuly xs → Always GivesDuly (ys ++ xs)
due_both ys xs = always_both GivesDuly GivesDuly ys xs (λ m before h. due_later m before xs h)

-- steps of other kinds hint and put nothing
abbrev pub giving : Kinds
giving = Putting ∷ Hinting ∷ []

due_step : (m : Made) (before : List Made) → is_in giving (kind_of m.step) ≡ false → GivesDuly m before
due_step m before other = search (arith, true≢false)

-- Steps of kinds that neither hint nor put give duly.
pub due_none : (ks : Kinds) (steps : List Made) → apart ks giving ≡ true → Only ks steps → Always GivesDuly steps
due_none ks steps out = search (arith, always_map, due_step, in_apart)

-- ---- the looks before a hint
all_read : (page : ℕ) (answers : ℕ → ℕ) (n word : ℕ) → word < n → ((b : ℕ) → b < 64 → has_bit (answers word) b ≡ true)
    → Since (ReadsAllFree page word) (TakesNone page) (looks page answers n)
all_read page answers zero word lt all = absurd (omega (arith, lt))
all_read page answers (suc n) word lt all = elim (cases_eq word n) [
  | inl e ↦ inl (ap (λ w. Look (Word.Free page w)) (sym e), λ b small. ap (λ w. has_bit (answers w) b) (sym e) ∙ all b small)
  | inr ne ↦ inr ((λ w mask same. cc), all_read page answers n word (omega (arith, lt, ne)) all)
]

hints_where : (all_free : Bool) (page : ℕ) (steps xs : List Made) → HintsWhere all_free page steps
    → (all_free ≡ true → (word : ℕ) → word < 4 → Since (ReadsAllFree page word) (TakesNone page) xs) → Always GivesDuly xs → Always GivesDuly (steps ++ xs)
hints_where all_free page steps xs h read rest = grind (arith, due_step)

-- ---- what follows puts
return_due : (page : ℕ) (d : Directory) (steps : List Made) → ReturnSteps page d steps → Always GivesDuly steps
return_due page d steps h =
    search (arith, due_both, due_none, until_only, due_step, hints_where, read_earlier, all_read, full_bit, true≢false)

-- ---- a leave
free_word : (all_free : Bool) (free : Mask4) → MatchBool all_free (IsAllFree free) (HasUsed free) → all_free ≡ true → (word : ℕ) → word < 4 → (b : ℕ) → b < 64
    → has_bit (words free word) b ≡ true
free_word true free all is word lt b small = sym (at_word free word b small) ∙ all (64 * word + b) (omega (arith, lt, small))
free_word false free all is word lt b small = absurd (true≢false (sym is))

reoffers_due : (usable : Bool) (page : ℕ) (d : Directory) (steps : List Made) → ReoffersWhere usable page d steps → Always GivesDuly steps
reoffers_due usable page d steps h = grind (arith, due_step)

looks_due : (page : ℕ) (answers : ℕ → ℕ) → Always GivesDuly (looks page answers 4)
looks_due page answers = due_none (LookFree ∷ []) (looks page answers 4) refl (looks_only page answers 4)

end_due : (usable : Bool) (page : ℕ) (d : Directory) (all_free : Bool) (free : Mask4) (after : List Made) → MatchBool all_free (IsAllFree free) (HasUsed free)
    → EndsLeave usable page d all_free after → Always GivesDuly (after ++ looks page (words free) 4)
end_due a page d all_free free after all h = search (arith, append_assoc, hints_where, all_read, free_word, due_step, looks_due, due_both, reoffers_due)

-- The steps of a leave give duly.
pub leave_due : (page : ℕ) (d : Directory) (steps : List Made) → LeaveSteps page d steps → Always GivesDuly steps
leave_due page d steps h = subst (Always GivesDuly) (sym h.steps_are) (end_due h.usable page d h.all_free h.free h.after h.all_free_is h.ends)

-- grains that are held are put back, and what follows that
module _ (page : ℕ) (d : Directory) (mask : Mask4) (xs : List Made) (held : (g : ℕ) → masked page mask g ≡ true → holds xs g ≡ true) (all : Always GivesDuly xs)
  where
    -- Grains that the call holds are put back, and the page left, duly.
    pub put_and_leave_due : {σ σ' : Standing} (h : PutsAndLeaves page d mask σ σ') → Always GivesDuly ((h.after ++ h.puts) ++ xs)
    put_and_leave_due h = search (arith, append_assoc, due_both, puts_due, leave_due page d h.after h.order)

    -- Grains that the call holds are put back, with what follows, duly.
    pub back_due : (steps : List Made) → BackSteps page d mask steps → Always GivesDuly (steps ++ xs)
    back_due steps (inl h) = subst (λ s. Always GivesDuly (s ++ xs)) (sym h.1) all
    back_due steps (inr h) = subst (λ s. Always GivesDuly (s ++ xs)) (sym h.5) (search (arith, append_assoc, due_both, puts_due, return_due page d h.2 h.4))
