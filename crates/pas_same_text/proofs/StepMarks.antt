-- WHAT STEPS LEAVE OF THE WORDS, and which pages they mark with hints and offers: steps that only give back; and a search, where no other actor makes a step.
use Rattle.pas_same_text.proofs.Common.{or_left, IsLone, fewer, once_lone, free_same, false≢true, has_bit, page_bit-set, page_bit-clear, same_word, IsPage}
use Rattle.pas_same_text.proofs.Common.{Directory, Profile, Word, Event, triples, OnlyReturns, IsReturn, Once, Always, event_of, with_event, target}
use Rattle.pas_same_text.proofs.Common.{free_word_at, epoch_of, Kinds, kind_of, place_of, is_in, apart, Only, Taking, Backing, Unbacking, Hinting, Unhinting}
use Rattle.pas_same_text.proofs.Common.{Offering, Whole, part, word_after, Legal, visible, Made, Step, Look, Offer, Hint, Unhint, Deed, in_apart, always_map}
use Rattle.pas_same_text.proofs.Common.{once_map, empty_bit, eligible_bit, IsEmptyBacked, word_of_backed, looked, backed_of, free_stays, LendsNone, ReadsBacked}
use Rattle.pas_same_text.proofs.Common.{ReadsAllFree, TakesNone, HintsEmpty, GivesDuly, backed_in, ReturnsDuly, EventsAt, free_bit, MakesNoDeedHere, seeking}
use Rattle.pas_same_text.proofs.{Tests.eqb_itself, RunsFound.{IsAtPage, IsShownAt, event_at}}
use Rattle.std.proofs.Common.{◌≡◌, ℕ, ◌/◌, ◌%◌, ◌<◌, ◌==◌, Bool, true, false, if◌then◌else◌, List, [], ◌∷◌, ◌++◌, ◌⊎◌, inl, inr, refl, ap, sym, ◌∙◌, subst}
use Rattle.std.proofs.Common.{arith, true≢false, eqb-true, ◌≢◌, None, Some, ne_eqb}
use Rattle.pas_steps.{specs.{Allowed.IsStepOf, Kinds.Ticking, Effects.new_value}, proofs.Past.since_once}
use Rattle.pas_rights.specs.Looks.{ReadsEmpty}
use Rattle.pas_search.proofs.LoneSteps.{offer_one}

-- ---- a word that steps of some kinds leave as it is said
over : (Q : ℕ → Type 0) (x : Word) (ks ls : Kinds)
    → ((e : ℕ) (s : Step) (old : ℕ) → is_in ls (kind_of s) ≡ false → Q old → Q (if same_word (target s) x then new_value e s old else old)) → apart ks ls ≡ true
    → (k : ℕ) (xs : List Made) (l : Whole) → Only ks xs → Q (word_after l x) → Q (word_after (triples k xs ++ l) x)
over Q x ks ls step w k [] l only h = h
over Q x ks ls step w k (m ∷ xs) l only h =
    step (epoch_of (part k (triples k xs ++ l))) m.step (word_after (triples k xs ++ l) x)
    (in_apart ks ls (place_of (kind_of m.step)) w only.0) (over Q x ks ls step w k xs l only.1 h)

-- A word that steps of some kinds leave as it was stays so.
pub kept_over : (x : Word) (ks ls : Kinds)
    → ((e : ℕ) (s : Step) (old : ℕ) → is_in ls (kind_of s) ≡ false → (if same_word (target s) x then new_value e s old else old) ≡ old) → apart ks ls ≡ true
    → (k : ℕ) (xs : List Made) (l : Whole) → Only ks xs → word_after (triples k xs ++ l) x ≡ word_after l x
kept_over x ks ls step w k xs l only = over (λ n. n ≡ word_after l x) x ks ls (λ e s old other h. step e s old other ∙ h) w k xs l only refl

-- where none backs a page or ends its backing, backed words stay
pub backed_stays : (ks : Kinds) → apart ks (Backing ∷ Unbacking ∷ []) ≡ true → (k : ℕ) (xs : List Made) (l : Whole) (p : ℕ) → Only ks xs
    → word_after (triples k xs ++ l) (Word.Backed p) ≡ word_after l (Word.Backed p)
backed_stays ks apart k xs l p only = kept_over (Word.Backed p) ks _ (λ e s old is. search (arith, true≢false)) apart k xs l only

-- where none takes a hint back, hinted pages stay hinted
pub hinted_stays : (ks : Kinds) → apart ks (Unhinting ∷ []) ≡ true → (k : ℕ) (xs : List Made) (l : Whole) (p : ℕ) → Only ks xs → empty_bit l p ≡ true
    → empty_bit (triples k xs ++ l) p ≡ true
hinted_stays ks apart k xs l p only h =
    over (λ n. has_bit n (p % 64) ≡ true) _ ks _ (λ e s old other was. search (arith, page_bit-set, true≢false)) apart k xs l only h

-- ---- marks: hints and offers of a page
abbrev pub is_mark : ℕ → Step → Bool
is_mark q (Hint p) = p == q
is_mark q (Offer p d) = p == q
is_mark q s = false

abbrev pub IsMarked : ℕ → List Made → Type 0
IsMarked q = Once (λ m before. is_mark q m.step ≡ true)

-- What is so of some step of two lists together is so of one in either.
pub once_parts : (P : Made → Type 0) (ys xs : List Made) → Once (λ m before. P m) (ys ++ xs) → Once (λ m before. P m) ys ⊎ Once (λ m before. P m) xs
once_parts P [] xs h = inr h
once_parts P (y ∷ ys) xs (inl h) = inl (inl h)
once_parts P (y ∷ ys) xs (inr h) = elim (once_parts P ys xs h) [ inl first ↦ inl (inr first) | inr later ↦ inr later ]

-- A page that two lists of steps together mark is marked by either.
pub marked_parts : (q : ℕ) (ys xs : List Made) → IsMarked q (ys ++ xs) → IsMarked q ys ⊎ IsMarked q xs
marked_parts q ys xs h = once_parts (λ m. is_mark q m.step ≡ true) ys xs h

mark_kind : (q : ℕ) (s : Step) → is_in (Hinting ∷ Offering ∷ []) (kind_of s) ≡ false → is_mark q s ≡ true → ⊥
mark_kind q s out h = search (arith, true≢false, false≢true)

-- Steps of kinds that neither hint nor offer mark no page.
pub none_marked : (ks : Kinds) → apart ks (Hinting ∷ Offering ∷ []) ≡ true → (q : ℕ) (xs : List Made) → Only ks xs → IsMarked q xs → ⊥
none_marked ks w q [] only h = h
none_marked ks w q (m ∷ xs) only (inl h) = mark_kind q m.step (in_apart ks (Hinting ∷ Offering ∷ []) (place_of (kind_of m.step)) w only.0) h
none_marked ks w q (m ∷ xs) only (inr h) = none_marked ks w q xs only.1 h

return_mark : (p q : ℕ) (s : Step) → IsReturn p s → is_mark q s ≡ true → p ≡ q
return_mark p q s h x = search (arith, false≢true, eqb-true)

-- Steps that only return grains to one page mark no other page.
pub returns_marked : (p q : ℕ) (xs : List Made) → OnlyReturns p xs → IsMarked q xs → p ≡ q
returns_marked p q [] only h = absurd h
returns_marked p q (m ∷ xs) only (inl h) = return_mark p q m.step only.0 h
returns_marked p q (m ∷ xs) only (inr h) = returns_marked p q xs only.1 h

-- ---- which step sets a bit
abbrev pub HintsPage : ℕ → List Made → Type 0
HintsPage q = Once (λ m before. m.step ≡ Hint q)

hint_one : (e : ℕ) (s : Step) (p old : ℕ) → has_bit (if same_word (target s) (Word.Empty (p / 64)) then new_value e s old else old) (p % 64) ≡ true
    → (has_bit old (p % 64) ≡ true) ⊎ (s ≡ Hint p)
hint_one e (Look x) p old h = inl (ap (λ n. has_bit n (p % 64)) (sym (looked (same_word x (Word.Empty (p / 64))) old)) ∙ h)
hint_one e (Hint q) p old h = by_page (q == p) refl (sym (page_bit-set q p old true) ∙ h)
  where
    by_page : (t : Bool) → (q == p) ≡ t → (if t then true else has_bit old (p % 64)) ≡ true → (has_bit old (p % 64) ≡ true) ⊎ (Hint q ≡ Hint p)
    by_page true same set = inr (ap (λ (x : ℕ). Hint x) (eqb-true q p same))
    by_page false same set = inl set
hint_one e (Unhint q) p old h = by_page (q == p) (sym (page_bit-clear q p old true) ∙ h)
  where
    by_page : (t : Bool) → (if t then false else has_bit old (p % 64)) ≡ true → (has_bit old (p % 64) ≡ true) ⊎ (Unhint q ≡ Hint p)
    by_page true set = absurd (false≢true set)
    by_page false set = inl set
hint_one e s p old h = inl h

-- a page that is hinted now was so, or one of the steps hinted it
pub hinted_by : (k : ℕ) (xs : List Made) (l : Whole) (p : ℕ) → empty_bit (triples k xs ++ l) p ≡ true → (empty_bit l p ≡ true) ⊎ HintsPage p xs
hinted_by k [] l p h = inl h
hinted_by k (m ∷ xs) l p h = let ih = hinted_by k xs l p in search (arith, hint_one, ih)

abbrev pub OffersPage : ℕ → List Made → Type 0
OffersPage q = Once (λ m before. (d : Directory) × (m.step ≡ Offer q d))

-- a page that is offered now was so, or one of the steps offered it
pub offered_by : (k : ℕ) (xs : List Made) (l : Whole) (n p : ℕ) → eligible_bit (triples k xs ++ l) n p ≡ true → (eligible_bit l n p ≡ true) ⊎ OffersPage p xs
offered_by k [] l n p h = inl h
offered_by k (m ∷ xs) l n p h = let ih = offered_by k xs l n p in search (arith, offer_one, ih)

-- A page that steps hint is one that they mark.
pub hint_marks : (q : ℕ) (xs : List Made) → HintsPage q xs → IsMarked q xs
hint_marks q xs h = once_map _ (λ m before. is_mark q m.step ≡ true) xs (λ m before is. ap (is_mark q) is ∙ eqb_itself q) h

-- A page that steps offer is one that they mark.
pub offer_marks : (q : ℕ) (xs : List Made) → OffersPage q xs → IsMarked q xs
offer_marks q xs h = once_map _ (λ m before. is_mark q m.step ≡ true) xs (λ m before is. ap (is_mark q) is.1 ∙ eqb_itself q) h

-- ---- a hint rests on looks that read the page as backed and empty
pub hint_step : (m : Made) (before : List Made) → is_in (Hinting ∷ []) (kind_of m.step) ≡ false → HintsEmpty m before
hint_step m before other page same = absurd (true≢false (ap (λ s. is_in (Hinting ∷ []) (kind_of s)) (sym same) ∙ other))

-- steps of other kinds hint nothing
pub hints_none : (ks : Kinds) (xs : List Made) → apart ks (Hinting ∷ []) ≡ true → Only ks xs → Always HintsEmpty xs
hints_none ks xs out only = always_map _ HintsEmpty xs (λ m before is. hint_step m before (in_apart ks (Hinting ∷ []) (place_of (kind_of m.step)) out is)) only

-- Steps that give duly hint only pages that they read as backed and empty.
pub hints_of : (xs : List Made) → Always GivesDuly xs → Always HintsEmpty xs
hints_of xs due = always_map GivesDuly HintsEmpty xs (λ m before h. h.0) due

pub record WasRead (page : ℕ) (xs : List Made) : Type 0 where
  pub backed : Once (ReadsBacked page) xs
  pub free : (word : ℕ) → word < 4 → Once (ReadsAllFree page word) xs

-- A page that steps hint was read by them as backed, and all its free words as all ones.
pub hint_read : (page : ℕ) (xs : List Made) → Always HintsEmpty xs → HintsPage page xs → WasRead page xs
hint_read page [] hints h = absurd h
hint_read page (m ∷ xs) hints (inr h) = let r = hint_read page xs hints.1 h in record { backed = inr r.backed; free = λ word small. inr (r.free word small) }
hint_read page (m ∷ xs) hints (inl h) =
    let e : ReadsEmpty page xs = hints.0 page h in record {
      backed = inr (since_once (ReadsBacked page) (TakesNone page) xs e.backed);
      free = λ word small. inr (since_once (ReadsAllFree page word) (TakesNone page) xs (e.free word small));
    }

module _ (ks : Kinds) (f : Profile) (k : ℕ) (l : Whole) (page : ℕ) (no_take : apart ks (Taking ∷ []) ≡ true)
    (no_back : apart ks (Backing ∷ Unbacking ∷ []) ≡ true) where
  -- What was read as free is so still.
  -- the word was read full, and no step takes a grain of it since
  pub free_read : (word b : ℕ) (xs : List Made) → Legal f (triples k xs ++ l) → Only ks xs → b < 64 → Once (ReadsAllFree page word) xs
      → has_bit (word_after (triples k xs ++ l) (Word.Free page word)) b ≡ true
  free_read word b [] legal only small h = absurd h
  free_read word b (m ∷ xs) legal only small (inr h) = free_stays ks no_take k (m ∷ []) _ page word b (only.0, tt) (free_read word b xs legal.1 only.1 small h)
  free_read word b (m ∷ xs) legal only small (inl h) = search arith

  -- A page that was read as backed is so still.
  pub backed_read : (xs : List Made) → Legal f (triples k xs ++ l) → Only ks xs → Once (ReadsBacked page) xs
      → word_after (triples k xs ++ l) (Word.Backed page) ≡ 1
  backed_read [] legal only h = absurd h
  backed_read (m ∷ xs) legal only (inr h) = backed_stays ks no_back k (m ∷ []) (triples k xs ++ l) page (only.0, tt) ∙ backed_read xs legal.1 only.1 h
  backed_read (m ∷ xs) legal only (inl h) = search (arith, backed_stays)

  -- A PAGE THAT WAS HINTED is backed and empty
  pub hinted_empty : (xs : List Made) → Legal f (triples k xs ++ l) → Only ks xs → Always HintsEmpty xs → HintsPage page xs
      → IsEmptyBacked (triples k xs ++ l) page
  hinted_empty xs legal only hints h = search (arith, hint_read, backed_read, free_read)

-- a page that is offered is one of the region
pub offered_of_region : (f : Profile) (k : ℕ) (l : Whole) (q : ℕ) (xs : List Made) → Legal f (triples k xs ++ l) → OffersPage q xs → IsPage f q
offered_of_region f k l q [] legal h = absurd h
offered_of_region f k l q (m ∷ xs) legal (inl h) = (subst (IsStepOf f) h.1 legal.0.of_region).0
offered_of_region f k l q (m ∷ xs) legal (inr h) = offered_of_region f k l q xs legal.1 h

-- ---- the epoch, where none makes a tick
epoch_kept : (e : ℕ) (s : Step) (old : ℕ) → is_in (Ticking ∷ []) (kind_of s) ≡ false
    → (if same_word (target s) Word.Epoch then new_value e s old else old) ≡ old
epoch_kept e s old is = search (arith, true≢false)

-- Steps of kinds without a tick leave the epoch as it was.
pub epoch_stays_by : (ks : Kinds) → apart ks (Ticking ∷ []) ≡ true → (k : ℕ) (xs : List Made) (l : Whole) → Only ks xs
    → word_after (triples k xs ++ l) Word.Epoch ≡ word_after l Word.Epoch
epoch_stays_by ks apart k xs l only = kept_over Word.Epoch ks _ epoch_kept apart k xs l only

-- ==== WHAT A SEARCH DOES to hints and offers, where no other actor makes a step: it hints no page but one that was hinted, and offers none but one that was
-- offered; the page on which it may make a deed, and which it may back, is apart.
module _ (f : Profile) (k : ℕ) (l : Whole) where
  -- a grain that was read as free was so before the search
  read_free : (page word b g : ℕ) (xs : List Made) → IsLone f k l xs → b < 64 → free_word_at g ≡ Word.Free page word → g % 64 ≡ b
      → Once (ReadsAllFree page word) xs → free_bit l g ≡ true
  read_free page word b g xs lone small at bit = once_lone (ReadsAllFree page word) (free_bit l g ≡ true) f k l (λ m before lone h.
      let w : Whole = triples k before ++ l in
      let answer = lone.legal.0.answer_is ∙ (ap (λ (s : Step). word_after w (target s)) h.0 ∙ ap (word_after w) (sym at)) in
      let read : free_bit w g ≡ true = ap (λ (n : ℕ). has_bit n (g % 64)) (sym answer) ∙ (ap (has_bit m.answer) bit ∙ h.1 b small) in
      sym (free_same f k l g before (fewer lone)) ∙ or_left _ _ read) xs lone

-- ---- steps that back no page but one, and make no deed but of it
-- whatever it answers, the step doesn't back the page
abbrev pub KeepsBacked : ℕ → ℕ → Made → List Made → Type 0
KeepsBacked k q m before = (epoch : ℕ) (es : List Event) → backed_in (with_event (event_of k epoch m.step m.answer) es) q ≡ backed_in es q

module _ (k : ℕ) where
  -- Steps whose events are at one page back no other.
  pub at_unbacked : (d : Directory) (page q : ℕ) (xs : List Made) → page ≢ q → EventsAt d page xs → Always (KeepsBacked k q) xs
  at_unbacked d page q xs ne = always_map _ (KeepsBacked k q) xs (λ m before at epoch es. (search (arith, ne_eqb)))

  -- Steps of a search for whole pages back none.
  pub seeks_unbacked : (q : ℕ) (xs : List Made) → Only seeking xs → Always (KeepsBacked k q) xs
  seeks_unbacked q [] kinds = tt
  seeks_unbacked q (m ∷ xs) kinds = search (arith, true≢false, seeks_unbacked q xs kinds.1)

  deed_there : (d d' : Directory) (page q : ℕ) (e : Event) → IsAtPage k d page e → e ≡ Event.Deed k q d' → page ≡ q
  deed_there d d' page q e given is = search arith

  -- They make no deed of another.
  pub at_bare : (d : Directory) (page q : ℕ) (xs : List Made) → page ≢ q → EventsAt d page xs → Always (MakesNoDeedHere q) xs
  at_bare d page q xs ne = always_map _ (MakesNoDeedHere q) xs (λ m before at d' is zero.
      let now : event_of k 0 m.step m.answer ≡ Some (Event.Deed k q d') =
      ap (λ (s : Step). event_of k 0 s m.answer) is ∙ ap (λ (n : ℕ). if n == 0 then Some (Event.Deed k q d') else None) zero in
      ne (deed_there d d' page q (Event.Deed k q d') (subst (IsShownAt k d page) now (event_at k d page 0 m at)) refl))

module _ (f : Profile) (k : ℕ) (l : Whole) where
  backed_same : (q : ℕ) (xs : List Made) → Always (KeepsBacked k q) xs → backed_in (visible (triples k xs ++ l)) q ≡ backed_in (visible l) q
  backed_same q [] keeps = refl
  backed_same q (m ∷ xs) keeps = keeps.0 (epoch_of (part k (triples k xs ++ l))) (visible (triples k xs ++ l)) ∙ backed_same q xs keeps.1

  read_backed : (q : ℕ) (xs : List Made) → Legal f (triples k xs ++ l) → Legal f l → Always (KeepsBacked k q) xs → Once (ReadsBacked q) xs
      → word_after l (Word.Backed q) ≡ 1
  read_backed q [] legal first keeps h = absurd h
  read_backed q (m ∷ xs) legal first keeps (inr h) = read_backed q xs legal.1 first keeps.1 h
  read_backed q (m ∷ xs) legal first keeps (inl h) =
      let now = sym (legal.0.answer_is ∙ ap (λ (s : Step). word_after (triples k xs ++ l) (target s)) h.0) ∙ h.1 in
      backed_of f l first q ∙ (ap word_of_backed (sym (backed_same q xs keeps.1)) ∙ (sym (backed_of f (triples k xs ++ l) legal.1 q) ∙ now))

  -- A PAGE THAT THE SEARCH HINTS was backed and empty before it
  pub hint_was : (q : ℕ) (xs : List Made) → Legal f (triples k xs ++ l) → Legal f l → LendsNone xs → Always ReturnsDuly xs → Always (KeepsBacked k q) xs
      → HintsPage q xs → IsEmptyBacked l q
  hint_was q [] legal first lends due keeps h = absurd h
  hint_was q (m ∷ xs) legal first lends due keeps (inr h) = hint_was q xs legal.1 first lends.1 due.1 keeps.1 h
  hint_was q (m ∷ xs) legal first lends due keeps (inl h) =
      let e : ReadsEmpty q xs = due.0.1.0 q h in record {
        backed = read_backed q xs legal.1 first keeps.1 (since_once (ReadsBacked q) (TakesNone q) xs e.backed);
        free = λ g of. read_free f k l q _ (g % 64) g xs (record { legal = legal.1; lends_none = lends.1; returns = due.1 }) (omega arith) (ap (λ (p : ℕ). Word.Free p (g / 64 % 4)) of) refl (since_once _ _ xs (e.free (g / 64 % 4) (omega arith)));
      }
