-- What the marks of a page say once all actors are at rest.
use Rattle.std.proofs.Common.{◌≡◌, ℕ, ◌+◌, ◌<◌, ◌==◌, not, Bool, true, false, sym, ◌∙◌, arith, ◌*◌, ◌/◌, ◌%◌, Option, None, Some, ap, eq-eqb, ne_eqb, zero, suc}
use Rattle.std.proofs.{Common.{◌≤◌, nat_le, nat_lt, refl, inl, inr, leb-true, ◌-◌, ◌≢◌}, lemmas.Bool.{false≢true, cases_eq, and_parts, or_from, or_left}}
use Rattle.std.proofs.lemmas.Bool.{or_right, false_from_ne_true}
use Rattle.pas_profile.specs.{Blocks.length_of, Profiles.{IsValid, IsPage, IsDirectoryOf}, declared.{word.Word.Word, directory.Directory.Directory}}
use Rattle.pas_profile.specs.{declared.profile.Profile.Profile, Directories.{number_of, directory_read, IsDirectory, deed_word_of}}
use Rattle.pas_profile.proofs.Codecs.{read-deed_word_of, directory_from_profile, deed_word_of-positive, same_from_deed_word}
use Rattle.pas_machine.specs.State.{deed_in, backed_in, live_in, Live}
use Rattle.pas_steps.specs.{Effects.free_word_at, Clear.HasNothing, Views.usable_by_kind, Lists.{Whole, word_after, visible, Legal, part}}
use Rattle.pas_records.specs.{Marks.{offered_after, marks_after}, Covered.{covers, some_below, is_covered}, Rests.{AreFreeOrCovered, NobodyHolds, AreTrueMarks}}
use Rattle.pas_records.specs.Rests.{NobodyHasRights}
use Rattle.pas_core.specs.{Good.{word_of_deed, word_of_backed, IsFreeGrain, IsCoveredByOne, IsInOnePlace}, Rights.{eligible_bit, IsRightInOnePlace}}
use Rattle.pas_core.{specs.Rights.{IsRightOffered, IsUsableFree, AllClear}, proofs.{Deeds.{deed_of, backed_of, directory_is_of}, Lives.live_is_aligned}}
use Rattle.pas_core.proofs.{MachineRuns.in_one_place, Offers.{offered_at_rest, hinted_at_rest}, Rights.right_in_one_place}
use Rattle.pas_bits.specs.{Bits.has_bit, Runs.in_run}

-- ==== A grain that nobody holds is free or covered by a live block.

-- ---- whether some number passes a test
pub some_of : (n x : ℕ) (p : ℕ → Bool) → x < n → p x ≡ true → some_below n p ≡ true
some_of zero x p below is = absurd (omega arith)
some_of (suc n) x p below is = elim (cases_eq x n) [ inl e ↦ or_left (p n) (some_below n p) (ap p (sym e) ∙ is) | inr ne ↦ or_right (p n) (some_below n p) (some_of n x p (omega arith) is) ]

-- Where no number below a bound passes a test, it isn't so that some does.
pub none_of : (n : ℕ) (p : ℕ → Bool) → ((x : ℕ) → x < n → p x ≡ false) → some_below n p ≡ false
none_of zero p fails = refl
none_of (suc n) p fails = or_from (p n) (some_below n p) (fails n (omega arith)) (none_of n p (λ x h. fails x (omega arith)))

-- ---- a grain that nobody holds is free, or a live block covers it
pub not_covering : (o : Option Live) (address g : ℕ) → ((b : Live) → o ≡ Some b → in_run (address / 16) (length_of b.block) g ≡ true → ⊥)
    → covers o address g ≡ false
not_covering None address g apart = refl
not_covering (Some b) address g apart = false_from_ne_true (in_run (address / 16) (length_of b.block) g) (apart b refl)

free_grain : (l : Whole) (g : ℕ) → IsFreeGrain l g → has_bit (word_after l (free_word_at g)) (g % 64) ≡ not (is_covered (visible l) g)
free_grain l g at = at.free ∙ sym (ap (λ b. not b) (none_of (g + 1) (λ x. covers (live_in (visible l) (16 * x)) (16 * x) g) (λ x h. not_covering (live_in (visible l) (16 * x)) (16 * x) g (at.no_block (16 * x)))))

covered_grain : (f : Profile) (l : Whole) (g : ℕ) → Legal f l → IsCoveredByOne l g
    → has_bit (word_after l (free_word_at g)) (g % 64) ≡ not (is_covered (visible l) g)
covered_grain f l g legal at =
    let aligned = live_is_aligned f l legal at.address at.block at.lives in
    let e : 16 * (at.address / 16) ≡ at.address = omega arith in
    let run = and_parts (nat_le (at.address / 16) g) (nat_lt g (at.address / 16 + length_of at.block.block)) at.covered in
    let first : at.address / 16 ≤ g = leb-true (at.address / 16) g run.0 in
    let here : covers (live_in (visible l) (16 * (at.address / 16))) (16 * (at.address / 16)) g ≡ true =
    (λ t. covers (live_in (visible l) (e t)) (e t) g) ∙ ap (λ o. covers o at.address g) at.lives ∙ at.covered in
    at.not_free ∙ sym (ap (λ b. not b) (some_of (g + 1) (at.address / 16) (λ x. covers (live_in (visible l) (16 * x)) (16 * x) g) (omega arith) here))

free_or_covered : (f : Profile) (l : Whole) (g : ℕ) → Legal f l → NobodyHolds l → IsInOnePlace l g
    → has_bit (word_after l (free_word_at g)) (g % 64) ≡ not (is_covered (visible l) g)
free_or_covered f l g legal rests (inl free) = free_grain l g free
free_or_covered f l g legal rests (inr (inl held)) = absurd (false≢true (sym (rests.nobody held.actor g) ∙ held.holder held.actor ∙ eq-eqb held.actor held.actor refl))
free_or_covered f l g legal rests (inr (inr covered)) = covered_grain f l g legal covered

-- Where nobody holds a grain, each is free or covered by a live block.
pub nobody_holds : (f : Profile) (l : Whole) → IsValid f → Legal f l → NobodyHolds l → AreFreeOrCovered f l
nobody_holds f l valid legal rests = record { grain = λ g page. free_or_covered f l g legal rests (in_one_place f l valid legal g) }

-- ==== The words of a page tell its deed and whether it is backed.

-- The word of a deed is read as it.
deed_is_read : (o : Option Directory) (word : ℕ) → word ≡ word_of_deed o → ((d : Directory) → o ≡ Some d → IsDirectory d) → directory_read word ≡ o
deed_is_read None word is of = ap directory_read is
deed_is_read (Some d) word is of = ap directory_read is ∙ read-deed_word_of d (of d refl)

-- The deed word of a page reads as its deed by the events.
pub deed_read_after : (f : Profile) (l : Whole) → IsValid f → Legal f l → (page : ℕ) → directory_read (word_after l (Word.Deed page)) ≡ deed_in (visible l) page
deed_read_after f l valid legal page = deed_is_read (deed_in (visible l) page) (word_after l (Word.Deed page)) (deed_of f l legal page)
    (λ d is. directory_from_profile f d valid (directory_is_of f l legal page d is))

-- A backed word is 1 exactly where the page is backed.
pub backed_agrees : (b : Bool) (word : ℕ) → word ≡ word_of_backed b → (word == 1) ≡ b
backed_agrees true word e = eq-eqb word 1 e
backed_agrees false word e = ne_eqb word 1 (λ z. omega arith)

-- a page is backed where the machine's is
pub backed_after : (f : Profile) (l : Whole) → Legal f l → (page : ℕ) → (marks_after l page).backed ≡ backed_in (visible l) page
backed_after f l legal page = backed_agrees (backed_in (visible l) page) (word_after l (Word.Backed page)) (backed_of f l legal page)

-- ==== Where the right of a page with a deed is, which pages have room, and which are empty.

-- one of two marks is set where the other isn't
only_first : (offered parked : Bool) → offered ≡ true → parked ≡ false → parked ≡ not offered
only_first offered parked set unset = unset ∙ sym (ap (λ b. not b) set)

only_second : (offered parked : Bool) → offered ≡ false → parked ≡ true → parked ≡ not offered
only_second offered parked unset set = set ∙ sym (ap (λ b. not b) unset)

module _ (f : Profile) (l : Whole) (valid : IsValid f) (legal : Legal f l) where
  offered_is : (page : ℕ) (d : Directory) → deed_in (visible l) page ≡ Some d → (marks_after l page).offered ≡ eligible_bit l (number_of d) page
  offered_is page d is = ap (offered_after l page) (deed_read_after f l valid legal page ∙ is)

  -- the directory whose deed word the page has is that of the machine
  word_is : (page : ℕ) (d : Directory) → deed_in (visible l) page ≡ Some d → word_after l (Word.Deed page) ≡ deed_word_of d
  word_is page d is = deed_of f l legal page ∙ ap word_of_deed is

  same_directory : (page : ℕ) (d other : Directory) → deed_in (visible l) page ≡ Some d → IsDirectoryOf f other
      → word_after l (Word.Deed page) ≡ deed_word_of other → other ≡ d
  same_directory page d other is of word = same_from_deed_word other d of.kind (directory_is_of f l legal page d is).kind (sym word ∙ word_is page d is)

  -- a page whose right is offered is marked so
  marked_offered : (page : ℕ) (d : Directory) → deed_in (visible l) page ≡ Some d → IsRightOffered f l page → (marks_after l page).offered ≡ true
  marked_offered page d is offers = search (arith, eq-eqb, same_directory, offered_is)

  -- ---- the place of the right
  place_shown : (page : ℕ) (d : Directory) → deed_in (visible l) page ≡ Some d → NobodyHasRights l → IsRightInOnePlace f l page
      → (marks_after l page).parked ≡ not ((marks_after l page).offered)
  place_shown page d is rests (inl none) = absurd (deed_word_of-positive d (sym (word_is page d is) ∙ none.no_deed))
  place_shown page d is rests (inr (inl one)) = absurd (false≢true (sym (rests.nobody one.actor page) ∙ one.holder one.actor ∙ eq-eqb one.actor one.actor refl))
  place_shown page d is rests (inr (inr (inl offers))) = only_first _ _ (marked_offered page d is offers) offers.not_parked
  place_shown page d is rests (inr (inr (inr parks))) = only_second _ _ (offered_is page d is ∙ parks.not_offered (number_of d)) parks.parked

  with_deed : (page : ℕ) (o : Option Directory) → deed_in (visible l) page ≡ o → o ≢ None → NobodyHasRights l
      → (marks_after l page).parked ≡ not ((marks_after l page).offered)
  with_deed page None is some rests = absurd (some refl)
  with_deed page (Some d) is some rests = place_shown page d is rests (right_in_one_place f l legal page)

  -- EACH PAGE WITH A DEED is marked as one of offered and parked
  pub rights_shown : NobodyHasRights l → (page : ℕ) → deed_in (visible l) page ≢ None → (marks_after l page).parked ≡ not ((marks_after l page).offered)
  rights_shown rests page some = with_deed page (deed_in (visible l) page) refl some rests

  -- ---- pages with room
  -- a grain that no live block covers is free, when nobody holds one: its bit is that of the grain 256 * page + b
  free_bit : AreFreeOrCovered f l → (page b : ℕ) → IsPage f page → b < 256 → is_covered (visible l) (256 * page + b) ≡ false
      → has_bit (word_after l (Word.Free page (b / 64))) (b % 64) ≡ true
  free_bit free page b of small none = search arith

  usable_free : AreFreeOrCovered f l → (page b : ℕ) → IsPage f page → (d : Directory) → deed_in (visible l) page ≡ Some d → b < 256
      → usable_by_kind d.kind b ≡ true
      → is_covered (visible l) (256 * page + b) ≡ false → IsUsableFree l page (b / 64) (b % 64)
  usable_free free page b of d is small usable none = search (arith, free_bit, deed_read_after)

  -- EACH PAGE WITH ROOM is marked as offered
  pub room_shown : AreFreeOrCovered f l → AllClear f l → NobodyHasRights l → (page : ℕ) → IsPage f page → (d : Directory) → deed_in (visible l) page ≡ Some d
      → (b : ℕ) → b < 256 → usable_by_kind d.kind b ≡ true → is_covered (visible l) (256 * page + b) ≡ false → (marks_after l page).offered ≡ true
  room_shown free clear rests page of d is b small usable none = marked_offered page d is (offered_at_rest f l legal clear page (b / 64) (b % 64) (omega arith)
      (λ z. deed_word_of-positive d (sym (word_is page d is) ∙ z)) (usable_free free page b of d is small usable none) (λ k. rests.nobody k page))

  -- EACH EMPTY PAGE that is backed is marked as hinted
  pub empty_shown : AreFreeOrCovered f l → AllClear f l → (page : ℕ) → IsPage f page → backed_in (visible l) page ≡ true
      → ((g : ℕ) → g / 256 ≡ page → is_covered (visible l) g ≡ false) → (marks_after l page).hinted ≡ true
  empty_shown free clear page of backed none = search (arith, hinted_at_rest, backed_of)

  -- THE MARKS ARE TRUE once no actor has anything
  pub true_marks : ((k : ℕ) → HasNothing (part k l)) → AreTrueMarks f l
  true_marks nothing =
      let free : AreFreeOrCovered f l = nobody_holds f l valid legal (record { nobody = λ k g. (nothing k).grains g }) in
      let rests : NobodyHasRights l = record { nobody = λ k page. (nothing k).rights page } in
      let clear : AllClear f l = λ k within. (nothing k).clear in
      record { backed = backed_after f l legal; offered_or_parked = rights_shown rests; offered = room_shown free clear rests; hinted = empty_shown free clear }
