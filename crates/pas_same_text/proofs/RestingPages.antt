-- Pages whenever all actors are at rest: a page with room that nobody keeps is offered, and an offered page is offered in the text where it has room. Then: pages
-- after an act that only gives back.
use Rattle.std.proofs.Common.{◌≡◌, ℕ, zero, suc, ◌+◌, ◌*◌, ◌/◌, ◌%◌, ◌<◌, ◌≤◌, ◌==◌, Bool, true, false, not, ◌&&◌, List, Option, Some, inl, inr, refl, ap, sym}
use Rattle.std.proofs.{Common.{◌∙◌, arith, eq-eqb, eqb-true, true≢false, ◌++◌, subst}, lemmas.Bool.and_cases}
use Rattle.pas_same_text.proofs.Common.{false≢true, and_from, not_from_false, false_from_ne_true, not-true, not-false, or_cases, or_left, or_right, has_bit}
use Rattle.pas_same_text.proofs.Common.{number_of, deed_word_of, deed_word_numbered, IsKind, IsValid, IsDirectoryOf, IsPage, Directory, Event, Profile, Word}
use Rattle.pas_same_text.proofs.Common.{deed_word_of-positive, read-deed_word_of, directory_from_profile, same_from_deed_word, deed_in, Live, live_in}
use Rattle.pas_same_text.proofs.Common.{backed_in, usable_by_kind, known_deed, holds, triples, Only, Always, Whole, part, word_after, visible, Legal}
use Rattle.pas_same_text.proofs.Common.{word_of_deed, IsPartOf, IsInOnePlace, word_of_backed, eligible_bit, IsUsableFree, IsRightInOnePlace, empty_bit, deed_of}
use Rattle.pas_same_text.proofs.Common.{directory_is_of, known_is, offered_at_rest, hinted_at_rest, right_in_one_place, deeds_known, hinted_page, agrees}
use Rattle.pas_same_text.proofs.Common.{in_one_place, one_backed, Progress, World, HasSame, ArePagesSame, has_number, IsBetween, free_bit, is_same, is_of}
use Rattle.pas_same_text.proofs.Common.{is_kept, is_guarded, is_free, is_offered, is_none, is_empty, is_hinted, Made, same_truth, IsEmptyBacked, HintsEmpty}
use Rattle.pas_same_text.proofs.{Common.freeing, FreeGrains.{free_unless, keeper, nobody_keeps, bit_free, bit_unguarded, guarded_by}, Tests.and_first}
use Rattle.pas_same_text.proofs.{Tests.and_second, GivenBack.{Returns, is_idle, each_at, each_all}, StepMarks.{OffersPage, HintsPage, hinted_stays, hinted_by}}
use Rattle.pas_same_text.{proofs.StepMarks.{offered_by, hinted_empty}, specs.Pages.{each_of, has_room}}
use Rattle.pas_profile.proofs.Codecs.{numbered}
use Rattle.pas_steps.specs.Clear.{IsClear}

-- ---- tests of numbers that follow each other
pub record Fails (from n : ℕ) (test : ℕ → Bool) : Type 0 where
  pub number : ℕ
  pub low : from ≤ number
  pub high : number < from + n
  pub fails : test number ≡ false

-- the numbers from the next one on are among these
fails_later : (from n : ℕ) (test : ℕ → Bool) → Fails (from + 1) n test → Fails from (suc n) test
fails_later from n test o = search arith

-- A test that doesn't hold of all of several numbers fails on one of them.
some_fails : (n from : ℕ) (test : ℕ → Bool) → each_of from n test ≡ false → Fails from n test
unfolding each_of
some_fails zero from test h = absurd (true≢false h)
some_fails (suc n) from test h = elim (and_cases (test from) (each_of (from + 1) n test) h) [
  | inl here ↦ record { number = from; low = omega arith; high = omega arith; fails = here }
  | inr later ↦ fails_later from n test (some_fails n (from + 1) test later)
]

-- ---- deeds
-- a page has a deed where its word isn't 0
pub no_word : (o : Option Directory) → is_none o ≡ true → word_of_deed o ≡ 0
no_word o h = search (arith, false≢true)

-- A page whose deed word is 0 has no deed.
pub unowned_by : (o : Option Directory) → word_of_deed o ≡ 0 → is_none o ≡ true
unowned_by o h = search (arith, deed_word_of-positive)

-- A page's deed word is that of the deed that the text's events tell.
pub owned_is : (f : Profile) (l : Whole) (w : World) → Legal f l → w.events ≡ visible l → (page : ℕ)
    → word_after l (Word.Deed page) ≡ word_of_deed (deed_in w.events page)
owned_is f l w legal events page = deed_of f l legal page ∙ ap (λ (es : List Event). word_of_deed (deed_in es page)) (sym events)

-- an actor that knows the deed of a page knows its word
pub word_known : (f : Profile) (l : Whole) → Legal f l → (k page : ℕ) (d : Directory) → known_deed (part k l) page ≡ deed_word_of d
    → word_after l (Word.Deed page) ≡ deed_word_of d
word_known f l legal k page d knows = sym (known_is (known_deed (part k l) page) _ (deeds_known f l legal k page) (λ none. deed_word_of-positive d (sym knows ∙ none))) ∙ knows

same_number : (a b : Directory) → IsKind a.kind → IsKind b.kind → number_of a ≡ number_of b → a ≡ b
same_number a b ka kb same = same_from_deed_word a b ka kb (sym (numbered a ka) ∙ (ap deed_word_numbered same ∙ numbered b kb))

-- the bit of grain b of a page
pub bit_at : (l : Whole) (page b : ℕ) → b < 256 → free_bit l (256 * page + b) ≡ has_bit (word_after l (Word.Free page (b / 64))) (b % 64)
bit_at l page b small = search arith

-- the page has room for a block of the directory, and no guard has it
abbrev pub is_open : World → Directory → ℕ → Bool
is_open w d page = not (is_guarded w page) && has_room w d page

-- An unguarded page with room for a directory is open to it.
pub is_opened : (w : World) (d : Directory) (page : ℕ) → is_guarded w page ≡ false → has_room w d page ≡ true → is_open w d page ≡ true
is_opened w d page none room = and_from (not (is_guarded w page)) (has_room w d page) (not_from_false (is_guarded w page) none) room

-- A page that is open to a directory isn't guarded.
pub open_unguarded : (w : World) (d : Directory) (page : ℕ) → is_open w d page ≡ true → is_guarded w page ≡ false
open_unguarded w d page h = not-true (is_guarded w page) (and_first (not (is_guarded w page)) (has_room w d page) h)

-- an offered page is so
pub had_open : (w : World) (d : Directory) (page : ℕ) → is_offered w d page ≡ true → is_open w d page ≡ true
had_open w d page h = and_second (not (is_kept w page)) (is_open w d page) (and_second (is_of w d page) (not (is_kept w page) && is_open w d page) h)

module _ (f : Profile) (p : Progress) (w : World) (valid : IsValid f) (between : IsBetween f p) (same : HasSame f p w) where
  -- Between two acts each actor of the region is clear.
  pub clear_of : (k : ℕ) → k ≤ f.threads → IsClear (part k p.list)
  clear_of zero le = between.rest.scavenger.clear
  clear_of (suc i) le = let some : 1 ≤ suc i = omega arith in (between.rest.working (suc i) (some, le)).locals.clear

  -- A page of a directory in the text has that deed by the replay's events.
  pub deed_now : (page : ℕ) (d : Directory) → IsDirectoryOf f d → is_of w d page ≡ true → deed_in (visible p.list) page ≡ Some d
  deed_now page d of h = search (arith, same_number, directory_is_of, false≢true, eqb-true)

  -- A page with a deed by the replay's events has that directory's word.
  pub word_now : (page : ℕ) (d : Directory) → deed_in (visible p.list) page ≡ Some d → word_after p.list (Word.Deed page) ≡ deed_word_of d
  word_now page d is = deed_of f p.list between.legal page ∙ ap word_of_deed is

  -- A grain of an unguarded page is free in the text exactly where its bit of the free word is set.
  pub free_at : (page b : ℕ) → b < 256 → is_guarded w page ≡ false → is_free w page b ≡ has_bit (word_after p.list (Word.Free page (b / 64))) (b % 64)
  free_at page b small none = free_unless f p w valid between same page b small none ∙ bit_at p.list page b small

  -- ---- A PAGE WITH ROOM that nobody keeps is offered
  offered_where : (page b : ℕ) (d : Directory) → b < 256 → IsDirectoryOf f d → word_after p.list (Word.Deed page) ≡ deed_word_of d → is_kept w page ≡ false
      → IsUsableFree p.list page (b / 64) (b % 64) → eligible_bit p.list (number_of d) page ≡ true
  offered_where page b d small of word kept usable =
      let o = offered_at_rest f p.list between.legal clear_of page _ (b % 64) (omega (arith, small)) (λ none. deed_word_of-positive d (sym word ∙ none)) usable (nobody_keeps f p w valid between same page kept) in
      let is : o.directory ≡ d = same_from_deed_word o.directory d o.of_profile.kind of.kind (sym o.deed ∙ word) in
      o.offered (number_of d) ∙ (ap (λ (x : Directory). number_of x == number_of d) is ∙ eq-eqb (number_of d) (number_of d) refl)

  -- A page that the text offers has its bit in the directory's vector.
  pub offered_bit : (page : ℕ) (d : Directory) → IsDirectoryOf f d → is_offered w d page ≡ true → eligible_bit p.list (number_of d) page ≡ true
  offered_bit page d of h =
      let own : is_of w d page ≡ true = and_first (is_of w d page) (not (is_kept w page) && is_open w d page) h in
      let rest : (not (is_kept w page) && is_open w d page) ≡ true = and_second (is_of w d page) (not (is_kept w page) && is_open w d page) h in
      let open_page : is_open w d page ≡ true = had_open w d page h in
      let room : has_room w d page ≡ true = and_second (not (is_guarded w page)) (has_room w d page) open_page in
      let o = some_fails 256 0 (λ b. not (usable_by_kind d.kind b && is_free w page b)) (not-true _ room) in
      let both = not-false (usable_by_kind d.kind o.number && is_free w page o.number) o.fails in
      let small : o.number < 256 = o.high in
      let word : word_after p.list (Word.Deed page) ≡ deed_word_of d = word_now page d (deed_now page d of own) in
      offered_where page o.number d small of word (not-true (is_kept w page) (and_first (not (is_kept w page)) (is_open w d page) rest))
      (search (arith, free_at, read-deed_word_of, directory_from_profile))

  -- ---- AN OFFERED PAGE has a deed of its directory, and nobody keeps it
  pub deed_from_word : (page : ℕ) (d : Directory) (o : Option Directory) → deed_in (visible p.list) page ≡ o → word_of_deed o ≡ deed_word_of d → IsKind d.kind
      → is_same d o ≡ true
  deed_from_word page d a at word is = search (arith, deed_word_of-positive, directory_is_of, eq-eqb, same_from_deed_word)

  -- A page whose offered bit is set is of that directory in the text, and nobody keeps it.
  pub bit_tells : (page : ℕ) (d : Directory) → IsDirectoryOf f d → IsRightInOnePlace f p.list page → eligible_bit p.list (number_of d) page ≡ true
      → (is_of w d page ≡ true) × (is_kept w page ≡ false)
  bit_tells page d of (inl none) h = absurd (false≢true (sym (none.not_offered (number_of d)) ∙ h))
  bit_tells page d of (inr (inl one)) h = absurd (false≢true (sym (one.not_offered (number_of d)) ∙ h))
  bit_tells page d of (inr (inr (inl o))) h =
      let number : number_of o.directory ≡ number_of d = eqb-true (number_of o.directory) (number_of d) (sym (o.offered (number_of d)) ∙ h) in
      let is : o.directory ≡ d = same_number o.directory d o.of_profile.kind of.kind number in
      let word : word_of_deed (deed_in (visible p.list) page) ≡ deed_word_of d = sym (deed_of f p.list between.legal page) ∙ (o.deed ∙ ap deed_word_of is) in (
        ap (λ (es : List Event). is_same d (deed_in es page)) same.events ∙ deed_from_word page d (deed_in (visible p.list) page) refl word of.kind,
        false_from_ne_true (is_kept w page) (λ kept. let k = keeper f p w valid between same page kept in false≢true (sym (o.nobody k.0) ∙ k.1)),
      )
  bit_tells page d of (inr (inr (inr parked))) h = absurd (false≢true (sym (parked.not_offered (number_of d)) ∙ h))

  -- An open page whose offered bit is set is offered in the text.
  pub bit_offered : (page : ℕ) (d : Directory) → IsDirectoryOf f d → eligible_bit p.list (number_of d) page ≡ true → is_open w d page ≡ true
      → is_offered w d page ≡ true
  bit_offered page d of h open_page =
      let told = bit_tells page d of (right_in_one_place f p.list between.legal page) h in
      and_from (is_of w d page) _ told.0 (and_from (not (is_kept w page)) (is_open w d page) (not_from_false (is_kept w page) told.1) open_page)

-- ==== Pages after an act that only gives back: which are hinted, and which are offered.
-- ---- room
-- a page with a free grain that its blocks may cover has room
room_from : (w : World) (d : Directory) (page b : ℕ) → b < 256 → usable_by_kind d.kind b ≡ true → is_free w page b ≡ true → has_room w d page ≡ true
room_from w d page b small usable free = ap not (false_from_ne_true (each_of 0 256 (λ x. not (usable_by_kind d.kind x && is_free w page x))) (λ all.
    false≢true (sym (ap not (and_from _ _ usable free)) ∙ each_at 256 0 b (λ x. not (usable_by_kind d.kind x && is_free w page x)) all (omega arith) small)))

-- An open page stays open where its free grains stay free and it doesn't become guarded.
pub open_grows : (w v : World) (d : Directory) (page : ℕ) → (is_guarded w page ≡ false → is_guarded v page ≡ false)
    → ((b : ℕ) → b < 256 → is_free w page b ≡ true → is_free v page b ≡ true) → is_open w d page ≡ true → is_open v d page ≡ true
open_grows w v d page unguarded grows h =
    is_opened v d page (unguarded (open_unguarded w d page h)) (let o : Fails 0 256 (λ b. not (usable_by_kind d.kind b && is_free w page b)) =
    some_fails 256 0 (λ b. not (usable_by_kind d.kind b && is_free w page b))
    (not-true (each_of 0 256 (λ b. not (usable_by_kind d.kind b && is_free w page b))) (and_second (not (is_guarded w page)) (has_room w d page) h)) in
    let both : (usable_by_kind d.kind o.number && is_free w page o.number) ≡ true = not-false _ o.fails in
    room_from v d page o.number o.high (and_first (usable_by_kind d.kind o.number) (is_free w page o.number) both)
    (grows o.number o.high (and_second (usable_by_kind d.kind o.number) (is_free w page o.number) both)))

-- ---- grains of a legal list
-- a grain of a live block is held by nobody
pub covered_not_held : (f : Profile) (l : Whole) → IsValid f → Legal f l → (g address : ℕ) (b : Live) → live_in (visible l) address ≡ Some b
    → IsPartOf g address b → (k : ℕ) → holds (part k l) g ≡ true → ⊥
covered_not_held f l valid legal g address b lives of k held = by_place (in_one_place f l valid legal g)
  where
    by_place : IsInOnePlace l g → ⊥
    by_place (inl free) = false≢true (sym (free.nobody k) ∙ held)
    by_place (inr (inl one)) = one.no_block address b lives of
    by_place (inr (inr covered)) = false≢true (sym (covered.nobody k) ∙ held)

-- a grain that nobody holds and no live block has is free
pub free_left : (f : Profile) (l : Whole) → IsValid f → Legal f l → (g : ℕ) → ((k : ℕ) → holds (part k l) g ≡ true → ⊥)
    → ((address : ℕ) (b : Live) → live_in (visible l) address ≡ Some b → IsPartOf g address b → ⊥) → free_bit l g ≡ true
free_left f l valid legal g nobody none = by_place (in_one_place f l valid legal g)
  where
    by_place : IsInOnePlace l g → free_bit l g ≡ true
    by_place (inl free) = free.free
    by_place (inr (inl one)) = absurd (nobody one.actor (one.holder one.actor ∙ eq-eqb one.actor one.actor refl))
    by_place (inr (inr covered)) = absurd (none covered.address covered.block covered.lives covered.covered)

-- ---- pages that are backed and empty, in words and in the text
module _ (f : Profile) (p : Progress) (w : World) (valid : IsValid f) (between : IsBetween f p) (same : HasSame f p w) where
  -- a page of which a bit is set at a grain that its blocks may cover has room, and no guard has it
  pub open_from : (d : Directory) (page b : ℕ) → b < 256 → usable_by_kind d.kind b ≡ true → free_bit p.list (256 * page + b) ≡ true → is_open w d page ≡ true
  open_from d page b small usable bit =
      is_opened w d page (bit_unguarded f p w valid between same page b small bit)
      (room_from w d page b small usable (bit_free f p w valid between same page b small bit))

  -- an outer page of a guard is not backed
  pub backed_unguarded : (page : ℕ) → backed_in (visible p.list) page ≡ true → is_guarded w page ≡ false
  backed_unguarded page backed = false_from_ne_true _ (λ h. let o = guarded_by p.books w same.guards page h in true≢false (sym backed ∙ between.rest.bare o.0 page o.1))

  backed_is : (page : ℕ) → backed_in w.events page ≡ backed_in (visible p.list) page
  backed_is page = ap (λ (es : List Event). backed_in es page) same.events

  -- A page that is backed and empty in the replay is idle in the text.
  pub page_idle : (page : ℕ) → IsEmptyBacked p.list page → is_idle w page ≡ true
  page_idle page e =
      search (arith, each_all, bit_free, and_from, backed_is, one_backed, agrees)

  -- at rest such a page is hinted
  pub idle_hinted : (page : ℕ) → is_idle w page ≡ true → empty_bit p.list page ≡ true
  idle_hinted page h = hinted_at_rest f p.list valid between.legal
      (clear_of f p w valid between same) page (let backed : backed_in w.events page ≡ true = and_first (backed_in w.events page) (is_empty w page) h in
      let empty : is_empty w page ≡ true = and_second (backed_in w.events page) (is_empty w page) h in
      let none : is_guarded w page ≡ false = backed_unguarded page (sym (backed_is page) ∙ backed) in
      record {
        backed = (agrees f p.list valid between.legal).backed page ∙ ap word_of_backed (sym (backed_is page) ∙ backed);
        free = λ g of.
            let whole : 256 * page + g % 256 ≡ g = omega (arith, of) in
            let small : g % 256 < 256 = omega arith in
            cc (free_unless f p w valid between same page (g % 256) small none, each_at 256 0 (g % 256) _ empty (omega arith) small);
      })

-- ==== THE PAGES after an act that only gives back
pub record IsGivenBack (f : Profile) (k : ℕ) (l : Whole) (w : World) (steps : List Made) (v : World) : Type 0 where
  pub pages : List ℕ
  pub returns : Returns f pages w v
  pub kinds : Only freeing steps
  pub hints : Always HintsEmpty steps
  pub marks : (q : ℕ) → IsPage f q → HintsPage q steps → has_number pages q ≡ true
  pub rooms : (q : ℕ) (d : Directory) → IsDirectoryOf f d → is_of v d q ≡ true → OffersPage q steps → is_open v d q ≡ true
  pub guarded : (q : ℕ) → is_guarded w q ≡ false → is_guarded v q ≡ false

module _ (f : Profile) (k : ℕ) (l : Whole) (p' : Progress) (w v : World) (steps : List Made) (valid : IsValid f) (was : ArePagesSame f l w)
    (list : p'.list ≡ triples k steps ++ l) (between : IsBetween f p') (same : HasSame f p' v)
    (given : IsGivenBack f k l w steps v) where
  -- The list with the steps is legal.
  legal : Legal f (triples k steps ++ l)
  legal = subst (Legal f) list between.legal

  to_bit : (page : ℕ) → is_hinted v page ≡ true → empty_bit p'.list page ≡ true
  to_bit page h = elim (or_cases (is_hinted w page) (has_number given.pages page && is_idle v page) (sym (given.returns.hinted page) ∙ h)) [
    | inl old ↦ ap (λ (m : Whole). empty_bit m page) list ∙ hinted_stays freeing refl k steps l page given.kinds (sym (was.hinted page) ∙ old)
    | inr new ↦ idle_hinted f p' v valid between same page (and_second (has_number given.pages page) (is_idle v page) new)
  ]

  from_offer : (page : ℕ) (d : Directory) → IsDirectoryOf f d → eligible_bit p'.list (number_of d) page ≡ true → is_offered v d page ≡ true
  from_offer page d of bit =
      bit_offered f p' v valid between same page d of bit (elim (offered_by k steps l (number_of d) page (ap (λ m. eligible_bit m (number_of d) page) (sym list) ∙ bit)) [
        | inl old ↦ open_grows w v d page (given.guarded page) (λ b small h. given.returns.grows page b small h) (had_open w d page (was.offered page d of ∙ old))
        | inr new ↦ given.rooms page d of (bit_tells f p' v valid between same page d of (right_in_one_place f p'.list between.legal page) bit).0 new
      ])

  -- After an act that only gives back, the hints and offers of the text are those of the replay.
  pub given_pages : ArePagesSame f p'.list v
  given_pages = search (arith, same_truth, to_bit, hinted_by, or_left, hinted_empty, or_right, and_from, hinted_page, page_idle, offered_bit, from_offer)
