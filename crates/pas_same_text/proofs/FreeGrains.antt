-- A grain is free in the text exactly where its bit is set or a guard has its page, and a page is kept exactly where an actor has its right: whenever all
-- actors are at rest. Before that: the live blocks in a list, and those that the machine has by their addresses.
use Rattle.pas_same_text.proofs.Common.{nat_tests, find, same_Some, none-some, and-false, or-false, eqb-false, false≢true, or_cases, or_left, not-true}
use Rattle.pas_same_text.proofs.Common.{and_from, or_right, false_from_ne_true, cases_lt, list_any, filter, in_run, meets_page, address_of, grain_of, length_of}
use Rattle.pas_same_text.proofs.Common.{grain_of as first_grain, Event, Block, Name, Profile, Live, live_in, Run, is_at, World, cache_in, Local, is_guarded}
use Rattle.pas_same_text.proofs.Common.{is_free, is_covered, is_cached, blocks_on, locals_on, is_kept, lives_in, raised_by, AreSameGuards, HasSame}
use Rattle.pas_same_text.proofs.Common.{AreSameLocals, runs, in_one_place, is_outer_of, is_outer, Guard, Books, Progress, IsValid, lives_where, part, visible}
use Rattle.pas_same_text.proofs.Common.{Whole, Legal, holds, has_right, IsPartOf, IsInOnePlace, free_of_page, any_covers, IsThread, IsBetween, free_bit, Slots}
use Rattle.pas_same_text.proofs.{Common.Raised, Tests.{and_first, and_second, any_filtered, filtered_any, any_weaker, on_page}, CacheLists.all_locals}
use Rattle.pas_same_text.proofs.CacheLists.{has_grain, grains_same, IsOfCache, of_cache, in_all, cached_any, any_cached}
use Rattle.pas_cache.specs.Locals.{any_keeps}
use Rattle.std.proofs.{Math.Bool.and_comm, Common.{arith, ◌≡◌, ℕ, ◌/◌, ◌<◌, ◌≢◌, ◌==◌, Bool, true, false, not, ◌&&◌, ◌||◌, if◌then◌else◌, List, [], ◌∷◌}}
use Rattle.std.proofs.Common.{Option, Some, None, ◌⊎◌, inl, inr, refl, ap, sym, ◌∙◌, eq-eqb, ne_eqb, true≢false, map, subst, ◌+◌, ◌*◌, eqb-true}
use Rattle.pas_bits.proofs.Runs.{first_of_run, run_meets}
use Rattle.pas_machine.specs.Machine.{MayGive}
use Rattle.pas_core.{proofs.{Grains.some_grain, Offers.no_other_actor}, specs.Rights.NobodyHasRight}

-- ---- a block that lives after the events, of which this is so
pub record LivesSo (es : List Event) (p : Block → Bool) : Type 0 where
  pub address : ℕ
  pub live : Live
  pub lives : live_in es address ≡ Some live
  pub at : address_of live.block.name ≡ address
  pub some : 0 < length_of live.block
  pub so : p live.block ≡ true

-- ---- from the list to the machine
here : (k : ℕ) (block : Block) (es : List Event) (p : Block → Bool) → 0 < length_of block → p block ≡ true → LivesSo (Event.Give k block ∷ es) p
here k block es p some so =
    let live : Live = record { actor = k; block = block } in
    record {
      address = address_of block.name;
      live = live;
      lives = ap (λ (t : Bool). if t then Some live else live_in es (address_of block.name)) (eq-eqb (address_of block.name) (address_of block.name) refl);
      at = refl;
      some = some;
      so = so;
    }

-- A block lives on after the give of another.
there : (k : ℕ) (block : Block) (es : List Event) (p : Block → Bool) (o : LivesSo es p) → address_of block.name ≢ o.address
    → LivesSo (Event.Give k block ∷ es) p
there k block es p o ne = search (arith, ne_eqb)

-- A block lives on after the end of another.
ended : (k : ℕ) (name : Name) (e : ℕ) (es : List Event) (p : Block → Bool) (o : LivesSo es (λ x. not (is_at (address_of name) x) && p x))
    → LivesSo (Event.End k name e ∷ es) p
ended k name e es p o = search (arith, not-true, and_first, eqb-false, ne_eqb, and_second)

given_one : (f : Profile) (k : ℕ) (block : Block) (es : List Event) (p : Block → Bool) → MayGive f es block → 0 < length_of block
    → (list_any p (lives_in es) ≡ true → LivesSo es p)
    → (p block ≡ true) ⊎ (list_any p (lives_in es) ≡ true) → LivesSo (Event.Give k block ∷ es) p
given_one f k block es p may some older (inl so) = here k block es p some so
given_one f k block es p may some older (inr more) = let o = older more in there k block es p o (λ same. let first : ℕ = o.address / 16 in
    let own : in_run (o.address / 16) (length_of o.live.block) first ≡ true = first_of_run first (length_of o.live.block) o.some in
    let meets : in_run (grain_of block.name) (length_of block) (grain_of block.name) ≡ true = first_of_run (grain_of block.name) (length_of block) some in
    let is : grain_of block.name ≡ first = ap (λ (a : ℕ). a / 16) same in
    true≢false (sym meets ∙ (ap (in_run (grain_of block.name) (length_of block)) is ∙ (may.clear o.address o.live o.lives first own))))

-- a block in the list lives, at its address
pub lives_so : (f : Profile) (es : List Event) (p : Block → Bool) → Run f es → list_any p (lives_in es) ≡ true → LivesSo es p
lives_so f [] p run h = absurd (false≢true h)
lives_so f (Event.Give k block ∷ es) p run h = given_one f k block es p run.0 (some_grain block.room run.0.whole run.0.some) (lives_so f es p run.1) (or_cases (p block) _ h)
lives_so f (Event.End k name e ∷ es) p run h =
    ended k name e es p (lives_so f es (λ x. not (is_at (address_of name) x) && p x) run.1 (any_filtered p (λ x. not (is_at (address_of name) x)) _ h))
lives_so f (e ∷ es) p run h = let o = lives_so f es p run.1 h in
    record { address = o.address; live = o.live; lives = refl ∙ o.lives; at = o.at; some = o.some; so = o.so }

-- ---- from the machine to the list: the block at an address
abbrev pub block_of_live : Option Live → Option Block
block_of_live None = None
block_of_live (Some b) = Some b.block

module _ (a c : ℕ) where
  -- by cases of the two tests
  found_out : (xs : List Block) → find (is_at a) (filter (λ x. not (is_at c x)) xs) ≡ (if c == a then None else find (is_at a) xs)
  found_out [] = grind arith
  found_out (x ∷ xs) = let ih = found_out xs in grind (arith, nat_tests, ih)

-- The first block of the list at an address is the one that lives there.
pub found_is : (es : List Event) (a : ℕ) → find (is_at a) (lives_in es) ≡ block_of_live (live_in es a)
found_is [] a = refl
found_is (Event.Give k block ∷ es) a = let ih = found_is es a in grind (arith, ih)
found_is (Event.End k name e ∷ es) a = let ih = found_is es a in let out = found_out a (address_of name) (lives_in es) in grind (arith, ih, out)
found_is (e ∷ es) a = found_is es a

found_any : (p q : Block → Bool) (xs : List Block) (b : Block) → find q xs ≡ Some b → p b ≡ true → list_any p xs ≡ true
found_any p q [] b is so = absurd (none-some b is)
found_any p q (x ∷ xs) b is so = let ih = found_any p q xs b in search (arith, same_Some, or_left, or_right, ih)

-- a block that lives at an address is in the list
lives_listed : (es : List Event) (address : ℕ) (b : Live) (p : Block → Bool) → live_in es address ≡ Some b → p b.block ≡ true → list_any p (lives_in es) ≡ true
lives_listed es address b p is so = found_any p (is_at address) (lives_in es) b.block (found_is es address ∙ ap block_of_live is) so

-- ==== OUTER PAGES of guards: those of the text are those of the keepers' books.
-- the page is an outer one of the guard
abbrev pub has_outer : ℕ → Raised → Bool
has_outer page r = (r.guard.low == page) || (r.guard.high == page)

told_outer : (keeper page : ℕ) (gs : List Guard) → list_any (has_outer page) (map (raised_by keeper) gs) ≡ is_outer gs page
told_outer keeper page [] = refl
told_outer keeper page (g ∷ gs) = ap (λ (t : Bool). is_outer_of g page || t) (told_outer keeper page gs)

-- a guard that passes a test is some keeper's
of_keeper : (test : Raised → Bool) (gs : List Raised) → list_any test gs ≡ true → (k : ℕ) × (list_any (λ g. (g.keeper == k) && test g) gs ≡ true)
of_keeper test [] h = absurd (false≢true h)
of_keeper test (g ∷ gs) h = elim (or_cases (test g) _ h) [
  | inl here ↦ (g.keeper, or_left _ (list_any (λ (x : Raised). (x.keeper == g.keeper) && test x) gs) (and_from _ (test g) (eq-eqb g.keeper g.keeper refl) here))
  | inr later ↦ (let o = of_keeper test gs later in (o.0, or_right _ (list_any (λ (x : Raised). (x.keeper == o.0) && test x) gs) o.1))
]

module _ (books : Books) (w : World) (same : AreSameGuards books w.guards) where
  -- a guarded page is an outer one of some keeper's book, and the other way round
  pub guarded_by : (page : ℕ) → is_guarded w page ≡ true → (k : ℕ) × (is_outer (books k) page ≡ true)
  guarded_by page h =
      let o = of_keeper (has_outer page) w.guards h in
      let own : list_any (has_outer page) (filter (λ g. g.keeper == o.0) w.guards) ≡ true = filtered_any (has_outer page) (λ g. g.keeper == o.0) w.guards o.1 in
      (o.0, sym (told_outer o.0 page (books o.0)) ∙ (ap (list_any (has_outer page)) (sym (same.each o.0)) ∙ own))

  -- An outer page of a keeper's book is guarded in the text.
  outer_guarded : (k page : ℕ) → is_outer (books k) page ≡ true → is_guarded w page ≡ true
  outer_guarded k page h =
      any_weaker (λ g. (g.keeper == k) && has_outer page g) (has_outer page) w.guards (λ g both. and_second (g.keeper == k) (has_outer page g) both)
      (any_filtered (has_outer page) (λ g. g.keeper == k) w.guards (ap (list_any (has_outer page)) (same.each k) ∙ (told_outer k page (books k) ∙ h)))

  -- An unguarded page of the text is no outer page of any book.
  pub not_outer : (k page : ℕ) → is_guarded w page ≡ false → is_outer (books k) page ≡ false
  not_outer k page none = false_from_ne_true (is_outer (books k) page) (λ h. false≢true (sym none ∙ outer_guarded k page h))

  -- A page that is an outer one of no book is unguarded in the text.
  pub unguarded_by : (page : ℕ) → ((k : ℕ) → is_outer (books k) page ≡ false) → is_guarded w page ≡ false
  unguarded_by page none = false_from_ne_true (is_guarded w page) (λ h. let o = guarded_by page h in false≢true (sym (none o.0) ∙ o.1))

-- guards that are passed on
pub guards_as : (books : Books) (w v : World) → v.guards ≡ w.guards → AreSameGuards books w.guards → AreSameGuards books v.guards
guards_as books w v is same = subst (AreSameGuards books) (sym is) same

-- With the same guards up, an unguarded page stays so.
pub still_unguarded : (w v : World) (page : ℕ) → v.guards ≡ w.guards → is_guarded w page ≡ false → is_guarded v page ≡ false
still_unguarded w v page is none = ap (λ (gs : List Raised). list_any (has_outer page) gs) is ∙ none

-- ==== A grain is free in the text exactly where its bit is set or a guard has its page, and a page is kept exactly where an actor has its right: whenever all
-- actors are at rest.
-- ---- actors
-- an actor that is neither the scavenger nor past the last thread is a thread
thread_or : (f : Profile) (k : ℕ) → k ≢ 0 → (f.threads < k → ⊥) → IsThread f k
thread_or f k some few = search (arith, cases_lt)

-- the bit of grain b of a page, as one of the words that a search reads
-- the two orders of one sum
pub bit_read : (l : Whole) (page b : ℕ) → free_bit l (256 * page + b) ≡ free_of_page l page b
bit_read l page b = search arith

-- a free grain is held by nobody, and no live block has it
pub free_unheld : (f : Profile) (l : Whole) → IsValid f → Legal f l → (g : ℕ) → free_bit l g ≡ true → (k : ℕ) → holds (part k l) g ≡ false
free_unheld f l valid legal g free k = search (arith, in_one_place, true≢false)

-- A grain whose free bit is set is no part of a live block.
pub free_uncovered : (f : Profile) (l : Whole) → IsValid f → Legal f l → (g : ℕ) → free_bit l g ≡ true → (address : ℕ) (b : Live)
    → live_in (visible l) address ≡ Some b → IsPartOf g address b → ⊥
free_uncovered f l valid legal g free address b lives of = search (arith, in_one_place, true≢false)

module _ (f : Profile) (p : Progress) (between : IsBetween f p) where
  -- who holds a grain is an actor of the region, and so is who has a right
  pub holder_thread : (k g : ℕ) → holds (part k p.list) g ≡ true → IsThread f k
  holder_thread k g h = search (arith, thread_or, false≢true, no_other_actor)

  -- an actor holds the grains that its cache has, and those of the outer pages of its guards, and no others
  pub cached_held : (k g : ℕ) → IsThread f k → any_covers (p.caches k).locals g ≡ true → holds (part k p.list) g ≡ true
  cached_held k g is h = (between.rest.working k is).locals.grains g ∙ or_left (any_covers (p.caches k).locals g) (is_outer (p.books k) (g / 256)) h

  -- A keeper holds each grain of the outer pages of its guards.
  pub outer_held : (k g : ℕ) → is_outer (p.books k) (g / 256) ≡ true → holds (part k p.list) g ≡ true
  outer_held k g h = (between.rest.working k (search (arith, thread_or, false≢true))).locals.grains g ∙ or_right _ _ h

  -- A grain that an actor holds is of a slot that it caches or of an outer page of one of its guards.
  pub held_by : (k g : ℕ) → holds (part k p.list) g ≡ true → (any_covers (p.caches k).locals g ≡ true) ⊎ (is_outer (p.books k) (g / 256) ≡ true)
  held_by k g h = or_cases _ _ (sym ((between.rest.working k (holder_thread k g h)).locals.grains g) ∙ h)

  -- No actor has both a cached slot and a guard.
  pub never_both : (k g page : ℕ) → any_covers (p.caches k).locals g ≡ true → is_outer (p.books k) page ≡ true → ⊥
  never_both k g page cached outer = search (arith, thread_or, false≢true)

-- a grain that is held after an act whose actor keeps no guard was held before, where its cache had it then
pub held_still : (f : Profile) (p p' : Progress) → IsBetween f p → IsBetween f p' → p'.books ≡ p.books → (j g : ℕ)
    → (any_covers (p'.caches j).locals g ≡ true → any_covers (p.caches j).locals g ≡ true)
    → holds (part j p'.list) g ≡ true → holds (part j p.list) g ≡ true
held_still f p p' before after books j g fewer h = elim (held_by f p' after j g h) [
  | inl cached ↦ cached_held f p before j g (holder_thread f p' after j g h) (fewer cached)
  | inr outer ↦ outer_held f p before j g (ap (λ (bs : Books). is_outer (bs j) (g / 256)) (sym books) ∙ outer)
]

-- the block has this grain; it has one of the page; both
abbrev has_here : ℕ → Block → Bool
has_here g x = in_run (first_grain x.name) (length_of x) g

abbrev meets : ℕ → Block → Bool
meets page x = meets_page (first_grain x.name) (length_of x) page

abbrev has_on : ℕ → ℕ → Block → Bool
has_on page g x = meets page x && has_here g x

module _ (f : Profile) (p : Progress) (w : World) (valid : IsValid f) (between : IsBetween f p) (same : HasSame f p w) where
  -- ---- live blocks
  live_is : w.live ≡ lives_in (visible p.list)
  live_is = same.live ∙ ap lives_in same.events

  covered_none : (page g : ℕ) → ((address : ℕ) (b : Live) → live_in (visible p.list) address ≡ Some b → IsPartOf g address b → ⊥)
      → is_covered (blocks_on w page) g ≡ false
  covered_none page g none = false_from_ne_true (is_covered (blocks_on w page) g) (λ h.
      let any : list_any (has_on page g) (lives_in (visible p.list)) ≡ true =
      ap (list_any (has_on page g)) (sym live_is) ∙ any_filtered (has_here g) (meets page) w.live h in
      let o : LivesSo (visible p.list) (has_on page g) = lives_so f (visible p.list) (has_on page g) (runs f p.list valid between.legal) any in
      none o.address o.live o.lives
      (ap (λ (a : ℕ). in_run (a / 16) (length_of o.live.block) g) (sym o.at) ∙ and_second (meets page o.live.block) (has_here g o.live.block) o.so))

  covered_some : (page g address : ℕ) (b : Live) → g / 256 ≡ page → live_in (visible p.list) address ≡ Some b → IsPartOf g address b
      → is_covered (blocks_on w page) g ≡ true
  covered_some page g address b on lives is =
      let at : address_of b.block.name ≡ address = lives_where f (visible p.list) (runs f p.list valid between.legal) address b lives in
      let run : has_here g b.block ≡ true = ap (λ (a : ℕ). in_run (a / 16) (length_of b.block) g) at ∙ is in
      let meet : meets page b.block ≡ true =
      ap (meets_page (first_grain b.block.name) (length_of b.block)) (sym on) ∙ run_meets (first_grain b.block.name) (length_of b.block) g run in
      filtered_any (has_here g) (meets page) w.live (grind (arith, live_is, lives_listed))

  -- ---- caches
  cache_grains : (k page b : ℕ) → b < 256 → IsThread f k
      → list_any (has_grain page b) (cache_in w.caches k).locals ≡ any_covers (p.caches k).locals (256 * page + b)
  cache_grains k page b small is =
      grains_same f _ _ _ page b small (same.caches.each k is).locals (between.rest.working k is).locals.known

  cached_none : (page b : ℕ) → b < 256 → ((k : ℕ) → any_covers (p.caches k).locals (256 * page + b) ≡ true → IsThread f k → ⊥)
      → is_cached (locals_on w page) b ≡ false
  cached_none page b small nobody = false_from_ne_true (is_cached (locals_on w page) b) (λ h.
      let o : IsOfCache w.caches (has_grain page b) = of_cache w.caches (has_grain page b) (cached_any w.caches page b h) in
      let is : IsThread f o.k = (o.first, omega (arith, same.caches.few, o.last)) in
      nobody o.k (sym (cache_grains o.k page b small is) ∙ o.so) is)

  -- ---- guards: the grains of an outer page are its keeper's
  guarded_held : (page b : ℕ) → b < 256 → is_guarded w page ≡ true
      → (k : ℕ) × (is_outer (p.books k) page ≡ true) × (holds (part k p.list) (256 * page + b) ≡ true)
  guarded_held page b small h = search (arith, guarded_by, outer_held, on_page)

  -- ---- A GRAIN
  free_here : (page b : ℕ) → b < 256 → IsInOnePlace p.list (256 * page + b) → is_free w page b ≡ (free_bit p.list (256 * page + b) || is_guarded w page)
  free_here page b small (inl free) = search (arith, covered_none, cached_none, false≢true, cached_held)
  free_here page b small (inr (inl held)) =
      let h : holds (part held.actor p.list) (256 * page + b) ≡ true = held.holder held.actor ∙ eq-eqb held.actor held.actor refl in
      elim (held_by f p between held.actor (256 * page + b) h) [
        | inl cached ↦ in_cache cached
        | inr outer ↦ in_book (ap (is_outer (p.books held.actor)) (sym (on_page page b small)) ∙ outer)
      ]
    where
      alone : (j : ℕ) → holds (part j p.list) (256 * page + b) ≡ true → held.actor ≡ j
      alone j h = eqb-true held.actor j (sym (held.holder j) ∙ h)

      in_cache : any_covers (p.caches held.actor).locals (256 * page + b) ≡ true → is_free w page b ≡ (free_bit p.list (256 * page + b) || is_guarded w page)
      in_cache cached =
          let is : IsThread f held.actor = holder_thread f p between held.actor _ (held.holder held.actor ∙ eq-eqb held.actor held.actor refl) in
          let unguarded : is_guarded w page ≡ false = false_from_ne_true (is_guarded w page) (λ h.
          let o = guarded_held page b small h in never_both f p between held.actor _ page cached (rw (alone o.0 o.2) o.1)) in
          cc (
            any_cached w.caches page b (in_all w.caches held.actor (has_grain page b) (cache_grains held.actor page b small is ∙ cached)),
            and-false (not (is_covered (blocks_on w page) (256 * page + b))),
          )

      -- a keeper holds it: no block covers it, no cache has it, and its page is an outer one
      in_book : is_outer (p.books held.actor) page ≡ true → is_free w page b ≡ (free_bit p.list (256 * page + b) || is_guarded w page)
      in_book outer =
          grind (arith, covered_none, cached_none, never_both, cached_held, outer_guarded)
  free_here page b small (inr (inr covered)) =
      let unguarded = false_from_ne_true _ (λ h. let o = guarded_held page b small h in false≢true (sym (covered.nobody o.0) ∙ o.2)) in
      cc (covered_some page (256 * page + b) covered.address covered.block (on_page page b small) covered.lives covered.covered)

  -- A grain is free in the text exactly where its bit is set in the replay or a guard has its page.
  pub free_same : (page b : ℕ) → b < 256 → is_free w page b ≡ (free_bit p.list (256 * page + b) || is_guarded w page)
  free_same page b small = free_here page b small (in_one_place f p.list valid between.legal (256 * page + b))

  -- of a page that no guard has; and where the bit is set
  pub free_unless : (page b : ℕ) → b < 256 → is_guarded w page ≡ false → is_free w page b ≡ free_bit p.list (256 * page + b)
  free_unless page b small none = free_same page b small ∙ (ap (λ (t : Bool). free_bit p.list (256 * page + b) || t) none ∙ or-false _)

  -- On an unguarded page a grain is free in the text exactly where the replay reads it as free.
  pub read_unless : (page b : ℕ) → b < 256 → is_guarded w page ≡ false → is_free w page b ≡ free_of_page p.list page b
  read_unless page b small none = free_unless page b small none ∙ bit_read p.list page b

  -- A grain whose bit is set in the replay is free in the text.
  pub bit_free : (page b : ℕ) → b < 256 → free_bit p.list (256 * page + b) ≡ true → is_free w page b ≡ true
  bit_free page b small bit = free_same page b small ∙ or_left (free_bit p.list (256 * page + b)) (is_guarded w page) bit

  -- A page with a grain whose bit is set is no outer page of a guard.
  pub bit_unguarded : (page b : ℕ) → b < 256 → free_bit p.list (256 * page + b) ≡ true → is_guarded w page ≡ false
  bit_unguarded page b small bit =
      false_from_ne_true _ (λ h. let o = guarded_held page b small h in false≢true (sym (free_unheld f p.list valid between.legal _ bit o.0) ∙ o.2))

-- ==== Which pages the caches keep, in the text and in a replay.
-- a local allocator that keeps the page
abbrev keeps_page : ℕ → Local → Bool
keeps_page page l = (l.page == page) && l.keeps

all_kept : (slots : List Slots) (locals : List Local) (page : ℕ) → AreSameLocals slots locals → list_any (keeps_page page) locals ≡ any_keeps slots page
all_kept [] [] page same = refl
all_kept (s ∷ slots) (l ∷ locals) page same = search (arith, and_comm, all_kept slots locals page same.1)
all_kept slots locals page same = absurd same

module _ (f : Profile) (p : Progress) (w : World) (valid : IsValid f) (between : IsBetween f p) (same : HasSame f p w) where
  -- a page that is kept is in some thread's hands
  pub keeper : (page : ℕ) → is_kept w page ≡ true → (k : ℕ) × (has_right (part k p.list) page ≡ true)
  keeper page h =
      let o : IsOfCache w.caches (keeps_page page) = of_cache w.caches _ (any_filtered (λ l. l.keeps) (λ l. l.page == page) _ h) in
      (o.k, sym (search (arith, all_kept)) ∙ o.so)

  -- A page whose right some actor has is kept by a local allocator in the text.
  pub kept_by : (k page : ℕ) → has_right (part k p.list) page ≡ true → is_kept w page ≡ true
  kept_by k page h =
      let is : IsThread f k = search (arith, thread_or, false≢true, no_other_actor) in
      filtered_any (λ l. l.keeps) (λ l. l.page == page) (all_locals w.caches) (in_all w.caches k (keeps_page page)
      ((let it : list_any (keeps_page page) (cache_in w.caches k).locals ≡ has_right (part k p.list) page = search (arith, all_kept) in it) ∙ h))

  -- a page that isn't kept is in nobody's hands
  pub nobody_keeps : (page : ℕ) → is_kept w page ≡ false → NobodyHasRight p.list page
  nobody_keeps page h k = false_from_ne_true (has_right (part k p.list) page) (λ has. false≢true (sym h ∙ kept_by k page has))
