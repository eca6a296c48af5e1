-- WHAT THE TEXT DOES WHERE GRAINS COME BACK to pages, and where a block ends: which grains are free then, and which pages are hinted.
use Rattle.std.proofs.Common.{arith, ◌≡◌, ℕ, ◌==◌, Bool, true, false, not, List, [], ◌∷◌, ◌++◌, map, reverse, refl, ap, sym, ◌∙◌, append_assoc, append-nil}
use Rattle.std.proofs.Common.{true≢false, eq-eqb, eqb-true, zero, suc, ◌+◌, ◌<◌, ◌≤◌, ◌&&◌, ◌||◌, if◌then◌else◌, inl, inr, ◌*◌, nat_lt, length, Some}
use Rattle.std.proofs.lemmas.Bool.{or_parts}
use Rattle.pas_guard.specs.Books.{AreApart}
use Rattle.pas_same_text.{specs.{Pages.{each_of, is_free_of}, Guards.without_guard, Indexes.run_of}, proofs.Common.{Raised, nat_tests, list_any-append}}
use Rattle.pas_same_text.proofs.Common.{or-false, false≢true, or_cases, or_left, false_from_ne_true, cases_eq, and_from, list_any, filter, IsPage, grain_of}
use Rattle.pas_same_text.proofs.Common.{length_of, address_of, Profile, Block, Event, Name, Record, Said, is_outer_of, is_outer, Guard, World, each, Local}
use Rattle.pas_same_text.proofs.Common.{is_at, shows, noted_of, is_guarded, minds, is_free, is_empty, is_hinted, page_numbers, is_covered, is_cached, blocks_on}
use Rattle.pas_same_text.proofs.Common.{locals_on, lowers, raised_by, has_number, lives_in, notes, pages_of, ends_block, meets_page, in_run, backed_in, Run}
use Rattle.pas_same_text.proofs.{Common.{Live, live_in, numbers_from, same_truth, EndedRun}, FreeGrains.{has_outer, LivesSo, lives_so}, SmallActs.records_next}
use Rattle.pas_same_text.proofs.{CacheLists.{same_guards, minds_keep, all_locals, locals_with}, Tests.{and_first, and_second, any_filtered, filtered_any}}
use Rattle.pas_same_text.proofs.Tests.{any_weaker, any_split, filtered_has, has_filtered}

-- ==== What the text does where grains come back to pages: which grains are free then, and which pages are hinted.
-- ---- tests of numbers that follow each other
pub each_same : (n from : ℕ) (test other : ℕ → Bool) → ((b : ℕ) → from ≤ b → b < from + n → test b ≡ other b) → each_of from n test ≡ each_of from n other
unfolding each_of
each_same zero from test other agree = refl
each_same (suc n) from test other agree =
    ap (λ (t : Bool). t && each_of (from + 1) n test) (agree from (omega arith) (omega arith))
    ∙ ap (λ (t : Bool). other from && t) (each_same n (from + 1) test other (λ b low high. agree b (omega (arith, low)) (omega (arith, high))))

-- each number passes the one test that passes the other
each_more : (n from : ℕ) (test other : ℕ → Bool) → ((b : ℕ) → from ≤ b → b < from + n → test b ≡ true → other b ≡ true) → each_of from n test ≡ true
    → each_of from n other ≡ true
unfolding each_of
each_more zero from test other more h = refl
each_more (suc n) from test other more h =
    let own = more from (omega arith) (omega arith) in
    let ih = each_more n (from + 1) test other (λ b low high. more b (omega (arith, low)) (omega (arith, high))) in search (arith, and_first, and_second, and_from, own, ih)

-- .. at one of them, and at all
pub each_at : (n from b : ℕ) (test : ℕ → Bool) → each_of from n test ≡ true → from ≤ b → b < from + n → test b ≡ true
unfolding each_of
each_at zero from b test h low high = absurd (omega (arith, low, high))
each_at (suc n) from b test h low high = elim (cases_eq from b) [
  | inl same ↦ ap test (sym same) ∙ and_first (test from) (each_of (from + 1) n test) h
  | inr ne ↦ each_at n (from + 1) b test (and_second (test from) (each_of (from + 1) n test) h) (omega (arith, low, ne)) (omega (arith, high))
]

-- A test that each of several numbers in a row passes holds of them all.
pub each_all : (n from : ℕ) (test : ℕ → Bool) → ((b : ℕ) → from ≤ b → b < from + n → test b ≡ true) → each_of from n test ≡ true
unfolding each_of
each_all zero from test all = refl
each_all (suc n) from test all =
    and_from (test from) (each_of (from + 1) n test) (all from (omega arith) (omega arith))
    (each_all n (from + 1) test (λ b low high. all b (omega (arith, low)) (omega (arith, high))))

-- ---- what is free follows from the live blocks and the local allocators
abbrev pub free_with : List Block → List Local → ℕ → ℕ → Bool
free_with live locals page b = is_free_of (filter (λ x. meets_page (grain_of x.name) (length_of x) page) live) (filter (λ l. l.page == page) locals) page b

-- With the same live blocks and local allocators, the same grains of a page are free.
pub free_kept : (w v : World) (page b : ℕ) → v.live ≡ w.live → all_locals v.caches ≡ all_locals w.caches → is_free v page b ≡ is_free w page b
free_kept w v page b live locals =
    ap (λ (bs : List Block). free_with bs (all_locals v.caches) page b) live ∙ ap (λ (ls : List Local). free_with w.live ls page b) locals

-- A page with the same free grains is as empty as before.
pub empty_kept : (w v : World) (page : ℕ) → ((b : ℕ) → b < 256 → is_free v page b ≡ is_free w page b) → is_empty v page ≡ is_empty w page
empty_kept w v page same = each_same 256 0 (is_free v page) (is_free w page) (λ b low high. same b high)

-- ---- states that differ in hints alone
pub record OnlyHints (w v : World) : Type 0 where
  pub events : v.events ≡ w.events
  pub records : v.records ≡ w.records
  pub live : v.live ≡ w.live
  pub caches : v.caches ≡ w.caches
  pub indexes : v.indexes ≡ w.indexes
  pub names : v.names ≡ w.names
  pub epoch : v.epoch ≡ w.epoch
  pub read : v.read ≡ w.read

no_hints : (w : World) → OnlyHints w w
no_hints w = record { events = refl; records = refl; live = refl; caches = refl; indexes = refl; names = refl; epoch = refl; read = refl }

-- Minding several pages changes nothing of a state but hints.
pub all_only_hints : (pages : List ℕ) (w : World) → OnlyHints w (each minds pages w)
all_only_hints [] w = no_hints w
all_only_hints (page ∷ pages) w = search (arith, no_hints, all_only_hints pages (minds page w))

-- ---- a page that is backed and empty
abbrev pub is_idle : World → ℕ → Bool
is_idle w page = backed_in w.events page && is_empty w page

-- ---- which pages are hinted after pages were minded
hinted_all : (pages : List ℕ) (w : World) (q : ℕ) → is_hinted (each minds pages w) q ≡ (is_hinted w q || (has_number pages q && is_idle w q))
hinted_all [] w q = sym (or-false (is_hinted w q))
hinted_all (page ∷ pages) w q = search (arith, empty_kept, free_kept, no_hints, eqb-true, hinted_all pages (minds page w) q)

-- ==== GRAINS COME BACK to these pages: what was free stays so, on other pages nothing changes, and these pages are hinted where they are idle then
pub record Returns (f : Profile) (pages : List ℕ) (w v : World) : Type 0 where
  pub within : (page : ℕ) → has_number pages page ≡ true → IsPage f page
  pub backed : (page : ℕ) → backed_in v.events page ≡ backed_in w.events page
  pub grows : (page b : ℕ) → b < 256 → is_free w page b ≡ true → is_free v page b ≡ true
  pub others : (page b : ℕ) → IsPage f page → has_number pages page ≡ false → b < 256 → is_free v page b ≡ is_free w page b
  pub hinted : (page : ℕ) → is_hinted v page ≡ (is_hinted w page || (has_number pages page && is_idle v page))

idle_grows : (f : Profile) (pages : List ℕ) (w v : World) (page : ℕ) → Returns f pages w v → is_idle w page ≡ true → is_idle v page ≡ true
idle_grows f pages w v page r h =
    and_from (backed_in v.events page) (is_empty v page) (r.backed page ∙ and_first (backed_in w.events page) (is_empty w page) h)
    (each_more 256 0 (is_free w page) (is_free v page) (λ b low high. r.grows page b high) (and_second (backed_in w.events page) (is_empty w page) h))

-- Nothing that came back to no page is a return that leaves the state as it is.
pub returns_nothing : (f : Profile) (w : World) → Returns f [] w w
returns_nothing f w = search (arith, false≢true)

-- as far as nothing but what these tests read is the same
pub returns_like : (f : Profile) (pages : List ℕ) (w v x : World) → Returns f pages w v → x.events ≡ v.events → x.live ≡ v.live → x.hinted ≡ v.hinted
    → all_locals x.caches ≡ all_locals v.caches → Returns f pages w x
returns_like f pages w v x r events live hinted locals = search (arith, free_kept, empty_kept)

-- ---- one after the other
-- A number is in two lists together where it is in one of them.
pub has_both : (ps qs : List ℕ) (page : ℕ) → has_number (ps ++ qs) page ≡ (has_number ps page || has_number qs page)
has_both ps qs page = list_any-append (λ m. m == page) ps qs

module _ (f : Profile) (ps qs : List ℕ) (w v x : World) (a : Returns f ps w v) (b : Returns f qs v x) where
  -- Two returns of grains one after the other are one return to the pages of both.
  pub returns_then : Returns f (ps ++ qs) w x
  returns_then = search (arith, or_cases, or_parts, has_both, false≢true, idle_grows, empty_kept)

-- ---- the pages that are minded at the end
pub minded_last : (f : Profile) (pages : List ℕ) (w v : World) → ((page : ℕ) → has_number pages page ≡ true → IsPage f page)
    → ((page : ℕ) → backed_in v.events page ≡ backed_in w.events page)
    → ((page b : ℕ) → b < 256 → is_free w page b ≡ true → is_free v page b ≡ true)
    → ((page b : ℕ) → IsPage f page → has_number pages page ≡ false → b < 256 → is_free v page b ≡ is_free w page b) → v.hinted ≡ w.hinted
    → Returns f pages w (each minds pages v)
minded_last f pages w v within backed grows others hinted = search (arith, all_only_hints, free_kept, hinted_all, empty_kept)

-- ---- pages of the region
numbers_within : (n from page : ℕ) → has_number (numbers_from from n) page ≡ true → (from ≤ page) × (page < from + n)
numbers_within zero from page h = absurd (false≢true h)
numbers_within (suc n) from page h = let ih = numbers_within n (from + 1) page in search (arith, or_cases, eqb-true, ih)

numbers_have : (n from page : ℕ) → from ≤ page → page < from + n → has_number (numbers_from from n) page ≡ true
numbers_have zero from page low high = absurd (omega (arith, low, high))
numbers_have (suc n) from page low high = let ih = numbers_have n (from + 1) page in grind (arith, nat_tests, ih)

-- Each page of the region is among the numbers of its pages.
pub page_there : (f : Profile) (page : ℕ) → IsPage f page → has_number (page_numbers f) page ≡ true
page_there f page of = numbers_have f.pages 1 page of.0 (omega (arith, of.1))

-- ==== What the text does where a block ends: its grains come back to its pages, and no other page changes.
-- ---- a name without effect
-- ---- a block that ends
module _ (f : Profile) (k : ℕ) (name : Name) (b : Live) (w : World) (run : Run f w.events) (live : w.live ≡ lives_in w.events)
    (lives : live_in w.events (address_of name) ≡ Some b) where
  abbrev pub after : World
  after = notes k b.block (shows (Event.End k name w.epoch) w)

  -- it has the grain of the page
  abbrev has : ℕ → ℕ → Block → Bool
  has page g x = meets_page (grain_of x.name) (length_of x) page && in_run (grain_of x.name) (length_of x) (256 * page + g)

  -- what is noted then
  abbrev pub noted_then : List EndedRun
  noted_then = if nat_lt (length (noted_of w k)) 64 then noted_of w k ++ run_of (shows (Event.End k name w.epoch) w) b.block else noted_of w k

  -- What blocks cover afterwards they covered before.
  fewer : (page g : ℕ) → is_covered (blocks_on after page) (256 * page + g) ≡ true → is_covered (blocks_on w page) (256 * page + g) ≡ true
  fewer page g h = search (arith, filtered_any, any_weaker, and_second, any_filtered)

  -- On other pages they cover the same.
  elsewhere : (page g : ℕ) → IsPage f page → has_number (pages_of f b.block) page ≡ false → is_covered (blocks_on w page) (256 * page + g) ≡ true
      → is_covered (blocks_on after page) (256 * page + g) ≡ true
  elsewhere page g of none h =
      let p : Block → Bool = λ x. in_run (grain_of x.name) (length_of x) (256 * page + g) in
      let meets : Block → Bool = λ x. meets_page (grain_of x.name) (length_of x) page in
      elim (any_split _ _ w.live (any_filtered p meets w.live h)) [
        | inl here ↦ absurd (let o : LivesSo w.events (λ x. is_at (address_of name) x && has page g x) =
            lives_so f w.events (λ x. is_at (address_of name) x && has page g x) run
            (ap (list_any (λ x. is_at (address_of name) x && has page g x)) (sym live) ∙ here) in
            let at : address_of o.live.block.name ≡ address_of name = eqb-true _ _ (and_first _ _ o.so) in
            search (arith, and_first, and_second, has_filtered, page_there))
        | inr away ↦ filtered_any p meets _ (filtered_any _ (λ x. not (is_at (address_of name) x)) w.live away)
      ]

  cached_same : (page g : ℕ) → is_cached (locals_on after page) g ≡ is_cached (locals_on w page) g
  cached_same page g = simp locals_with

  -- by cases on what is covered
  freed_more : (x y c : Bool) → (y ≡ true → x ≡ true) → (not x && c) ≡ true → (not y && c) ≡ true
  freed_more x y c more h = search arith

  -- Where a block ends, its grains come back to its pages, and no other page changes.
  pub ended_returns : Returns f (pages_of f b.block) w (ends_block f k name b.block w)
  ended_returns = minded_last f (pages_of f b.block) w after
      (λ page h. let at = numbers_within f.pages 1 page (filtered_has (meets_page (grain_of b.block.name) (length_of b.block)) (page_numbers f) page h).1 in
      (at.0, omega (arith, at.1)))
      (λ page. refl)
      (λ page g small h.
      cc (cached_same page g, freed_more _ _ _ (fewer page g) h))
      (λ page g of none small.
      cc (cached_same page g, same_truth _ _ (fewer page g) (elsewhere page g of none)))
      refl

-- ==== GUARDS ARE LOWERED in the text: their outer pages are anybody's again, and nothing else changes but hints.
-- ---- which pages come back, what is said, and which guards are left
abbrev pub outer_pages : List Raised → List ℕ
outer_pages [] = []
outer_pages (g ∷ gs) = g.guard.low ∷ g.guard.high ∷ outer_pages gs

abbrev pub lowered_line : Raised → Record
lowered_line g = Record.Said g.keeper (Said.Lowered g.guard.low g.guard.high)

abbrev pub said_onto : List Raised → List Record → List Record
said_onto [] rs = rs
said_onto (g ∷ gs) rs = said_onto gs (lowered_line g ∷ rs)

abbrev pub without : ℕ → List Raised → List Raised
without low gs = filter (λ h. not (h.guard.low == low)) gs

abbrev pub without_all : List Raised → List Raised → List Raised
without_all [] gs = gs
without_all (g ∷ downs) gs = without_all downs (without g.guard.low gs)

abbrev pub AreOfRegion : Profile → List Raised → Type 0
AreOfRegion f [] = Unit {0}
AreOfRegion f (g ∷ gs) = IsPage f g.guard.low × IsPage f g.guard.high × AreOfRegion f gs

-- these guards were lowered, in order
pub record AreLowered (f : Profile) (downs : List Raised) (w v : World) : Type 0 where
  pub events : v.events ≡ w.events
  pub records : v.records ≡ said_onto downs w.records
  pub live : v.live ≡ w.live
  pub caches : v.caches ≡ w.caches
  pub names : v.names ≡ w.names
  pub epoch : v.epoch ≡ w.epoch
  pub read : v.read ≡ w.read
  pub guards : v.guards ≡ without_all downs w.guards
  pub returns : Returns f (outer_pages downs) w v

module _ (f : Profile) (g : Raised) (w : World) (low : IsPage f g.guard.low) (high : IsPage f g.guard.high) where
  abbrev bare : World
  bare = without_guard g w

  abbrev minded : World
  minded = minds g.guard.high (minds g.guard.low bare)

  one_guards : (lowers g w).guards ≡ without g.guard.low w.guards
  one_guards = same_guards (minds g.guard.low bare) minded (minds_keep g.guard.high (minds g.guard.low bare)) ∙ same_guards bare (minds g.guard.low bare) (minds_keep g.guard.low bare)

  one_returns : Returns f (g.guard.low ∷ g.guard.high ∷ []) w (lowers g w)
  one_returns = returns_like f _ w minded _ (minded_last f _ w bare (λ page h. search (arith, or_cases, eqb-true)) (λ page. refl) (λ page b small h. h)
      (λ page b of none small. refl) refl) refl refl refl refl

  lowered_then : (downs : List Raised) (v : World) → AreLowered f downs (lowers g w) v → AreLowered f (g ∷ downs) w v
  lowered_then downs v more =
      let returns = returns_then f (g.guard.low ∷ g.guard.high ∷ []) (outer_pages downs) w (lowers g w) v one_returns more.returns in
      search (arith, (all_only_hints (g.guard.low ∷ g.guard.high ∷ []) bare), one_guards, returns)

-- Guards lowered one after the other give their outer pages back, and change nothing else but hints.
pub all_lowered : (f : Profile) (downs : List Raised) (w : World) → AreOfRegion f downs → AreLowered f downs w (each lowers downs w)
all_lowered f [] w of = assumption (returns_nothing f w)
all_lowered f (g ∷ downs) w of = lowered_then f g w of.0 of.1 downs (each lowers downs (lowers g w)) (all_lowered f downs (lowers g w) of.2)

-- ---- records
pub said_reversed : (downs : List Raised) (rs ws : List Record) → rs ≡ reverse ws → rs ++ map lowered_line downs ≡ reverse (said_onto downs ws)
said_reversed [] rs ws is = append-nil rs ∙ is
said_reversed (g ∷ downs) rs ws is =
    sym (append_assoc rs (lowered_line g ∷ []) (map lowered_line downs))
    ∙ said_reversed downs (rs ++ lowered_line g ∷ []) (lowered_line g ∷ ws) (records_next rs ws (lowered_line g) is)

-- ---- no page becomes guarded
fewer_any : (p q : Raised → Bool) (gs : List Raised) → list_any p (filter q gs) ≡ true → list_any p gs ≡ true
fewer_any p q [] h = h
fewer_any p q (g ∷ gs) h = let ih = fewer_any p q gs in grind (arith, ih)

less_guarded : (downs gs : List Raised) (page : ℕ) → list_any (has_outer page) (without_all downs gs) ≡ true → list_any (has_outer page) gs ≡ true
less_guarded [] gs page h = h
less_guarded (g ∷ downs) gs page h = fewer_any (has_outer page) (λ x. not (x.guard.low == g.guard.low)) gs (less_guarded downs (without g.guard.low gs) page h)

-- A page that no guard has stays so when guards are lowered.
pub lowered_unguarded : (f : Profile) (downs : List Raised) (w v : World) (page : ℕ) → AreLowered f downs w v → is_guarded w page ≡ false
    → is_guarded v page ≡ false
lowered_unguarded f downs w v page lowered none = search (arith, false_from_ne_true, false≢true, less_guarded)

-- ---- the guards of each keeper that are left
swapped : (p q : Raised → Bool) (gs : List Raised) → filter p (filter q gs) ≡ filter q (filter p gs)
swapped p q [] = refl
swapped p q (g ∷ gs) = let ih = swapped p q gs in grind (arith, ih)

pub swapped_all : (p : Raised → Bool) (downs gs : List Raised) → filter p (without_all downs gs) ≡ without_all downs (filter p gs)
swapped_all p [] gs = refl
swapped_all p (g ∷ downs) gs = swapped_all p downs (without g.guard.low gs) ∙ ap (without_all downs) (swapped p (λ x. not (x.guard.low == g.guard.low)) gs)

-- those of which the page is no outer one stay
none_lost : (k low : ℕ) (gs : List Guard) → is_outer gs low ≡ false → without low (map (raised_by k) gs) ≡ map (raised_by k) gs
none_lost k low [] none = refl
none_lost k low (g ∷ gs) none = let ih = none_lost k low gs in search (arith, true≢false, ih)

-- lows of other keepers' guards take none out
pub others_stay : (k keeper : ℕ) (fallen gs : List Guard) → ((low : ℕ) → is_outer fallen low ≡ true → is_outer gs low ≡ false)
    → without_all (map (raised_by keeper) fallen) (map (raised_by k) gs) ≡ map (raised_by k) gs
others_stay k keeper [] gs none = refl
others_stay k keeper (g ∷ fallen) gs none =
    let ih = others_stay k keeper fallen gs in search (arith, none_lost, or_left, eq-eqb, ih)

-- ---- of the keeper itself: those are left that don't pass the test
-- An outer page of some chosen guards of a book is one of the book.
pub some_outer : (t : Guard → Bool) (gs : List Guard) (page : ℕ) → is_outer (filter t gs) page ≡ true → is_outer gs page ≡ true
some_outer t [] page h = h
some_outer t (g ∷ gs) page h = let ih = some_outer t gs page in grind (arith, ih)

not_some : (t : Guard → Bool) (gs : List Guard) (page : ℕ) → is_outer gs page ≡ false → is_outer (filter t gs) page ≡ false
not_some t gs page none = false_from_ne_true (is_outer (filter t gs) page) (λ h. false≢true (sym none ∙ some_outer t gs page h))

-- an outer page of the first is none of the others
first_apart : (g : Guard) (gs : List Guard) (page : ℕ) → AreApart (g ∷ gs) → is_outer_of g page ≡ true → is_outer gs page ≡ false
first_apart g gs page apart h = search (arith, or_cases, eqb-true)

-- An outer page of the chosen guards of a book whose guards are apart is none of the others.
pub apart_split : (t : Guard → Bool) (gs : List Guard) (page : ℕ) → AreApart gs → is_outer (filter t gs) page ≡ true
    → is_outer (filter (λ g. not (t g)) gs) page ≡ false
apart_split t [] page apart h = absurd (false≢true h)
apart_split t (g ∷ gs) page apart h =
    grind (arith, (apart_split t gs page apart.2), first_apart g gs page apart, some_outer t gs page, some_outer (λ x. not (t x)) gs page)

-- a guard whose low page is none of theirs stays before them
first_stays : (k keeper : ℕ) (g : Guard) (fallen : List Guard) (gs : List Raised) → is_outer fallen g.low ≡ false
    → without_all (map (raised_by keeper) fallen) (raised_by k g ∷ gs) ≡ raised_by k g ∷ without_all (map (raised_by keeper) fallen) gs
first_stays k keeper g [] gs none = refl
first_stays k keeper g (d ∷ fallen) gs none = let ih = first_stays k keeper g fallen (without d.low gs) in grind (arith, nat_tests, ih)

-- Without the chosen guards of a book, the others of it are left in their order.
pub own_left : (k : ℕ) (t : Guard → Bool) (gs : List Guard) → AreApart gs
    → without_all (map (raised_by k) (filter t gs)) (map (raised_by k) gs) ≡ map (raised_by k) (filter (λ g. not (t g)) gs)
own_left k t [] apart = refl
own_left k t (g ∷ gs) apart = search (arith, eq-eqb, none_lost, first_stays, not_some, own_left k t gs apart.2)

-- ---- of all keepers, where these guards of one are lowered
-- ---- the outer pages, as numbers
pub outer_number : (k : ℕ) (gs : List Guard) (page : ℕ) → is_outer gs page ≡ true → has_number (outer_pages (map (raised_by k) gs)) page ≡ true
outer_number k [] page h = h
outer_number k (g ∷ gs) page h = let ih = outer_number k gs page in search (arith, or_cases, or_left, ih)
