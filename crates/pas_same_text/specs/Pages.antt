-- WHAT GRAINS AND PAGES ARE in a state. Grain b of a page is one of its 256, from 0 on.
use Rattle.std.specs.{Prelude.{ℕ, zero, suc, ◌+◌, ◌*◌, ◌==◌, Bool, true, false, not, ◌&&◌, ◌||◌, List, ◌∷◌, Option, None, Some, if◌then◌else◌}, List.list_any}
use Rattle.std.specs.List.{flat_map, filter}
use Rattle.pas_profile.specs.{Classes.class_grains, Directories.number_of, Blocks.{grain_of, length_of}, declared.directory.Directory.Directory}
use Rattle.pas_profile.specs.declared.{name.Block.Block, profile.Profile.Profile}
use Rattle.pas_bits.specs.Runs.{in_run, meets_page}
use Rattle.pas_machine.specs.State.{deed_in, backed_in}
use Rattle.pas_steps.specs.Views.{usable_by_kind}
use Rattle.pas_trace.specs.Acts.{numbers_from}
use Rattle.pas_same_text.specs.State.{Local, World}

-- the pages of the region, in order
abbrev pub page_numbers : Profile → List ℕ
page_numbers f = numbers_from 1 f.pages

-- each of n numbers from this one on passes the test
unfoldable pub each_of : ℕ → ℕ → (ℕ → Bool) → Bool
each_of from zero test = true
each_of from (suc n) test = test from && each_of (from + 1) n test

-- ---- grains
-- the live blocks with a grain on the page, and the local allocators of the page in all caches
abbrev pub blocks_on : World → ℕ → List Block
blocks_on w page = filter (λ b. meets_page (grain_of b.name) (length_of b) page) w.live

abbrev pub locals_on : World → ℕ → List Local
locals_on w page = filter (λ l. l.page == page) (flat_map (λ c. c.locals) w.caches)

-- one of these blocks covers the grain of the region; a slot of one of these local allocators has the grain of their page
abbrev pub is_covered : List Block → ℕ → Bool
is_covered blocks g = list_any (λ b. in_run (grain_of b.name) (length_of b) g) blocks

abbrev pub is_cached : List Local → ℕ → Bool
is_cached locals b = list_any (λ l. list_any (λ s. in_run s (class_grains l.class) b) l.slots) locals

-- FREE: neither a live block nor a cache has the grain
abbrev pub is_free_of : List Block → List Local → ℕ → ℕ → Bool
is_free_of blocks locals page b = not (is_covered blocks (256 * page + b)) && not (is_cached locals b)

abbrev pub is_free : World → ℕ → ℕ → Bool
is_free w page = is_free_of (blocks_on w page) (locals_on w page) page

-- the n grains of the page from this one on are free
abbrev pub are_free : World → ℕ → ℕ → ℕ → Bool
are_free w page from n = each_of from n (is_free w page)

-- EMPTY: all grains of the page are free
abbrev pub is_empty : World → ℕ → Bool
is_empty w page = are_free w page 0 256

-- ---- deeds
abbrev pub is_none : {A : Type 0} → Option A → Bool
is_none None = true
is_none (Some x) = false

-- nobody has the page yet
abbrev pub is_unowned : World → ℕ → Bool
is_unowned w page = is_none (deed_in w.events page)

abbrev pub is_same : Directory → Option Directory → Bool
is_same d None = false
is_same d (Some e) = number_of e == number_of d

-- the page is one of the directory: it belongs to its heap, for blocks of its kind
abbrev pub is_of : World → Directory → ℕ → Bool
is_of w d page = is_same d (deed_in w.events page)

-- ---- who may take of a page
-- KEPT: some thread's local allocator keeps the page
abbrev pub is_kept : World → ℕ → Bool
is_kept w page = list_any (λ l. l.keeps) (locals_on w page)

-- a grain is free that a block of the directory may cover
abbrev pub has_room : World → Directory → ℕ → Bool
has_room w d page = not (each_of 0 256 (λ b. not (usable_by_kind d.kind b && is_free w page b)))

-- GUARDED: the page is an outer one of a guard that is up, whose keeper has all its grains
abbrev pub is_guarded : World → ℕ → Bool
is_guarded w page = list_any (λ r. (r.guard.low == page) || (r.guard.high == page)) w.guards

-- OFFERED by its directory: nobody keeps the page, no guard has it, and it has room
abbrev pub is_offered : World → Directory → ℕ → Bool
is_offered w d page = is_of w d page && (not (is_kept w page) && (not (is_guarded w page) && has_room w d page))

-- ---- hints
abbrev pub is_hinted : World → ℕ → Bool
is_hinted w page = list_any (λ p. p == page) w.hinted

-- HINTED: when grains came back to a page, and it is backed and empty then, a pass will look at it
abbrev pub hints : ℕ → World → World
hints page w = if is_hinted w page then w else record w { hinted = page ∷ w.hinted }

abbrev pub minds : ℕ → World → World
minds page w = if backed_in w.events page && is_empty w page then hints page w else w

abbrev pub unhints : ℕ → World → World
unhints page w = record w { hinted = filter (λ p. not (p == page)) w.hinted }
