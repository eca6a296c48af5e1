-- What every run of the machine keeps about its live blocks, and what holds of each number of a range.
use Rattle.std.proofs.Common.{ℕ, ◌≢◌, ◌+◌, arith, ◌≡◌, ◌/◌, ◌%◌, ◌<◌, ◌==◌, Bool, true, false, if◌then◌else◌, List, [], ◌∷◌, Option, Some, None, refl, ap, sym}
use Rattle.std.proofs.{Common.{◌∙◌, eqb-true}, lemmas.{Bool.{Decides.eqb_tells, false≢true}, Option.{none-some, same_Some}}}
use Rattle.pas_machine.specs.{Places.IsEach, Machine.{Run, MayGive, Bears}, State.{Live, live_in, gives_in, ends_in, deed_in, backed_in}, Laws.AreApart}
use Rattle.pas_machine.specs.Laws.{IsWhere, IsCounted, AreCounted, AreBorne}
use Rattle.pas_profile.specs.{declared.{profile.Profile.Profile, directory.Directory.Directory, name.Block.Block, event.Event.Event}, Blocks.address_of}
use Rattle.pas_profile.specs.Blocks.{grain_of, length_of}
use Rattle.pas_bits.{specs.Runs.in_run, proofs.Runs.{first_of_run, run_meets}}

-- What is so of each number of a range, and of the next one, is so of the range up to that.
pub each_more : (from until : ℕ) (P : ℕ → Type 0) → IsEach from until P → P until → IsEach from (until + 1) P
each_more from until P before last n low high = search (arith, eqb_tells)

-- ---- what holds of each block that is given holds of each live block
ended_if : (P : Live → Type 0) (t : Bool) (old : Option Live) (b : Live) → ((b : Live) → old ≡ Some b → P b) → (if t then None else old) ≡ Some b → P b
ended_if P t old b before h = grind (arith, none-some)

each_live : (f : Profile) (P : ℕ → Live → Type 0)
    → ((es : List Event) (k : ℕ) (block : Block) → MayGive f es block → P (address_of block.name) (record { actor = k; block = block }))
    → (es : List Event) → Run f es → (a : ℕ) (b : Live) → live_in es a ≡ Some b → P a b
each_live f P new [] run a b h = absurd (none-some _ h)
each_live f P new (Event.Give k block ∷ es) run a b h = let rest = each_live f P new es run.1 a in grind (arith, rest, same_Some, eqb-true)
each_live f P new (Event.End k name e ∷ es) run a b h = ended_if (P a) (address_of name == a) (live_in es a) b (each_live f P new es run.1 a) h
each_live f P new (e ∷ es) run a b h = each_live f P new es run.1 a b h

-- it lives at its own address, and has a grain
pub lives_where : (f : Profile) (es : List Event) → Run f es → IsWhere es
lives_where f es run a b h = each_live f (λ a b. address_of b.block.name ≡ a) (λ es k block may. refl) es run a b h

-- In every run each live block has some grains.
pub live_long : (f : Profile) (es : List Event) → Run f es → (a : ℕ) (b : Live) → live_in es a ≡ Some b → 0 < length_of b.block
live_long f = each_live f (λ a b. 0 < length_of b.block) (λ es k block may. let room : 0 < block.room = may.some in let whole : block.room % 16 ≡ 0 = may.whole in omega (arith, room, whole))

-- ---- live blocks are apart
-- the run of a block that was just given is clear of an old one, and the other way round
clear_other : (g n c m : ℕ) → ((x : ℕ) → in_run c m x ≡ true → in_run g n x ≡ false) → (x : ℕ) → in_run g n x ≡ true → in_run c m x ≡ false
clear_other g n c m clear x h = other (in_run c m x) refl
  where
    other : (t : Bool) → in_run c m x ≡ t → in_run c m x ≡ false
    other true e = absurd (false≢true (sym (clear x e) ∙ h))
    other false e = e

apart_give : (t u : Bool) (a c k : ℕ) (block : Block) (old old' : Option Live) (b d : Live) → (address_of block.name == a) ≡ t
    → (address_of block.name == c) ≡ u
    → ((b : Live) → old ≡ Some b → (x : ℕ) → in_run (a / 16) (length_of b.block) x ≡ true → in_run (grain_of block.name) (length_of block) x ≡ false)
    → ((d : Live) → old' ≡ Some d → (x : ℕ) → in_run (c / 16) (length_of d.block) x ≡ true → in_run (grain_of block.name) (length_of block) x ≡ false)
    → ((b d : Live) → old ≡ Some b → old' ≡ Some d → (x : ℕ) → in_run (a / 16) (length_of b.block) x ≡ true → in_run (c / 16) (length_of d.block) x ≡ false)
    → (if t then Some (record { actor = k; block = block }) else old) ≡ Some b → (if u then Some (record { actor = k; block = block }) else old') ≡ Some d
    → a ≢ c
    → (x : ℕ) → in_run (a / 16) (length_of b.block) x ≡ true → in_run (c / 16) (length_of d.block) x ≡ false
apart_give t u a c k block old old' b d e e' first second before h h' ne x = grind (arith, eqb-true, same_Some, clear_other)

apart_end : (t u : Bool) (a c : ℕ) (old old' : Option Live) (b d : Live)
    → ((b d : Live) → old ≡ Some b → old' ≡ Some d → (x : ℕ) → in_run (a / 16) (length_of b.block) x ≡ true → in_run (c / 16) (length_of d.block) x ≡ false)
    → (if t then None else old) ≡ Some b → (if u then None else old') ≡ Some d → (x : ℕ) → in_run (a / 16) (length_of b.block) x ≡ true
    → in_run (c / 16) (length_of d.block) x ≡ false
apart_end t u a c old old' b d before h h' = grind (arith, none-some)

-- In every run live blocks have no grain in common.
pub live_apart : (f : Profile) (es : List Event) → Run f es → AreApart es
live_apart f [] run a c b d h h' ne = absurd (none-some _ h)
live_apart f (Event.Give k block ∷ es) run a c b d h h' ne = apart_give (address_of block.name == a) (address_of block.name == c) a c k block (live_in es a)
    (live_in es c) b d refl refl (λ l o. run.0.clear a l o) (λ l o. run.0.clear c l o) (λ l l' o o'. live_apart f es run.1 a c l l' o o' ne) h h' ne
live_apart f (Event.End k name e ∷ es) run a c b d h h' ne = apart_end (address_of name == a) (address_of name == c) a c (live_in es a) (live_in es c) b d (λ l l' o o'. live_apart f es run.1 a c l l' o o' ne) h h'
live_apart f (e ∷ es) run a c b d h h' ne = live_apart f es run.1 a c b d h h' ne

-- ---- gives, ends and turns
counted_give : (t : Bool) (a k : ℕ) (block : Block) (old : Option Live) (gives ends : ℕ) → (t ≡ true → old ≡ None) → (t ≡ true → block.name.turn ≡ gives)
    → IsCounted old gives ends
    → IsCounted (if t then Some (record { actor = k; block = block }) else old) (if t then gives + 1 else gives) ends
counted_give t a k block old gives ends none turn before = grind (arith, none-some)

counted_end : (t : Bool) (old : Option Live) (gives ends : ℕ) → (t ≡ true → (b : Live) × (old ≡ Some b)) → IsCounted old gives ends
    → IsCounted (if t then None else old) gives (if t then ends + 1 else ends)
counted_end t old gives ends some before = grind (arith, none-some)

-- a block may be given only where none lives
pub no_block : (f : Profile) (es : List Event) (block : Block) (a : ℕ) (o : Option Live) → live_in es a ≡ o → MayGive f es block → address_of block.name ≡ a
    → ((b : Live) → o ≡ Some b → 0 < length_of b.block) → o ≡ None
no_block f es block a None is may e some = refl
no_block f es block a (Some b) is may e some =
    let positive : 0 < length_of b.block = some b refl in
    let own : in_run (a / 16) (length_of b.block) (a / 16) ≡ true = first_of_run (a / 16) (length_of b.block) positive in
    let long : 0 < length_of block = omega (arith, may.some, may.whole) in
    let here : in_run (grain_of block.name) (length_of block) (a / 16) ≡ true = simp (e, first_of_run) in
    absurd (false≢true (sym (may.clear a b is (a / 16) own) ∙ here))

-- In every run as many blocks were given at an address as ended there and live there.
pub all_counted : (f : Profile) (es : List Event) → Run f es → AreCounted es
all_counted f [] run a = refl
all_counted f (Event.Give k block ∷ es) run a = counted_give (address_of block.name == a) a k block (live_in es a) (gives_in es a) (ends_in es a)
    (λ t. no_block f es block a (live_in es a) refl run.0 (eqb-true (address_of block.name) a t) (live_long f es run.1 a))
    (λ t. run.0.turn ∙ ap (gives_in es) (eqb-true (address_of block.name) a t)) (all_counted f es run.1 a)
all_counted f (Event.End k name e ∷ es) run a = let rest = all_counted f es run.1 a in grind (arith, rest, counted_end, eqb-true)
all_counted f (e ∷ es) run a = all_counted f es run.1 a

-- ---- the pages under a live block
-- what bears goes on bearing where the page's deed and backing stay
same_deed : (t : Bool) (d d' : Directory) (old : Option Directory) → (t ≡ true → old ≡ None) → old ≡ Some d' → (if t then Some d else old) ≡ Some d'
same_deed t d d' old none is = grind (arith, none-some)

-- A page that is backed stays so when one is backed.
stays_backed : (t old : Bool) → old ≡ true → (if t then true else old) ≡ true
stays_backed t old h = grind arith

-- A page that is backed stays so when another's backing ends.
not_unbacked : (t old : Bool) → (t ≡ true → ⊥) → old ≡ true → (if t then false else old) ≡ true
not_unbacked t old h e = grind arith

borne_if : (f : Profile) (es es' : List Event) (t : Bool) (a k : ℕ) (block : Block) (old : Option Live) (b : Live) → (address_of block.name == a) ≡ t
    → ((x : ℕ) → in_run (grain_of block.name) (length_of block) x ≡ true → Bears f es' block.heap (x / 256))
    → ((b : Live) → old ≡ Some b → (x : ℕ) → in_run (a / 16) (length_of b.block) x ≡ true → Bears f es' b.block.heap (x / 256))
    → (if t then Some (record { actor = k; block = block }) else old) ≡ Some b → (x : ℕ) → in_run (a / 16) (length_of b.block) x ≡ true
    → Bears f es' b.block.heap (x / 256)
borne_if f es es' t a k block old b e new before h x r = grind (arith, same_Some, eqb-true)

-- a page goes on bearing where its deed and its backing are as they were
still_bears : (f : Profile) (es es' : List Event) (heap page : ℕ) (old : Bears f es heap page) → deed_in es' page ≡ Some old.directory
    → backed_in es' page ≡ true → Bears f es' heap page
still_bears f es es' heap page old deed backed = record { exists = old.exists; directory = old.directory; deed = deed; of_heap = old.of_heap; backed = backed }

-- In every run the pages of a live block are backed and of its heap.
pub all_borne : (f : Profile) (es : List Event) → Run f es → AreBorne f es
all_borne f [] run a b h x r = absurd (none-some _ h)
all_borne f (Event.Deed k p d ∷ es) run a b h x r =
    let rest = all_borne f es run.1 a b h x r in grind (arith, rest, still_bears, same_deed, eqb-true)
all_borne f (Event.Back k p ∷ es) run a b h x r =
    let rest = all_borne f es run.1 a b h x r in grind (arith, rest, still_bears, stays_backed)
all_borne f (Event.Unback k p e ∷ es) run a b h x r =
    let rest = all_borne f es run.1 a b h x r in grind (arith, rest, lives_where, run_meets, still_bears, not_unbacked, false≢true, eqb-true)
all_borne f (Event.Give k block ∷ es) run a b h x r = borne_if f es (Event.Give k block ∷ es) (address_of block.name == a) a k block (live_in es a) b refl
    (λ y q. let old = run.0.bears y q in still_bears f es (Event.Give k block ∷ es) block.heap (y / 256) old old.deed old.backed)
    (λ l o y q. let old = all_borne f es run.1 a l o y q in still_bears f es (Event.Give k block ∷ es) l.block.heap (y / 256) old old.deed old.backed) h x r
all_borne f (Event.End k name e ∷ es) run a b h x r =
    let old : Bears f es b.block.heap (x / 256) = ended_if (λ (l : Live). in_run (a / 16) (length_of l.block) x ≡ true → Bears f es l.block.heap (x / 256))
    (address_of name == a) (live_in es a) b (λ l o q. all_borne f es run.1 a l o x q) h r in
    still_bears f es (Event.End k name e ∷ es) b.block.heap (x / 256) old old.deed old.backed
all_borne f (Event.Reject k name why ∷ es) run a b h x r =
    let rest = all_borne f es run.1 a b h x r in grind (arith, rest, still_bears)
