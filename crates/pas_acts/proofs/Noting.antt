-- What the names stand for to a thread, by the places of its requests; and those places, one after the other.
use Rattle.std.proofs.Common.{if◌then◌else◌, [], ◌≡◌, ℕ, zero, suc, ◌+◌, ◌<◌, ◌≤◌, ◌==◌, Bool, true, false, List, ◌∷◌, ◌++◌, map, get_or, length, Option, Some}
use Rattle.std.proofs.Common.{None, refl, ap, sym, ◌∙◌, subst, arith, append_assoc, append-nil, ne_eqb, eq-eqb, ◌≢◌, ◌||◌, take, replicate, length-append}
use Rattle.std.proofs.{Common.{length-take, true≢false, drop}, lemmas.List.{take_more, get_or-replicate, length-replicate, get_or_past}}
use Rattle.pas_acts.proofs.Common.{cases_eq, false≢true, cases_lt, or_parts, drop_more, Block, Profile, What, Op, Request as Asking, Act, act_kept, own_acts}
use Rattle.pas_acts.proofs.Common.{is_asked, asked_with, asked_after, asked_by, AreSound, Named, named, standing_for, block_behind, MayStand, named_with}
use Rattle.pas_acts.{proofs.Common.{AreBelow, name_asked, names_asked, names_of, ArePlaced, named_of, came_to, NameBook}, specs.NameBooks.name_asked_by}
use Rattle.pas_acts.specs.{NameBooks.{place_in, request_at, AreWithin}, declared.names.Request.Request}
use Rattle.pas_answers.specs.{Fit.IsBelow, Names.block_in}
use Rattle.pas_trace.specs.EveryPlan.{IsSoundWhat}

-- ---- names in order
abbrev or_else : Option (Option Block) → Option (Option Block) → Option (Option Block)
or_else None p = p
or_else (Some b) p = Some b

-- by the test, and by whether there is one before
if_else : (t : Bool) (b : Option Block) (o p q : Option (Option Block)) → q ≡ or_else o p → (if t then Some b else q) ≡ or_else (if t then Some b else o) p
if_else a b o p q is = search arith

standing_both : (xs ys : List Named) (n : ℕ) → standing_for (xs ++ ys) n ≡ or_else (standing_for xs n) (standing_for ys n)
standing_both [] ys n = refl
standing_both (x ∷ xs) ys n = if_else (x.name == n) x.block (standing_for xs n) (standing_for ys n) (standing_for (xs ++ ys) n) (standing_both xs ys n)

-- The names of two lists are those of both, one after the other.
pub names_both : (xs ys : List Named) → names_of (xs ++ ys) ≡ names_of xs ++ names_of ys
names_both [] ys = refl
names_both (x ∷ xs) ys = ap (λ (ns : List ℕ). x.name ∷ ns) (names_both xs ys)

-- There are as many names as what they stand for.
pub names_count : (xs : List Named) → length (names_of xs) ≡ length xs
names_count [] = refl
names_count (x ∷ xs) = let rest = names_count xs in omega (arith, rest)

-- The names that two lists of acts ask for are those of both, one after the other.
pub asked_both : (xs ys : List Act) → names_asked (xs ++ ys) ≡ names_asked xs ++ names_asked ys
asked_both [] ys = refl
asked_both (x ∷ xs) ys = ap (λ (ns : List ℕ). name_asked_by x ++ ns) (asked_both xs ys) ∙ sym (append_assoc (name_asked_by x) (names_asked xs) (names_asked ys))

-- an operation's act asks for the same, whether it is guarded or not
pub kept_asks : (o : Option ℕ) (op : Op) → name_asked_by (act_kept o op) ≡ name_asked op.what
kept_asks a op = search arith

-- ---- places
pub placed_both : (book : NameBook) (i : ℕ) (xs ys : List ℕ) → ArePlaced book i (xs ++ ys) → ArePlaced book i xs × ArePlaced book (i + length xs) ys
placed_both book i [] ys placed = (tt, subst (λ (j : ℕ). ArePlaced book j ys) (omega arith) placed)
placed_both book i (x ∷ xs) ys placed =
    let rest = placed_both book (i + 1) xs ys placed.1 in grind (arith, rest)

-- Names that have their places, and others that have those behind them, have their places together.
placed_all : (book : NameBook) (i : ℕ) (xs ys : List ℕ) → ArePlaced book i xs → ArePlaced book (i + length xs) ys → ArePlaced book i (xs ++ ys)
placed_all book i [] ys one two = subst (λ (j : ℕ). ArePlaced book j ys) (omega arith) two
placed_all book i (x ∷ xs) ys one two = (one.0, placed_all book (i + 1) xs ys one.1 (subst (λ (j : ℕ). ArePlaced book j ys) (omega arith) two))

-- A name that isn't the first stands for what it stands for in the rest.
skip : (r : Named) (rs : List Named) (n : ℕ) → (r.name ≡ n → ⊥) → standing_for (r ∷ rs) n ≡ standing_for rs n
skip r rs n other = ap (λ (t : Bool). if t then Some r.block else standing_for rs n) (ne_eqb r.name n other)

-- a name whose place comes after those of the requests is of none of them, nor one whose place comes before
past_none : (book : NameBook) (i : ℕ) (rs : List Named) (n : ℕ) → ArePlaced book i (names_of rs) → i + length rs ≤ place_in book n → standing_for rs n ≡ None
past_none book i [] n placed le = refl
past_none book i (r ∷ rs) n placed le =
    let rest = past_none book (i + 1) rs n placed.1 (omega (arith, le)) in grind (arith, rest, skip)

before_none : (book : NameBook) (i : ℕ) (rs : List Named) (n : ℕ) → ArePlaced book i (names_of rs) → place_in book n < i → standing_for rs n ≡ None
before_none book i [] n placed lt = refl
before_none book i (r ∷ rs) n placed lt =
    let rest = before_none book (i + 1) rs n placed.1 (omega (arith, lt)) in grind (arith, rest, skip)

-- where each is at its place, the request at a name's place is the only one that can have it
pub at_place : (book : NameBook) (i : ℕ) (rs : List Named) (n j : ℕ) → ArePlaced book i (names_of rs) → place_in book n ≡ i + j
    → standing_for rs n ≡ request_at rs j n
at_place book i [] n j placed is = refl
at_place book i (r ∷ rs) n zero placed is = search (arith, before_none)
at_place book i (r ∷ rs) n (suc j) placed is =
    let rest = at_place book (i + 1) rs n j placed.1 (omega (arith, is)) in grind (arith, rest, skip)

-- the request at a place of the room, by whether it has the name
pub at_index : (items : List Request) (i n : ℕ) (d : Request) (b : Bool) → i < length items → ((get_or items i d).name == n) ≡ b
    → request_at (map named_of items) i n ≡ (if b then Some (block_in (get_or items i d).meaning) else None)
at_index [] i n d b lt is = absurd (omega (arith, lt))
at_index (r ∷ items) zero n d b lt is = ap (λ (t : Bool). if t then Some (block_in r.meaning) else None) is
at_index (r ∷ items) (suc i) n d b lt is = at_index items i n d b (omega (arith, lt)) is

-- The request at a place whose name is asked about tells what came of it.
pub at_named : (items : List Request) (i n : ℕ) (d : Request) → i < length items → (get_or items i d).name ≡ n
    → Some (block_in (get_or items i d).meaning) ≡ request_at (map named_of items) i n
at_named items i n d lt same = sym (at_index items i n d true lt (eq-eqb (get_or items i d).name n same))

-- Past the last request nothing is told of a name.
pub at_past : (items : List Request) (i n : ℕ) → length items ≤ i → request_at (map named_of items) i n ≡ None
at_past [] i n le = refl
at_past (r ∷ items) zero n le = absurd (omega (arith, le))
at_past (r ∷ items) (suc i) n le = at_past items i n (omega (arith, le))

-- ---- after an operation
both_ways : (t : Bool) (o : Option (Option Block)) (came base : Option Block) (old : Option (Option Block)) → (t ≡ true → o ≡ None)
    → came_to o base ≡ block_behind old
    → came_to (or_else o (if t then Some came else None)) base ≡ block_behind (if t then Some came else old)
both_ways t o came base old h i = grind arith

stand_either : (f : Profile) (t : Bool) (o : Option (Option Block)) (came base : Option Block) → MayStand f came → MayStand f (came_to o base)
    → MayStand f (came_to (or_else o (if t then Some came else None)) base)
stand_either f true None came base new old = new
stand_either f false None came base new old = old
stand_either f _ _ came base new old = old

not_yet : (book : NameBook) (rs : List Named) (ms : List ℕ) (name n : ℕ) → ArePlaced book 0 (names_of rs ++ (name ∷ ms)) → name == n ≡ true
    → standing_for rs n ≡ None
not_yet book rs ms name n placed is = search (arith, cases_eq, placed_both, past_none, names_count, false≢true, ne_eqb)

-- what each name stands for then, where the request's has its place next
came_as : (rs more : List Named) (n : ℕ) (base : Option Block) (rs' : List Named) → rs' ≡ rs ++ more
    → came_to (standing_for rs' n) base ≡ came_to (or_else (standing_for rs n) (standing_for more n)) base
came_as rs more n base rs' is = search (arith, standing_both)

came_same : (rs rs' : List Named) (n : ℕ) (base : Option Block) → rs' ≡ rs ++ [] → came_to (standing_for rs' n) base ≡ came_to (standing_for rs n) base
came_same rs rs' n base is = ap (λ (xs : List Named). came_to (standing_for xs n) base) (is ∙ append-nil rs)

-- After an operation the thread's requests tell of each name what the replay's names do.
pub tells_more : (book : NameBook) (rs rs' : List Named) (request : Option Asking) (came : Option Block) (names : List Named) (ms : List ℕ) (n : ℕ)
    (base : Option Block)
    → rs' ≡ rs ++ named_with request came → ArePlaced book 0 (names_of rs ++ (asked_with request [] ++ ms))
    → came_to (standing_for rs n) base ≡ block_behind (standing_for names n)
    → came_to (standing_for rs' n) base ≡ block_behind (standing_for (named_with request came ++ names) n)
tells_more book rs rs' None came names ms n base is placed tells = came_same rs rs' n base is ∙ tells
tells_more book rs rs' (Some r) came names ms n base is placed tells =
    came_as rs (named r.name came ∷ []) n base rs' is ∙ both_ways (r.name == n) (standing_for rs n) came base _ (not_yet book rs ms r.name n placed) tells

-- After an operation what a name stands for by the thread's requests may stand in the region.
pub stand_more : (f : Profile) (rs rs' : List Named) (request : Option Asking) (came : Option Block) (n : ℕ) (base : Option Block)
    → rs' ≡ rs ++ named_with request came → MayStand f came → MayStand f (came_to (standing_for rs n) base) → MayStand f (came_to (standing_for rs' n) base)
stand_more f rs rs' None came n base is new old = subst (MayStand f) (sym (came_same rs rs' n base is)) old
stand_more f rs rs' (Some r) came n base is new old =
    subst (MayStand f) (sym (came_as rs (named r.name came ∷ []) n base rs' is)) (stand_either f (r.name == n) (standing_for rs n) came base new old)

-- ---- counts
pub none_yet : (n k : ℕ) → ◌≡◌ {A = ℕ} (get_or (replicate n 0) k 0) 0
none_yet n k = search (arith, cases_lt, get_or-replicate, length-replicate, get_or_past)

-- ---- what a thread asks for
abbrev pub asks : ℕ → List Op → List ℕ
asks k ops = names_asked (own_acts k ops)

-- The names that an actor asks for by one operation more in front are that one's, if it is its own, and the others.
pub asks_more : (k : ℕ) (op : Op) (ops : List Op) → asks k (op ∷ ops) ≡ (if op.actor == k then name_asked op.what else []) ++ asks k ops
asks_more k op ops = search (arith, kept_asks)

asks_last : (k : ℕ) (ops : List Op) (op : Op) → asks k (ops ++ op ∷ []) ≡ asks k ops ++ (if op.actor == k then name_asked op.what else [])
asks_last k [] op = asks_more k op [] ∙ append-nil (if op.actor == k then name_asked op.what else [])
asks_last k (o ∷ ops) op =
    let rest = asks_last k ops op in grind (arith, rest, asks_more)

asks_few : (k : ℕ) (ops : List Op) → length (asks k ops) ≤ length ops
asks_few k [] = omega arith
asks_few k (op ∷ ops) =
    let rest = asks_few k ops in grind (arith, rest, asks_more, length-append)

-- An actor asks for at most one name an operation.
pub count_small : (k : ℕ) (ops : List Op) (i : ℕ) → i < length ops → length (asks k (take i ops)) ≤ i
count_small k ops i lt = search (arith, asks_few, take, length-take)

-- ---- a new name is none of those before

-- not asked for afterwards: neither before nor by the operation
pub not_before : (what : What) (asked : List ℕ) (n : ℕ) → is_asked (asked_after what asked) n ≡ false
    → (is_asked (name_asked what) n ≡ false) × (is_asked asked n ≡ false)
not_before what asked n a = search (arith, or_parts)

never_before : (ops : List Op) (asked : List ℕ) (n : ℕ) → is_asked (asked_by asked ops) n ≡ false → is_asked asked n ≡ false
never_before [] asked n none = none
never_before (op ∷ ops) asked n none = (not_before op.what asked n (never_before ops (asked_after op.what asked) n none)).1

if_none : (t : Bool) (ms ns : List ℕ) (n : ℕ) → is_asked ms n ≡ false → is_asked ns n ≡ false → is_asked ((if t then ms else []) ++ ns) n ≡ false
if_none true (m ∷ ms) ns n one two =
    let both = or_parts (m == n) (is_asked ms n) one in ap (λ (s : Bool). s || is_asked (ms ++ ns) n) both.0 ∙ if_none true ms ns n both.1 two
if_none _ _ ns n one two = two

not_asked : (k : ℕ) (ops : List Op) (asked : List ℕ) (n : ℕ) → is_asked (asked_by asked ops) n ≡ false → is_asked (asks k ops) n ≡ false
not_asked k [] asked n none = refl
not_asked k (op ∷ ops) asked n none =
    let rest = not_asked k ops (asked_after op.what asked) n none in grind (arith, rest, not_before, never_before, asks_more, if_none)

sound_at : (f : Profile) (asked : List ℕ) (ops : List Op) (i : ℕ) (d : Op) → AreSound f asked ops → i < length ops
    → IsSoundWhat f (asked_by asked (take i ops)) (get_or ops i d).what
sound_at f asked [] i d sound lt = absurd (let bad : i < 0 = lt in omega (arith, bad))
sound_at f asked (op ∷ ops) zero d sound lt = sound.1
sound_at f asked (op ∷ ops) (suc i) d sound lt = sound_at f (asked_after op.what asked) ops i d sound.2 (omega (arith, lt))

-- Each operation of those below a limit is below it.
pub below_at : (limit : ℕ) (ops : List Op) (i : ℕ) (d : Op) → AreBelow limit ops → i < length ops → IsBelow limit (get_or ops i d).what
below_at limit [] i d below lt = absurd (let bad : i < 0 = lt in omega (arith, bad))
below_at limit (op ∷ ops) zero d below lt = below.0
below_at limit (op ∷ ops) (suc i) d below lt = below_at limit ops i d below.1 (omega (arith, lt))

-- .. and is below the limit
pub asks_below : (limit : ℕ) (what : What) (name : ℕ) → IsBelow limit what → name_asked what ≡ name ∷ [] → name < limit
asks_below limit what name below is = search arith

-- ---- a place is set
-- the name has this place, and each other its own
abbrev pub SetsPlace : NameBook → NameBook → ℕ → ℕ → Type 0
SetsPlace old new name place = (n : ℕ) → place_in new n ≡ (if name == n then place else place_in old n)

-- Numbers that a test tells apart are distinct.
apart : (x name : ℕ) → x == name ≡ false → name ≢ x
apart x name none is = true≢false (sym (eq-eqb x name (sym is)) ∙ none)

still_placed : (old new : NameBook) (name place i : ℕ) (xs : List ℕ) → SetsPlace old new name place → is_asked xs name ≡ false → ArePlaced old i xs
    → ArePlaced new i xs
still_placed old new name place i [] sets none placed = tt
still_placed old new name place i (x ∷ xs) sets none placed =
    let both = or_parts (x == name) (is_asked xs name) none in
    let same = sets x ∙ ap (λ (t : Bool). if t then place else place_in old x) (ne_eqb name x (apart x name both.0)) in
    (same ∙ placed.0, still_placed old new name place (i + 1) xs sets both.1 placed.1)

one_more : (t : Bool) (old new : NameBook) (name : ℕ) (xs : List ℕ) → (t ≡ true → place_in new name ≡ length xs) → ArePlaced new 0 xs
    → ArePlaced new 0 (xs ++ (if t then name ∷ [] else []))
one_more a old new name xs here placed = search (arith, placed_all)

-- what each thread asked for, after the operation at a place
asks_next : (k : ℕ) (ops : List Op) (i : ℕ) (d : Op) (names : List ℕ) → i < length ops → name_asked (get_or ops i d).what ≡ names
    → asks k (take (i + 1) ops) ≡ asks k (take i ops) ++ (if (get_or ops i d).actor == k then names else [])
asks_next k ops i d names lt is = ap (λ (xs : List Op). asks k xs) (take_more ops i d lt) ∙ asks_last k (take i ops) (get_or ops i d)
    ∙ ap (λ (ns : List ℕ). asks k (take i ops) ++ (if (get_or ops i d).actor == k then ns else [])) is

-- Two numbers that test as the same are the same.
pub is_same : (a k : ℕ) → a == k ≡ true → a ≡ k
is_same a k is = search (arith, cases_eq, true≢false, ne_eqb)

-- the next operation asks for a name
pub placed_next : (f : Profile) (asked : List ℕ) (old new : NameBook) (ops : List Op) (i : ℕ) (d : Op) (name place : ℕ) → AreSound f asked ops → i < length ops
    → name_asked (get_or ops i d).what ≡ name ∷ [] → SetsPlace old new name place
    → place ≡ length (asks (get_or ops i d).actor (take i ops)) → (k : ℕ) → ArePlaced old 0 (asks k (take i ops)) → ArePlaced new 0 (asks k (take (i + 1) ops))
placed_next f asked old new ops i d name place sound lt is sets count k placed =
    let a = (get_or ops i d).actor in
    let xs = asks k (take i ops) in
    let there = still_placed old new name place 0 xs sets (search (arith, not_asked, sound_at)) placed in
    let here : a == k ≡ true → place_in new name ≡ length xs = search (arith, eq-eqb, is_same) in
    subst (λ (ns : List ℕ). ArePlaced new 0 ns) (sym (asks_next k ops i d (name ∷ []) lt is)) (one_more (a == k) old new name xs here there)

-- An operation that asks for a name makes the names of its actor one more, and of no other.
pub counted : (ops : List Op) (i : ℕ) (d : Op) (name k place old : ℕ) → i < length ops → name_asked (get_or ops i d).what ≡ name ∷ []
    → place ≡ length (asks (get_or ops i d).actor (take i ops)) → old ≡ length (asks k (take i ops))
    → (if (get_or ops i d).actor == k then place + 1 else old) ≡ length (asks k (take (i + 1) ops))
counted ops i d name k place old lt is here there =
    let a = (get_or ops i d).actor in
    let many = length (asks k (take i ops)) in
    let next : length (asks k (take (i + 1) ops)) ≡ (if a == k then many + 1 else many) =
    ap (λ (ns : List ℕ). length ns) (asks_next k ops i d (name ∷ []) lt is) ∙ (search (arith, length-append)) in
    search (arith, next, cases_eq, eq-eqb, ne_eqb)

-- An operation that asks for no name leaves the names asked for as they are.
pub asks_same : (k : ℕ) (ops : List Op) (i : ℕ) (d : Op) → i < length ops → name_asked (get_or ops i d).what ≡ []
    → asks k (take (i + 1) ops) ≡ asks k (take i ops)
asks_same k ops i d lt none = asks_next k ops i d [] lt none ∙ (search (arith, append-nil))

-- The book takes a thread's requests over, from the last to the first.

-- The name of each request is within the limit that all are.
pub within_at : (limit : ℕ) (items : List Request) (i : ℕ) (d : Request) → AreWithin limit (names_of (map named_of items)) → i < length items
    → (get_or items i d).name < limit
within_at limit [] i d within lt = absurd (let bad : i < 0 = lt in omega (arith, bad))
within_at limit (r ∷ items) zero d within lt = within.0
within_at limit (r ∷ items) (suc i) d within lt = within_at limit items i d within.1 (omega (arith, lt))

-- ---- what the names stand for then
-- The request at a place says what its name stands for, and those behind it what the others do.
pub over_next : (items : List Request) (i j : ℕ) (d : Request) (n : ℕ) (base : Option Block) → i < length items → j ≡ i + 1
    → (if (get_or items i d).name == n then block_in (get_or items i d).meaning else came_to (standing_for (map named_of (drop j items)) n) base)
    ≡ came_to (standing_for (map named_of (drop i items)) n) base
over_next items i j d n base lt next =
    search (arith, drop_more)
