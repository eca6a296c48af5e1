-- The names of a phase: what they stand for to all and to each worker once it was done, how many there are, and what is known of them afterwards.
use Rattle.std.proofs.Common.{if◌then◌else◌, [], arith, ◌≡◌, ◌≢◌, ℕ, ◌==◌, ◌||◌, Bool, false, inl, inr, List, ◌∷◌, Option, Some, None, refl, sym, ◌∙◌, subst}
use Rattle.std.proofs.Common.{ne_eqb, ◌≤◌, ◌++◌, ◌<◌, true, length, ap, length-append, MatchOption, eq-eqb, true≢false}
use Rattle.pas_acts.proofs.Common.{cases_eq, or_parts, AllByRecursion, Profile, Block, View, is_asked, asked_after, all_ops, asked_by, AreSound, IsThread, What}
use Rattle.pas_acts.proofs.Common.{Alloc, Op, Request, Act, Operates, Guards, Settles, act_kept, own_acts, request_in, keeper_in, Cached, Named, named}
use Rattle.pas_acts.proofs.Common.{standing_for, having, Answer, answer_of, IsAnswered, Progress, IsFitWhat, AreBelow, AllBelow, KeepsAbove, AreFit}
use Rattle.pas_acts.proofs.Common.{own_costs_of, OnlyAsked, block_behind, MayStand, AnswersTried, Advances, block_named, names_held, at_start, Names, all_front}
use Rattle.pas_acts.proofs.Common.{AreAmong, asked_after_act, requests_in, room_for, names_asked, names_of, ArePlaced, came_to, known_in, table, KnowsNames}
use Rattle.pas_acts.{proofs.{Common.NameBook, ActsOfPlan.back_below, Noting.{is_same, not_before, kept_asks}, Working.kept_cost}, specs.Shares.IsRequestOf}
use Rattle.pas_acts.specs.{Shares.AreKnownAfter, NameBooks.{NamesAt, Requests}}
use Rattle.pas_answers.{specs.{Reaching.AnswersOp, Answers.{block_of, IsRemadeBy}, Calls.AreKnown}, proofs.SingleActs.{known_after, known_named}}
use Rattle.pas_answers.proofs.Reached.{put_on}
use Rattle.pas_trace.{specs.{declared.plan.What.TheVariants.{Guarded, Remake}, EveryPhase.FreesItsOwn}, proofs.{EveryPlan.below_front, Costs.some_cost}}
pub use Rattle.pas_trace.proofs.EveryPlan.{below_front}

none_some : {b : Option Block} {A : Type 0} → None ≡ Some b → A
none_some bad = absurd (cc)

-- One more name keeps what the fewer say and the many say, too: whether it is this name or not.
both_more : (t : Bool) (block : Option Block) (few many : Option (Option Block)) (b : Option Block) → (few ≡ Some b → many ≡ Some b)
    → (if t then Some block else few) ≡ Some b → (if t then Some block else many) ≡ Some b
both_more t block few many b h i = grind arith

new_here : (name n : ℕ) (block : Option Block) (names : List Named) (b : Option Block) → standing_for names name ≡ None → standing_for names n ≡ Some b
    → (if name == n then Some block else standing_for names n) ≡ Some b
new_here name n block names b none is = search (arith, cases_eq, none_some, ne_eqb)

-- A name that wasn't asked for stands for nothing, with one more asked, too: whether it is this name or not.
asked_more : (t : Bool) (block : Option Block) (o : Option (Option Block)) (old : Bool) → (old ≡ false → o ≡ None) → t || old ≡ false
    → (if t then Some block else o) ≡ None
asked_more t block o old h i = grind arith

-- the same answer by all names
pub record Retold (f : Profile) (k : ℕ) (what : What) (asked : List ℕ) (names : List Named) (v : View) (c : Cached) (a : Answer) : Type 0 where
  pub after : List Named
  pub answered : IsAnswered f k what (having names v c) (answer_of a.steps a.said a.found after a.cache)
  pub own : AreAmong a.names after
  pub others : (few : List Named) → AreAmong few names → AreAmong few after
  pub only_asked : OnlyAsked (asked_after what asked) after
  pub same_names : (n : ℕ) → (IsRequestOf n what → ⊥) → standing_for after n ≡ standing_for names n

-- .. a reallocation
remade_same : (f : Profile) (k name size align : ℕ) (o many : Option (Option Block)) (few names : List Named) (v : View) (c : Cached) (a : Answer)
    → ((b : Option Block) → o ≡ Some b → many ≡ Some b) → IsRemadeBy f k name size align o (having few v c) a
    → (came : Option Block) × (a.names ≡ named name came ∷ few)
    × IsRemadeBy f k name size align many (having names v c) (answer_of a.steps a.said a.found (named name came ∷ names) a.cache)
remade_same f k name size align None many few names v c a sub is = absurd is
remade_same f k name size align (Some None) many few names v c a sub is = (
  None,
  is.3,
  subst (λ (o : Option (Option Block)). IsRemadeBy f k name size align o (having names v c) (answer_of a.steps a.said a.found (named name None ∷ names) a.cache)) (sym (sub None refl)) (is.0, is.1, is.2, refl),
)
remade_same f k name size align (Some (Some old)) many few names v c a sub (inl kept) = (
  Some old,
  kept.names_are,
  rw (sub (Some old) refl) (inl record { suited = kept.suited; no_steps = kept.no_steps; cache = kept.cache; said_is = kept.said_is; names_are = refl }),
)
remade_same f k name size align (Some (Some old)) many few names v c a sub (inr moved) =
    let served = moved.served in
    let came = block_of served.answer in (
      came,
      moved.names_are ∙ served.names_are,
      rw (sub (Some old) refl) (inr record {
        unsuited = moved.unsuited;
        of_region = moved.of_region;
        placed = answer_of moved.placed.steps moved.placed.said moved.placed.found (named name came ∷ names) moved.placed.cache;
        served = record { rest = served.rest; answer = served.answer; serves = served.serves; kinds = served.kinds; ends = served.ends; said_is = served.said_is; names_are = refl };
        freed = moved.freed;
        logged = moved.logged;
        steps_are = moved.steps_are;
        said_is = moved.said_is;
        found_is = moved.found_is;
        names_are = refl;
      }),
    )

-- an operation that asks for a new name
asks_name : (f : Profile) (k : ℕ) (what : What) (asked : List ℕ) (few names : List Named) (v : View) (c : Cached) (a : Answer) (name : ℕ) (block : Option Block)
    → asked_after what asked ≡ name ∷ asked → ((n : ℕ) → name ≡ n → IsRequestOf n what)
    → is_asked asked name ≡ false → AreAmong few names → OnlyAsked asked names → a.names ≡ named name block ∷ few
    → IsAnswered f k what (having names v c) (answer_of a.steps a.said a.found (named name block ∷ names) a.cache) → Retold f k what asked names v c a
asks_name f k what asked few names v c a name block asks request new among only same answered = search (arith, both_more, new_here, asked_more, ne_eqb)

-- a name that is new to all comes to stand for a block in the hands of one worker
pub record IsNamedNew (asked : List ℕ) (few names : List Named) (name : ℕ) (block : Option Block) : Type 0 where
  pub own : AreAmong (named name block ∷ few) (named name block ∷ names)
  pub others : (more : List Named) → AreAmong more names → AreAmong more (named name block ∷ names)
  pub only_asked : OnlyAsked (name ∷ asked) (named name block ∷ names)
  pub same_names : (n : ℕ) → name ≢ n → standing_for (named name block ∷ names) n ≡ standing_for names n

-- A name that nobody asked for yet is a new one to a worker and to all.
pub names_new : (asked : List ℕ) (few names : List Named) (name : ℕ) (block : Option Block) → is_asked asked name ≡ false → AreAmong few names
    → OnlyAsked asked names → IsNamedNew asked few names name block
names_new asked few names name block new among only = search (arith, both_more, new_here, asked_more, ne_eqb)

-- An answer by what a worker knows of names is one by what all know.
pub retold : (f : Profile) (limit k : ℕ) (what : What) (asked : List ℕ) (few names : List Named) (v : View) (c : Cached) (a : Answer)
    → AreAmong few names → OnlyAsked asked names → IsFitWhat f limit asked what → IsAnswered f k what (having few v c) a → Retold f k what asked names v c a
retold f limit k (Remake name old heap size align) asked few names v c a among only fit answered =
    let again = remade_same f k name size align (standing_for few old) (standing_for names old) few names v c a (among old) answered in
    asks_name f k (Remake name old heap size align) asked few names v c a name again.0 refl (λ n same. same) fit.1.1 among only again.1 again.2
retold f limit k (Alloc name heap size align) asked few names v c a among only fit answered = search (arith, asks_name)
retold f limit k (Guarded keeper name heap size align) asked few names v c a among only fit answered = search (arith, asks_name)
retold f limit k what asked few names v c a among only fit answered = search arith

below_both : (limit : ℕ) (xs ys : List Op) → AreBelow limit xs → AreBelow limit ys → AreBelow limit (xs ++ ys)
below_both limit [] ys a b = b
below_both limit (x ∷ xs) ys a b = (a.0, below_both limit xs ys a.1 b)

-- Names that are below a limit in each phase are below it in all.
pub below_all : (limit : ℕ) (phases : List (List Op)) → AllBelow limit phases → AreBelow limit (all_ops phases)
below_all limit [] all = tt
below_all limit (p ∷ ps) all = below_both limit p (all_ops ps) all.0 (below_all limit ps all.1)

-- what is below a limit is below a higher one, whatever is asked
below_higher : (limit higher : ℕ) (ops : List Op) → limit ≤ higher → AreBelow limit ops → AreBelow higher ops
below_higher limit higher [] le all = tt
below_higher limit higher (op ∷ ops) le all = (grind arith, below_higher limit higher ops le all.1)

-- Names below a limit are below each higher one.
pub all_higher : (limit higher : ℕ) (phases : List (List Op)) → limit ≤ higher → AllBelow limit phases → AllBelow higher phases
all_higher limit higher [] le all = tt
all_higher limit higher (p ∷ ps) le all = (below_higher limit higher p le all.0, all_higher limit higher ps le all.1)

-- those of each phase
pub below_each : (limit : ℕ) (phases : List (List Op)) → AreBelow limit (all_ops phases) → AllBelow limit phases
below_each limit [] all = tt
below_each limit (p ∷ ps) all = (below_front limit p (all_ops ps) all, below_each limit ps (back_below limit p (all_ops ps) all))

-- nothing was asked for, and the names are as they were
same_known : (asked : List ℕ) {q r : Progress} → q ≡ r → AreKnown asked r.names → AreKnown asked q.names
same_known asked is known = subst (λ (s : Progress). AreKnown asked s.names) (sym is) known

-- a guarded request's name stands for the block that its keeper gave, or for what its thread's answer came to
known_op : (f : Profile) (op : Op) (asked : List ℕ) (p q : Progress) → AnswersOp f op p q → AreKnown asked p.names
    → AreKnown (asked_after op.what asked) q.names
known_op f op asked p q did known = search (arith, same_known, known_after)

known_tried : (f : Profile) (op : Op) (r : Request) (block : Option Block) (asked : List ℕ) (p q : Progress) → request_in op.what ≡ Some r
    → AnswersTried f op r block p q → AreKnown asked p.names → AreKnown (asked_after op.what asked) q.names
known_tried f op r (Some block) asked p q asks did known =
    rw asks (same_known (r.name ∷ asked) did (known_named r.name (Some block) asked p.names known))
known_tried f op r None asked p q asks did known = known_op f op asked p q did known

known_one : (f : Profile) (act : Act) (asked : List ℕ) (p q : Progress) → Advances f act p q → AreKnown asked p.names
    → AreKnown (asked_after_act act asked) q.names
known_one f (Operates op) asked p q did known = known_op f op asked p q did known
known_one f (Guards keeper op) asked p q did known = grind (arith, known_tried)
known_one f act asked p q did known = subst (AreKnown asked) (sym (put_on f act p q did).2) known

-- The names that were asked for stand for something after the acts, too.
pub are_known : AreKnownAfter
are_known f [] asked p q reaches known = same_known asked reaches known
are_known f (act ∷ acts) asked p q reaches known = are_known f acts _ reaches.0 q reaches.2 (known_one f act asked p reaches.0 reaches.1 known)

-- What each thread knows of the names when a phase begins.

-- ---- a phase and the rest
pub sound_front : (f : Profile) (asked : List ℕ) (xs ys : List Op) → AreSound f asked (xs ++ ys) → AreSound f asked xs
sound_front f asked [] ys sound = tt
sound_front f asked (x ∷ xs) ys sound = (sound.0, sound.1, sound_front f (asked_after x.what asked) xs ys sound.2)

-- Sound operations behind others are sound after the names that those asked for.
pub sound_back : (f : Profile) (asked : List ℕ) (xs ys : List Op) → AreSound f asked (xs ++ ys) → AreSound f (asked_by asked xs) ys
sound_back f asked [] ys sound = sound
sound_back f asked (x ∷ xs) ys sound = sound_back f (asked_after x.what asked) xs ys sound.2

-- ---- the thread's own operations fit
-- what was asked for among the first was so among the second
abbrev IsSmaller : List ℕ → List ℕ → Type 0
IsSmaller few many = (n : ℕ) → is_asked many n ≡ false → is_asked few n ≡ false

smaller_if : (t : Bool) (what : What) (few many : List ℕ) → IsSmaller few many → IsSmaller (if t then asked_after what few else few) (asked_after what many)
smaller_if a what few many small n b = search (arith, or_parts, not_before)

-- Acts with those of a keeper in front fit, whether there is a keeper or not.
fit_if : (t : Bool) (f : Profile) (limit : ℕ) (asked : List ℕ) (keeper : Option ℕ) (op : Op) (acts : List Act)
    → MatchOption keeper (Unit {0}) (λ k. IsThread f k × (op.actor < k)) → (t ≡ true → IsThread f op.actor × IsFitWhat f limit asked op.what)
    → AreFit f limit (if t then asked_after op.what asked else asked) acts
    → AreFit f limit asked (if t then act_kept keeper op ∷ (Settles op.actor ∷ acts) else acts)
fit_if t f limit asked keeper op acts h i j = grind arith

-- an operation of the thread fits, guarded or not, and another asks for a name alone
own_fit : (f : Profile) (limit k : ℕ) (few many : List ℕ) (ops : List Op) → 1 ≤ k → IsSmaller few many → AreSound f many ops → AllByRecursion (KeepsAbove f) ops
    → AreBelow limit ops → FreesItsOwn k few ops → AreFit f limit few (own_acts k ops)
own_fit f limit k few many [] some small sound above below frees = tt
own_fit f limit k few many (op ∷ ops) some small sound above below frees =
    let t = op.actor == k in
    fit_if t f limit few (keeper_in op.what) op (own_acts k ops) above.0
    (λ is.
    let same = is_same op.actor k is in
    grind arith)
    (own_fit f limit k (if t then asked_after op.what few else few) (asked_after op.what many) ops some (smaller_if t op.what few many small) sound.2 above.1 below.1 frees.1)

-- ---- there is room for its requests
own_asked : (k : ℕ) (ops : List Op) → length (names_asked (own_acts k ops)) ≤ own_costs_of k (own_acts k ops)
own_asked k [] = omega arith
own_asked k (op ∷ ops) =
    let rest = own_asked k ops in grind (arith, rest, cases_eq, kept_cost, eq-eqb, some_cost, kept_asks, length-append, ne_eqb)

-- ---- before a phase
-- A thread of the phase knows its names once they are noted.
pub names_before : {f book p names : _} (k : ℕ) (phase rest : List Op) (book1 : NameBook) (requests : Requests) (at : NamesAt f (phase ++ rest) book p)
    → 1 ≤ k → FreesItsOwn k at.asked phase → book1.names ≡ book.names
    → ArePlaced book1 0 (names_asked (own_acts k phase)) → requests_in requests ≡ [] → own_costs_of k (own_acts k phase) ≤ room_for requests → names ≡ p.names
    → KnowsNames f (own_acts k phase) (table book1 requests) names
names_before {f} {book} {p} {names} k phase rest book1 requests at some frees same placed none room are =
    let only : (n : ℕ) → known_in book1 requests n ≡ block_named book.names n
    = λ n. ap (λ (rs : List Named). came_to (standing_for rs n) (block_named book1.names n)) none ∙ ap (λ (t : Names). block_named t n) same in
    record {
      asked = at.asked;
      fit = search (arith, own_fit, sound_front, all_front, below_front);
      tells = λ n. only n ∙ at.tells n ∙ ap (λ (ns : List Named). block_behind (standing_for ns n)) (sym are);
      stand = λ n. subst (MayStand f) (sym (only n)) (at.stand n);
      known = subst (AreKnown at.asked) (sym are) at.known;
      placed = subst (λ (ns : List ℕ). ArePlaced book1 0 (ns ++ names_asked (own_acts k phase))) (sym (ap names_of none)) placed;
      room = omega (arith, ap (λ (rs : List Named). length rs) none, own_asked k phase, room);
    }

-- ---- before the first phase no name stands for a block
unfoldable pub names_at_start : (f : Profile) (ops : List Op) (book : NameBook) → AreSound f [] ops → AllByRecursion (KeepsAbove f) ops
    → AreBelow (names_held book.names) ops → ((n : ℕ) → block_named book.names n ≡ None) → NamesAt f ops book at_start
names_at_start f ops book sound above below none = record {
  asked = [];
  sound = sound;
  above = above;
  below = below;
  tells = none;
  stand = λ n block is. absurd (let bad : None ≡ Some block = sym (none n) ∙ is in cc);
  known = λ n is. absurd (true≢false (sym is));
  only = λ n is. refl;
}
