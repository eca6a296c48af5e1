-- Each act leaves each live block on grains that blocks of its page's directory may cover.
use Rattle.std.proofs.Common.{arith, ◌≡◌, ℕ, Bool, true, false, if◌then◌else◌, List, [], ◌∷◌, ◌++◌, Option, None, Some, Result, refl, ap, ◌∙◌, ◌/◌, map, ◌%◌}
use Rattle.std.proofs.Common.{◌==◌, Ok, Err, sym, subst, eqb-true, inl, inr}
use Rattle.pas_same_text.{specs.Acts.KeepsUsable, proofs.{Flushes.visible_steps, RestingPages.word_known, Common.{Directory, Event, NoRoom, Block, Profile}}}
use Rattle.pas_same_text.proofs.Common.{Route, Outcome, Word, Live, live_in, deed_in, Run, sized_entry, entry_of, Settled, shown_for, Entry, EndedRun, Record}
use Rattle.pas_same_text.proofs.Common.{Said, AreBlocksUsable, HasUsableBlocks, AllByRecursion, route_in, room_in, is_shared, kind_of_route, Progress, Answer}
use Rattle.pas_same_text.proofs.Common.{having, IsFreed, IsFreedBy, IsStopped, IsReplaced, wanted_by, standing_for, Act, request_in, What, Request, Op}
use Rattle.pas_same_text.proofs.Common.{none-some, in_run, run_of, grain_of, length_of, IsKind, deed_word_of, IsValid, same_from_deed_word, all_map, triples}
use Rattle.pas_same_text.proofs.Common.{events_by, View, known_deed, usable_by_kind, Whole, part, word_after, visible, Legal, Made, triples_append, no_events}
use Rattle.pas_same_text.proofs.Common.{events_append, part_of_own, IsPartOf, word_of_deed, deed_of, directory_is_of, runs, legal_before, legal_earlier}
use Rattle.pas_same_text.proofs.Common.{EmptiesLog, EmptiesFull, Cached, wanted_for, unbacks_in, SweepSteps, sweeping, Guard, after_trying, AnswersTried}
use Rattle.pas_same_text.proofs.Common.{AnswersGuarded}
use Rattle.pas_answers.{specs.{Answers.{Having, IsGiven, RequestEnds, IsAnswered, entry_with}, Guarding.TryEnds}, proofs.Reached.{tried_on, pieces_back}}
use Rattle.pas_profile.proofs.Sizes.{class_suits, class_known}
use Rattle.pas_machine.proofs.LiveBlocks.{all_borne}
use Rattle.pas_cache.specs.Serves.{Wanted, IsPlaced, IsPreparing, IsDeedOf}

-- ---- one event
-- the block may be given so: each of its grains is one that blocks of its page's directory may cover
abbrev IsUsableGive : List Event → Block → Type 0
IsUsableGive es block = (g : ℕ) → in_run (grain_of block.name) (length_of block) g ≡ true → (d : Directory) → deed_in es (g / 256) ≡ Some d → usable_by_kind d.kind (g % 256) ≡ true

abbrev GivesUsably : List Event → Event → Type 0
GivesUsably es (Event.Give k block) = IsUsableGive es block
GivesUsably es e = Unit {0}

deed_usable : (f : Profile) (es : List Event) (p : ℕ) (d own : Directory) (address : ℕ) (b : Live) (g : ℕ) (t : Bool) → (p == g / 256) ≡ t → Run f es
    → deed_in es p ≡ None → live_in es address ≡ Some b → IsPartOf g address b
    → AreBlocksUsable es → (if t then Some d else deed_in es (g / 256)) ≡ Some own → usable_by_kind own.kind (g % 256) ≡ true
deed_usable f es p d own address b g true e run none lives of usable is =
    absurd (none-some _ (sym none ∙ (ap (deed_in es) (eqb-true p (g / 256) e) ∙ (all_borne f es run address b lives g of).deed)))
deed_usable f es p d own address b g false e run none lives of usable is = usable.usable address b lives g of own is

ended_usable : (es : List Event) (own : Directory) (address : ℕ) (b : Live) (g : ℕ) (t : Bool) → (if t then None else live_in es address) ≡ Some b
    → IsPartOf g address b → AreBlocksUsable es → deed_in es (g / 256) ≡ Some own → usable_by_kind own.kind (g % 256) ≡ true
ended_usable es own address b g t lives of usable is = search (arith, none-some)

next_usable : (f : Profile) (e : Event) (es : List Event) → Run f (e ∷ es) → GivesUsably es e → AreBlocksUsable es → AreBlocksUsable (e ∷ es)
next_usable f e es run give usable = search (arith, deed_usable, eqb-true, ended_usable)

-- ---- events without a give
abbrev IsNoGive : Event → Type 0
IsNoGive (Event.Give k block) = ⊥
IsNoGive e = Unit {0}

abbrev AreNoGives : List Event → Type 0
AreNoGives = AllByRecursion IsNoGive

all_usable : (f : Profile) (evs es : List Event) → Run f (evs ++ es) → AreNoGives evs → AreBlocksUsable es → AreBlocksUsable (evs ++ es)
all_usable f [] es run none usable = usable
all_usable f (e ∷ evs) es run none usable = search (arith, next_usable, all_usable f evs es run.1 none.1 usable)

-- steps without a give, after a legal list
steps_usable : (f : Profile) (k : ℕ) (steps : List Made) (l : Whole) → IsValid f → Legal f (triples k steps ++ l) → AreNoGives (events_by k (part k l) steps)
    → AreBlocksUsable (visible l) → AreBlocksUsable (visible (triples k steps ++ l))
steps_usable f k steps l valid legal none usable = subst AreBlocksUsable (sym (visible_steps k steps l))
    (all_usable f (events_by k (part k l) steps) (visible l) (subst (Run f) (visible_steps k steps l) (runs f (triples k steps ++ l) valid legal)) none usable)

-- ---- flushes
shown_gives : (k epoch : ℕ) (settled : List Settled) → AreNoGives (map (shown_for k epoch) settled)
shown_gives k epoch [] = tt
shown_gives k epoch (s ∷ settled) = search (arith, shown_gives k epoch settled)

flush_gives : (k : ℕ) (logged : List Entry) (noted noted' : List EndedRun) (steps : List Made) (v : View) → EmptiesLog k logged noted noted' steps
    → AreNoGives (events_by k v steps)
flush_gives k logged noted noted' steps v h = subst AreNoGives (sym (h.events v)) (shown_gives k h.epoch h.settled)

full_gives : (full : Bool) (k : ℕ) (log kept : List Entry) (noted noted' : List EndedRun) (steps : List Made) (v : View)
    → EmptiesFull full k log kept noted noted' steps → AreNoGives (events_by k v steps)
full_gives true k log kept noted noted' steps v h = flush_gives k log noted noted' steps v h.0
full_gives false k log kept noted noted' steps v h = subst (λ (ms : List Made). AreNoGives (events_by k v ms)) (sym h.0) tt

freed_gives : (f : Profile) (k : ℕ) (c c' : Cached) (entry : Entry) (steps : List Made) (said : Option Said) (v : View) → IsFreed f k c c' entry steps said
    → AreNoGives (events_by k v steps)
freed_gives f k c c' entry steps said v h = search (arith, full_gives)

named_gives : (f : Profile) (k : ℕ) (c c' : Cached) (name : ℕ) (size : Option ℕ) (meant : Option (Option Block)) (steps : List Made) (said : Option Said)
    (v : View)
    → IsFreedBy f k c c' name size meant steps said → AreNoGives (events_by k v steps)
named_gives f k c c' name size None steps said v freed = absurd freed
named_gives f k c c' name size (Some None) steps said v freed = subst (λ (ms : List Made). AreNoGives (events_by k v ms)) (sym freed.0) tt
named_gives f k c c' name size (Some (Some block)) steps said v freed = freed_gives f k c c' (entry_with block.name size) steps said v freed

stop_gives : (k : ℕ) (c c' : Cached) (steps : List Made) (v : View) → IsStopped k c c' steps → AreNoGives (events_by k v steps)
stop_gives k c c' steps v h =
    subst AreNoGives (sym (ap (events_by k v) h.steps_are ∙ (events_append k h.stopped h.flushed v ∙ ap (λ (es : List Event). es ++ events_by k v h.flushed) (h.silent (h.flushed ++ v))))) (flush_gives k c.log c.noted c'.noted h.flushed v h.empties)

-- ---- a pass
unbacks_give : (k epoch : ℕ) (pairs : List (ℕ × Outcome)) → AreNoGives (unbacks_in k epoch pairs)
unbacks_give k epoch [] = tt
unbacks_give k epoch (p ∷ pairs) = search (arith, unbacks_give k epoch pairs)

-- ---- a request
preparing_none : (d : Directory) (e : Event) → IsPreparing d e → IsNoGive e
preparing_none d e given = search arith

deed_none : (d : Directory) (e : Event) → IsDeedOf d e → IsNoGive e
deed_none d e (IsDeedOf.Deeds k page) = tt

placed_usable : (f : Profile) (shared : Bool) (size align : ℕ) (route : Route) (block : Block) (g : ℕ) → route_in f size align ≡ route → IsPlaced route block
    → block.room ≡ room_in f size align → in_run (grain_of block.name) (length_of block) g ≡ true → usable_by_kind (kind_of_route shared route) (g % 256) ≡ true
placed_usable f shared size align route block g e placed room of = search (arith, run_of)

kind_known : (f : Profile) (shared : Bool) (size align : ℕ) (route : Route) → route_in f size align ≡ route → IsKind (kind_of_route shared route)
kind_known f shared size align route e = search (arith, class_known, class_suits)

module _ (f : Profile) (k heap size align : ℕ) (l : Whole) (steps : List Made) (valid : IsValid f) (legal : Legal f (triples k steps ++ l))
    (usable : AreBlocksUsable (visible l)) where
  abbrev wanted : Wanted
  wanted = wanted_for f heap size align

  abbrev whole : Whole
  whole = triples k steps ++ l

  give_usable : (block : Block) → (given : IsGiven k wanted (part k l) steps block) → IsUsableGive (given.before ++ visible l) block
  give_usable block given g of d is =
      let page : ℕ = g / 256 in
      let deed = ap (λ (es : List Event). deed_in es page) (visible_steps k steps l ∙ ap (λ (es : List Event). es ++ visible l) given.events) ∙ is in
      let word : word_after whole (Word.Deed page) ≡ deed_word_of d = deed_of f whole legal page ∙ ap word_of_deed deed in
      let some = ap (λ (v : View). known_deed v page) (part_of_own k steps l) ∙ given.of_directory g of in
      let same = same_from_deed_word d _ (directory_is_of f _ legal page d deed).kind (kind_known f _ size align _ refl) (sym word ∙ word_known f whole legal k page wanted.directory some) in
      ap (λ (x : Directory). usable_by_kind x.kind (g % 256)) same ∙ placed_usable f (is_shared f heap) size align _ block g refl given.placed given.room of

  by_answer : (answer : Result Block NoRoom) → RequestEnds k wanted (part k l) steps answer → AreBlocksUsable (visible whole)
  by_answer (Ok block) given =
      let shown = visible_steps k steps l ∙ ap (λ (es : List Event). es ++ visible l) given.events in
      let run : Run f (Event.Give k block ∷ (given.before ++ visible l)) = subst (Run f) shown (runs f whole valid legal) in
      subst AreBlocksUsable (sym shown)
      (next_usable f _ _ run (give_usable block given) (all_usable f given.before (visible l) run.1 (all_map _ IsNoGive given.before (preparing_none _) given.prepared) usable))
  by_answer (Err room) ends = steps_usable f k steps l valid legal (search (arith, all_map, deed_none)) usable

-- ---- a reallocation

replaced_usable : (f : Profile) (k : ℕ) (r : Request) (old : Block) (b : Having) (l : Whole) (a : Answer) → b.view ≡ part k l → IsValid f
    → Legal f (triples k a.steps ++ l) → IsReplaced f k r old b a → AreBlocksUsable (visible l) → AreBlocksUsable (visible (triples k a.steps ++ l))
replaced_usable f k r old b l a view valid legal h usable =
    let whole : Legal f (triples k (h.freed ++ h.placed.steps) ++ l) = subst (λ (ms : List Made). Legal f (triples k ms ++ l)) h.steps_are legal in
    let first : Legal f (triples k h.placed.steps ++ l) = legal_earlier f k h.freed h.placed.steps l whole in
    let ends : RequestEnds k (wanted_by f r) (part k l) h.placed.steps h.served.answer = rw view at h.served.ends in
    let given = by_answer f k r.heap r.size r.align l h.placed.steps valid first usable h.served.answer ends in
    rw (h.steps_are, ← (triples_append k h.freed h.placed.steps l))
    (steps_usable f k h.freed (triples k h.placed.steps ++ l) valid (subst (Legal f) (sym (triples_append k h.freed h.placed.steps l)) whole)
    (search (arith, full_gives)) given)

-- ---- the acts
module _ (f : Profile) (k : ℕ) (p : Progress) (a : Answer) (valid : IsValid f) (legal : Legal f (triples k a.steps ++ p.list)) (usable : HasUsableBlocks p)
  where
    abbrev own : View
    own = part k p.list

    -- an operation that gives no block
    idle_usable : AreNoGives (events_by k own a.steps) → AreBlocksUsable (visible (triples k a.steps ++ p.list))
    idle_usable none = steps_usable f k a.steps p.list valid legal none usable

    operation_usable : (what : What) → IsAnswered f k what (having p.names own (p.caches k)) a → AreBlocksUsable (visible (triples k a.steps ++ p.list))
    operation_usable (What.Alloc name heap size align) h = by_answer f k heap size align p.list a.steps valid legal usable h.answer h.ends
    operation_usable (What.Guarded keeper name heap size align) h = by_answer f k heap size align p.list a.steps valid legal usable h.answer h.ends
    operation_usable (What.Free name) h = idle_usable (named_gives f k (p.caches k) a.cache name None (standing_for p.names name) a.steps a.said own h.0)
    operation_usable (What.FreeSized name room) h = idle_usable (named_gives f k (p.caches k) a.cache name (Some room) _ a.steps a.said own h.0)
    operation_usable (What.Raw block) h = idle_usable (freed_gives f k (p.caches k) a.cache (entry_of block) a.steps a.said own h.0)
    operation_usable (What.RawSized room block) h = idle_usable (freed_gives f k (p.caches k) a.cache (sized_entry block room) a.steps a.said own h.0)
    operation_usable (What.Remake name old heap size align) h = search (arith, replaced_usable)
    operation_usable What.Flush h = idle_usable (flush_gives k (p.caches k).log (p.caches k).noted a.cache.noted a.steps own h.0.empties)
    operation_usable What.Stop h = idle_usable (stop_gives k (p.caches k) a.cache a.steps own h.0)
    operation_usable what h = absurd h

-- ---- the acts of keepers
-- a sweep makes no event
sweep_usable : (f : Profile) (keeper : ℕ) (all : Bool) (guards guards' : List Guard) (said : List Record) (steps : List Made) (l : Whole) → IsValid f
    → Legal f (triples keeper steps ++ l) → SweepSteps f keeper all guards guards' said steps → AreBlocksUsable (visible l)
    → AreBlocksUsable (visible (triples keeper steps ++ l))
sweep_usable f keeper all guards guards' said steps l valid legal h usable = steps_usable f keeper steps l valid legal (subst AreNoGives (sym (no_events sweeping refl keeper _ steps h.kinds)) tt) usable

-- a raise gives its block as any request does, or makes deeds alone
raise_usable : (f : Profile) (keeper : ℕ) (r : Request) (block : Option Block) (steps : List Made) (l : Whole) → IsValid f → Legal f (triples keeper steps ++ l)
    → TryEnds f keeper r (part keeper l) steps block → AreBlocksUsable (visible l) → AreBlocksUsable (visible (triples keeper steps ++ l))
raise_usable f keeper r None steps l valid legal ends usable = steps_usable f _ steps l valid legal (all_map _ _ _ (deed_none (wanted_by f r).directory) ends) usable
raise_usable f keeper r (Some block) steps l valid legal given usable = by_answer f keeper r.heap r.size r.align l steps valid legal usable (Ok block) given

-- what follows a try
left_usable : (f : Profile) (op : Op) (r : Request) (block : Option Block) (p p' : Progress) → IsValid f → Legal f p'.list → AnswersTried f op r block p p'
    → HasUsableBlocks p → HasUsableBlocks p'
left_usable f op r block p p' valid legal is usable = search (arith, operation_usable)

guarded_usable : (f : Profile) (keeper : ℕ) (op : Op) (o : Option Request) (p p' : Progress) → IsValid f → Legal f p'.list → AnswersGuarded f keeper op o p p'
    → HasUsableBlocks p → HasUsableBlocks p'
guarded_usable f keeper op None p p' valid legal is usable = absurd is
guarded_usable f keeper op (Some r) p p' valid legal is usable =
    let midway : Progress = after_trying p keeper is.0 in
    let on = tried_on f op r is.0.block midway p' is.2 in
    let there : Legal f midway.list = pieces_back (Legal f) (legal_before f) on.0 midway.list (subst (Legal f) on.1 legal) in
    left_usable f op r is.0.block midway p' valid legal is.2 (let whole : Legal f (triples keeper (is.1.raised ++ is.1.swept) ++ p.list) = subst
    (λ (ms : List Made). Legal f (triples keeper ms ++ p.list)) is.1.steps_are there in
    let first : Legal f (triples keeper is.1.swept ++ p.list) = legal_earlier f keeper is.1.raised is.1.swept p.list whole in
    let swept = sweep_usable f keeper false (p.books keeper) is.1.left is.1.lowered is.1.swept p.list valid first is.1.sweep usable in
    let ends = subst (λ (v : View). TryEnds f keeper r v is.1.raised is.0.block) (sym (part_of_own keeper is.1.swept p.list)) is.1.ends in
    rw (is.1.steps_are, ← (triples_append keeper is.1.raised is.1.swept p.list))
    (raise_usable f keeper r is.0.block is.1.raised (triples keeper is.1.swept ++ p.list) valid
    (subst (Legal f) (sym (triples_append keeper is.1.raised is.1.swept p.list)) whole) ends swept))

-- Each act leaves each live block on grains that blocks of its page's directory may cover.
pub act_usable : (f : Profile) (act : Act) → KeepsUsable f act
act_usable f (Act.MarksPhase n) p p' valid before after is usable = subst HasUsableBlocks (sym is) usable
act_usable f Act.MarksClose p p' valid before after is usable = subst HasUsableBlocks (sym is) usable
act_usable f (Act.Operates op) p p' valid before after is usable =
    subst HasUsableBlocks (sym is.2) (operation_usable f op.actor p is.0 valid (subst (λ (q : Progress). Legal f q.list) is.2 after.legal) usable op.what is.1)
act_usable f (Act.Guards keeper op) p p' valid before after is usable = guarded_usable f keeper op (request_in op.what) p p' valid after.legal is usable
act_usable f (Act.Settles k) p p' valid before after is usable = subst HasUsableBlocks (sym is) usable
act_usable f Act.MakesPass p p' valid before after is usable = search (arith, steps_usable, unbacks_give)
act_usable f (Act.StopsIdle k n) p p' valid before after is usable = elim is [
  | inl h ↦ subst HasUsableBlocks (sym h.4) (steps_usable f k h.1 p.list valid (subst (λ (q : Progress). Legal f q.list) h.4 after.legal) (stop_gives k (p.caches k) h.2 h.1 (part k p.list) h.3) usable)
  | inr h ↦ subst HasUsableBlocks (sym h.1) usable
]
act_usable f (Act.Ends k) p p' valid before after is usable = subst HasUsableBlocks (sym is.3) (steps_usable f k is.0 p.list valid
    (subst (λ (q : Progress). Legal f q.list) is.3 after.legal) (stop_gives k (p.caches k) is.1 is.0 (part k p.list) is.2) usable)
act_usable f (Act.Lowers keeper) p p' valid before after is usable = subst HasUsableBlocks (sym is.3)
    (sweep_usable f keeper true (p.books keeper) [] is.1 is.0 p.list valid (subst (λ (q : Progress). Legal f q.list) is.3 after.legal) is.2.sweep usable)
act_usable f act p p' valid before after is usable = subst HasUsableBlocks (sym is.1) usable
