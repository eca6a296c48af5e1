-- THE ACTS THAT GIVE BACK: flushes, stops, stops of idle threads, the close, and frees into any log.
use Rattle.std.proofs.Common.{◌≡◌, ℕ, ◌+◌, ◌≤◌, nat_le, Bool, true, false, if◌then◌else◌, List, [], ◌∷◌, ◌++◌, length, Option, None, Some, inl, inr, refl, ap}
use Rattle.std.proofs.Common.{sym, ◌∙◌, subst, append_assoc, arith, append-nil, eq-eqb}
use Rattle.pas_trace.specs.declared.plan.What.TheVariants.{Flush, Stop, FreeSized, RawSized}
use Rattle.pas_answers.specs.Answers.{suits, after_stop}
use Rattle.pas_same_text.{specs.{State.names_it, Passes.stops_idle}, proofs.CacheLists.{same_own, same_with, same_again, same_many, flushes_keep}}
use Rattle.pas_same_text.proofs.{StopActs.{flush_same, stop_same}, SmallActs.{unchanged, pages_next, says_same, cache_state, after_with, said_same}}
use Rattle.pas_same_text.proofs.{SmallActs.{page_inside, freed_is, refused_same, freed_same, asks, name_freed}, Common.{false≢true, nat_tests, IsValid, Block}}
use Rattle.pas_same_text.proofs.Common.{Name, Profile, events_by, part, visible, View, Made, Entry, TakesEntry, EmptiesFull, Cached, Guard, Record}
use Rattle.pas_same_text.proofs.Common.{Said as TheSaid, Said, Act, IsThread, Free, Raw, Progress, Named, named, Answer, having, IsRemadeBy, IsFreed, IsStopped}
use Rattle.pas_same_text.proofs.Common.{records_of, with_records, with_steps, after_answer, with_cache as with_cached, World, Cache, cache_of, set_cache}
use Rattle.pas_same_text.proofs.Common.{log_of, says, remakes, IsSame, IsSameCache, adds, frees, flushes, stops, IsResting, IsBetween, IsTaken, AreBlocksUsable}
use Rattle.pas_same_text.proofs.Common.{HasUsableBlocks, StaysSameWhere}

-- ---- a flush, and a stop
module _ {f : Profile} {k : ℕ} {act : Act} {p p' : Progress} {w : World} (usable : HasUsableBlocks p) (thread : IsThread f k) (listed : k ≤ length w.caches)
    (taken : IsTaken f act p p' w) where
  -- After steps and records of the actor the replay is between two pieces still.
  stepped : (steps : List Made) (c : Cached) (rs : List Record) → p' ≡ with_records (with_steps p k steps c) rs → IsBetween f (with_steps p k steps c)
  stepped steps c rs to = let b = subst (IsBetween f) to taken.after in record { legal = b.legal; rest = b.rest }

  stopped_all : (steps : List Made) (c' : Cached) (rs : List Record) → IsStopped k (p.caches k) c' steps → p' ≡ with_records (with_steps p k steps c') rs
      → IsSame f (with_records (with_steps p k steps c') (records_of (events_by k (part k p.list) steps))) (stops f k w)
  stopped_all steps c' rs is to =
      subst (λ (ms : List Made). IsSame f (with_records (with_steps p k ms c') (records_of (events_by k (part k p.list) ms))) (stops f k w)) (sym is.steps_are)
      (stop_same f k p w is.flushed is.stopped c' taken.valid thread listed taken.before taken.same usable is.empties is.stops is.kinds is.silent is.cache
      (subst (λ (ms : List Made). IsBetween f (with_steps p k ms c')) is.steps_are (stepped steps c' rs to)))

  stopped_plain : (steps : List Made) (c' : Cached) → IsStopped k (p.caches k) c' steps → p' ≡ after_stop p k steps c' [] → IsSame f p' (stops f k w)
  stopped_plain steps c' is reached =
      let rs : List Record = records_of (events_by k (part k p.list) steps) in
      rw (reached, append-nil rs) (stopped_all steps c' (rs ++ []) is reached)

  stopped_said : (steps : List Made) (c' : Cached) (r : Record) → IsStopped k (p.caches k) c' steps → p' ≡ after_stop p k steps c' (r ∷ [])
      → IsSame f p' (says r (stops f k w))
  stopped_said steps c' r is reached =
      let rs : List Record = records_of (events_by k (part k p.list) steps) in
      let q : Progress = with_steps p k steps c' in
      subst (λ (x : Progress). IsSame f x (says r (stops f k w)))
      (sym (reached ∙ ap (λ (xs : List Record). record q { records = xs }) (sym (append_assoc p.records rs (r ∷ [])))))
      (says_same f (with_records q rs) (stops f k w) r (stopped_all steps c' (rs ++ r ∷ []) is reached))

-- A flush leads the text to the replay's state, where live blocks lie on usable grains.
pub flush_act : (f : Profile) (line k : ℕ) → IsThread f k → StaysSameWhere HasUsableBlocks f (asks line k Flush)
flush_act f line k is p p' w usable taken =
    let a = taken.advances.0 in let rs : List Record = records_of (events_by k (part k p.list) a.steps) in
    let to : p' ≡ with_records (with_steps p k a.steps a.cache) (records_of (events_by k (part k p.list) a.steps) ++ []) = search arith in
    rw (to, append-nil rs)
    (flush_same f k p w a.steps a.cache taken.valid is taken.listed taken.before taken.same usable taken.advances.1.0.empties taken.advances.1.0.cache
    (stepped usable is taken.listed taken a.steps a.cache (rs ++ []) to))

-- A thread's stop leads the text to the replay's state, where live blocks lie on usable grains.
pub stop_act : (f : Profile) (line k : ℕ) → IsThread f k → StaysSameWhere HasUsableBlocks f (asks line k Stop)
stop_act f line k is p p' w usable taken =
    let a : Answer = taken.advances.0 in
    stopped_plain usable is taken.listed taken a.steps a.cache taken.advances.1.0
    (search arith)

-- A thread's end at the close leads the text to the replay's state, where live blocks lie on usable grains.
pub end_act : (f : Profile) (k : ℕ) → IsThread f k → StaysSameWhere HasUsableBlocks f (Act.Ends k)
end_act f k is p p' w usable taken = search (arith, stopped_plain)

-- ---- a thread that is idle
idle_test : (f : Profile) (k n : ℕ) (p : Progress) (w : World) → IsThread f k → IsSame f p w
    → nat_le ((cache_of w k).idle_since + n) w.read ≡ nat_le ((p.caches k).idle_since + n) p.epoch
idle_test f k n p w is same = cc ((same.caches.each k is).idle_since)

idle_by : (f : Profile) (k n : ℕ) (w : World) (t : Bool) → nat_le ((cache_of w k).idle_since + n) w.read ≡ t
    → stops_idle f k n w ≡ (if t then says (Record.Said 0 (Said.Stopped k)) (stops f k w) else w)
idle_by f k n w t e = ap (λ (u : Bool). if u then says (Record.Said 0 (Said.Stopped k)) (stops f k w) else w) e

-- The stop of an idle thread leads the text to the replay's state, where live blocks lie on usable grains.
pub idle_act : (f : Profile) (k n : ℕ) → IsThread f k → StaysSameWhere HasUsableBlocks f (Act.StopsIdle k n)
idle_act f k n is p p' w usable taken = elim taken.advances [
  | inl h ↦
      let test : nat_le ((p.caches k).idle_since + n) p.epoch ≡ true = grind (arith, nat_tests, h.0) in
      rw (idle_by f k n w true (idle_test f k n p w is taken.same ∙ test)) (stopped_said usable is taken.listed taken h.1 h.2 _ h.3 h.4)
  | inr h ↦
      search (arith, idle_by, idle_test)
]

-- ==== FREES INTO ANY LOG
module _ (f : Profile) (k : ℕ) (entry : Entry) (p : Progress) (w : World) (c' : Cached) (steps : List Made) (thread : IsThread f k)
    (listed : k ≤ length w.caches) (valid : IsValid f) (before : IsBetween f p) (same : IsSame f p w) (usable : AreBlocksUsable (visible p.list))
    (after : IsBetween f (with_steps p k steps c')) where
  module _ (full : nat_le 64 (length (p.caches k).log) ≡ true) (takes : TakesEntry f k (p.caches k) c' entry steps) where
    abbrev c : Cached
    c = p.caches k

    abbrev emptied : Cached
    emptied = record c { log = []; noted = c'.noted }

    -- The full log was emptied, with the entry in it.
    both : EmptiesFull true k c.log takes.logs.kept c.noted c'.noted steps
    both = subst (λ (t : Bool). EmptiesFull t k c.log takes.logs.kept c.noted c'.noted steps) full takes.logs.emptied

    -- the other caches are as they were, and this one has no log
    rest_at : (j : ℕ) (t : Bool) (guards : List Guard) (v : View) → IsResting f (if t then c' else p.caches j) guards v
        → IsResting f (if t then emptied else p.caches j) guards v
    rest_at j t guards v rest = search arith

    abbrev q : Progress
    q = with_steps p k steps emptied

    flushed_first : IsSame f (with_records q (records_of (events_by k (part k p.list) steps))) (flushes f k w)
    flushed_first = flush_same f k p w steps emptied valid thread listed before same usable both.0 refl (record {
      legal = after.legal;
      rest = search (arith, rest_at);
    })

    abbrev v : World
    v = flushes f k w

    -- The emptied cache is the text's.
    own : IsSameCache emptied (cache_of v k)
    own = subst (λ (d : Cached). IsSameCache d (cache_of v k)) (same_own p.caches k emptied) (flushed_first.caches.each k thread)

    abbrev new : Cache
    new = record (cache_of v k) { log = log_of v k ++ entry ∷ [] }

    -- the fields are those that the answer tells
    cache_is : c' ≡ record c { log = entry ∷ []; noted = c'.noted }
    cache_is = takes.cache ∙ ap (λ (es : List Entry). record c { log = es; noted = c'.noted }) (takes.logs.log_is ∙ ap (λ (es : List Entry). es ++ entry ∷ []) both.1)

    -- A free that fits the log is the text's entry more.
    added : IsSame f (after_with p k steps None p.names c') (adds k entry v)
    added =
        let pages = pages_next f q.list q.list v (set_cache k new v) flushed_first.pages (unchanged q.list) (cache_state v k new refl) in
        let caches = same_again f p.caches (adds k entry v).caches k emptied c'
        (same_with f (with_cached p.caches k emptied) v.caches k c' new thread
        (omega (arith, listed, same_many w v (flushes_keep f k w))) flushed_first.caches (rw cache_is
        (record { locals = own.locals; log = ap (λ (es : List Entry). es ++ entry ∷ []) own.log; noted = own.noted; idle_since = own.idle_since }))) in
        let records = ap (λ (rs : List Record). p.records ++ rs) (append-nil (records_of (events_by k (part k p.list) steps))) ∙ flushed_first.records in
        assumption (pages, caches, records, flushed_first)

  by_room : (t : Bool) → nat_le 64 (length (p.caches k).log) ≡ t → TakesEntry f k (p.caches k) c' entry steps
      → IsSame f (after_with p k steps None p.names c') (frees f k entry w)
  by_room true e takes = search (arith, added e takes, page_inside, freed_is, eq-eqb)
  by_room false e takes = freed_same f k entry p w c' steps None thread listed same e (inl (takes, refl))

  -- A free into any log, a full one too, leads the text to the replay's state.
  pub freed_any : (said : Option TheSaid) → IsFreed f k (p.caches k) c' entry steps said → IsSame f (after_with p k steps said p.names c') (frees f k entry w)
  freed_any said (inl t) = subst (λ (s : Option TheSaid). IsSame f (after_with p k steps s p.names c') (frees f k entry w)) (sym t.1) (by_room _ refl t.0)
  freed_any said (inr t) = rw t.2 (refused_same f k entry p w c' steps t.0 same t.1)

-- ---- the acts
module _ {f : Profile} {k : ℕ} {act : Act} {p p' : Progress} {w : World} (thread : IsThread f k) (listed : k ≤ length w.caches) (taken : IsTaken f act p p' w)
    (usable : HasUsableBlocks p) (a : Answer) (names : a.names ≡ p.names) (reached : p' ≡ after_answer p k a) where
  -- What the answer leads to.
  to : p' ≡ after_with p k a.steps a.said p.names a.cache
  to = reached ∙ ap (λ (ns : List Named). after_with p k a.steps a.said ns a.cache) names

  entry_any : (entry : Entry) → IsFreed f k (p.caches k) a.cache entry a.steps a.said → IsSame f p' (frees f k entry w)
  entry_any entry freed =
      rw to (freed_any f k entry p w a.cache a.steps thread listed taken.valid taken.before taken.same usable
      (let b = subst (IsBetween f) to taken.after in record { legal = b.legal; rest = b.rest }) a.said freed)

-- A free of a bare name leads the text to the replay's state, whatever the thread's log holds.
pub raw_act : (f : Profile) (line k : ℕ) (block : Name) → IsThread f k → StaysSameWhere HasUsableBlocks f (asks line k (Raw block))
raw_act f line k block is p p' w usable taken = search (arith, entry_any)

-- A free of a bare name with its room leads the text to the replay's state, whatever the thread's log holds.
pub raw_sized_act : (f : Profile) (line k room : ℕ) (block : Name) → IsThread f k → StaysSameWhere HasUsableBlocks f (asks line k (RawSized room block))
raw_sized_act f line k room block is p p' w usable taken = search (arith, entry_any)

-- A free of a name of the trace leads the text to the replay's state, whatever the thread's log holds.
pub free_act : (f : Profile) (line k name : ℕ) → IsThread f k → StaysSameWhere HasUsableBlocks f (asks line k (Free name))
free_act f line k name is p p' w usable taken =
    (name_freed f k p p' w taken.advances.0 taken.same taken.advances.1.1 taken.advances.2
    (entry_any is taken.listed taken usable taken.advances.0 taken.advances.1.1 taken.advances.2)) name None taken.advances.1.0

-- A free of a name of the trace with its room leads the text to the replay's state, whatever the log holds.
pub free_sized_act : (f : Profile) (line k name room : ℕ) → IsThread f k → StaysSameWhere HasUsableBlocks f (asks line k (FreeSized name room))
free_sized_act f line k name room is p p' w usable taken =
    (name_freed f k p p' w taken.advances.0 taken.same taken.advances.1.1 taken.advances.2
    (entry_any is taken.listed taken usable taken.advances.0 taken.advances.1.1 taken.advances.2)) name (Some room) taken.advances.1.0

-- ---- reallocations that do nothing
remade_as : (f : Profile) (k name : ℕ) (o : Option Block) (said : TheSaid) (p p' : Progress) (w : World) (a : Answer) → IsSame f p w → p' ≡ after_answer p k a
    → a.steps ≡ [] → a.cache ≡ p.caches k → a.said ≡ Some said → a.names ≡ named name o ∷ p.names
    → IsSame f p' (names_it name o (says (Record.Said k said) w))
remade_as f k name o said p p' w a same reached steps cache is names =
    subst (λ (q : Progress). IsSame f q (names_it name o (says (Record.Said k said) w)))
    (cc)
    (let it : IsSame f (after_with p k [] (Some said) (named name o ∷ p.names) (p.caches k)) (names_it name o (says (Record.Said k said) w)) = let to : IsSame f
    (after_with p k [] (Some said) p.names (p.caches k)) (says (Record.Said k said) w) = said_same f k said p w same in
    let pages = pages_next f p.list p.list w (names_it name o (says (Record.Said k said) w)) same.pages (unchanged p.list) assumption in
    assumption (pages, ap (λ (ns : List Named). named name o ∷ ns) same.names, to) in it)

-- of reallocations those that do nothing: the block suits as it is, or the old name stands for none
abbrev pub IsIdleRemake : ℕ → ℕ → Option (Option Block) → Type 0
IsIdleRemake size align (Some (Some old)) = suits old size align ≡ true
IsIdleRemake size align meant = Unit {0}

-- A reallocation that makes no request, as the block is kept or its name was refused, leads the text to the replay's state.
pub remakes_idly : (f : Profile) (k name size align : ℕ) (meant : Option (Option Block)) (p p' : Progress) (w : World) (a : Answer)
    → IsIdleRemake size align meant → IsSame f p w → p' ≡ after_answer p k a
    → IsRemadeBy f k name size align meant (having p.names (part k p.list) (p.caches k)) a → IsSame f p' (remakes f k name size align meant w)
remakes_idly f k name size align None p p' w a idle same reached h = absurd h
remakes_idly f k name size align (Some None) p p' w a idle same reached h = remade_as f k name None (Said.Skipped name) p p' w a same reached h.0 h.1 h.2 h.3
remakes_idly f k name size align (Some (Some old)) p p' w a idle same reached (inl kept) =
    rw idle (remade_as f k name (Some old) (Said.Kept old.name name) p p' w a same reached kept.no_steps kept.cache kept.said_is kept.names_are)
remakes_idly f k name size align (Some (Some old)) p p' w a idle same reached (inr replaced) = absurd (false≢true (sym replaced.unsuited ∙ idle))
