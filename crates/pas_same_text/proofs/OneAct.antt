-- ONE ACT keeps the text, by all that is known of it.
use Rattle.std.proofs.Common.{arith, ◌≡◌, ℕ, ◌≤◌, Bool, List, Option, None, Some, inl, inr, refl, sym, subst}
use Rattle.pas_same_text.proofs.Common.{IsAdmitted, route_in, Route, Block, Profile, part, Indexes, Act, IsThread, Request, What, Progress, Named, Answer}
use Rattle.pas_same_text.proofs.Common.{having, standing_for, IsServed, IsRemadeBy, after_answer, IsNamedBy, World, IsSame, IsBetween, HandsOnOwn, IsKnown}
use Rattle.pas_same_text.proofs.{Common.{KeepsSame, IsActOf, IsAsked, AnswersSame, RequestStaysSame, remakes, acts_on}, BackActs.{flush_act, stop_act, end_act}}
use Rattle.pas_same_text.proofs.{BackActs.{idle_act, raw_act, raw_sized_act, free_act, free_sized_act, remakes_idly}, CachedSlots.has_asked}
use Rattle.pas_same_text.proofs.{BitfitRequests.bitfit_answered, ClassRequests.class_answered, GuardActs.by_what, LowerActs.lower_act}
use Rattle.pas_same_text.proofs.{PagesRequests.{pages_answered, named_large}, PassActs.pass_same, Replaced.replaced_same, CacheLists.indexes_kept}
use Rattle.pas_same_text.proofs.{KeepersRest.{thread_of, keeper_of}, SmallActs.{phase_same, close_same, wake_same, reading_same, tick_same, settling_same}}
use Rattle.pas_answers.specs.{Answers.request_for, Indexes.{unless_suited, request_made}, Calls.block_behind}

-- ---- a request, by its route
by_route : (f : Profile) (k : ℕ) (r : Request) (p : Progress) (a : Answer) (w : World) (route : Route) → route_in f r.size r.align ≡ route → IsAsked f k r p a w
    → AnswersSame f k r p a w
by_route f k r p a w (Route.Class class) e asked = class_answered f k r.name r.heap r.size r.align class p a w asked.listed asked.admitted e (has_asked asked)
by_route f k r p a w Route.Bitfit e asked = bitfit_answered f k r.name r.heap r.size r.align p a w asked.admitted e (has_asked asked)
by_route f k r p a w Route.Large e asked = pages_answered f k _ r.heap r.size _ p a w asked.admitted e (has_asked asked) (named_large f r _ _ e asked.named)

-- A request of any route leads the text to the replay's state.
pub request_same : (f : Profile) (k : ℕ) (r : Request) → RequestStaysSame f k r
request_same f k r p a w asked = by_route f k r p a w (route_in f r.size r.align) refl asked

-- ---- an operation, whose act is known of
-- the thread that acts is one of the region
acting : {threads : ℕ} {f : Profile} {line k : ℕ} {what : What} {p p' : Progress} {w : World} {indexes : Indexes}
    → IsKnown threads f (Act.Operates (record { line = line; actor = k; what = what })) p p' w indexes → IsThread f k
acting {threads} {f} {line} {k} known = thread_of threads f k known.planned.0 known.seated.few

module _ (threads : ℕ) (f : Profile) (line k : ℕ) (what : What) (p p' : Progress) (w : World) (indexes : Indexes)
    (known : IsKnown threads f (Act.Operates (record { line = line; actor = k; what = what })) p p' w indexes) where
  abbrev a : Answer
  a = known.taken.advances.0

  -- The act leads to what its answer says.
  reached : p' ≡ after_answer p k a
  reached = known.taken.advances.2

  -- There the replay is between two pieces.
  after : IsBetween f (after_answer p k a)
  after = subst (IsBetween f) reached known.taken.after

  named_in_text : (r : Request) (found : Option ℕ) → IsNamedBy f indexes (Some r) found → IsNamedBy f w.indexes (Some r) found
  named_in_text r found named = subst (λ (ix : Indexes). IsNamedBy f ix (Some r) found) (sym known.indexes_are) named

  -- one that is a request
  asked : (r : Request) → IsAdmitted f r.size r.align r.heap → IsServed f k r (having p.names (part k p.list) (p.caches k)) a
      → IsNamedBy f indexes (Some r) a.found → AnswersSame f k r p a w
  asked r admitted served named = request_same f k r p a w (assumption (acting known, after, named_in_text r a.found named, known.taken))

  -- a reallocation. A block that is replaced is of some heap of the region
  remade : (name old heap size align : ℕ) (meant : Option (Option Block)) → IsAdmitted f size align heap
      → IsRemadeBy f k name size align meant (having p.names (part k p.list) (p.caches k)) a
      → IsNamedBy f indexes (request_made (What.Remake name old heap size align) (block_behind meant)) a.found
      → IsSame f p' (remakes f k name size align meant w)
  remade name old heap size align None admitted is named = absurd is
  remade name old heap size align (Some None) admitted is named = remakes_idly f k name size align (Some None) p p' w a tt known.taken.same reached is
  remade name old heap size align (Some (Some block)) admitted (inl kept) named = remakes_idly f k _ size _ (Some (Some _)) p p' w a kept.suited known.taken.same reached (inl kept)
  remade name old heap size align (Some (Some block)) admitted (inr moved) named =
      let r : Request = request_for block name size align in
      let own : IsAdmitted f size align block.heap = record { within = admitted.within; aligned = admitted.aligned; of_profile = moved.of_region } in
      let found : IsNamedBy f indexes (Some r) moved.placed.found =
      subst (λ (o : Option ℕ). IsNamedBy f indexes (Some r) o) moved.found_is (subst (λ (t : Bool). IsNamedBy f indexes (unless_suited t r) a.found) moved.unsuited named) in
      rw (reached, moved.unsuited) (replaced_same f k r block p a w refl known.taken.valid
      (acting known) known.taken.listed own known.taken.before after known.taken.same known.usable moved (named_in_text r moved.placed.found found)
      (request_same f k r))

-- the state that it comes to is that of the replay
abbrev LeavesSame : ℕ → Profile → Act → Type 0
LeavesSame threads f act = (p p' : Progress) (w : World) (indexes : Indexes) → IsKnown threads f act p p' w indexes → IsSame f p' (acts_on f act w)

operation_same : (threads : ℕ) (f : Profile) (line k : ℕ) (what : What) → LeavesSame threads f (Act.Operates (record { line = line; actor = k; what = what }))
operation_same threads f line k (What.Alloc name heap size align) p p' w indexes known =
    rw known.taken.advances.2 (asked threads f line k _ p p' w indexes known _ known.planned.1 known.taken.advances.1 known.named)
operation_same threads f line k (What.Guarded keeper name heap size align) p p' w indexes known =
    rw known.taken.advances.2 (asked threads f line k _ p p' w indexes known _ known.planned.1 known.taken.advances.1 known.named)
operation_same threads f line k (What.Free name) p p' w indexes known = free_act f line k name (acting known) p p' w known.usable known.taken
operation_same threads f line k (What.FreeSized name room) p p' w indexes known = free_sized_act f line k name room (acting known) p p' w known.usable known.taken
operation_same threads f line k (What.Raw block) p p' w indexes known = raw_act f line k block (acting known) p p' w known.usable known.taken
operation_same threads f line k (What.RawSized room block) p p' w indexes known = raw_sized_act f line k room block (acting known) p p' w known.usable known.taken
operation_same threads f line k (What.Remake name old heap size align) p p' w indexes known =
    subst (λ (ns : List Named). IsSame f p' (remakes f k name size align (standing_for ns old) w)) (sym known.taken.same.names)
    (remade threads f line k _ p p' w indexes known name old heap size align (standing_for p.names old) known.planned.1 known.taken.advances.1 known.named)
operation_same threads f line k What.Flush p p' w indexes known = flush_act f line k (acting known) p p' w known.usable known.taken
operation_same threads f line k What.Stop p p' w indexes known = stop_act f line k (acting known) p p' w known.usable known.taken
operation_same threads f line k what p p' w indexes known = absurd known.taken.advances.1

-- ---- AN ACT that is no guarded request
abbrev IsOwn : Act → Type 0
IsOwn (Act.Guards keeper op) = ⊥
IsOwn act = Unit {0}

own_same : (threads : ℕ) (f : Profile) (act : Act) → IsOwn act → LeavesSame threads f act
own_same threads f (Act.Operates op) own p p' w indexes known = operation_same threads f op.line op.actor op.what p p' w indexes known
own_same threads f (Act.Guards keeper op) own p p' w indexes known = absurd own
own_same threads f (Act.Settles k) own p p' w indexes known = settling_same f k (thread_of threads f k known.planned.0 known.seated.few) p p' w known.taken
own_same threads f (Act.Ticks epoch) own p p' w indexes known = tick_same f epoch p p' w known.taken
own_same threads f Act.MakesPass own p p' w indexes known = pass_same f p p' w known.stamped known.taken
own_same threads f Act.ReadsEpoch own p p' w indexes known = reading_same f p p' w known.taken
own_same threads f (Act.StopsIdle k n) own p p' w indexes known = idle_act f k n (thread_of threads f k known.planned.0 known.seated.few) p p' w known.usable known.taken
own_same threads f (Act.MarksPhase n) own p p' w indexes known = phase_same f n p p' w known.taken
own_same threads f (Act.Wakes k) own p p' w indexes known = wake_same f k (thread_of threads f k known.planned.0 known.seated.few) p p' w known.taken
own_same threads f Act.MarksClose own p p' w indexes known = close_same f p p' w known.taken
own_same threads f (Act.Ends k) own p p' w indexes known = end_act f k (thread_of threads f k known.planned.0 known.seated.few) p p' w known.usable known.taken
own_same threads f (Act.Lowers keeper) own p p' w indexes known = lower_act f keeper (keeper_of threads f keeper known.planned.0) p p' w known.taken

hands_on_own : (threads : ℕ) (f : Profile) (act : Act) → IsOwn act → IsActOf threads f act → threads ≤ f.threads → HandsOnOwn f act
hands_on_own threads f act own is few = search (arith, thread_of)

-- ---- AN ACT
pub act_same : (threads : ℕ) (f : Profile) (act : Act) → KeepsSame threads f act
act_same threads f (Act.Guards keeper op) = by_what threads f keeper op.line op.actor op.what
act_same threads f act = λ p p' w indexes known. record {
  same = own_same threads f act tt p p' w indexes known;
  indexes_are = indexes_kept f act p p' w indexes (hands_on_own threads f act tt known.planned.0 known.seated.few) known.taken known.indexes_are;
}
