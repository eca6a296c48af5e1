-- What workers did, each for itself, is put into the order of the acts: what a piece does to each one's share, and then the whole.
use Rattle.std.proofs.Common.{if◌then◌else◌, [], arith, ◌≡◌, ◌≢◌, ℕ, ◌==◌, Bool, false, List, ◌∷◌, ◌++◌, refl, ap, sym, ◌∙◌, append-nil, ne_eqb, ◌+◌, true}
use Rattle.std.proofs.Common.{Option, None, Some, inl, inr, append_assoc, max, subst, eq-eqb}
use Rattle.pas_acts.proofs.Common.{cases_eq, Whole, part, triples, made, events_by, View, Made, part_of_own, part_of_others, Record, Said, Cached, Named}
use Rattle.pas_acts.proofs.Common.{with_book, Progress, named, having, answer_of, standing_for, IsAnswered, IsStopped, after_answer, after_wake, after_reading}
use Rattle.pas_acts.proofs.Common.{after_tick, after_pass, after_stop, stopped, epoch_look, begun, records_of, said_by, EachOf, records_by, AreSpoken}
use Rattle.pas_acts.proofs.Common.{records_of_pass, AreFit, IsFitWhat, OnlyAsked, Tried, IsTried, after_trying, after_giving, IsLowered, after_lowering}
use Rattle.pas_acts.proofs.Common.{AnswersTried, Advances, Reaches, records_both, none_by, events_of_piece, pass_of, piece_of, swept_each, try_each, Guard}
use Rattle.pas_acts.proofs.Common.{Profile, Block, Owners, AreAmong, actor_of_act, IsInHand, AreInHand, acts_by, asked_after_act, Op, Request, Act, Operates}
use Rattle.pas_acts.proofs.{Common.{Guards, Settles, Ticks, MakesPass, ReadsEpoch, StopsIdle, Wakes, Ends, Lowers, request_in}, Naming.{retold, names_new}}
use Rattle.pas_acts.specs.Shares.{IsShareOf, Asks, IsWoven}
use Rattle.pas_answers.{specs.{Reaching.AnswersGuarded, Answers.{with_cache, with_records, with_steps, IsIdleFor}}, proofs.OwnRecords.spoken_piece}
use Rattle.pas_answers.proofs.OwnRecords.{spoken_both}
use Rattle.pas_steps.specs.{Desks.triple, declared.step.Step.Step}
use Rattle.pas_core.{specs.Orders.steps_by, proofs.Choosing.{step_passed, steps_by_both}}

-- ---- parts
-- ---- steps
-- the same ones in front of both
same_steps : (chosen : ℕ → Bool) (new l m : Whole) → steps_by chosen l ≡ steps_by chosen m → steps_by chosen (new ++ l) ≡ steps_by chosen (new ++ m)
same_steps chosen new l m same = steps_by_both chosen new l ∙ (ap (λ (n : Whole). steps_by chosen new ++ n) same ∙ sym (steps_by_both chosen new m))

-- those of somebody else
steps_past : (chosen : ℕ → Bool) (k : ℕ) (steps : List Made) (l : Whole) → chosen k ≡ false → steps_by chosen (triples k steps ++ l) ≡ steps_by chosen l
steps_past chosen k [] l other = refl
steps_past chosen k (m ∷ steps) l other = step_passed chosen (triple k m) (triples k steps ++ l) other ∙ steps_past chosen k steps l other

-- ---- one thing of the two is changed, and stays shared
module _ {owner : Owners} {w : ℕ} {own p : Progress} (share : IsShareOf owner w own p) where
  -- A worker's share is so by fewer names, where these are among all.
  by_names : (few many : List Named) → AreAmong few many → IsShareOf owner w (record own { names = few }) (record p { names = many })
  by_names few many among = search arith

  -- A worker's share may have another epoch, unless the scavenger is in its hands.
  by_epochs : (e f : ℕ) → (owner 0 ≡ w → e ≡ f) → IsShareOf owner w (record own { epoch = e }) (record p { epoch = f })
  by_epochs e f same = search arith

-- ---- the same change at both
share_list : {owner : Owners} {w : ℕ} {own p : Progress} (k : ℕ) (steps : List Made) → IsShareOf owner w own p
    → IsShareOf owner w (record own { list = triples k steps ++ own.list }) (record p { list = triples k steps ++ p.list })
share_list {owner} {w} {own} {p} k steps share = search (arith, same_steps, cases_eq, part_of_own, part_of_others)

-- A worker's share changes as the whole does, where one cache became another.
share_cache : {owner : Owners} {w : ℕ} {own p : Progress} (k : ℕ) (c c' : Cached) → c ≡ c' → IsShareOf owner w own p
    → IsShareOf owner w (record own { caches = with_cache own.caches k c }) (record p { caches = with_cache p.caches k c' })
share_cache {owner} {w} {own} {p} k c c' same share = search arith

-- A worker's share changes as the whole does, where one book became another.
share_book : {owner : Owners} {w : ℕ} {own p : Progress} (k : ℕ) (guards : List Guard) → IsShareOf owner w own p
    → IsShareOf owner w (record own { books = with_book own.books k guards }) (record p { books = with_book p.books k guards })
share_book {owner} {w} {own} {p} k guards share = search arith

-- A worker's share changes as the whole does, where records were added.
share_records : {owner w own p : _} (rs : List Record) → IsShareOf owner w own p → IsShareOf owner w (with_records own rs) (with_records p rs)
share_records {owner} {w} {own} {p} rs share = search (arith, records_both)

-- ---- a change of what another worker has in its hands
apart : (owner : Owners) (k j x : ℕ) → owner k ≢ x → owner j ≡ x → k ≢ j
apart owner k j x other is same = other (ap owner same ∙ is)

-- Another worker's share stays as it is where an actor of this one makes steps.
beside_list : {owner : Owners} {x : ℕ} {own p : Progress} (k : ℕ) (steps : List Made) → owner k ≢ x → IsShareOf owner x own p
    → IsShareOf owner x own (record p { list = triples k steps ++ p.list })
beside_list {owner} {x} {own} {p} k steps other share = search (arith, steps_past, ne_eqb, part_of_others)

-- Another worker's share stays as it is where a cache in this one's hands changes.
beside_cache : {owner : Owners} {x : ℕ} {own p : Progress} (k : ℕ) (c : Cached) → owner k ≢ x → IsShareOf owner x own p
    → IsShareOf owner x own (record p { caches = with_cache p.caches k c })
beside_cache {owner} {x} {own} {p} k c other share = search (arith, ne_eqb)

-- Another worker's share stays as it is where a book in this one's hands changes.
beside_book : {owner : Owners} {x : ℕ} {own p : Progress} (k : ℕ) (guards : List Guard) → owner k ≢ x → IsShareOf owner x own p
    → IsShareOf owner x own (record p { books = with_book p.books k guards })
beside_book {owner} {x} {own} {p} k guards other share = search (arith, ne_eqb)

-- none of these records is of an actor in the hands of worker x
abbrev pub AreElsewhere : Owners → ℕ → List Record → Type 0
AreElsewhere owner x rs = (j : ℕ) → owner j ≡ x → records_by j rs ≡ []

-- Records of an actor in another one's hands are elsewhere.
elsewhere : (owner : Owners) (x k : ℕ) (rs : List Record) → EachOf k rs → owner k ≢ x → AreElsewhere owner x rs
elsewhere owner x k rs each other = λ j is. none_by j k rs each (apart owner k j x other is)

-- Two lists of records that are elsewhere are so together.
elsewhere_both : (owner : Owners) (x : ℕ) (rs ss : List Record) → AreElsewhere owner x rs → AreElsewhere owner x ss → AreElsewhere owner x (rs ++ ss)
elsewhere_both owner x rs ss one two = λ j is. records_both j rs ss ∙ ap (λ (xs : List Record). xs ++ records_by j ss) (one j is) ∙ two j is

-- Another worker's share stays as it is where records elsewhere are added.
beside_records : {owner x own p : _} (rs : List Record) → AreElsewhere owner x rs → IsShareOf owner x own p → IsShareOf owner x own (with_records p rs)
beside_records {owner} {x} {own} {p} rs away share = search (arith, records_both, append-nil)

-- ---- one act
-- An act that was answered from a share on is answered from all on. Its worker has its share of what came of it, and each other worker the one that it had.
pub record IsWovenOne (f : Profile) (owner : Owners) (act : Act) (asked : List ℕ) (p own : Progress) : Type 0 where
  pub next : Progress
  pub advances : Advances f act p next
  pub share : IsShareOf owner (owner (actor_of_act act)) own next
  pub beside : (x : ℕ) (other : Progress) → owner (actor_of_act act) ≢ x → IsShareOf owner x other p → IsShareOf owner x other next
  pub said : List Record
  pub records_are : next.records ≡ p.records ++ said
  pub spoken : AreSpoken said
  pub only_asked : OnlyAsked (asked_after_act act asked) next.names
  pub same_names : (n : ℕ) → (Asks n act → ⊥) → standing_for next.names n ≡ standing_for p.names n

-- By an act its worker comes to `mine`, all come to `next`, and `said` is added to the records.
woven_by : {p : Progress} {f owner asked act after mine : _} (next : Progress) (said : List Record) → OnlyAsked (asked_after_act act asked) next.names
    → ((n : ℕ) → (Asks n act → ⊥) → standing_for next.names n ≡ standing_for p.names n) → next.records ≡ p.records ++ said → AreSpoken said → after ≡ mine
    → IsShareOf owner (owner (actor_of_act act)) mine next
    → ((x : ℕ) (other : Progress) → owner (actor_of_act act) ≢ x → IsShareOf owner x other p → IsShareOf owner x other next) → Advances f act p next
    → IsWovenOne f owner act asked p after
woven_by {p} {f} {owner} {asked} {act} {after} {mine} next said only names records spoken is share beside advances = search arith

operates_one : (f : Profile) (owner : Owners) (limit : ℕ) (asked : List ℕ) (op : Op) (p before after : Progress) → IsFitWhat f limit asked op.what
    → OnlyAsked asked p.names
    → IsShareOf owner (owner op.actor) before p → Advances f (Operates op) before after → IsWovenOne f owner (Operates op) asked p after
operates_one f owner limit asked op p before after fit only share did =
    let k = op.actor in
    let a = did.0 in
    let v = share.parts k refl in
    let c = share.caches k refl in
    let here : IsAnswered f k op.what (having before.names (part k p.list) (p.caches k)) a = rw (v, c) at did.1 in
    let again = retold f limit k op.what asked before.names p.names (part k p.list) (p.caches k) a share.names only fit here in
    let b = answer_of a.steps a.said a.found again.after a.cache in
    let piece = records_of (events_by k (part k p.list) a.steps) ++ said_by k a.said in
    let each = piece_of k (part k p.list) a.steps a.said in
    let same : after ≡ with_records (record (with_steps before k a.steps a.cache) { names = a.names }) piece = did.2 ∙ ap (λ (u : View). with_records
    (record (with_steps before k a.steps a.cache) { names = a.names }) (records_of (events_by k u a.steps) ++ said_by k a.said)) v in
    woven_by {p = p} (after_answer p k b) piece again.only_asked again.same_names refl (spoken_piece k piece each) same
    (share_records piece (by_names (share_cache k a.cache a.cache refl (share_list k a.steps share)) a.names again.after again.own))
    (λ x o other theirs. beside_records piece (elsewhere owner x k piece each other)
    (by_names (beside_cache k a.cache other (beside_list k a.steps other theirs)) o.names again.after (again.others o.names theirs.names)))
    (b, again.answered, refl)

-- ---- a stop, which says so much besides
stops_one : (f : Profile) (owner : Owners) (asked : List ℕ) (act : Act) (k j : ℕ) (p before after : Progress) (steps : List Made) (c : Cached)
    (more : List Record)
    → owner k ≡ owner (actor_of_act act) → owner j ≡ owner (actor_of_act act)
    → EachOf j more → OnlyAsked (asked_after_act act asked) p.names → IsShareOf owner (owner (actor_of_act act)) before p
    → IsStopped k (before.caches k) c steps → after ≡ after_stop before k steps c more
    → (IsStopped k (p.caches k) c steps → Advances f act p (after_stop p k steps c more)) → IsWovenOne f owner act asked p after
stops_one f owner asked act k j p before after steps c more mine said_mine each only share did is advances =
    let v = share.parts k mine in
    let events = records_of (events_by k (part k p.list) steps) in
    let own = events_of_piece k (part k p.list) steps in
    let same : after ≡ with_records (with_steps before k steps c) (events ++ more) = is ∙ ap (λ (u : View). with_records (with_steps before k steps c) (records_of (events_by k u steps) ++ more)) v in
    woven_by (after_stop p k steps c more) (events ++ more) only (λ n none. refl) refl (spoken_both events more (spoken_piece k events own)
    (spoken_piece j more each)) same (share_records (events ++ more) (share_cache k c c refl (share_list k steps share)))
    (λ x o other theirs.
    let ne : owner k ≢ x = λ is. other (sym mine ∙ is) in
    let away = elsewhere_both owner x events more (elsewhere owner x k events own ne) (elsewhere owner x j more each (λ is. other (sym said_mine ∙ is))) in
    beside_records (events ++ more) away (beside_cache k c ne (beside_list k steps ne theirs)))
    (advances (subst (λ (d : Cached). IsStopped k d c steps) (share.caches k mine) did))

-- the cache and the epoch of the one are those of the other
idle_same : (owner : Owners) (w k n : ℕ) (own p : Progress) → owner k ≡ w → owner 0 ≡ w → IsShareOf owner w own p → IsIdleFor own k n ≡ IsIdleFor p k n
idle_same owner w k n own p mine scavenger share = search arith

idle_one : (f : Profile) (owner : Owners) (asked : List ℕ) (k n : ℕ) (p before after : Progress) → owner k ≡ owner 0 → OnlyAsked asked p.names
    → IsShareOf owner (owner 0) before p → Advances f (StopsIdle k n) before after → IsWovenOne f owner (StopsIdle k n) asked p after
idle_one f owner asked k n p before after mine only share did =
    let same = idle_same owner (owner 0) k n before p mine refl share in
    elim did [
      | inl so ↦ stops_one f owner asked (StopsIdle k n) k 0 p before after so.1 so.2 (stopped k) mine refl (λ j. refl, tt) only share so.3 so.4
          (λ is. inl (subst (λ (A : Type 0). A) same so.0, so.1, so.2, is, refl))
      | inr not_so ↦ woven_by p [] only (λ n none. refl) (sym (append-nil p.records)) tt not_so.1 share (λ x o other theirs. theirs)
          (inr (λ idle. not_so.0 (subst (λ (A : Type 0). A) (sym same) idle), refl))
    ]

-- ---- a guarded request: its keeper's piece, and what follows it
-- The worker's own progress after the try is its share of that of all; each other worker has its share as before.
record TriedOne (owner : Owners) (w : ℕ) (p own : Progress) (keeper : ℕ) (t : Tried) : Type 0 where
  share : IsShareOf owner w (after_trying own keeper t) (after_trying p keeper t)
  beside : (x : ℕ) (other : Progress) → w ≢ x → IsShareOf owner x other p → IsShareOf owner x other (after_trying p keeper t)

tried_one : (owner : Owners) (w : ℕ) (p own : Progress) (keeper : ℕ) (t : Tried) → owner keeper ≡ w → EachOf keeper t.records → IsShareOf owner w own p
    → TriedOne owner w p own keeper t
tried_one owner w p own keeper t mine each share = record {
  share = share_records t.records (share_book keeper t.guards (share_list keeper t.steps share));
  beside = λ x other ne theirs.
      let away : owner keeper ≢ x = λ is. ne (sym mine ∙ is) in
      beside_records t.records (elsewhere owner x keeper t.records each away) (beside_book keeper t.guards away (beside_list keeper t.steps away theirs));
}

module _ (f : Profile) (owner : Owners) (limit : ℕ) (asked : List ℕ) (keeper : ℕ) (op : Op) (p before after : Progress) (fit : IsFitWhat f limit asked op.what)
    (mine : owner keeper ≡ owner op.actor) (only : OnlyAsked asked p.names)
    (share : IsShareOf owner (owner op.actor) before p) where
  -- what comes after it, where the keeper gave a block, and where it gave none
  followed : (r : Request) (t : Tried) (block : Option Block) → request_in op.what ≡ Some r → t.block ≡ block
      → IsTried f keeper r (part keeper p.list) (p.books keeper) t → EachOf keeper t.records
      → AnswersTried f op r block (after_trying before keeper t) after → IsWovenOne f owner (Guards keeper op) asked p after
  followed r t (Some block) asks given is each did =
      let one = tried_one owner (owner op.actor) p before keeper t mine each share in
      let next = after_giving (after_trying p keeper t) r.name block in
      let new = names_new asked before.names p.names r.name (Some block) (grind arith) share.names only in
      woven_by {p = p} next t.records (rw asks new.only_asked) (λ n none. new.same_names n (λ same. none (rw asks same))) refl
      (spoken_piece keeper t.records each) did (by_names one.share _ _ new.own)
      (λ x o other theirs. by_names (one.beside x o other theirs) o.names (named r.name (Some block) ∷ p.names) (new.others o.names theirs.names))
      (rw asks (t, is, rw given refl))
  followed r t None asks given is each did =
      let one = tried_one owner (owner op.actor) p before keeper t mine each share in
      let late = operates_one f owner limit asked op (after_trying p keeper t) (after_trying before keeper t) after fit only one.share did in
      woven_by {p = p} late.next (t.records ++ late.said) late.only_asked late.same_names (late.records_are ∙ append_assoc p.records t.records late.said)
      (spoken_both t.records late.said (spoken_piece keeper t.records each) late.spoken) refl late.share
      (λ x o other theirs. late.beside x o other (one.beside x o other theirs))
      (rw asks (t, is, subst (λ (b : Option Block). AnswersTried f op r b (after_trying p keeper t) late.next) (sym given) late.advances))

  -- A guarded request is woven into its thread's acts.
  guarded : (o : Option Request) → request_in op.what ≡ o → AnswersGuarded f keeper op o before after → IsWovenOne f owner (Guards keeper op) asked p after
  guarded o h i = grind (arith, followed, try_each)

-- ---- any act
woven_one : (f : Profile) (owner : Owners) (limit : ℕ) (asked : List ℕ) (act : Act) (acts : List Act) (p before after : Progress)
    → AreFit f limit asked (act ∷ acts) → IsInHand owner act → OnlyAsked asked p.names
    → IsShareOf owner (owner (actor_of_act act)) before p → Advances f act before after → IsWovenOne f owner act asked p after
woven_one f owner limit asked (Operates op) acts p before after fit hand only share did = search (arith, operates_one)
woven_one f owner limit asked (Guards keeper op) acts p before after fit hand only share did =
    guarded f owner limit asked keeper op p before after fit.3 hand only share (request_in op.what) refl did
woven_one f owner limit asked (Settles k) acts p before after fit hand only share did = search (arith, woven_by, append-nil, share_cache, beside_cache)
woven_one f owner limit asked (Ticks asked_for) acts p before after fit hand only share did =
    let steps : List Made = made (Step.Tick asked_for) did.0 ∷ [] in
    let rs : List Record = Record.Said 0 (Said.Tick (max did.0 asked_for)) ∷ [] in
    let each : EachOf 0 rs = (λ k. refl, tt) in
    woven_by (after_tick p asked_for did.0) rs only (λ n none. refl) refl (spoken_piece 0 rs each) did.1 (share_records rs (share_list 0 steps share))
    (λ x o other theirs. beside_records rs (elsewhere owner x 0 rs each other) (beside_list 0 steps other theirs)) (did.0, refl)
woven_one f owner limit asked MakesPass acts p before after fit hand only share did =
    let steps = did.2 in
    let rs = records_of_pass 0 did.0 did.1 in
    let each = pass_of 0 did.0 did.1 in
    woven_by (after_pass p did.0 did.1 steps) rs only (λ n none. refl) refl (spoken_piece 0 rs each) did.4 (share_records rs (share_list 0 steps share))
    (λ x o other theirs. beside_records rs (elsewhere owner x 0 rs each other) (beside_list 0 steps other theirs)) (did.0, did.1, steps, did.3, refl)
woven_one f owner limit asked ReadsEpoch acts p before after fit hand only share did =
    woven_by (after_reading p did.0) [] only (λ n none. refl) (sym (append-nil p.records)) tt did.1 (by_epochs (share_list 0 (epoch_look did.0) share)
    did.0 did.0 (λ is. refl)) (λ x o other theirs. by_epochs (beside_list 0 (epoch_look did.0) other theirs) o.epoch did.0 (λ is. absurd (other is)))
    (did.0, refl)
woven_one f owner limit asked (StopsIdle k n) acts p before after fit hand only share did = idle_one f owner asked k n p before after hand only share did
woven_one f owner limit asked (Wakes k) acts p before after fit hand only share did =
    let c = begun (p.caches k) did.0 in
    let same = ap (λ (d : Cached). begun d did.0) (share.caches k refl) in
    woven_by (after_wake p k did.0) [] only (λ n none. refl) (sym (append-nil p.records)) tt did.1 (share_cache k (begun (before.caches k) did.0) c same
    (share_list k (epoch_look did.0) share)) (λ x o other theirs. beside_cache k c other (beside_list k (epoch_look did.0) other theirs)) (did.0, refl)
woven_one f owner limit asked (Lowers keeper) acts p before after fit hand only share did =
    let steps = did.0 in
    let said = did.1 in
    let here : IsLowered f keeper (part keeper p.list) (p.books keeper) steps said = rw (share.parts keeper refl, share.books keeper refl) at did.2 in
    let each = swept_each true keeper (p.books keeper) [] said steps here.sweep.swept in
    woven_by (after_lowering p keeper steps said) said only (λ n none. refl) refl (spoken_piece keeper said each) did.3
    (share_records said (share_book keeper [] (share_list keeper steps share)))
    (λ x o other theirs. beside_records said (elsewhere owner x keeper said each other) (beside_book keeper [] other (beside_list keeper steps other theirs)))
    (steps, said, here, refl)
woven_one f owner limit asked (Ends k) acts p before after fit hand only share did =
    stops_one f owner asked (Ends k) k k p before after did.0 did.1 [] refl refl tt only share did.2 did.3 (λ so. (did.0, did.1, so, refl))
woven_one f owner limit asked _ acts p before after fit hand only share did = absurd hand

-- ---- all acts
-- the progress of worker w is another now
at : (ℕ → Progress) → ℕ → Progress → ℕ → Progress
at own w q x = if x == w then q else own x

-- What the workers of a phase did, each for itself, is woven into the order of the acts.
pub weave : (f : Profile) (owner : Owners) (limit : ℕ) (asked : List ℕ) (acts : List Act) (p : Progress) (before after : ℕ → Progress)
    → AreFit f limit asked acts → AreInHand owner acts → OnlyAsked asked p.names → ((w : ℕ) → IsShareOf owner w (before w) p)
    → ((w : ℕ) → Reaches f (acts_by owner w acts) (before w) (after w)) → IsWoven f owner acts asked p after
unfolding at
weave f owner limit asked [] p before after fit hands only shares own = record {
  reached = p;
  reaches = refl;
  shares = λ w. subst (λ (q : Progress). IsShareOf owner w q p) (sym (own w)) (shares w);
  said = [];
  records_are = sym (append-nil p.records);
  spoken = tt;
  only_asked = only;
  same_names = λ n none. refl;
}
weave f owner limit asked (act ∷ acts) p before after fit hands only shares own =
    let w = owner (actor_of_act act) in
    let mine : Reaches f (act ∷ acts_by owner w acts) (before w) (after w) =
    subst (λ (t : Bool). Reaches f (if t then act ∷ acts_by owner w acts else acts_by owner w acts) (before w) (after w)) (eq-eqb w w refl) (own w) in
    let one = woven_one f owner limit asked act acts p (before w) mine.0 fit hands.0 only (shares w) mine.1 in
    let now = at before w mine.0 in
    let shares1 : (x : ℕ) → IsShareOf owner x (now x) one.next = λ x. elim (cases_eq x w) [
      | inl same ↦ subst (λ (t : Bool). IsShareOf owner x (if t then mine.0 else before x) one.next) (sym (eq-eqb x w same)) (subst (λ (y : ℕ). IsShareOf owner y mine.0 one.next) (sym same) one.share)
      | inr other ↦ subst (λ (t : Bool). IsShareOf owner x (if t then mine.0 else before x) one.next) (sym (ne_eqb x w other)) (one.beside x (before x) (λ is. other (sym is)) (shares x))
    ] in
    let own1 : (x : ℕ) → Reaches f (acts_by owner x acts) (now x) (after x) = search (arith, cases_eq, eq-eqb, ne_eqb) in
    let rest =
    weave f owner limit (asked_after_act act asked) acts one.next now after (grind arith) hands.1 one.only_asked shares1 own1 in
    record {
      reached = rest.reached;
      reaches = (one.next, one.advances, rest.reaches);
      shares = rest.shares;
      said = one.said ++ rest.said;
      records_are = rest.records_are ∙ ap (λ (rs : List Record). rs ++ rest.said) one.records_are ∙ append_assoc p.records one.said rest.said;
      spoken = spoken_both one.said rest.said one.spoken rest.spoken;
      only_asked = rest.only_asked;
      same_names = λ n none. rest.same_names n none.1 ∙ one.same_names n none.0;
    }
