-- The acts of a phase are shared among its workers; where one actor alone has operations in it, all acts of each stage are in one worker's hands.
use Rattle.std.proofs.Common.{if◌then◌else◌, [], ◌≡◌, ℕ, zero, suc, ◌+◌, ◌-◌, ◌≤◌, ◌==◌, not, Bool, true, false, List, ◌∷◌, ◌++◌, refl, ap, sym, subst, ◌∙◌}
use Rattle.std.proofs.{Common.{arith, MatchOption, eq-eqb, ne_eqb, le-leb, map, ◌≢◌}, lemmas.Bool.{lt-leb, or_left, or_right}}
use Rattle.pas_acts.proofs.Common.{false≢true, cases_eq, or_parts, AllByRecursion, filter, Profile, all_both, work_of, of_task, keeper_of, keeper_in, AreSound}
use Rattle.pas_acts.proofs.Common.{IsActorBy, asked_after, all_ops, AreKept, Chore, Work, Op, Act, Settles, is_active, numbers_from, idle_threads, acts_of_work}
use Rattle.pas_acts.proofs.Common.{acts_of_op, acts_of_ops, own_acts, act_kept, Wakes, Ends, Lowers, close_acts, every_plan, all_of, all_any, all_of_chore}
use Rattle.pas_acts.proofs.{Common.{at_start, region_of, keepers_of, phases_of, Owners, actor_of_act, IsInHand, AreInHand, acts_by}, Naming.sound_front}
use Rattle.pas_acts.{proofs.Naming.sound_back, specs.{Shares.{thread_in, owner_in, AreKeptBehind, ActsAreShared}, AloneInOrder.{AreOfOneActor, AloneIsInOrder}}}
use Rattle.pas_trace.specs.Acts.{scavenger_acts}
use Rattle.pas_answers.{proofs.Reached.{IsHeldBy, AreHeldBy, IsOneHanded, one_handed_list}, specs.{Replays.stages_of_plan, Stages.{Owners, itself, owner_in}}}
use Rattle.pas_answers.specs.Stages.{one_by_one, phase_stages, stage, stages_from, stages_of}

-- ---- who owns whom
-- each operation's actor is its own worker
abbrev OwnThemselves : Owners → List Op → Type 0
OwnThemselves owner ops = AllByRecursion (λ op. owner op.actor ≡ op.actor) ops

-- a thread stands for itself, and a keeper for the thread behind which it stands
pub own_thread : (threads k : ℕ) → k ≤ threads → thread_in threads k ≡ k
own_thread threads k most = ap (λ (t : Bool). if t then k else k - threads) (le-leb k threads most)

-- The thread of a keeper is the one whose guards it keeps.
pub kept_thread : (threads k : ℕ) → 1 ≤ k → thread_in threads (threads + k) ≡ k
kept_thread threads k some = search (arith, lt-leb)

-- a thread is owned by itself where it is active, and by the scavenger elsewhere, and so is its keeper
pub owner_of : (threads : ℕ) (ops : List Op) (j k : ℕ) → thread_in threads j ≡ k → owner_in threads ops j ≡ (if is_active ops k then k else 0)
owner_of threads ops j k is = ap (λ (i : ℕ). if is_active ops i then i else 0) is

-- those that are active among some are so among all
all_own : (threads : ℕ) (all ops : List Op) → ((k : ℕ) → is_active ops k ≡ true → is_active all k ≡ true) → ((k : ℕ) → is_active ops k ≡ true → k ≤ threads)
    → OwnThemselves (owner_in threads all) ops
all_own threads all [] within most = tt
all_own threads all (op ∷ ops) within most =
    let here = or_left (op.actor == op.actor) (is_active ops op.actor) (eq-eqb op.actor op.actor refl) in (
      owner_of threads all op.actor op.actor (own_thread threads op.actor (most op.actor here)) ∙ ap (λ (t : Bool). if t then op.actor else 0) (within op.actor here),
      all_own threads all ops (λ k is. within k (or_right (op.actor == k) _ is)) (λ k is. most k (or_right (op.actor == k) (is_active ops k) is)),
    )

-- A choice between 0 and 0 is 0, whatever the test.
pub zero_own : (t : Bool) → ◌≡◌ {A = ℕ} (if t then 0 else 0) 0
zero_own a = search arith

-- An actor with an operation in a sound phase is one of the threads.
pub active_within : (f : Profile) (asked : List ℕ) (ops : List Op) (k : ℕ) → AreSound f asked ops → is_active ops k ≡ true → k ≤ f.threads
active_within f asked [] k sound on = absurd (false≢true on)
active_within f asked (op ∷ ops) k sound on = let rest = active_within f _ ops k sound.2 in grind (arith, rest, cases_eq, ne_eqb)

-- ---- the acts of one worker
by_both : (owner : Owners) (w : ℕ) (xs ys : List Act) → acts_by owner w (xs ++ ys) ≡ acts_by owner w xs ++ acts_by owner w ys
by_both owner w [] ys = refl
by_both owner w (x ∷ xs) ys = let rest = by_both owner w xs ys in grind (arith, rest)

-- ---- each act of an operation
-- by what is so of each operation besides
module _ (f : Profile) (P : Act → Type 0) (Q : Op → Type 0) (idle : List ℕ)
    (each : (op : Op) → IsActorBy f (work_of op.what) op.actor → Q op → AllByRecursion P (acts_of_op idle op)) where
  all_of_kept : (asked : List ℕ) (ops : List Op) → AreSound f asked ops → AllByRecursion Q ops → AllByRecursion P (acts_of_ops idle ops)
  all_of_kept asked [] sound kept = tt
  all_of_kept asked (op ∷ ops) sound kept = let rest = all_of_kept (asked_after op.what asked) ops sound.2 kept.1 in grind (arith, rest, all_both)

-- the maker of each of these acts is actor j
abbrev pub AreOf : ℕ → List Act → Type 0
AreOf j acts = AllByRecursion (λ act. actor_of_act act ≡ j) acts

-- a thread's own acts, guarded or not, and those of a chore
work_is_of : (f : Profile) (idle : List ℕ) (op : Op) (work : Work) → IsActorBy f work op.actor → AreOf op.actor (acts_of_work idle op work)
work_is_of f idle op (Work.Own task) of = grind arith
work_is_of f idle op (Work.Chore chore) of =
    all_of_chore (λ act. actor_of_act act ≡ op.actor) (λ k. Unit {0}) idle chore (λ epoch. sym of) (sym of) (sym of) (λ k n is. sym of) (all_any idle)

-- acts of an actor that is its own worker are that worker's, and nobody else's
all_or_none : (owner : Owners) (j k : ℕ) (acts : List Act) → owner j ≡ j → AreOf j acts → acts_by owner k acts ≡ (if j == k then acts else [])
all_or_none owner j k [] own of = search arith
all_or_none owner j k (act ∷ acts) own of =
    let rest = all_or_none owner j k acts own of.1 in grind (arith, rest)

-- The acts of worker k are `whole` of the operations, where that has the acts of each operation of actor k.
module _ (f : Profile) (owner : Owners) (k : ℕ) (idle : List ℕ) (whole : List Op → List Act) (none : whole [] ≡ [])
    (next : (op : Op) (ops : List Op) → IsActorBy f (work_of op.what) op.actor → whole (op ∷ ops)
    ≡ (if op.actor == k then acts_of_op idle op ++ whole ops else whole ops)) where
  -- operation by operation, of the worker or not
  of_ops : (asked : List ℕ) (ops : List Op) → OwnThemselves owner ops → AreSound f asked ops → acts_by owner k (acts_of_ops idle ops) ≡ whole ops
  of_ops asked [] own sound = sym none
  of_ops asked (op ∷ ops) own sound =
      by_both owner k (acts_of_op idle op) (acts_of_ops idle ops)
      ∙ ap (λ (acts : List Act). acts ++ acts_by owner k (acts_of_ops idle ops)) (all_or_none owner op.actor k (acts_of_op idle op) own.0 (work_is_of f idle op (work_of op.what) sound.0))
      ∙ ap (λ (acts : List Act). (if op.actor == k then acts_of_op idle op else []) ++ acts) (of_ops (asked_after op.what asked) ops own.1 sound.2)
      ∙ (search arith) ∙ sym (next op ops sound.0)

-- no operation of a thread is a chore
own_next : (f : Profile) (k : ℕ) (idle : List ℕ) (op : Op) (work : Work) (rest : List Act) → 1 ≤ k → IsActorBy f work op.actor
    → (if op.actor == k then act_kept (of_task keeper_of work) op ∷ (Settles op.actor ∷ rest) else rest)
    ≡ (if op.actor == k then acts_of_work idle op work ++ rest else rest)
own_next f k idle op work rest h i = grind (arith, ne_eqb)

-- An actor without an operation has no act of its own.
pub none_own : (k : ℕ) (ops : List Op) → is_active ops k ≡ false → own_acts k ops ≡ []
none_own k [] is = refl
none_own k (op ∷ ops) is =
    let both = or_parts (op.actor == k) (is_active ops k) is in
    ap (λ (t : Bool). if t then act_kept (keeper_in op.what) op ∷ (Settles op.actor ∷ own_acts k ops) else own_acts k ops) both.0 ∙ none_own k ops both.1

-- ---- all is in hand
-- each of these is in the scavenger's hands
abbrev AreIdle : Owners → List ℕ → Type 0
AreIdle owner ks = AllByRecursion (λ k. owner k ≡ owner 0) ks

-- a thread's own acts, guarded or not, and those of a chore
hands_one : (owner : Owners) (idle : List ℕ) (op : Op) (work : Work) → MatchOption (of_task keeper_of work) (Unit {0}) (λ k. owner k ≡ owner op.actor)
    → AreIdle owner idle → AreInHand owner (acts_of_work idle op work)
hands_one owner idle op (Work.Own task) own all = grind arith
hands_one owner idle op (Work.Chore chore) own all = all_of_chore (IsInHand owner) (λ k. owner k ≡ owner 0) idle chore (λ epoch. tt) tt tt (λ k n is. is) all

idle_one : (threads : ℕ) (ops : List Op) (k : ℕ) (t : Bool) (rest : List ℕ) → k ≤ threads → is_active ops k ≡ t → AreIdle (owner_in threads ops) rest
    → AreIdle (owner_in threads ops) (if not t then k ∷ rest else rest)
idle_one threads ops k t rest h i j = grind (arith, owner_of, own_thread, zero_own)

-- so many numbers from k on are below the next one
are_idle : (threads : ℕ) (ops : List Op) (k n : ℕ) → k + n ≤ threads + 1
    → AreIdle (owner_in threads ops) (filter (λ k. not (is_active ops k)) (numbers_from k n))
are_idle threads ops k zero within = tt
are_idle threads ops k (suc n) within = let rest = are_idle threads ops (k + 1) n (omega (arith, within)) in search (arith, rest, idle_one, not)

-- each operation is active among all
actors_within : (threads : ℕ) (all ops : List Op) → ((k : ℕ) → is_active ops k ≡ true → is_active all k ≡ true)
    → ((k : ℕ) → is_active all k ≡ true → k ≤ threads) → AllByRecursion (λ (op : Op). op.actor ≤ threads) ops
actors_within threads all [] within most = tt
actors_within threads all (op ∷ ops) within most =
    let rest = actors_within threads all ops (λ k is. within k (or_right (op.actor == k) (is_active ops k) is)) most in
    search (arith, rest, or_left, eq-eqb, or_right)

both_kept : (threads : ℕ) (ops : List Op) → AreKeptBehind threads ops → AllByRecursion (λ (op : Op). op.actor ≤ threads) ops
    → AllByRecursion (λ (op : Op). (op.actor ≤ threads) × MatchOption (keeper_in op.what) (Unit {0}) (λ keeper. keeper ≡ threads + op.actor)) ops
both_kept threads [] kept most = tt
both_kept threads (op ∷ ops) kept most = ((most.0, kept.0), both_kept threads ops kept.1 most.1)

-- The acts of a phase are shared among its workers: each act is in one's hands.
pub acts_are_shared : ActsAreShared
acts_are_shared f threads asked ops sound kept most =
    let idle = idle_threads threads ops in
    let owner = owner_in threads ops in
    let own = all_own threads ops ops (λ k is. is) most in
    let of_thread : (k : ℕ) → 1 ≤ k → acts_by owner k (acts_of_ops idle ops) ≡ own_acts k ops = λ k some.
    of_ops f owner k idle (own_acts k) refl (λ op rest of. own_next f k idle op (work_of op.what) (own_acts k rest) some of) asked ops own sound in (
      all_of_kept f (IsInHand owner) (λ (op : Op). (op.actor ≤ threads) × MatchOption (keeper_in op.what) (Unit {0}) (λ keeper. keeper ≡ threads + op.actor)) idle
          (λ op of here. hands_one owner idle op _ (grind (arith, owner_of, kept_thread, own_thread)) (are_idle threads ops 1 threads (omega arith)))
          asked ops sound (both_kept threads ops kept (actors_within threads ops ops (λ k is. is) most)),
      λ k some within active. of_thread k some,
      λ k some within inactive. of_thread k some ∙ none_own k ops inactive,
      of_ops f owner 0 idle (scavenger_acts idle) refl (λ op rest of. refl) asked ops own sound,
    )

-- ---- acts by themselves
-- somebody has the act in hand, where each actor is in its own
abbrev IsSomebodys : Act → Type 0
IsSomebodys act = (w : ℕ) × IsHeldBy itself w act

close_held : (threads keepers : ℕ) → AllByRecursion IsOneHanded (one_by_one (close_acts threads keepers))
close_held threads keepers =
    let ends = numbers_from 1 threads in
    let lowers = numbers_from (threads + 1) keepers in
    let all_end = all_of IsSomebodys (λ k. Unit {0}) Ends ends (λ k any. (k, refl)) (all_any ends) in
    let all_lower = all_of IsSomebodys (λ k. Unit {0}) Lowers lowers (λ k any. (k, refl)) (all_any lowers) in
    all_of IsOneHanded IsSomebodys (λ act. stage (act ∷ []) itself) (close_acts threads keepers) (λ act by. (by.0, (by.1, tt)))
    ((0, tt), all_both IsSomebodys (map Ends ends) (map Lowers lowers) all_end all_lower)

-- ---- the acts of a phase of one actor
active_is : (ops : List Op) (k j : ℕ) → AllByRecursion (λ (op : Op). op.actor ≡ k) ops → is_active ops j ≡ true → j ≡ k
active_is [] k j own on = absurd (false≢true on)
active_is (op ∷ ops) k j own on = let rest = active_is ops k j own.1 in grind (arith, rest, cases_eq, ne_eqb)

wakes_held : (ops : List Op) (k : ℕ) (js : List ℕ) → AllByRecursion (λ (op : Op). op.actor ≡ k) ops → AreHeldBy itself k (map Wakes (filter (is_active ops) js))
wakes_held ops k [] own = tt
wakes_held ops k (j ∷ js) own = let rest = wakes_held ops k js own in grind (arith, rest, active_is)

-- act by act: each is in the hands of the worker of its actor
all_held : (owner : Owners) (k : ℕ) (acts : List Act) → AreInHand owner acts → AreOf k acts → AreHeldBy owner (owner k) acts
all_held owner k [] hands of = tt
all_held owner k (act ∷ acts) hands of = (grind arith, all_held owner k acts hands.1 of.1)

phase_held : (f : Profile) (asked : List ℕ) (ops : List Op) → AreSound f asked ops → AreKeptBehind f.threads ops → AreOfOneActor ops
    → AllByRecursion IsOneHanded (phase_stages f.threads ops)
phase_held f asked ops sound kept one =
    let k = one.actor in
    let owner = owner_in f.threads ops in
    let idle = idle_threads f.threads ops in
    let hands = (acts_are_shared f f.threads asked ops sound kept (λ j on. active_within f asked ops j sound on)).0 in
    let of = all_of_kept f (λ act. actor_of_act act ≡ k) (λ op. op.actor ≡ k) idle
    (λ op by is. subst (λ (i : ℕ). AreOf i (acts_of_op idle op)) is (work_is_of f idle op (work_of op.what) by)) asked ops sound one.own in
    ((k, wakes_held ops k _ one.own), ((owner k, all_held owner k (acts_of_ops idle ops) hands of), tt))

-- ---- the phases of a plan, whose operations follow each other
kept_front : (f : Profile) (guard : ℕ) (xs ys : List Op) → AreKept f guard (xs ++ ys) → AreKeptBehind f.threads xs
kept_front f guard [] ys kept = tt
kept_front f guard (x ∷ xs) ys kept = (grind arith, kept_front f guard xs ys kept.1)

kept_back : (f : Profile) (guard : ℕ) (xs ys : List Op) → AreKept f guard (xs ++ ys) → AreKept f guard ys
kept_back f guard [] ys kept = kept
kept_back f guard (x ∷ xs) ys kept = kept_back f guard xs ys kept.1

later_held : (f : Profile) (guard keepers n : ℕ) (asked : List ℕ) (phases : List (List Op)) → AreSound f asked (all_ops phases)
    → AreKept f guard (all_ops phases) → AllByRecursion AreOfOneActor phases
    → AllByRecursion IsOneHanded (stages_from f.threads keepers n phases)
later_held f guard keepers n asked [] sound kept one = close_held f.threads keepers
later_held f guard keepers n asked (p ∷ ps) sound kept one =
    let this = phase_held f asked p (sound_front f asked p (all_ops ps) sound) (kept_front f guard p (all_ops ps) kept) one.0 in
    let later = later_held f guard keepers (n + 1) _ ps (sound_back f asked p (all_ops ps) sound) (kept_back f guard p (all_ops ps) kept) one.1 in
    ((0, (tt, tt)), all_both IsOneHanded (phase_stages f.threads p) (stages_from f.threads keepers (n + 1) ps) this later)

-- the first phase has no mark
all_phases_held : (f : Profile) (guard keepers : ℕ) (phases : List (List Op)) → AreSound f [] (all_ops phases) → AreKept f guard (all_ops phases)
    → AllByRecursion AreOfOneActor phases → AllByRecursion IsOneHanded (stages_of f.threads keepers phases)
all_phases_held f guard keepers [] sound kept one = close_held f.threads keepers
all_phases_held f guard keepers (p ∷ ps) sound kept one = (later_held f guard keepers 1 [] (p ∷ ps) sound kept one).1

-- Where one actor alone has operations in a phase, the list is in the order of the acts.
pub alone_in_order : AloneIsInOrder
alone_in_order text plan way whole records is one replay =
    let sound = every_plan is in
    one_handed_list (region_of plan) (stages_of_plan plan) at_start replay.reached [] whole
    (all_phases_held plan.profile plan.guard (keepers_of plan) (phases_of plan) sound.operations sound.keepers one) replay.stages refl
