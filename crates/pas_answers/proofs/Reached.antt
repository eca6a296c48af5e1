-- Acts that were answered one after the other, in the whole and stage by stage: what they found on the list stays there, and each actor has its part of it.
use Rattle.std.proofs.Common.{[], ◌≡◌, ℕ, ◌==◌, Bool, true, false, if◌then◌else◌, List, ◌∷◌, ◌++◌, ap, ◌∙◌, refl, inl, inr, Option, Some, None, sym, subst}
use Rattle.std.proofs.Common.{append_assoc, MatchOption, ◌+◌, append-nil, map, eq-eqb, ◌≢◌, true≢false, length, arith, length-append, ◌<◌, ◌≤◌, ne_eqb}
use Rattle.pas_answers.proofs.Common.{cases_eq, AllByRecursion, Profile, Block, Guard, IsValid, View, IsStepOf, triples, made, Agreed, Whole, part, Legal, Made}
use Rattle.pas_answers.proofs.Common.{Tick, part_of_others, part_of_own, AreOfRegion, Way, IsOneOrder, Progress, epoch_look, wanted_by, after_trying, Tried}
use Rattle.pas_answers.proofs.Common.{IsTried, AreInPhases, AreOfThreads, Reaches, AnswersTried, AnswersGuarded, Advances, at_start, region_of, acts_of_plan}
use Rattle.pas_answers.proofs.Common.{stages_of_plan, GoByStages, Act, Operates, Guards, Settles, Ticks, MakesPass, ReadsEpoch, StopsIdle, MarksPhase, Wakes}
use Rattle.pas_answers.proofs.Common.{MarksClose, Ends, Lowers, active_threads, idle_threads, acts_of_ops, phase_acts, close_acts, acts_from, acts_of}
use Rattle.pas_answers.proofs.{Common.{request_in, work_of, all_ops, Request, Op, Plan, Chore, Work, MakesCalls, pages_of}, EachAct.{all_any, all_of_chore}}
use Rattle.pas_answers.{proofs.EachAct.{all_of_close, all_acts}, specs.{Answers.with_book, Guarding.after_lowering, Phases.{StandFirst, AtMark}, Stages.Owners}}
use Rattle.pas_answers.specs.Stages.{Stage, AreSorted, in_hands, one_by_one, phase_stages, stages_from, stages_of}
use Rattle.pas_steps.{specs.Lists.Triple, proofs.Parts.each_part}
use Rattle.pas_trace.specs.{Acts.{operation_in, stepper_of, act_kept, acts_of_work}, Asked.keeper_of}
use Rattle.pas_guard.{specs.Keepers.{Call, IsKeeper}, proofs.Keepers.part_both}
use Rattle.pas_core.proofs.{Choosing.{part_of_chosen, steps_by_all}, Nexts.agreed_steps}

-- Two lists that are one order of each actor's steps have the same part of each actor.
pub same_parts : (way : Way) (told whole : Whole) → IsOneOrder way told whole → (k : ℕ) → part k whole ≡ part k told
same_parts way told whole same k = search arith

-- it is so of each part
abbrev pub Each : (View → Type 0) → Whole → Type 0
Each P l = (k : ℕ) → P (part k l)

-- ---- steps of the region
-- by cases
one_of : (f : Profile) (t : Bool) (m : Made) (v : View) → IsStepOf f m.step → AreOfRegion f v → AreOfRegion f (if t then m ∷ v else v)
one_of f t m v one rest = search arith

-- Each actor's part of a legal list has steps of the region alone.
pub legal_part : (f : Profile) (l : Whole) (k : ℕ) → Legal f l → AreOfRegion f (part k l)
legal_part f [] k legal = tt
legal_part f (t ∷ l) k legal = one_of f (t.actor == k) t.made (part k l) legal.0.of_region (legal_part f l k legal.1)

-- by cases
later_of : (f : Profile) (t : Bool) (m : Made) (v : View) → AreOfRegion f (if t then m ∷ v else v) → AreOfRegion f v
later_of f t m v all = search arith

-- The later steps of a list that are of the region are so by themselves.
pub of_front : (f : Profile) (ys xs : List Made) → AreOfRegion f (ys ++ xs) → AreOfRegion f ys
of_front f [] xs of = tt
of_front f (y ∷ ys) xs of = (of.0, of_front f ys xs of.1)

-- The earlier steps of a list that are of the region are so by themselves.
pub of_back : (f : Profile) (ys xs : List Made) → AreOfRegion f (ys ++ xs) → AreOfRegion f xs
of_back f [] xs of = of
of_back f (y ∷ ys) xs of = of_back f ys xs of.1

-- Where each actor's part of a list is of the region, it was so before the last steps of one.
pub of_rest : (f : Profile) (k : ℕ) (xs : List Made) (l : Whole) → Each (AreOfRegion f) (triples k xs ++ l) → Each (AreOfRegion f) l
of_rest f k [] l all = all
of_rest f k (x ∷ xs) l all = of_rest f k xs l (λ j. later_of f (k == j) x (part j (triples k xs ++ l)) (all j))

-- acts that were answered are followed by others
abbrev pub reach_both : (f : Profile) (xs ys : List Act) (p q r : Progress) → Reaches f xs p q → Reaches f ys q r → Reaches f (xs ++ ys) p r
reach_both f [] ys p q r one two = subst (λ (s : Progress). Reaches f ys s r) one two
reach_both f (x ∷ xs) ys p q r one two = (one.0, one.1, reach_both f xs ys one.0 q r one.2 two)

-- ---- the list
list_of : {p q : Progress} → q ≡ p → q.list ≡ p.list
list_of is = ap (λ (r : Progress). r.list) is

-- pieces of steps, the newest first, each of one actor
pub data Pieces : Type 0 where
  Done : Pieces
  Before : (k : ℕ) (steps : List Made) → Pieces → Pieces

abbrev pub pieces_on : Pieces → Whole → Whole
pieces_on Done l = l
pieces_on (Before k steps earlier) l = triples k steps ++ pieces_on earlier l

abbrev piece_of : ℕ → List Made → Pieces
piece_of k steps = Before k steps Done

-- .. each of an actor of which this is so
abbrev AreBy : (ℕ → Type 0) → Pieces → Type 0
AreBy P Done = Unit {0}
AreBy P (Before k steps earlier) = P k × AreBy P earlier

-- the actors that make the steps of an act are so
abbrev pub IsBy : (ℕ → Type 0) → Act → Type 0
IsBy P (Guards keeper op) = P keeper × P op.actor
IsBy P (Settles k) = Unit {0}
IsBy P (MarksPhase n) = Unit {0}
IsBy P MarksClose = Unit {0}
IsBy P act = P (stepper_of act)

-- the books are as they were, unless the act is one of a keeper
abbrev SameBooks : Act → Progress → Progress → Type 0
SameBooks (Guards keeper op) p q = Unit {0}
SameBooks (Lowers keeper) p q = Unit {0}
SameBooks act p q = q.books ≡ p.books

-- an act puts pieces of its actors onto it, and changes no name unless it is an operation
abbrev PutsOn : Act → Progress → Progress → Type 1
PutsOn act p q = (pieces : Pieces) × (q.list ≡ pieces_on pieces p.list) × MatchOption (operation_in act) (q.names ≡ p.names)
    (λ op. Unit {0}) × SameBooks act p q
    × ((P : ℕ → Type 0) → IsBy P act → AreBy P pieces)

-- .. a guarded request one of its keeper, and then, where that gave no block, one of its thread
pub tried_on : (f : Profile) (op : Op) (r : Request) (block : Option Block) (p q : Progress) → AnswersTried f op r block p q
    → (pieces : Pieces) × (q.list ≡ pieces_on pieces p.list) × ((P : ℕ → Type 0) → P op.actor → AreBy P pieces)
tried_on f op r (Some block) p q did = (Done, list_of did, λ P by. tt)
tried_on f op r None p q did = (piece_of op.actor did.0.steps, list_of did.2, λ P by. (by, tt))

pieces_both : (late early : Pieces) (l : Whole) → (both : Pieces) × (pieces_on both l ≡ pieces_on late (pieces_on early l))
    × ((P : ℕ → Type 0) → AreBy P late → AreBy P early → AreBy P both)
pieces_both Done early l = (early, refl, λ P one two. two)
pieces_both (Before k steps earlier) early l =
    let rest = pieces_both earlier early l in
    (Before k steps rest.0, ap (λ (m : Whole). triples k steps ++ m) rest.1, λ P one two. (one.0, rest.2 P one.1 two))

guarded_on : (f : Profile) (keeper : ℕ) (op : Op) (o : Option Request) (p q : Progress) → AnswersGuarded f keeper op o p q
    → (pieces : Pieces) × (q.list ≡ pieces_on pieces p.list) × ((P : ℕ → Type 0) → P keeper × P op.actor → AreBy P pieces)
guarded_on f keeper op None p q did = absurd did
guarded_on f keeper op (Some r) p q did =
    let late = tried_on f op r did.0.block (after_trying p keeper did.0) q did.2 in
    let both = pieces_both late.0 (piece_of keeper did.0.steps) p.list in
    (both.0, late.1 ∙ sym both.1, λ P by. both.2 P (late.2 P by.1) (by.0, tt))

-- An act puts its pieces of steps onto the list, and changes nothing of it otherwise.
pub put_on : (f : Profile) (act : Act) (p q : Progress) → Advances f act p q → PutsOn act p q
put_on f (Operates op) p q did = rw did.2 (piece_of op.actor did.0.steps, refl, tt, refl, λ P by. (by, tt))
put_on f (Guards keeper op) p q did = let on = guarded_on f keeper op (request_in op.what) p q did in (on.0, on.1, tt, tt, on.2)
put_on f (Settles k) p q did = rw did (Done, refl, refl, refl, λ P by. tt)
put_on f (Ticks epoch) p q did = rw did.1 (piece_of 0 (made (Tick epoch) did.0 ∷ []), refl, refl, refl, λ P by. (by, tt))
put_on f MakesPass p q did = rw did.4 (piece_of 0 did.2, refl, refl, refl, λ P by. (by, tt))
put_on f ReadsEpoch p q did = rw did.1 (piece_of 0 (epoch_look did.0), refl, refl, refl, λ P by. (by, tt))
put_on f (StopsIdle k n) p q did = elim did [
  | inl so ↦ rw so.4 (piece_of k so.1, refl, refl, refl, λ P by. (by, tt))
  | inr stays ↦ rw stays.1 (Done, refl, refl, refl, λ P by. tt)
]
put_on f (MarksPhase n) p q did = rw did (Done, refl, refl, refl, λ P by. tt)
put_on f (Wakes k) p q did = rw did.1 (piece_of k (epoch_look did.0), refl, refl, refl, λ P by. (by, tt))
put_on f MarksClose p q did = rw did (Done, refl, refl, refl, λ P by. tt)
put_on f (Ends k) p q did = rw did.3 (piece_of k did.0, refl, refl, refl, λ P by. (by, tt))
put_on f (Lowers keeper) p q did = rw did.3 (piece_of keeper did.0, refl, refl, tt, λ P by. (by, tt))

-- Where none of the pieces is of an actor, its part stays.
pieces_past : (P : ℕ → Type 0) (j : ℕ) → ((k : ℕ) → P k → k ≢ j) → (pieces : Pieces) (l : Whole) → AreBy P pieces → part j (pieces_on pieces l) ≡ part j l
pieces_past P j other Done l by = refl
pieces_past P j other (Before k steps earlier) l by = part_of_others j k steps (pieces_on earlier l) (other k by.0) ∙ pieces_past P j other earlier l by.1

-- What a list keeps when steps are taken off it is so of the list before all the pieces of an act.
pub pieces_back : (P : Whole → Type 0) → ((k : ℕ) (steps : List Made) (l : Whole) → P (triples k steps ++ l) → P l) → (pieces : Pieces) (l : Whole)
    → P (pieces_on pieces l) → P l
pieces_back P back Done l so = so
pieces_back P back (Before k steps earlier) l so = pieces_back P back earlier l (back k steps (pieces_on earlier l) so)

-- what is so of a list only where it was so before any steps, was so before acts
pub was_so : (f : Profile) (P : Whole → Type 0) → ((k : ℕ) (steps : List Made) (l : Whole) → P (triples k steps ++ l) → P l)
    → (acts : List Act) (p q : Progress) → Reaches f acts p q → P q.list → P p.list
was_so f P back [] p q is so = subst P (list_of is) so
was_so f P back (act ∷ acts) p q is so =
    let on = put_on f act p is.0 is.1 in
    pieces_back P back on.0 p.list (subst P on.1 (was_so f P back acts is.0 q is.2 so))

-- ---- the phases, where the list is that of the pieces
-- these are the first steps of the list
abbrev Begins : Whole → Whole → Type 0
Begins whole l = (since : Whole) × (whole ≡ since ++ l)

begun_before : (whole : Whole) (k : ℕ) (steps : List Made) (l : Whole) → Begins whole (triples k steps ++ l) → Begins whole l
begun_before whole k steps l begun = (begun.0 ++ triples k steps, begun.1 ∙ sym (append_assoc begun.0 (triples k steps) l))

-- acts put their steps in front
pub goes_on : (f : Profile) (acts : List Act) (p q : Progress) → Reaches f acts p q → (made : Whole) × (q.list ≡ made ++ p.list)
goes_on f acts p q is = was_so f (Begins q.list) (begun_before q.list) acts p q is ([], refl)

-- by cases
at_mark : (act : Act) (So : Type 0) → So → AtMark act So
at_mark act So so = search arith

-- In the list of a replay in its own order, at each mark all steps of the acts before it are the first.
pub in_phases : (f : Profile) (acts : List Act) (p q : Progress) (is : Reaches f acts p q) (whole : Whole) → (since : Whole) × (whole ≡ since ++ q.list)
    → AreInPhases f acts p q is whole
in_phases f [] p q is whole begun = tt
in_phases f (act ∷ acts) p q is whole begun =
    let first = was_so f (Begins whole) (begun_before whole) (act ∷ acts) p q is begun in
    (at_mark act (StandFirst p.list whole) (record { since = first.0; so_far = p.list; whole_is = first.1; parts_are = λ k. refl }), in_phases f acts is.0 q is.2 whole begun)

-- ---- the acts of stages
abbrev pub acts_in : List Stage → List Act
acts_in [] = []
acts_in (s ∷ ss) = s.acts ++ acts_in ss

acts_in_both : (ss ts : List Stage) → acts_in (ss ++ ts) ≡ acts_in ss ++ acts_in ts
acts_in_both [] ts = refl
acts_in_both (s ∷ ss) ts = ap (λ (acts : List Act). s.acts ++ acts) (acts_in_both ss ts) ∙ sym (append_assoc s.acts (acts_in ss) (acts_in ts))

acts_one_by_one : (acts : List Act) → acts_in (one_by_one acts) ≡ acts
acts_one_by_one [] = refl
acts_one_by_one (act ∷ acts) = ap (λ (more : List Act). act ∷ more) (acts_one_by_one acts)

acts_behind_phase : (threads : ℕ) (ops : List Op) (ss : List Stage) (acts : List Act) → acts_in ss ≡ acts
    → acts_in (phase_stages threads ops ++ ss) ≡ phase_acts threads ops ++ acts
acts_behind_phase threads ops ss acts is = acts_in_both (phase_stages threads ops) ss
    ∙ (ap (λ (ops_acts : List Act). (map Wakes (active_threads threads ops) ++ ops_acts) ++ acts_in ss)
    (append-nil (acts_of_ops (idle_threads threads ops) ops))
    ∙ ap (λ (more : List Act). phase_acts threads ops ++ more) is)

acts_of_stages_from : (threads keepers n : ℕ) (phases : List (List Op)) → acts_in (stages_from threads keepers n phases) ≡ acts_from threads keepers n phases
acts_of_stages_from threads keepers n [] = acts_one_by_one (close_acts threads keepers)
acts_of_stages_from threads keepers n (phase ∷ phases) = ap (λ (acts : List Act). MarksPhase n ∷ acts) (acts_behind_phase threads phase
    (stages_from threads keepers (n + 1) phases) (acts_from threads keepers (n + 1) phases) (acts_of_stages_from threads keepers (n + 1) phases))

-- the stages of a plan have its acts, in their order
acts_of_stages : (threads keepers : ℕ) (phases : List (List Op)) → acts_in (stages_of threads keepers phases) ≡ acts_of threads keepers phases
acts_of_stages threads keepers [] = acts_one_by_one (close_acts threads keepers)
acts_of_stages threads keepers (phase ∷ phases) = acts_behind_phase threads phase (stages_from threads keepers 2 phases) (acts_from threads keepers 2 phases) (acts_of_stages_from threads keepers 2 phases)

-- ---- acts that were answered are answered in two runs
pub record IsCut (f : Profile) (xs ys : List Act) (p q : Progress) : Type 0 where
  pub between : Progress
  pub first : Reaches f xs p between
  pub second : Reaches f ys between q

cut_reach : (f : Profile) (xs ys : List Act) (p q : Progress) → Reaches f (xs ++ ys) p q → IsCut f xs ys p q
cut_reach f [] ys p q is = record { between = p; first = refl; second = is }
cut_reach f (x ∷ xs) ys p q is = let rest = cut_reach f xs ys is.0 q is.2 in record { between = rest.between; first = (is.0, is.1, rest.first); second = rest.second }

-- ---- one list
-- Where the list has the steps as they were told, it goes by whatever stages the acts are cut into
by_one_list : (f : Profile) (ss : List Stage) (p q : Progress) → Reaches f (acts_in ss) p q → GoByStages f ss p q p.list q.list
by_one_list f [] p q is = (is, ap (λ (r : Progress). r.list) is)
by_one_list f (s ∷ ss) p q is =
    let cut = cut_reach f s.acts (acts_in ss) p q is in
    let on = goes_on f s.acts p cut.between cut.first in (
      record { next = cut.between; reaches = cut.first; made = on.0; told = on.1; since = on.0; sorted = λ w. refl },
      subst (λ (l : Whole). GoByStages f ss cut.between q l q.list) on.1 (by_one_list f ss cut.between q cut.second),
    )

-- .. so a replay in the order of the text goes by the stages of its plan
pub plan_by_one_list : (plan : Plan) (p : Progress) → Reaches (region_of plan) (acts_of_plan plan) at_start p
    → GoByStages (region_of plan) (stages_of_plan plan) at_start p [] p.list
plan_by_one_list plan p is =
    search (arith, by_one_list, acts_of_stages)

-- ---- stages one behind the other
pub both_by_stages : (f : Profile) (ss ts : List Stage) (p q r : Progress) (a b c : Whole) → GoByStages f ss p q a b → GoByStages f ts q r b c
    → GoByStages f (ss ++ ts) p r a c
both_by_stages f [] ts p q r a b c one two = subst (λ (z : Progress × Whole). GoByStages f ts z.0 r z.1 c) (λ i. (one.0 i, one.1 i)) two
both_by_stages f (s ∷ ss) ts p q r a b c one two = (one.0, both_by_stages f ss ts one.0.next q r (one.0.since ++ a) b c one.1 two)

-- ---- each actor's part
-- in lists with the same steps of each worker's actors it is the same
sorted_part : (owner : Owners) (one other : Whole) (k : ℕ) → AreSorted owner one other → part k one ≡ part k other
sorted_part owner one other k same =
    let chosen = in_hands owner (owner k) in
    let mine : chosen k ≡ true = eq-eqb (owner k) (owner k) refl in
    sym (part_of_chosen chosen k one mine) ∙ (ap (part k) (same (owner k)) ∙ part_of_chosen chosen k other mine)

-- ==== Whose steps acts make: in each keeper's part of the list of a replay they are whole calls of `raise` and `sweep` with its one book; and where each
-- stage's acts are in one worker's hands, the list is in the order of the acts.

-- ---- whose steps an act makes
-- they are of actors in the hands of worker w
abbrev pub IsHeldBy : Owners → ℕ → Act → Type 0
IsHeldBy owner w act = IsBy (λ k. owner k ≡ w) act

abbrev pub AreHeldBy : Owners → ℕ → List Act → Type 0
AreHeldBy owner w acts = AllByRecursion (IsHeldBy owner w) acts

-- an actor in another's hands has no step of it
acts_by : (f : Profile) (owner : Owners) (w j : ℕ) → owner j ≢ w → (acts : List Act) (p q : Progress) → AreHeldBy owner w acts → Reaches f acts p q
    → part j q.list ≡ part j p.list
acts_by f owner w j other [] p q its is = ap (λ (r : Progress). part j r.list) is
acts_by f owner w j other (act ∷ acts) p q its is =
    let on = put_on f act p is.0 is.1 in
    let past = pieces_past (λ k. owner k ≡ w) j (λ k mine same. other (sym (ap owner same) ∙ mine)) on.0 p.list (on.4 (λ k. owner k ≡ w) its.0) in
    acts_by f owner w j other acts is.0 q its.1 is.2 ∙ ap (part j) on.1 ∙ past

-- so of what they put in front it has nothing
nothing_more : (v w : List Made) → v ++ w ≡ w → v ≡ []
nothing_more [] w is = refl
nothing_more (m ∷ v) w is = absurd (let n = ap length is in omega (arith, n, length-append v w))

none_of_others : (f : Profile) (owner : Owners) (w : ℕ) (acts : List Act) (p q : Progress) (new : Whole) → AreHeldBy owner w acts → Reaches f acts p q
    → q.list ≡ new ++ p.list → (k : ℕ) → owner k ≢ w → part k new ≡ []
none_of_others f owner w acts p q new its is told k other =
    nothing_more (part k new) (part k p.list) (sym (part_both k new p.list) ∙ (sym (ap (part k) told) ∙ acts_by f owner w k other acts p q its is))

-- ---- stages
-- lists of one worker's steps alone are the same where they have them in the same order
same_if_alone : (owner : Owners) (w : ℕ) (one other : Whole) → ((k : ℕ) → owner k ≢ w → part k other ≡ []) → AreSorted owner one other → one ≡ other
same_if_alone owner w one other none same = sym (steps_by_all (in_hands owner w) one (λ k out. sorted_part owner one other k same ∙ none k (elsewhere k out)))
    ∙ (same w ∙ steps_by_all (in_hands owner w) other (λ k out. none k (elsewhere k out)))
  where
    elsewhere : (k : ℕ) → in_hands owner w k ≡ false → owner k ≢ w
    elsewhere k out its = true≢false (sym (eq-eqb (owner k) w its) ∙ out)

-- all its acts are in one worker's hands
abbrev pub IsOneHanded : Stage → Type 0
IsOneHanded s = (w : ℕ) × AreHeldBy s.owner w s.acts

-- Where each stage has acts in one worker's hands alone, the list is in the order of the acts.
pub one_handed_list : (f : Profile) (ss : List Stage) (p q : Progress) (before after : Whole) → AllByRecursion IsOneHanded ss → GoByStages f ss p q before after
    → before ≡ p.list → after ≡ q.list
one_handed_list f [] p q before after all go same = go.1 ∙ (same ∙ sym (ap (λ (r : Progress). r.list) go.0))
one_handed_list f (s ∷ ss) p q before after all go same =
    let d = go.0 in
    let now = same_if_alone s.owner all.0.0 d.since d.made (none_of_others f s.owner all.0.0 s.acts p d.next d.made all.0.1 d.reaches d.told) d.sorted in
    one_handed_list f ss d.next q (d.since ++ before) after all.1 go.1 ((λ i. now i ++ same i) ∙ sym d.told)

-- ---- whose steps an act makes beside those of its keeper, if it has one
-- where a thread's, that one is among so many
abbrev IsUpTo : ℕ → Act → Type 0
IsUpTo n (StopsIdle k m) = k ≤ n
IsUpTo n (Wakes k) = k ≤ n
IsUpTo n (Ends k) = k ≤ n
IsUpTo n act = Unit {0}

-- ---- the acts of a plan
kept_up : (n : ℕ) (keeper : Option ℕ) (op : Op) → AllByRecursion (IsUpTo n) (act_kept keeper op ∷ (Settles op.actor ∷ []))
kept_up n keeper op = search arith

work_up : (n : ℕ) (idle : List ℕ) (op : Op) (work : Work) → AllByRecursion (λ j. j ≤ n) idle → AllByRecursion (IsUpTo n) (acts_of_work idle op work)
work_up n idle op (Work.Own task) all = kept_up n (keeper_of task) op
work_up n idle op (Work.Chore chore) all = all_of_chore (IsUpTo n) (λ j. j ≤ n) idle chore (λ epoch. tt) tt tt (λ k m le. le) all

-- ---- a keeper's part
abbrev HasCalls : Profile → ℕ → Progress → Type 0
HasCalls f keeper p = (calls : List Call) × MakesCalls f keeper calls (p.books keeper) (part keeper p.list)

has_still : (f : Profile) (keeper : ℕ) (p q : Progress) → q.books keeper ≡ p.books keeper → part keeper q.list ≡ part keeper p.list → HasCalls f keeper p
    → HasCalls f keeper q
has_still f keeper p q books list has = rw (books, list) has

-- Steps of a keeper that are calls with its book leave each keeper with calls.
call_has : (f : Profile) (keeper j : ℕ) (steps : List Made) (guards : List Guard) (p q : Progress) → q.list ≡ triples j steps ++ p.list
    → q.books ≡ with_book p.books j guards → (HasCalls f j p → (calls : List Call) × MakesCalls f j calls guards (steps ++ part j p.list))
    → HasCalls f keeper p → HasCalls f keeper q
call_has f keeper j steps guards p q list books own has = search (arith, cases_eq, eq-eqb, part_of_own, has_still, ne_eqb, part_of_others)

-- a try
try_has : (f : Profile) (keeper j : ℕ) (r : Request) (p : Progress) (t : Tried) → IsTried f j r (part j p.list) (p.books j) t → HasCalls f keeper p
    → HasCalls f keeper (after_trying p j t)
try_has f keeper j r p t is = call_has f keeper j t.steps t.guards p (after_trying p j t) refl refl (λ has.
    let v = part j p.list in
    let calls = Call.Raise r.heap (pages_of (wanted_by f r)) t.block ∷ (Call.Sweep false is.lowered ∷ has.0) in
    let made_so : MakesCalls f j calls t.guards (is.raised ++ (is.swept ++ v)) =
    (is.left, is.swept ++ v, is.raised, (p.books j, v, is.swept, has.1, is.sweep, refl), is.raise, refl) in
    (calls, subst (MakesCalls f j calls t.guards) (sym (ap (λ (ms : List Made). ms ++ v) is.steps_are ∙ append_assoc is.raised is.swept v)) made_so))

-- a last sweep
lowered_has : (f : Profile) (keeper j : ℕ) (p q : Progress) → Advances f (Lowers j) p q → HasCalls f keeper p → HasCalls f keeper q
lowered_has f keeper j p q did has = rw did.3 (call_has f keeper j did.0 [] p (after_lowering p j did.0 did.1) refl refl
    (λ own. (Call.Sweep true did.1 ∷ own.0, (p.books j, part j p.list, did.0, own.1, did.2.sweep, refl))) has)

-- the threads are so many, and the keeper stands behind them
module _ (f : Profile) (n keeper : ℕ) (lt : n < keeper) where
  -- An act of threads and the scavenger leaves its part and its book.
  still : (act : Act) (p q : Progress) → Advances f act p q → IsBy (λ k. k ≤ n) act → q.books ≡ p.books → HasCalls f keeper p → HasCalls f keeper q
  still act p q did by books has =
      search (arith, put_on, pieces_past, has_still)

  tried_has : (op : Op) (r : Request) (block : Option Block) (p q : Progress) → op.actor ≤ n → AnswersTried f op r block p q → HasCalls f keeper p
      → HasCalls f keeper q
  tried_has op r (Some block) p q le did has = rw did has
  tried_has op r None p q le did has = still (Operates op) p q did le (ap (λ (s : Progress). s.books) did.2) has

  guarded_has : (j : ℕ) (op : Op) (o : Option Request) (p q : Progress) → op.actor ≤ n → AnswersGuarded f j op o p q → HasCalls f keeper p → HasCalls f keeper q
  guarded_has j op None p q le did has = absurd did
  guarded_has j op (Some r) p q le did has = tried_has op r did.0.block (after_trying p j did.0) q le did.2 (try_has f keeper j r p did.0 did.1 has)

  -- the actors of all other acts are so few
  act_has : (act : Act) (p q : Progress) → MatchOption (operation_in act) (Unit {0}) (λ op. op.actor ≤ n) → IsUpTo n act → Advances f act p q
      → HasCalls f keeper p → HasCalls f keeper q
  act_has (Guards j op) p q of up did has = guarded_has j op (request_in op.what) p q of did has
  act_has (Lowers j) p q of up did has = lowered_has f keeper j p q did has
  act_has act p q of up did has = still act p q did (search arith) (put_on f act p q did).3 has

  acts_have : (acts : List Act) (p q : Progress) → AreOfThreads n acts → AllByRecursion (IsUpTo n) acts → Reaches f acts p q → HasCalls f keeper p
      → HasCalls f keeper q
  acts_have [] p q of up is has = rw is has
  acts_have (act ∷ acts) p q of up is has = acts_have acts is.0 q of.1 up.1 is.2 (act_has act p is.0 of.0 up.0 is.1 has)

-- after the acts of a plan
pub calls_alone : (f : Profile) (keeper threads keepers : ℕ) (phases : List (List Op)) (p q : Progress) → threads < keeper
    → AreOfThreads threads (acts_of threads keepers phases) → Reaches f (acts_of threads keepers phases) p q → p.list ≡ [] → p.books keeper ≡ []
    → (calls : List Call) × (guards : List Guard) × MakesCalls f keeper calls guards (part keeper q.list)
calls_alone f keeper threads keepers phases p q lt of is none empty =
    let close = all_of_close (IsUpTo threads) threads keepers tt (λ k le. le) (λ k. tt) in
    let own = λ (idle : List ℕ) (op : Op) (within : AllByRecursion (λ j. j ≤ threads) idle) (any : Unit {0}).
    work_up threads idle op (work_of op.what) within in
    let up = all_acts (IsUpTo threads) (λ op. Unit {0}) threads keepers own (λ k le. le) (λ m. tt) close phases (all_any (all_ops phases)) in
    let has = acts_have f threads keeper lt (acts_of threads keepers phases) p q of up is ([], (empty, ap (λ (l : Whole). part keeper l) none)) in
    (has.0, q.books keeper, has.1)

-- ---- so it is a keeper, as the laws of guards speak of one
legal_agreed : (f : Profile) (l : Whole) → IsValid f → Legal f l → (k : ℕ) → Agreed f [] (part k l)
legal_agreed f l valid legal k = each_part f (λ l k v. Agreed f [] v) (λ k. tt) (λ t l legal before. (
  rw append-nil (agreed_steps f t.actor l (t.made ∷ []) valid legal).0,
  before,
)) (λ t l k legal ne before. before) l legal k

-- by cases
not_fewer : (t : Bool) (m : Made) (v : View) → length v ≤ length (if t then m ∷ v else v)
not_fewer t m v = search arith

-- A part grows with its list.
longer : (k : ℕ) (l m : Whole) → length (part k m) ≤ length (part k (l ++ m))
longer k [] m = omega arith
longer k (t ∷ l) m = let rest = longer k l m in let one = not_fewer (t.actor == k) t.made (part k (l ++ m)) in omega (arith, rest, one)

-- a keeper that made a step made a call
pub is_keeper : (f : Profile) (keeper : ℕ) (later newer older : Whole) (give : Triple) (calls : List Call) (guards : List Guard) → IsValid f
    → Legal f (later ++ (newer ++ (give ∷ older))) → give.actor ≡ keeper
    → MakesCalls f keeper calls guards (part keeper (later ++ (newer ++ (give ∷ older)))) → IsKeeper f keeper (part keeper (later ++ (newer ++ (give ∷ older))))
is_keeper f keeper later newer older give [] guards valid legal own is =
    let here : length (part keeper (give ∷ older)) ≡ length (give.made ∷ part keeper older) =
    ap (λ (b : Bool). length (if b then give.made ∷ part keeper older else part keeper older)) (eq-eqb give.actor keeper own) in
    absurd (omega (arith, ap (λ (v : View). length v) is.1, here, longer keeper newer (give ∷ older), longer keeper later (newer ++ (give ∷ older))))
is_keeper f keeper later newer older give (call ∷ calls) guards valid legal own is = record {
  calls = calls;
  guards = is.0;
  before = is.1;
  called = is.3;
  call = call;
  guards_after = guards;
  first = is.2;
  rest = [];
  calls_now = is.4;
  made_is = is.5;
  agreed = legal_agreed f (later ++ (newer ++ (give ∷ older))) valid legal keeper;
}
