-- The pages of a run are backed, its block is given, and they are left.
use Rattle.std.proofs.Common.{◌≡◌, ℕ, zero, ◌+◌, ◌-◌, ◌*◌, ◌/◌, ◌<◌, ◌≤◌, ◌==◌, true, if◌then◌else◌, List, [], ◌∷◌, ◌++◌, length, inl, inr, refl, ap, sym, ◌∙◌}
use Rattle.std.proofs.{Common.{subst, arith, length-append, true≢false, ◌^◌, eq-eqb}, lemmas.Bool.{cases_eq, and_from}}
use Rattle.pas_profile.specs.{Profiles.{IsPage, IsDirectoryOf}, Blocks.{grain_of, length_of}, declared.{directory.Directory.Directory, profile.Profile.Profile}}
use Rattle.pas_profile.{specs.declared.name.Block.Block, proofs.Codecs.deed_word_of-positive}
use Rattle.pas_rights.{specs.{Leaves.{MayLeave, Leaves, LeaveSteps}, Gives.{MayGive, give_steps, GivesRun as GivesBlock}}, proofs.Gives.bears_by}
use Rattle.pas_steps.specs.{Agreement.Agrees, Allowed.Allowed, Events.{events_by, event_of}, InTurn.InTurn, Calls.{Calls, Kept, Lost, Does, ClearAfter}}
use Rattle.pas_steps.specs.{Desks.{Standing, CanCall, CanMake, Makes, made}, Kinds.{Backing, Only, Giving, LookLife}, Views.{View, holds, holds_on}}
use Rattle.pas_steps.{specs.{Views.{knows_backed, KnowsDeed, epoch_of}, declared.step.{Made.Made, Step.TheVariants.Back}}, proofs.Apart.deeds_same}
use Rattle.pas_steps.proofs.{Frames.{any_from, with_few}, Sets.{both_fates, kept_kept}, Called.{call_none, call_step, call_then, next_call, call_as}}
use Rattle.pas_steps.proofs.Calls.{does_as, does_then, does_none, does_idly, does_after_nothing, kept_first}
use Rattle.pas_large.proofs.{Claims.{pages_call, call_knowing, span_wider, span_in, in_parts, span_past, span_none, span_more}, Left.{only_backs, backs_few}}
use Rattle.pas_large.specs.{Claims.{in_span, HasPages}, Gives.{BackStep, pages_from, BackedRun, BacksRun, MayLeaveRun, LeavesRun, run_block, given_run}}
use Rattle.pas_large.specs.Gives.{GaveRun, GivesRun, LeftRun}
use Rattle.pas_bits.{specs.Runs.in_run, proofs.Runs.{run_of, to_run}}

-- ---- pages in turn
none_in_turn : (P : ℕ → List Made → Type 0) (first : ℕ) → InTurn P (pages_from first (first - first)) []
none_in_turn P first = let none : zero ≡ first - first = omega arith in subst (λ n. InTurn P (pages_from first n) []) none refl

-- from page + 1 on there is one page more
more_in_turn : (P : ℕ → List Made → Type 0) (first page end : ℕ) (xs steps : List Made) → first ≤ page → end ≡ page + 1 → P page xs
    → InTurn P (pages_from first (page - first)) steps → InTurn P (pages_from first (end - first)) (xs ++ steps)
more_in_turn P first page end xs steps low last this earlier = search arith

run_in_turn : (P : ℕ → List Made → Type 0) (first n : ℕ) (steps : List Made) → InTurn P (pages_from first (first + n - first)) steps
    → InTurn P (pages_from first n) steps
run_in_turn P first n steps h = let count : first + n - first ≡ n = omega arith in subst (λ m. InTurn P (pages_from first m) steps) count h

-- ---- the pages are backed, one page more
pub backed_none : {σ : Standing} (d : Directory) (first : ℕ) → BacksRun d first first σ σ
backed_none d first = search (arith, call_none, does_none, true≢false, span_none, none_in_turn)

-- a page of a run that is held may be backed
may_back_page : (f : Profile) (d : Directory) (first end page : ℕ) → first ≤ page → page < end → (v : View) → HasPages d first end v → Allowed f v (Back page)
may_back_page f d first end page low high v met = let here = span_in first end page low high in (
  (
    page * 256,
    omega arith,
    met.held (page * 256) (ap (in_span first end) (omega arith) ∙ here),
  ),
  λ z. deed_word_of-positive d (sym (met.deeds page here) ∙ z),
)

-- Who has the pages of a run may back each of them.
pub can_back : {σ : Standing} {page : ℕ} (d : Directory) (first end : ℕ) → first ≤ page → page < end → IsPage σ.seat.profile page
    → CanCall σ (HasPages d first end) → CanMake σ (Back page)
can_back {σ} {page} d first end low high is can = record { of_region = is; view = can.view; whole = can.whole; stood = can.stood; allowed = may_back_page σ.seat.profile d _ end _ low high _ can.met }

module _ {σ σ1 : Standing} {d : Directory} {first page : ℕ} (end : ℕ) (so_far : BacksRun d first page σ σ1) (low : first ≤ page) (high : page < end) where
  abbrev xs : List Made
  xs = so_far.steps

  so_calls : Calls σ σ1 (HasPages d first end) (BackedRun first page) xs
  so_calls = pages_call d first page end (omega (arith, high)) so_far.calls

  -- the run is held still
  has_still : (v : View) → HasPages d first end v → BackedRun first page v (xs ++ v) → HasPages d first end (xs ++ v)
  has_still v met old = record {
    right = λ p is. old.does.right p ∙ met.right p is;
    held = λ g is. old.does.held g ∙ met.held g is;
    deeds = λ p is. deeds_same (Backing ∷ []) refl p xs v (only_backs first (page - first) xs so_far.order) ∙ met.deeds p is;
    clear = record { on = λ q. old.does.clear q (met.clear.on q) };
  }

  -- After some pages of a run were backed, the actor still has all of them.
  pub can_back_next : CanCall σ (HasPages d first end) → CanCall σ1 (HasPages d first end)
  can_back_next can = next_call so_calls can has_still

  held_here : (v : View) → HasPages d first end v → BackedRun first page v (xs ++ v) → (g : ℕ) → g / 256 ≡ page → holds (xs ++ v) g ≡ true
  held_here v met old g at = old.does.held g ∙ met.held g (ap (in_span first end) at ∙ span_in first end page low high)

  may_back : (v : View) → HasPages d first end v → BackedRun first page v (xs ++ v) → Allowed σ.seat.profile (xs ++ v) (Back page)
  may_back v met old = may_back_page σ.seat.profile d first end page low high (xs ++ v) (has_still v met old)

  now_backed : (a : ℕ) (v : View) → HasPages d first end v → BackedRun first page v (xs ++ v) → Agrees σ.seat.profile (xs ++ v) (Back page) a
      → BackedRun first (page + 1) v (made (Back page) a ∷ (xs ++ v))
  now_backed a v met old agrees =
      let step = does_idly σ.seat.profile (Backing ∷ []) refl (made (Back page) a ∷ []) (xs ++ v) (refl, tt) (agrees, tt) in
      record {
        does = does_then old.does step;
        bears = λ g is. elim (cases_eq (g / 256) page) [
          | inl e ↦ record {
            held = step.held g ∙ held_here v met old g e;
            backed = subst (λ q. knows_backed (made (Back page) a ∷ (xs ++ v)) q ≡ true) (sym e)
                (and_from _ (holds_on (made (Back page) a ∷ (xs ++ v)) page) (ap (λ t. if t then true else knows_backed (xs ++ v) page) (eq-eqb page page refl))
                (any_from 256 _ 0 (omega arith) (step.held (page * 256 + 0) ∙ held_here v met old (page * 256 + 0) (omega arith))));
          }
          | inr ne ↦ step.backed g refl (old.bears g (let at = in_parts first (page + 1) (g / 256) is in span_in first page (g / 256) at.0 (omega (arith, at.1, ne))))
        ];
      }

  -- A page that was backed makes the backed pages of its run one more.
  pub backed_more : {σ2 : Standing} → end ≡ page + 1 → (a : ℕ) → Makes σ1 σ2 (Back page) a → BacksRun d first end σ σ2
  backed_more last a makes = record {
    steps = made (Back page) a ∷ xs;
    calls = call_step (BackedRun first end) so_calls makes may_back
        (λ v met old agrees. subst (λ q. BackedRun first q v (made (Back page) a ∷ (xs ++ v))) (sym last) (now_backed a v met old agrees));
    order = more_in_turn BackStep first page end (made (Back page) a ∷ []) xs low last (a, refl) so_far.order;
  }

-- ---- and left
pub left_run_none : {σ : Standing} (d : Directory) (first : ℕ) → LeavesRun d first first σ σ
left_run_none d first = search (arith, call_none, does_as, does_none, span_none, none_in_turn)

module _ {σ σ1 : Standing} {d : Directory} {first page : ℕ} (end : ℕ) (so_far : LeavesRun d first page σ σ1) (low : first ≤ page) (high : page < end) where
  leaves_fewer : (v : View) → MayLeaveRun d first end v → MayLeaveRun d first page v
  leaves_fewer v met = record { right = λ p is. met.right p (span_wider _ _ end p (omega (arith, high)) is); deeds = λ p is. met.deeds p (span_wider _ page end p (omega (arith, high)) is) }

  so_left : Calls σ σ1 (MayLeaveRun d first end) (λ v w. LeftRun d first page v w × ((p : ℕ) → in_span first end p ≡ true → KnowsDeed p d w)) so_far.steps
  so_left = call_knowing d (in_span first end) (call_as (LeftRun d first page) so_far.calls leaves_fewer (λ v w met left. left)) (λ v met. met.deeds)

  may_leave : (v : View) → MayLeaveRun d first end v
      → LeftRun d first page v (so_far.steps ++ v) × ((p : ℕ) → in_span first end p ≡ true → KnowsDeed p d (so_far.steps ++ v))
      → MayLeave page d (so_far.steps ++ v)
  may_leave v met left = search (arith, span_past, span_in)

  -- Once the pages before one of a run are left, it may be left.
  pub can_leave_next : CanCall σ (MayLeaveRun d first end) → CanCall σ1 (MayLeave page d)
  can_leave_next can = next_call so_left can may_leave

-- A page that was left makes the left pages of its run one more.
pub left_run_more : {σ σ1 σ2 : Standing} {d : Directory} {first page : ℕ} → first ≤ page → LeavesRun d first page σ σ1 → Leaves page d σ1 σ2
    → LeavesRun d first (page + 1) σ σ2
left_run_more {d = d} {first = first} {page = page} low so_far h =
    let calls = call_then _ (so_left (page + 1) so_far low (omega arith)) h.calls (may_leave (page + 1) so_far low (omega arith))
    (λ v met a b. does_as _ (does_then a.0.does b.does) (λ g. inl refl) (λ q. both_fates Lost _ (page == q) _ refl (span_more first page q low))
    (λ q c. subst (λ t. ClearAfter t q v (h.steps ++ (so_far.steps ++ v))) (kept_kept (page == q)) c)) in
    record {
      steps = h.steps ++ so_far.steps;
      calls = call_as _ (call_knowing d _ calls (λ v met. met.deeds)) (λ v met. met) (λ v w met left. record { does = left.0; deeds = left.1 });
      order = more_in_turn (λ q piece. LeaveSteps q d piece) first page (page + 1) h.steps so_far.steps low refl h.order so_far.order;
      few = let n = length-append h.steps so_far.steps in omega (arith, n, h.few, so_far.few, low);
    }

-- ---- room for the backs
pub back_events : (k : ℕ) (v : View) (steps : List Made) → length (events_by k v steps) ≤ length steps
back_events k v [] = omega arith
back_events k v (m ∷ more) = let rest = back_events k v more in let one = with_few (event_of k (epoch_of (more ++ v)) m.step m.answer) (events_by k v more) in omega (arith, rest, one)

-- ---- the block of a run is given
-- The block of a run covers just the grains of the run's pages.
pub run_is : (d : Directory) (first n word g : ℕ)
    → in_run (grain_of (run_block d first n word).name) (length_of (run_block d first n word)) g ≡ in_span first (first + n) (g / 256)
run_is d first n word g = search (arith, run_of, span_in, in_parts, to_run)

-- ---- a run is given: its pages are backed, the block is given, and the pages are left
module _ {σ σ1 : Standing} (d : Directory) (first n : ℕ) (backs : BacksRun d first (first + n) σ σ1) where
  -- The pages are backed in their order.
  order : InTurn BackStep (pages_from first n) backs.steps
  order = run_in_turn BackStep first n backs.steps backs.order

  -- Backing makes steps of that kind alone.
  kinds : Only (Backing ∷ []) backs.steps
  kinds = only_backs first n backs.steps order

  may_give : IsDirectoryOf σ.seat.profile d → (v : View) → HasPages d first (first + n) v → BackedRun first (first + n) v (backs.steps ++ v)
      → MayGive σ1.seat.profile d.heap first 0 (n * 256) (backs.steps ++ v)
  may_give of_profile v met back = record {
    held = λ g inside. back.does.held g ∙ met.held g (sym (search (arith, run_of, span_in, in_parts, to_run)) ∙ inside);
    bears = λ g inside.
        let is = sym (search (arith, run_of, span_in, in_parts, to_run)) ∙ inside in let b = back.bears g is in let p = g / 256 in let clear = back.does.clear p (met.clear.on p) in
        bears_by d p (subst (λ s. IsDirectoryOf s.profile d) (sym backs.calls.adds.seat_is) of_profile) (deeds_same (Backing ∷ []) refl p backs.steps v kinds ∙ met.deeds p is) b.backed clear.stamped;
  }

  -- Once the pages of a run are backed, its block may be given.
  pub can_give : IsDirectoryOf σ.seat.profile d → CanCall σ (HasPages d first (first + n)) → CanCall σ1 (MayGive σ1.seat.profile d.heap first 0 (n * 256))
  can_give of_profile can = next_call backs.calls can (may_give of_profile)

  module _ {σ2 : Standing} (of_profile : IsDirectoryOf σ.seat.profile d) (block : Block) (give : GivesBlock d.heap first 0 (n * 256) block σ1 σ2) where
    abbrev gs : List Made
    gs = give_steps first 0 block give.word give.answer

    record Given (v w : View) : Type 0 where
      does : Does (given_run first (first + n)) v w
      turn : block.name.turn < 2 ^ 37
      leave : MayLeaveRun d first (first + n) w

    given_call : Calls σ σ2 (HasPages d first (first + n)) Given (gs ++ backs.steps)
    given_call = call_then Given backs.calls give.calls (may_give of_profile)
        (λ v met back gave. let does = does_as (given_run first (first + n)) gave.does (λ g. inl (ap (λ t. if t then Lost else Kept) (search (arith, run_of, span_in, in_parts, to_run)))) (λ q. refl) (λ q h. h) in record {
          does = does_after_nothing (given_run first (first + n)) back.does does;
          turn = gave.turn;
          leave = record {
            right = λ p is. gave.does.right p ∙ back.does.right p ∙ met.right p is;
            deeds = λ p is. deeds_same (Giving ∷ LookLife ∷ []) refl p gs (backs.steps ++ v) (refl, (refl, tt)) ∙ deeds_same (Backing ∷ []) refl p _ v kinds ∙ met.deeds p is;
          };
        })

    -- Once its block is given, the pages of a run may be left.
    pub can_leave_run : CanCall σ (HasPages d first (first + n)) → CanCall σ2 (MayLeaveRun d first (first + n))
    can_leave_run can = next_call given_call can (λ v met given. given.leave)

    -- A run whose pages were backed, whose block was given and whose pages were left was given.
    pub gives_run : {σ3 : Standing} → LeavesRun d first (first + n) σ2 σ3 → GivesRun d first n block σ σ3
    gives_run left = record {
      backs = backs.steps;
      back_order = order;
      word = give.word;
      answer = give.answer;
      block_is = search (arith, d.heap);
      left = left.steps;
      left_order = run_in_turn (λ page piece. LeaveSteps page d piece) first n left.steps left.order;
      few = let a = length-append left.steps (gs ++ backs.steps) in let b = backs_few first n backs.steps order in omega (arith, a, b, left.few);
      calls = call_then (GaveRun d first n block) given_call left.calls (λ v met given. given.leave)
          (λ v met given left. search (arith, does_as, does_then, kept_first));
    }
