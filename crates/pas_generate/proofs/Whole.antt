-- The whole text is read, one operation after the other.
use Rattle.std.proofs.Common.{◌≡◌, ℕ, ◌+◌, List, [], ◌++◌, add-one, append_assoc, refl, sym, ap, ◌∙◌, append-nil, ◌≢◌, zero, suc, ◌*◌, ◌/◌, ◌%◌, ◌<◌, ◌≤◌, ◌∷◌}
use Rattle.std.proofs.{Common.{length, codes, inl, inr, Ok, Err, subst, arith, ne_eqb, Global}, lemmas.{Bool.cases_eq, List.Elements.All-nil}}
use Rattle.pas_generate.specs.{Operations.{State, first_state, operation_at, after_operation}, declared.operation.Operation.Operation, Lines.{line_of, header}}
use Rattle.pas_generate.specs.{Traces.{state_after, lines_of, IsJob, trace_text}, Meant.{heading, with_drawn, with_operation, items_after, meant}}
use Rattle.pas_generate.proofs.{Operations.{tick_at, pass_at, drawn_at}, Splits.{lacks-by, line-then}, Says.{header_words, header-line, header-says, Reads}}
use Rattle.pas_generate.proofs.{Says.{reads-none, reads-both, reads-line, parsed-by}, Steps.{has-plan, Follows, Step, tick-step, pass-step, drawn-step}}
use Rattle.pas_trace.specs.{Plans.{parsed, IsPlanOf}, declared.{fault.TraceFault.TraceFault, plan.{Plan.Plan, Chore.Chore}, item.Item.Item}}
use Rattle.pas_trace.specs.declared.item.Item.TheVariants.{Shares, Scavenges, NextPhase}

-- ==== One operation more.

-- The first state of a seed is that after no operation.
pub no_state : (threads seed : ℕ) (s : State) → s ≡ first_state seed → s ≡ state_after threads seed 0
unfolding state_after
no_state threads seed s is = is

-- The text after no operation is what stood in front.
pub no_lines : (threads seed : ℕ) (text old front : List ℕ) → old ≡ [] → text ≡ old ++ front → text ≡ front ++ lines_of threads seed 0
unfolding lines_of
no_lines threads seed text old front empty is = is ∙ ap (λ (o : List ℕ). o ++ front) empty ∙ sym (append-nil front)

state_step : (threads seed n : ℕ) → state_after threads seed (n + 1) ≡ after_operation threads (n + 1) (state_after threads seed n)
unfolding state_after
state_step threads seed n = rw add-one refl

lines_step : (threads seed n : ℕ)
    → lines_of threads seed (n + 1) ≡ lines_of threads seed n ++ line_of (operation_at threads (n + 1) (state_after threads seed n))
unfolding lines_of
lines_step threads seed n = rw add-one refl

-- The state after one operation more follows from that before it.
pub more_state : (threads seed n own : ℕ) (s now : State) → own ≡ threads → s ≡ state_after threads seed n → now ≡ after_operation own (n + 1) s
    → now ≡ state_after threads seed (n + 1)
more_state threads seed n own s now same is next = next ∙ (λ i. after_operation (same i) (n + 1) (is i)) ∙ sym (state_step threads seed n)

-- The text of one operation more is that before with its line.
pub more_lines : (threads seed n own : ℕ) (s : State) (made : Operation) (front text now : List ℕ) → own ≡ threads → s ≡ state_after threads seed n
    → made ≡ operation_at own (n + 1) s → text ≡ front ++ lines_of threads seed n → now ≡ text ++ line_of made → now ≡ front ++ lines_of threads seed (n + 1)
more_lines threads seed n own s made front text now same is made_is so_far next =
    let planned : made ≡ operation_at threads (n + 1) (state_after threads seed n) = made_is ∙ (λ i. operation_at (same i) (n + 1) (is i)) in
    next ∙ (λ i. so_far i ++ line_of (planned i)) ∙ append_assoc front (lines_of threads seed n)
    (line_of (operation_at threads (n + 1) (state_after threads seed n))) ∙ ap (λ (t : List ℕ). front ++ t) (sym (lines_step threads seed n))

-- ==== The whole text is read, one operation after the other.

-- ---- the operation of a number
with-tick : (threads number : ℕ) (s : State) (items : List Item) → number % 1000 ≡ 999
    → with_operation threads number s items ≡ Scavenges (Chore.Tick (number / 1000 + 1)) ∷ items
unfolding with_operation
with-tick threads number s items e = rw e refl

with-pass : (threads number : ℕ) (s : State) (items : List Item) → number % 1000 ≡ 0
    → with_operation threads number s items ≡ NextPhase ∷ Scavenges Chore.Pass ∷ items
unfolding with_operation
with-pass threads number s items e = rw e refl

with-draws : (threads number : ℕ) (s : State) (items : List Item) → number % 1000 ≢ 999 → number % 1000 ≢ 0
    → with_operation threads number s items ≡ with_drawn threads s items
unfolding with_operation
with-draws threads number s items tick pass =
    rw (ne_eqb (number % 1000) 999 tick, ne_eqb (number % 1000) 0 pass) refl

same-step : (pages threads n : ℕ) (items : List Item) (text other : List ℕ) (now next : State) (after later : List Item) → text ≡ other → now ≡ next
    → after ≡ later → Step pages threads n items other next later
    → Step pages threads n items text now after
same-step pages threads n items text other now next after later t s a h =
    rw (t, s, a) h

operation-step : (ops threads pages n : ℕ) (s : State) (items : List Item) → IsJob ops threads pages → n < ops → Follows pages threads n s items
    → Step pages threads n items (line_of (operation_at threads (n + 1) s)) (after_operation threads (n + 1) s) (with_operation threads (n + 1) s items)
operation-step ops threads pages n s items job more h = elim (cases_eq ((n + 1) % 1000) 999) [
  | inl tick ↦
      let is = tick_at threads (n + 1) s tick in
      same-step pages threads n items _ _ _ _ _ _ (ap line_of is.0) is.1 (with-tick threads (n + 1) s items tick) (tick-step ops threads pages n s items job more h)
  | inr no_tick ↦ elim (cases_eq ((n + 1) % 1000) 0) [
    | inl pass ↦
        let is = pass_at threads (n + 1) s pass in
        same-step pages threads n items _ _ _ _ _ _ (ap line_of is.0) is.1 (with-pass threads (n + 1) s items pass) (pass-step ops threads pages n s items job more pass h)
    | inr no_pass ↦
        let is = drawn_at threads (n + 1) s no_tick no_pass in
        same-step pages threads n items _ _ _ _ _ _ (ap line_of is.0) is.1 (with-draws threads (n + 1) s items no_tick no_pass) (drawn-step ops threads pages n s items job more h)
  ]
]

-- ---- so many operations
record AreRead (pages threads seed n : ℕ) : Type 0 where
  reads : Reads (heading pages threads) (Shares 5 ∷ []) (lines_of threads seed n) (items_after threads seed n)
  follows : Follows pages threads n (state_after threads seed n) (items_after threads seed n)

none-read : (pages threads seed : ℕ) → AreRead pages threads seed 0
unfolding lines_of items_after state_after
none-read pages threads seed = record {
  reads = reads-none (heading pages threads) (Shares 5 ∷ []);
  follows = record {
    some_name = omega arith;
    few_names = omega arith;
    fresh = λ name later. refl;
    listed = All-nil _;
    counted = record { operations = refl; unguarded = refl; costs = omega arith; lines = omega arith };
  };
}

more-read : (ops pages threads seed n : ℕ) → IsJob ops threads pages → n < ops → AreRead pages threads seed n → AreRead pages threads seed (suc n)
unfolding lines_of items_after state_after
more-read ops pages threads seed n job more h =
    let s = state_after threads seed n in
    let items = items_after threads seed n in
    let next : n + 1 ≡ suc n = omega arith in
    let step : Step pages threads n items (line_of (operation_at threads (suc n) s)) (after_operation threads (suc n) s) (with_operation threads (suc n) s items) =
    subst (λ k. Step pages threads n items (line_of (operation_at threads k s)) (after_operation threads k s) (with_operation threads k s items)) next
    (operation-step ops threads pages n s items job more h.follows) in
    record {
      reads = reads-both (heading pages threads) (Shares 5 ∷ []) items (with_operation threads (suc n) s items) (lines_of threads seed n) (line_of (operation_at threads (suc n) s)) h.reads step.reads;
      follows = subst (λ k. Follows pages threads k (after_operation threads (suc n) s) (with_operation threads (suc n) s items)) next step.follows;
    }

all-read : (ops pages threads seed n : ℕ) → IsJob ops threads pages → n ≤ ops → AreRead pages threads seed n
all-read ops pages threads seed zero job within = none-read pages threads seed
all-read ops pages threads seed (suc n) job within = more-read ops pages threads seed n job (omega arith) (all-read ops pages threads seed n job (omega arith))

lines-few : (seed ops threads pages : ℕ) → IsJob ops threads pages → length (items_after threads seed ops) ≤ 2 * ops + 1
lines-few seed ops threads pages job = (all-read ops pages threads seed ops job (omega arith)).follows.counted.lines

-- ---- the text
pub text-read : (seed ops threads pages : ℕ) → IsJob ops threads pages → parsed (trace_text seed ops threads pages) ≡ Ok (meant seed ops threads pages)
text-read seed ops threads pages job =
    let f = heading pages threads in
    let pages_hi : pages ≤ 4096 = job.pages_most in
    let threads_lo : 1 ≤ threads = job.thread in
    let threads_hi : threads ≤ 16 = job.threads_most in
    let lines = lines_of threads seed ops in
    let all = all-read ops pages threads seed ops job (omega arith) in
    parsed-by f (trace_text seed ops threads pages) (header_words pages threads) (codes "shared 5\n" ++ lines) (items_after threads seed ops)
    (line-then (header pages threads) (header_words pages threads) (codes "shared 5\n") lines (header-line pages threads (omega arith) (omega arith)))
    (header-says pages threads (omega arith) pages_hi threads_lo threads_hi)
    (reads-both f [] (Shares 5 ∷ []) (items_after threads seed ops) (codes "shared 5\n") lines (reads-line f [] (codes "shared 5") (Shares 5) (lacks-by 10 (codes "shared 5") refl) refl) all.reads)

-- A generated trace has no fault.
pub text-faultless : (seed ops threads pages : ℕ) → IsJob ops threads pages → (fault : TraceFault) → parsed (trace_text seed ops threads pages) ≢ Err fault
text-faultless seed ops threads pages job fault bad = search (arith, text-read)

-- A generated trace has a plan.
pub text-planned : (heap : Global) (seed ops threads pages : ℕ) → IsJob ops threads pages → (plan : Plan) × IsPlanOf (trace_text seed ops threads pages) plan
text-planned heap seed ops threads pages job =
    let few : length (items_after threads seed ops) ≤ 2 * ops + 1 = lines-few seed ops threads pages job in
    has-plan heap (trace_text seed ops threads pages) (heading pages threads) (items_after threads seed ops) (text-read seed ops threads pages job) (omega arith) (omega arith)
