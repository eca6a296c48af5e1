-- The operation of a number, by cases.
use Rattle.std.proofs.Common.{arith, ◌≡◌, ℕ, ◌+◌, ◌/◌, ◌%◌, Bool, true, false, ◌||◌, nat_eq, nat_lt, length, refl, sym, ◌∙◌, ne_eqb}
use Rattle.pas_generate.specs.{Draws.{moved, moved_by, drawn}, Operations.{State, allocates, allocation, after_allocation, free_of, after_free, thread_of}}
use Rattle.pas_generate.specs.{Operations.{drawn_operation, after_drawn, operation_at, after_operation}, declared.operation.Operation.Operation}

-- The operation before each thousandth is a tick, which leaves the state as it is.
pub tick_at : (threads n : ℕ) (s : State) → n % 1000 ≡ 999 → (operation_at threads n s ≡ Operation.Tick (n / 1000 + 1)) × (after_operation threads n s ≡ s)
unfolding operation_at after_operation
tick_at threads n s e = (rw e refl, rw e refl)

-- Every thousandth operation is a pass, and a phase begins after it.
pub pass_at : (threads n : ℕ) (s : State) → n % 1000 ≡ 0
    → (operation_at threads n s ≡ Operation.Pass) × (after_operation threads n s ≡ record s { phase = s.phase + 1 })
unfolding operation_at after_operation
pass_at threads n s e = (rw e refl, rw e refl)

-- Every other operation is drawn from the state.
pub drawn_at : (threads n : ℕ) (s : State) → (n % 1000 ≡ 999 → ⊥) → (n % 1000 ≡ 0 → ⊥)
    → (operation_at threads n s ≡ drawn_operation threads s) × (after_operation threads n s ≡ after_drawn threads s)
unfolding operation_at after_operation
drawn_at threads n s tick pass =
    let t = ne_eqb (n % 1000) 999 tick in
    let p = ne_eqb (n % 1000) 0 pass in
    (rw (t, p) refl, rw (t, p) refl)

-- ---- a drawn operation, from what the two draws gave and which of the two it is
pub record Began (threads first choice x number : ℕ) (s : State) (answer : Bool) : Type 0 where
  pub thread : 1 + number ≡ thread_of threads s
  pub source : x ≡ moved_by 2 s.x
  pub answered : allocates s ≡ answer

-- A drawn operation begins by draws of its choice and its thread.
pub began : (threads first choice x number : ℕ) (s : State) (found answer : Bool) → choice ≡ drawn (moved s.x) 8 → first ≡ moved s.x
    → number ≡ drawn (moved first) threads → x ≡ moved first → found ≡ (nat_lt choice 4 || nat_eq (length s.unfreed) 0) → found ≡ answer
    → Began threads first choice x number s answer
began threads first choice x number s found answer choice_is first_is number_is x_is found_is answered = search arith

-- A draw of an allocation makes the operation and the state after it.
pub allocated : (threads first choice x number : ℕ) (s now : State) (made : Operation) → Began threads first choice x number s true
    → made ≡ allocation (1 + number) (record s { x = x }) → now ≡ after_allocation (1 + number) (record s { x = x })
    → (made ≡ drawn_operation threads s) × (now ≡ after_drawn threads s)
unfolding drawn_operation after_drawn
allocated threads first choice x number s now made b made_is now_is = (
  made_is ∙ (λ i. allocation (b.thread i) (record s { x = b.source i }))
      ∙ sym (rw b.answered refl),
  now_is ∙ (λ i. after_allocation (b.thread i) (record s { x = b.source i })) ∙ sym (rw b.answered refl),
)

-- A draw of a free makes the operation and the state after it.
pub was_freed : (threads first choice x number : ℕ) (s now : State) (made : Operation) → Began threads first choice x number s false
    → made ≡ free_of (1 + number) (record s { x = x }) → now ≡ after_free (record s { x = x })
    → (made ≡ drawn_operation threads s) × (now ≡ after_drawn threads s)
unfolding drawn_operation after_drawn
was_freed threads first choice x number s now made b made_is now_is = (
  made_is ∙ (λ i. free_of (b.thread i) (record s { x = b.source i }))
      ∙ sym (rw b.answered refl),
  now_is ∙ (λ i. after_free (record s { x = b.source i })) ∙ sym (rw b.answered refl),
)
