-- A hint and a tick, and what may come after them.
use Rattle.std.proofs.Common.{[], ◌∷◌, List, refl, ℕ}
use Rattle.pas_steps.{proofs.{Nothing.nothing_still, Adding.{adds_none, adds_step}, Called.next_call, Calls.does_idly}, specs.{Calls.Calls, Clear.HasNothing}}
use Rattle.pas_steps.specs.{Kinds.{Hinting, Ticking}, Desks.{Standing, Makes, CanCall, made}, declared.step.{Made.Made, Step.TheVariants.{Hint, Tick}}}

module _ {σ σ1 σ2 : Standing} (page h epoch t : ℕ) (hint : Makes σ σ1 (Hint page) h) (tick : Makes σ1 σ2 (Tick epoch) t) where
  abbrev pub hint_and_tick : List Made
  hint_and_tick = made (Tick epoch) t ∷ made (Hint page) h ∷ []

  -- A hint and a tick leave an actor that has nothing with nothing.
  pub aged : Calls σ σ2 HasNothing (λ v w. HasNothing w) hint_and_tick
  aged = record {
    adds = adds_step (adds_step adds_none hint (λ v l stood met. tt)) tick (λ v l stood met. tt);
    leads = record { from = λ v met agreed. nothing_still (does_idly σ.seat.profile (Hinting ∷ Ticking ∷ []) refl hint_and_tick v (refl, (refl, tt)) agreed) met };
  }

  -- After a hint and a tick a pass may be made.
  pub may_pass : CanCall σ HasNothing → CanCall σ2 HasNothing
  may_pass can = next_call aged can (λ v met rests. rests)
