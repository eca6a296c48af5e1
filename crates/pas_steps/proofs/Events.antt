-- What an event says of the step that made it, and what holds of each event of steps.
use Rattle.std.proofs.{Common.{arith, ◌≡◌, ℕ, Bool, true, if◌then◌else◌, List, [], ◌∷◌, Some, None, subst, eqb-true}, lemmas.Option.{none-some, same_Some}}
use Rattle.std.{proofs.lemmas.Option.cond_some, specs.List.AllByRecursion}
use Rattle.pas_profile.specs.declared.event.Event.{Event}
use Rattle.pas_steps.specs.{Past.Always, Views.View, Events.{event_of, events_by, actor_of}, Kinds.{StepKind, kind_of, Deeding, Backing, Giving, Ending}}
use Rattle.pas_steps.specs.{Kinds.Unbacking, declared.step.{Made.Made, Step.{Step, TheVariants.{Deed, Back}}}}

-- ---- the step of an event
-- which kind of step makes such an event
abbrev pub kind_shown : Event → StepKind
kind_shown (Event.Deed k page directory) = Deeding
kind_shown (Event.Back k page) = Backing
kind_shown (Event.Unback k page epoch) = Unbacking
kind_shown (Event.Give k block) = Giving
kind_shown (Event.End k name epoch) = Ending
kind_shown (Event.Reject k name why) = Ending

-- a deed and a back tell the whole step
abbrev pub IsToldBy : Event → Step → ℕ → Type 0
IsToldBy (Event.Deed k page directory) s a = (s ≡ Deed page directory) × (a ≡ 0)
IsToldBy (Event.Back k page) s a = (s ≡ Back page) × (a ≡ 0)
IsToldBy e s a = Unit {0}

-- the event comes of this step of actor k, with this answer
pub record ComesOf (k : ℕ) (s : Step) (a : ℕ) (e : Event) : Type 0 where
  pub actor : actor_of e ≡ k
  pub kind : kind_of s ≡ kind_shown e
  pub step : IsToldBy e s a

module _ (k a : ℕ) (s : Step) (e : Event) where
  -- An event that comes where a test passes is one that comes of the step.
  chosen : (t : Bool) (x : Event) → (t ≡ true → ComesOf k s a x) → (if t then Some x else None) ≡ Some e → ComesOf k s a e
  chosen t x comes is = let h = cond_some t x e is in subst (ComesOf k s a) h.1 (comes h.0)

  -- Of an end come its success, or its refusal, or nothing.
  ended : (z y : Bool) (x r : Event) → ComesOf k s a x → ComesOf k s a r → (if z then Some x else (if y then None else Some r)) ≡ Some e → ComesOf k s a e
  ended z y x r one other is = grind (arith, same_Some, none-some)

-- each event comes of a step of its own actor and its own kind
pub comes_of : (k epoch : ℕ) (s : Step) (a : ℕ) (e : Event) → event_of k epoch s a ≡ Some e → ComesOf k s a e
comes_of k epoch s a e is = grind (arith, chosen, eqb-true, ended, none-some)

-- ---- the events of steps
-- what holds of the event of each step holds of each event
pub each_event : (P : Event → Type 0) (Q : Made → List Made → Type 0) (k : ℕ) (v : View)
    → ((m : Made) (before : List Made) (epoch : ℕ) (e : Event) → Q m before → event_of k epoch m.step m.answer ≡ Some e → P e)
    → (steps : List Made) → Always Q steps → AllByRecursion P (events_by k v steps)
each_event P Q k v one [] all = tt
each_event P Q k v one (m ∷ more) all = grind (arith, each_event P Q k v one more all.1)

-- they are all of the steps' actor
pub events_own : (k : ℕ) (v : View) (steps : List Made) → AllByRecursion (λ e. actor_of e ≡ k) (events_by k v steps)
events_own k v [] = tt
events_own k v (m ∷ more) = grind (arith, events_own k v more)
