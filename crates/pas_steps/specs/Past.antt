-- What is said of a step and of the steps of the list before it. The newest step comes first.
use Rattle.std.specs.Prelude.{◌⊎◌, List, [], ◌∷◌}
use Rattle.pas_steps.specs.declared.step.Made.{Made}

-- at some step P holds, of it and of the steps before it
abbrev pub Once : (Made → List Made → Type 0) → List Made → Type 0
Once P [] = ⊥
Once P (m ∷ before) = P m before ⊎ Once P before

-- at each step
abbrev pub Always : (Made → List Made → Type 0) → List Made → Type 0
Always P [] = Unit {0}
Always P (m ∷ before) = P m before × Always P before

-- P holds at some step, and Q at each step since
abbrev pub Since : (Made → List Made → Type 0) → (Made → List Made → Type 0) → List Made → Type 0
Since P Q [] = ⊥
Since P Q (m ∷ before) = P m before ⊎ (Q m before × Since P Q before)
