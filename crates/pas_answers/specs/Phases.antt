-- THE PHASES: what the acts of a phase did stands in front of what those of later ones did.
use Rattle.std.specs.Prelude.{ℕ, ◌≡◌, List, [], ◌∷◌, ◌++◌}
use Rattle.pas_profile.specs.declared.profile.Profile.{Profile}
use Rattle.pas_steps.specs.Lists.{Whole, part}
use Rattle.pas_trace.specs.Acts.{Act, MarksPhase, MarksClose}
use Rattle.pas_answers.specs.{Answers.Progress, Reaching.Reaches}

-- The steps told so far are the first of the whole list, whose newest step stands in front: it ends with a list that has of each actor the same part as they.
pub record StandFirst (told whole : Whole) : Type 0 where
  pub since : Whole
  pub so_far : Whole
  pub whole_is : whole ≡ since ++ so_far
  pub parts_are : (k : ℕ) → part k so_far ≡ part k told

-- at a mark
abbrev pub AtMark : Act → Type 0 → Type 0
AtMark (MarksPhase n) So = So
AtMark MarksClose So = So
AtMark act So = Unit {0}

-- At the mark of each phase from the second on, and at that of the close, the steps of all acts before it are the first of the list. So the list is one of a list for
-- each phase and one for the close, one after the other, each of which has of each actor just the steps of its own acts in that phase.
abbrev pub AreInPhases : (f : Profile) (acts : List Act) (p p' : Progress) → Reaches f acts p p' → Whole → Type 0
AreInPhases f [] p p' is whole = Unit {0}
AreInPhases f (act ∷ acts) p p' is whole = AtMark act (StandFirst p.list whole) × AreInPhases f acts is.0 p' is.2 whole
