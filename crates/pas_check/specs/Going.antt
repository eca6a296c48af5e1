-- How far a check has come.
use Rattle.std.specs.Prelude.{ℕ, ◌↔◌, List, ◌++◌}
use Rattle.pas_profile.specs.declared.profile.Profile.{Profile}
use Rattle.pas_check.specs.{States.Stand, Accepted.{IsDone, MayGo, IsWhole}, Takes.Takes}

-- After these lines it stands here: however the lines go on, they go on from here as from the first, and so they are whole from here as from the first.
pub record SoFar (f : Profile) (first : Stand) (seen : List (List ℕ)) (s : Stand) : Type 0 where
  pub go : (more : List (List ℕ)) → MayGo f first (seen ++ more) ↔ MayGo f s more
  pub whole : (more : List (List ℕ)) → IsWhole f first (seen ++ more) ↔ IsWhole f s more

-- two states that no line tells apart
pub record AreAlike (f : Profile) (s t : Stand) : Type 0 where
  pub takes : (line : List ℕ) (next : Stand) → Takes f s line next ↔ Takes f t line next
  pub done : IsDone f s ↔ IsDone f t
