-- What requests of a cache leave behind.
use Rattle.std.specs.Prelude.{ℕ, List, ◌≡◌, ◌+◌, ◌≤◌}
use Rattle.pas_profile.specs.declared.profile.Profile.{Profile}
use Rattle.pas_cache.specs.{Caches.{Cached, AtRest}, Calls.Rests}
use Rattle.pas_steps.specs.{Desks.Standing, Unknown.unknown_pages, Views.View, declared.step.Made.Made}

-- some steps were made, after which the actor is at rest with the other cache, whose log is the same
pub record Borrows (c c' : Cached) (desk desk' : Standing) : Type 0 where
  pub steps : List Made
  pub rests : Rests c c' desk desk' steps
  pub log : c'.log ≡ c.log

-- the actor is at rest with the cache, and there is room for n events, and for the deed of each page whose deed isn't known
abbrev pub RestsWithRoom : Profile → Cached → ℕ → ℕ → View → Type 0
RestsWithRoom f c n spare v = AtRest f c v × (n + unknown_pages f v ≤ spare)
