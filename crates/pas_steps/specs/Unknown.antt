-- Pages whose deeds aren't known, and the room that their deeds may take.
use Rattle.std.specs.Prelude.{ℕ, zero, suc, ◌+◌, ◌≤◌, ◌≢◌, ◌==◌, ◌⊎◌, if◌then◌else◌}
use Rattle.pas_profile.specs.{Profiles.IsPage, declared.profile.Profile.Profile}
use Rattle.pas_steps.specs.Views.{View, known_deed}

-- the deed of each page is known
abbrev pub KnowsAllDeeds : Profile → View → Type 0
KnowsAllDeeds f v = (p : ℕ) → IsPage f p → known_deed v p ≢ 0

-- a page with this deed word counts where it isn't known
abbrev pub unknown_here : ℕ → ℕ
unknown_here deed = if deed == 0 then 1 else 0

-- how many of the pages from 1 to this one have a deed that the view doesn't know
abbrev pub unknown_below : ℕ → View → ℕ
unknown_below zero v = 0
unknown_below (suc n) v = unknown_here (known_deed v (suc n)) + unknown_below n v

-- .. of all pages of the region
abbrev pub unknown_pages : Profile → View → ℕ
unknown_pages f v = unknown_below f.pages v

-- room for n events, and for a deed besides where the deed of some page isn't known
abbrev pub HasRoom : Profile → ℕ → ℕ → View → Type 0
HasRoom f n spare v = (n ≤ spare) × (KnowsAllDeeds f v ⊎ (n + 1 ≤ spare))
