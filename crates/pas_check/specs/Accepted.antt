-- Which transcripts of a plan are accepted, and which line is the first that isn't allowed.
use Rattle.std.specs.Prelude.{ℕ, ◌+◌, ◌<◌, ◌≡◌, ◌⊎◌, List, [], ◌∷◌, length, take}
use Rattle.pas_profile.specs.declared.profile.Profile.{Profile}
use Rattle.pas_trace.specs.declared.plan.Plan.{Plan}
use Rattle.pas_check.specs.{Lines.lines_in, States.{Stand, at_first}, Begins.ready, Takes.Takes, declared.verdict.Verdict.{Verdict, TheVariants.{Yes, No}}}

-- each of the lines may come after those before it
abbrev pub Goes : Profile → Stand → List (List ℕ) → Stand → Type 0
Goes f s [] end = end ≡ s
Goes f s (line ∷ lines) end = (next : Stand) × Takes f s line next × Goes f next lines end

-- nothing is due any more, nor left of the plan
abbrev pub IsDone : Profile → Stand → Type 0
IsDone f s = (ready f s).due ≡ []

-- from here on the lines may come, one after the other
abbrev pub MayGo : Profile → Stand → List (List ℕ) → Type 0
MayGo f s lines = (end : Stand) × Goes f s lines end

-- .. and after them the transcript is whole
abbrev pub IsWhole : Profile → Stand → List (List ℕ) → Type 0
IsWhole f s lines = (end : Stand) × Goes f s lines end × IsDone f end

-- AN ACCEPTED TRANSCRIPT of the plan
abbrev pub IsAccepted : Plan → List ℕ → Type 0
IsAccepted plan text = IsWhole plan.profile (at_first plan) (lines_in text)

-- THE FIRST LINE that isn't allowed at its place: those before it may come, and not it too; or the text ends there too early
pub record IsStopped (f : Profile) (s : Stand) (lines : List (List ℕ)) (n : ℕ) : Type 0 where
  pub before : ℕ
  pub number : n ≡ before + 1
  pub go : MayGo f s (take before lines)
  pub stops : ((before < length lines) × (MayGo f s (take (before + 1) lines) → ⊥)) ⊎ ((before ≡ length lines) × (IsWhole f s lines → ⊥))

abbrev pub IsVerdict : Plan → List ℕ → Verdict → Type 0
IsVerdict plan text Yes = IsAccepted plan text
IsVerdict plan text (No n) = IsStopped plan.profile (at_first plan) (lines_in text) n
