-- What each phase of every plan keeps: which names its threads may free.
use Rattle.std.specs.Prelude.{ℕ, ◌≡◌, ◌==◌, true, if◌then◌else◌, List, [], ◌∷◌, MatchOption}
use Rattle.pas_trace.specs.{Asked.freed_in, EveryPlan.{is_asked, asked_after, asked_by}, declared.plan.Op.Op}

-- Each name that thread k frees in a phase of these operations was asked for by itself, or before the phase.
abbrev pub FreesItsOwn : ℕ → List ℕ → List Op → Type 0
FreesItsOwn k asked [] = Unit {0}
FreesItsOwn k asked (op ∷ ops) = (op.actor ≡ k → MatchOption (freed_in op.what) (Unit {0}) (λ n. is_asked asked n ≡ true)) × FreesItsOwn k (if op.actor == k then asked_after op.what asked else asked) ops

-- .. and so it is in each of these phases, for all threads, once the names of the phases before it were asked for
abbrev pub FreeTheirOwn : List ℕ → List (List Op) → Type 0
FreeTheirOwn asked [] = Unit {0}
FreeTheirOwn asked (phase ∷ phases) = ((k : ℕ) → FreesItsOwn k asked phase) × FreeTheirOwn (asked_by asked phase) phases
