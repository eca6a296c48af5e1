-- A transcript has one verdict.
use Rattle.std.proofs.{Common.{◌≡◌, ℕ, zero, suc, ◌+◌, ◌<◌, ◌≤◌, List, [], ◌∷◌, take, inl, inr, refl, ap, subst, arith}, lemmas.Bool.cases_lt}
use Rattle.pas_profile.specs.declared.profile.Profile.{Profile}
use Rattle.pas_trace.specs.declared.plan.Plan.{Plan}
use Rattle.pas_check.specs.{States.Stand, Accepted.{MayGo, IsWhole, IsStopped, IsVerdict}, declared.verdict.Verdict.Verdict}

-- where lines may come, a first part of them may
goes_front : (n : ℕ) (f : Profile) (s : Stand) (lines : List (List ℕ)) → MayGo f s lines → MayGo f s (take n lines)
goes_front zero f s lines go = (s, refl)
goes_front (suc n) f s [] go = go
goes_front (suc n) f s (line ∷ lines) go =
    let rest = goes_front n f go.1.0 lines (go.0, go.1.2) in grind (arith, rest)

take-take : (a b : ℕ) (lines : List (List ℕ)) → a ≤ b → take a (take b lines) ≡ take a lines
take-take zero b lines le = refl
take-take (suc a) zero lines le = absurd (omega (arith, le))
take-take (suc a) (suc b) [] le = refl
take-take (suc a) (suc b) (line ∷ lines) le = ap (λ ls. line ∷ ls) (take-take a b lines (omega (arith, le)))

-- no fewer than these lines may come
module _ (f : Profile) (s : Stand) (lines : List (List ℕ)) where
  -- Where the first lines lead on, so do fewer.
  shorter : (a b : ℕ) → a ≤ b → MayGo f s (take b lines) → MayGo f s (take a lines)
  shorter a b le go = subst (MayGo f s) (take-take a b lines le) (goes_front a f s (take b lines) go)

  whole_goes : (n : ℕ) → IsWhole f s lines → MayGo f s (take n lines)
  whole_goes n whole = goes_front n f s lines (whole.0, whole.1)

  no_whole : (n : ℕ) → IsStopped f s lines n → IsWhole f s lines → ⊥
  no_whole n stopped whole = search (arith, whole_goes)

  no_later : (n m : ℕ) (a : IsStopped f s lines n) (b : IsStopped f s lines m) → a.before < b.before → ⊥
  no_later n m a b lt = elim (a.stops) [
    | inl past ↦ past.1 (shorter (a.before + 1) b.before (omega (arith, lt)) b.go)
    | inr short ↦ search arith
  ]

  one_stop : (n m : ℕ) → IsStopped f s lines n → IsStopped f s lines m → n ≡ m
  one_stop n m a b = elim (cases_lt a.before b.before) [
    | inl lt ↦ absurd (no_later n m a b lt)
    | inr ge ↦ elim (cases_lt b.before a.before) [
      | inl lt ↦ absurd (no_later m n b a lt)
      | inr le ↦ omega (arith, ge, le, a.number, b.number)
    ]
  ]

-- A transcript has at most one verdict for its plan.
pub one_verdict : (plan : Plan) (text : List ℕ) (v w : Verdict) → IsVerdict plan text v → IsVerdict plan text w → v ≡ w
one_verdict plan text v w a b = search (arith, no_whole, one_stop)
