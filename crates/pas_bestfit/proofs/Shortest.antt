-- The rank of a page, and the block of the best page.
use Rattle.std.proofs.{Common.{◌≡◌, ℕ, ◌+◌, ◌-◌, ◌*◌, ◌≤◌, Result, MatchResult, Bool, inl, inr, sym, ◌∙◌, subst, arith, true≢false}, lemmas.Bool.cases_lt}
use Rattle.pas_bits.specs.{declared.mask.Mask4.Mask4, Masks.{is_set, IsRunEnd}}
use Rattle.pas_profile.specs.declared.{event.NoRoom.NoRoom, name.Block.Block}
use Rattle.pas_steps.specs.Desks.{Standing}
use Rattle.pas_bestfit.specs.{Allocates.grains_for, Bests.{IsBestFit, IsNoBetter}, Region.{AllocatesInRegion, GivesInRegion, IsShortest}}
use Rattle.pas_bestfit.proofs.Searched.{room_of}

-- a run ends where the first clear bit comes
length_of : (mask : Mask4) (grains g end : ℕ) (fit : IsBestFit grains (is_set mask) g) → IsRunEnd mask g end → end ≡ g + fit.length
length_of mask grains g end fit ends =
    let within = fit.run.within in let most = ends.within in let from = ends.above in
    elim (cases_lt end (g + fit.length)) [
      | inl short ↦ absurd (true≢false (sym (fit.run.free end from short) ∙ ends.clear (omega (arith, short, within))))
      | inr long ↦ elim (cases_lt (g + fit.length) end) [
        | inl past ↦ absurd (true≢false (sym (ends.set (g + fit.length) (omega arith) past) ∙ fit.run.after (omega (arith, past, most))))
        | inr same ↦ omega (arith, long, same)
      ]
    ]

no_shorter : (g n h m : ℕ) → IsNoBetter g n h m → n ≤ m
no_shorter g n h m (inl less) = omega (arith, less)
no_shorter g n h m (inr same) = let e = same.0 in omega (arith, e)

-- The run that best fit chooses is the shortest that is long enough.
pub shortest : (mask : Mask4) (grains g end : ℕ) → IsBestFit grains (is_set mask) g → IsRunEnd mask g end → IsShortest grains (is_set mask) (end - g)
shortest mask grains g end fit ends = let at = length_of mask grains g end fit ends in let same : fit.length ≡ end - g = omega (arith, at) in
    subst (IsShortest grains (is_set mask)) same
    (record { first = g; run = fit.run; enough = fit.enough; shortest = λ h m run enough. no_shorter g fit.length h m (fit.best h m run enough) })

-- ---- the block
pub in_region : {tells : Bool} {σ σ' : Standing} (heap bytes n : ℕ) (answer : Result Block NoRoom) → n ≡ grains_for bytes
    → GivesInRegion heap n tells σ σ' answer
    → AllocatesInRegion heap bytes tells σ σ' answer
in_region {tells} {σ} {σ'} heap bytes n answer is by =
    let by_rank : GivesInRegion heap (grains_for bytes) tells σ σ' answer = subst (λ n. GivesInRegion heap n tells σ σ' answer) is by in record {
      by_rank = by_rank;
      room_is = elim by_rank [
        | inl taken ↦ subst (λ a. MatchResult a (λ block. block.room ≡ grains_for bytes * 16) (λ why. Unit {0})) (sym taken.1) taken.2.given.room_is
        | inr back ↦ room_of heap (grains_for bytes) answer back.goes
      ];
    }
