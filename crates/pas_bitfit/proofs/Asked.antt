-- A block of the room and the alignment that were asked for.
use Rattle.std.proofs.Common.{◌≡◌, ℕ, ◌%◌, ◌≤◌, Bool, Ok, Err, Result, ap, ◌∙◌, arith, MatchResult}
use Rattle.pas_profile.specs.{Classes.IsAlignment, declared.{event.NoRoom.NoRoom, name.Block.Block}}
use Rattle.pas_steps.specs.Desks.{Standing}
use Rattle.pas_search.specs.Allocates.{AllocatesRun}
use Rattle.pas_bitfit.{specs.{Allocates.{bitfit_directory, run_for, IsOfRequest}, Runs.{IsWanted, runs, run_at}}, proofs.Aligned.stands_aligned}

-- A bit-fit room and an alignment are what a run may be wanted for.
pub is_wanted : (room align : ℕ) → (16 ≤ room) × (room ≤ 2048) × (room % 16 ≡ 0) → IsAlignment align → IsWanted (run_for room align)
is_wanted room align sized is = record { grains = (omega (arith, sized.0), omega (arith, sized.1)); align = (omega (arith, is.0), omega (arith, is.1)) }

-- The block of a run that was allocated for a room and an alignment has both.
pub answer_of_request : (room align : ℕ) → (16 ≤ room) × (room ≤ 2048) × (room % 16 ≡ 0) → IsAlignment align → {tells : Bool} {σ σ' : Standing} (heap : ℕ)
    (answer : Result Block NoRoom) → AllocatesRun (runs (run_for room align)) (run_at (run_for room align)) (bitfit_directory heap) tells σ σ' answer
    → MatchResult answer (IsOfRequest room align) (λ why. Unit {0})
answer_of_request room align sized alignment heap (Ok block) a = let is = a.outcome in record {
  room_is = is.room_is ∙ omega (arith, sized.2);
  aligned = ap (λ a. a % align) is.address_is ∙ stands_aligned is.page is.found align alignment is.served.serves.chosen.this.aligned;
}
answer_of_request room align sized alignment heap (Err why) a = tt
