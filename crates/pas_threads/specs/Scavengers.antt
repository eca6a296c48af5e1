-- What the scavenger's worker has in hand while it doesn't sit at the region, before and after its acts of a phase.
use Rattle.std.specs.Prelude.{ℕ, ◌≡◌, List, [], Some, length, vec_capacity}
use Rattle.pas_steps.specs.Desks.{Standing}
use Rattle.pas_trace.specs.{EveryPlan.AreSound, Acts.{Act, scavenger_acts}, declared.plan.Op.Op}
use Rattle.pas_utility.specs.Outcomes.{places_of}
use Rattle.pas_shared.specs.{Passes.IsPassOf, declared.{bench.Bench.Bench, pass.SharedPass.SharedPass, region.SharedRegion.SharedRegion}}
use Rattle.pas_answers.specs.Answers.{Progress}
use Rattle.pas_threads.specs.{Hands.{standing_of_pass, HasPass, Did}, Lent.Shift, Left.{crew_in, HasLeft}, Crews.{Crew, crew, CrewAt, CrewDid}}
use Rattle.pas_threads.specs.declared.scavenger.Scavenger.{Scavenger}

-- what it works with at this desk
abbrev pub crew_of : Standing → Scavenger → Crew
crew_of desk scavenger = crew desk scavenger.lent.items (places_of scavenger.outcomes) scavenger.out

-- It has its pass, and with it and the lent threads stands where the replay came as far as p. These acts come next.
pub record ScavengerStands (region : SharedRegion) (s : Shift) (acts : List Act) (scavenger : Scavenger) (p : Progress) : Type 0 where
  pub has : HasPass region scavenger.pass
  pub at : CrewAt region s acts (crew_of (standing_of_pass has.pass) scavenger) p

-- its operations of the phase can be done
pub record MayScavenge (region : SharedRegion) (ops : List Op) (scavenger : Scavenger) : Type 0 where
  pub shift : Shift
  pub asked : List ℕ
  pub progress : Progress
  pub sound : AreSound shift.profile asked ops
  pub stands : ScavengerStands region shift (scavenger_acts shift.idle ops) scavenger progress

-- The crew did these acts, and the scavenger has this pass again. The bench that they left saw in which order.
pub record CrewHasLeft (region : SharedRegion) (s : Shift) (acts : List Act) (pass : SharedPass) (bench : Bench) (has has' : Crew) (p : Progress) : Type 0 where
  pub of : IsPassOf region pass
  pub did : CrewDid region s acts [] has has' p
  pub left : HasLeft region (Some bench) (crew_in s.idle) p.list did.came.reached.list

-- what it did with its pass and the lent threads, which have their passes again, and the bench that it left
pub record ScavengerDid (region : SharedRegion) (s : Shift) (acts : List Act) (old new : Scavenger) (p : Progress) : Type 0 where
  pub did : Did region old.pass new.pass (λ σ σ'. CrewDid region s acts [] (crew_of σ old) (crew_of σ' new) p)
  pub left : HasLeft region new.bench (crew_in s.idle) p.list did.does.came.reached.list

-- they were done, wherever the replay stood, and it has its pass again
pub record DidScavenge (region : SharedRegion) (ops : List Op) (old new : Scavenger) : Type 0 where
  pub did : (s : Shift) (asked : List ℕ) (p : Progress) → AreSound s.profile asked ops → ScavengerStands region s (scavenger_acts s.idle ops) old p
      → ScavengerDid region s (scavenger_acts s.idle ops) old new p
  pub many : length new.lent.items ≡ length old.lent.items
  pub places : vec_capacity new.lent ≡ vec_capacity old.lent
