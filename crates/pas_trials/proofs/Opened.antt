-- Two actors at a region that nobody used yet are in a storm, and the passes of two actors are the region's.
use Rattle.std.proofs.Common.{◌≡◌, ℕ, List, [], ◌∷◌, arith}
use Rattle.pas_steps.{specs.Lists.Whole, proofs.Nothing.nothing_yet}
use Rattle.pas_plain.specs.{Plain.{profile_of, RegionStands, PassStands}, Storms.StormStands, Seats.{region_of, pass_of, Opens, ArePassesOf}}
use Rattle.pas_plain.specs.declared.{desk.PlainDesk.PlainDesk, pass.PlainPass.PlainPass, region.PlainRegion.PlainRegion}

-- Once the actor at the desk of a new region has risen, the region and both passes stand for a storm.
pub storm_stands : {desk : PlainDesk} {region : PlainRegion} {own foreign : PlainPass} {room : ℕ} → Opens desk foreign room → region ≡ region_of desk
    → own ≡ pass_of desk → StormStands region own foreign [] []
storm_stands {desk} {region} {own} {foreign} opens at of =
    search (arith, nothing_yet)

-- The passes of two actors that stand beside each other are the region's.
pub both_passes : {region : PlainRegion} {own foreign : PlainPass} {whole : Whole} {passes : List PlainPass} → passes ≡ own ∷ foreign ∷ []
    → RegionStands region whole → PassStands (profile_of region) own whole → PassStands (profile_of region) foreign whole → ArePassesOf region passes
both_passes {region} {own} {foreign} {whole} is stands first second =
    search arith
