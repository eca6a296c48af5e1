use Rattle.std.proofs.{Common.{[], refl, arith, false, length-set}, lemmas.List.get_or_default}
use Rattle.pas_segregated.specs.declared.slots.Slots.{Slots as Local}
use Rattle.pas_cache.proofs.Resting.{hole_on, hole_filled}
use Rattle.pas_cache.proofs.taking.move_to_end.Goals as goal

-- what is read behind a list's end
abbrev none : Local
none = record { page = 0; heap = 0; class = 0; starts = record { 0 = [] }; right = false }

pub loop-hole-init : goal.loop-hole-init
loop-hole-init c = record { within = omega (arith, c.requires); others = refl }

pub loop-hole-preserved : goal.loop-hole-preserved
loop-hole-preserved c =
    search (arith, length-set, hole_on)

pub returns : goal.returns
returns c d =
    search (arith, hole_filled, get_or_default)
