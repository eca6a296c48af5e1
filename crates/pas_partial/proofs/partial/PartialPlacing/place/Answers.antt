use Rattle.std.proofs.Common.{◌≡◌, ◌-◌, ◌*◌, ◌/◌, min, subst, sym}
use Rattle.pas_bits.specs.Masks.{is_set, IsLowestPlace}
use Rattle.pas_search.specs.Placements.{IsPlaced}
use Rattle.pas_partial.{specs.Rows.lowest_rows, proofs.Refilled.placed_row}
use Rattle.pas_partial.proofs.partial.PartialPlacing.place.Goals as goal

pub returns : goal.returns
returns c = let class = c.args.self.now.class in let free = c.args.free.now in let first = c.in_ok-first.first in let end = c.run_end-end in
    let slots = c.min-slots in subst (λ size. IsLowestPlace free (size / 16) (size / 16) 256 first → slots.result ≡ min ((end.result - first) / (size / 16)) 4
    → IsPlaced (lowest_rows class) (is_set free) (record { first = first; grains = slots.result * (size / 16) })) (sym c.class_size.ensures)
    (λ place slots_is. placed_row class c.requires.asked free first end.result slots.result place end.ensures slots_is) c.in_ok-first.ensures slots.ensures
