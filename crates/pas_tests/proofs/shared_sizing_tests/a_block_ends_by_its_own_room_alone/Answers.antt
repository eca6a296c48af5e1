use Rattle.std.proofs.Common.{[], refl, ap, sym, ◌∙◌, subst, arith}
use Rattle.pas_steps.proofs.Nothing.{nothing_yet}
use Rattle.pas_shared.specs.Passes.{IsFreshPass, seat_of, view_of}
use Rattle.pas_trials.proofs.{Firsts.no_events, Going.few_below}
use Rattle.pas_tests.proofs.shared_sizing_tests.a_block_ends_by_its_own_room_alone.Goals as goal

pub borrow_and_end-block-requires-clause-can : goal.borrow_and_end-block-requires-clause-can
borrow_and_end-block-requires-clause-can g c =
    let region = c.in_ok-region.region in
    let pass = c.desk-desk.result.pass in
    let here : IsFreshPass region 16 pass = subst (IsFreshPass region 16) (sym c.desk-desk.ensures.pass) c.in_ok-region.ensures.first in
    let f = (seat_of pass).profile in
    let pages = ap (λ g. g.pages) (here.of_region.1 ∙ c.in_ok-region.ensures.profile) in
    let empty = no_events pass here.no_steps in
    let few = few_below f.pages (view_of pass) in
    record {
      view = view_of pass;
      whole = [];
      stood = refl;
      met = (
        rw here.no_steps (c.in_ok-cache.ensures.rest f [] nothing_yet),
        omega
            (arith, empty, here.room, pages, few),
      );
    }
