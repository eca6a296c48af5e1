use Rattle.std.proofs.Common.{get_or}
use Rattle.pas_machine.{specs.Places.{blank_page, IsOfHeap}, proofs.LiveBlocks.each_more}
use Rattle.pas_machine.proofs.looking.lacks_deed.Goals as goal

pub loop-page-preserved : goal.loop-page-preserved
loop-page-preserved c = each_more c.args.from c.loop-page.page (λ page. IsOfHeap c.args.heap (get_or c.args.pages.now page blank_page).directory) c.loop-page.invariant c.if-not-is_of.ensures
