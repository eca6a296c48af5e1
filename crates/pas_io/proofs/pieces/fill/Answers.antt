use Rattle.std.proofs.Common.{rules, ◌-◌, Some, length, ap, ◌∙◌, arith, length-drop, drop-drop}
use Rattle.pas_io.proofs.{Reaching.run_on, Telling.{filled_more, left_more}}
use Rattle.pas_io.proofs.pieces.fill.Goals as goal

pub loop-taken-preserved : goal.loop-taken-preserved
loop-taken-preserved g c =
    let taken = c.loop-taken.taken in
    let count = c.in_ok-count.count in
    let buffer = c.loop-taken.buffer in
    record {
      within = search rules;
      told = λ told read.
          let before = c.loop-taken.invariant.told told read in
          let moves = left_more told _ _ _ _ taken count before.left c.in_ok-count.ensures.moves in
          let within = moves.within in
          let size = length-drop taken told in
          record {
            within = omega arith;
            left = moves.rest ∙ ap Some (drop-drop count taken told);
            front = filled_more told buffer c.read.new.buffer taken (length buffer - taken) count (omega arith) before.front (search rules) moves.moved;
          };
      reach = λ is. run_on _ _ _ count c.in_ok-count.ensures.ends (omega arith) (c.loop-taken.invariant.reach is);
      count = c.in_ok-count.ensures.sound ∙ c.loop-taken.invariant.count;
    }
