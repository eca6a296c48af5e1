use Rattle.std.proofs.Common.{◌∙◌, ◌++◌, ◌∷◌, [], ap, sym, subst}
use Rattle.pas_threads.proofs.{Common.{rows_of, HasRow, part_of, view_of, keeper_parts}, Benched.{sat, pair_sat, has_seat}}
use Rattle.pas_threads.proofs.workers.sit_down.Goals as goal

pub returns : goal.returns
returns c =
    let kept = c.seat_keeper-keeper.ensures.rows ∙ ap (λ rs. rows_of (keeper_parts c.args.keeper) ++ rs) c.open-bench.ensures.rows in
    let rows = c.seat-member.ensures.rows ∙ ap (λ rs. rows_of (part_of c.args.pass ∷ []) ++ rs) kept in
    let has = subst (λ qs. HasRow qs c.args.pass.place.actor (view_of c.args.pass)) (sym rows) (has_seat c.args.pass _) in
    record {
      sits = pair_sat c.args.pass c.args.keeper c.seat-member.result c.seat_keeper-keeper.result c.seat-member.new.self c.look.new.self c.requires.pass c.requires.keeper c.seat_keeper-keeper.ensures.seated rows
          (sat c.seat-member.new.self c.look.new.self c.args.pass c.seat-member.result c.requires.pass c.seat-member.ensures.member c.look.ensures.of
          c.look.ensures.looked has)
          c.look.ensures.of c.look.ensures.looked;
    }
