use Rattle.std.proofs.{Common.{◌*◌, List, length, drop, ap, sym, subst, arith, All}, lemmas.List.Elements.{All-take, All-drop}}
use Rattle.pas_records.{specs.{declared.record.Record.Record, Lines.CanShow}, proofs.Dealt.part_short}
use Rattle.pas_records.proofs.filling.fill_at.Goals as goal

pub fill-requires-clause-few : goal.fill-requires-clause-few
fill-requires-clause-few c =
    let short = part_short c.args.round.now c.args.place in
    omega (arith, short, ap length c.part.ensures)

pub fill-requires-clause-shown : goal.fill-requires-clause-shown
fill-requires-clause-shown c =
    let may = All-take CanShow 2048 (drop (c.args.place * 2048) c.args.round.now) (All-drop CanShow (c.args.place * 2048) c.args.round.now c.requires.shown) in
    subst (λ (rs : List Record). All CanShow rs) (sym c.part.ensures) may
