use Rattle.std.proofs.{Common.{◌≡◌, ◌<◌, ◌+◌, length, take, get_or, true, arith, eqb-true, take_all}, lemmas.List.{take_more, drop_all}}
use Rattle.pas_check.{specs.Lines.is_line, proofs.Cuts.{front_before, front_ends, all_front, cut_first}}
use Rattle.pas_check.proofs.cutting.first_line.Goals as goal

pub returns-in-Some-clause-some : goal.returns-in-Some-clause-some
returns-in-Some-clause-some c =
    let w = c.args.text.now in
    let n = c.in-Some.place in
    let at = c.in-Some.ensures in
    let high : n < length w = at.0.high in
    let ends : is_line (take (n + 1) w) ≡ true = cc (take_more w n 0 high, front_ends (take n w) (get_or w n 0) (front_before w n at.0.before) (eqb-true (get_or w n 0) 10 at.1)) in
    (omega (arith, high), cut_first (n + 1) w ends)

pub returns-in-None-clause-some : goal.returns-in-None-clause-some
returns-in-None-clause-some c = search (arith, take_all, front_before, all_front, drop_all)
