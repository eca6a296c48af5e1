use Rattle.std.proofs.Common.{◌∙◌, Some, ap, sym, subst}
use Rattle.pas_records.specs.Lines.{line_of, CanShow}
use Rattle.pas_check.proofs.Readings.{fits_show, found_is}
use Rattle.pas_check.proofs.reading.read_record.Goals as goal

pub returns-then-not-can_show-clause-only : goal.returns-then-not-can_show-clause-only
returns-then-not-can_show-clause-only c r fits same =
    let is = found_is c.args.line.now c.guess-found.result r c.guess-found.ensures fits same in
    absurd (c.if-not-can_show.ensures (subst CanShow (sym is) (fits_show r fits)))

pub returns-then-not-is_line-clause-only : goal.returns-then-not-is_line-clause-only
returns-then-not-is_line-clause-only c r fits same =
    let is = found_is c.args.line.now c.guess-found.result r c.guess-found.ensures fits same in
    absurd (c.if-not-is_line.ensures (same ∙ ap line_of (sym is)))

pub returns-clause-only : goal.returns-clause-only
returns-clause-only c r fits same = ap Some (found_is c.args.line.now c.guess-found.result r c.guess-found.ensures fits same)
