use Rattle.std.proofs.Common.{◌≡◌, ◌∙◌}
use Rattle.pas_io.specs.Taken.{taken}
use Rattle.pas_report.specs.Counts.{report_by_words}
use Rattle.pas_telling.proofs.settling.write_report.Goals as goal

pub returns-in-Some-clause-whole : goal.returns-in-Some-clause-whole
returns-in-Some-clause-whole g c =
    let is : taken c.in-Some.text ≡ report_by_words c.args.state.now = rw c.in-Some.is at c.requires.made in
    rw (c.held.ensures ∙ is) at c.write_all.ensures.whole

pub returns-in-Some-clause-front : goal.returns-in-Some-clause-front
returns-in-Some-clause-front g c =
    let is : taken c.in-Some.text ≡ report_by_words c.args.state.now = rw c.in-Some.is at c.requires.made in
    rw (c.held.ensures ∙ is) at c.write_all.ensures.front
