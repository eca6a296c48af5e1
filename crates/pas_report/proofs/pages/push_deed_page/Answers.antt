use Rattle.std.proofs.Common.{◌≡◌, ◌++◌, ap, ◌∙◌}
use Rattle.pas_report.{specs.{Counts.marked_in, Reports.page_text}, proofs.MarkBits.marks_are}
use Rattle.pas_records.specs.Marks.{marks_of}
use Rattle.pas_report.proofs.pages.push_deed_page.Goals as goal

pub returns : goal.returns
returns g c =
    let marks : marks_of c.page_marks-marks.result.0 ≡ marked_in c.args.state.now c.args.page =
    ap marks_of c.page_marks-marks.ensures ∙ marks_are (marked_in c.args.state.now c.args.page) in
    c.push_shown_page.ensures
    ∙ (λ t. c.args.text.now.bytes ++ page_text c.args.page c.args.directory (c.live_on-live.ensures t) (c.free_on-free.ensures t) (c.word-stamp.ensures t) (marks t))
