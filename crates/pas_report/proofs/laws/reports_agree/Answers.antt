use Rattle.pas_report.proofs.ReportOfWords.{are_deed_words, marks_are, report_agrees}
use Rattle.pas_records.proofs.MarksAtRest.{nobody_holds}
use Rattle.pas_report.proofs.laws.reports_agree.Goals as goal

pub returns-clause-deeds : goal.returns-clause-deeds
returns-clause-deeds c = are_deed_words

pub returns-clause-marks : goal.returns-clause-marks
returns-clause-marks c = marks_are

pub returns-clause-nobody : goal.returns-clause-nobody
returns-clause-nobody c = nobody_holds

pub returns-clause-report : goal.returns-clause-report
returns-clause-report c = report_agrees
