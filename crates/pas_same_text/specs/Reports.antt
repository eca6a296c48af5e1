-- LINES AND REPORT of a state: what is printed of it.
use Rattle.std.specs.Prelude.{ℕ, Bool, false, not, List, ◌++◌, reverse, Option, None, Some}
use Rattle.pas_profile.specs.declared.{directory.Directory.Directory, profile.Profile.Profile}
use Rattle.pas_machine.specs.State.{deed_in, backed_in}
use Rattle.pas_records.specs.{Lines.lines_of, Marks.Marked}
use Rattle.pas_report.specs.Reports.{report_text}
use Rattle.pas_same_text.specs.{State.World, Pages.{is_offered, is_hinted}}

-- a page of a directory is offered, or else parked
abbrev pub offered_by : World → Option Directory → ℕ → Bool
offered_by w None page = false
offered_by w (Some d) page = is_offered w d page

abbrev pub parked_by : World → Option Directory → ℕ → Bool
parked_by w None page = false
parked_by w (Some d) page = not (is_offered w d page)

-- THE MARKS of a page
abbrev pub marks_of : World → ℕ → Marked
marks_of w page = record {
  backed = backed_in w.events page;
  offered = offered_by w (deed_in w.events page) page;
  parked = parked_by w (deed_in w.events page) page;
  hinted = is_hinted w page;
}

-- THE TEXT: a line for each record, and then the report of the machine with these marks
abbrev pub text_of : Profile → World → List ℕ
text_of f w = lines_of (reverse w.records) ++ report_text f w.events (marks_of w)
