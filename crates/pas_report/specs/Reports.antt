-- The report: a line for each page with a deed, in order, and the total line.
use Rattle.std.specs.{Prelude.{ℕ, zero, suc, ◌+◌, ◌*◌, Bool, not, List, [], ◌++◌, Option, None, Some, codes}, Fmt.decimal}
use Rattle.pas_profile.specs.declared.{profile.Profile.Profile, directory.Directory.Directory, event.Event.Event}
use Rattle.pas_bits.specs.Bits.{count_below}
use Rattle.pas_machine.specs.{State.{deed_in, live_in, epoch_in}, Totals.has_block}
use Rattle.pas_records.specs.{Covered.is_covered, Lines.kind_text, Marks.{Marked, marks_text}}
use Rattle.pas_report.specs.Totals.{totals_of, totals_text}

-- ---- what the machine says of a page
-- how many of the 256 grains of a page pass the test
unfoldable pub grains_that : (ℕ → Bool) → ℕ
grains_that p = count_below 256 p

-- the live blocks that begin on the page, and its grains that no live block covers
abbrev pub live_on : List Event → ℕ → ℕ
live_on es page = grains_that (λ b. has_block (live_in es (16 * (256 * page + b))))

abbrev pub uncovered_on : List Event → ℕ → ℕ
uncovered_on es page = grains_that (λ b. not (is_covered es (256 * page + b)))

-- ---- the lines
abbrev pub page_text : ℕ → Directory → ℕ → ℕ → ℕ → Marked → List ℕ
page_text page d live free stamp marks = codes "page " ++ (decimal page ++ (codes " heap " ++ (decimal d.heap ++ (codes " " ++ (kind_text d.kind ++ (codes " live " ++ (decimal live
    ++ (codes " free " ++ (decimal free ++ (codes " stamp " ++ (decimal stamp ++ (codes " marks " ++ (marks_text marks ++ codes "\n")))))))))))))

-- the line of a page of the machine, with these marks; a page without a deed has none
abbrev pub machine_page : List Event → ℕ → Option Directory → Marked → List ℕ
machine_page es page None marks = []
machine_page es page (Some d) marks = page_text page d (live_on es page) (uncovered_on es page) (epoch_in es page) marks

-- the lines of the pages 1 to n
abbrev pub machine_pages : List Event → (ℕ → Marked) → ℕ → List ℕ
machine_pages es marks zero = []
machine_pages es marks (suc n) = machine_pages es marks n ++ machine_page es (suc n) (deed_in es (suc n)) (marks (suc n))

abbrev pub total_line : Profile → List Event → List ℕ
total_line f es = totals_text (totals_of f es)

-- THE REPORT of the machine that the events reach, with marks of pages
abbrev pub report_text : Profile → List Event → (ℕ → Marked) → List ℕ
report_text f es marks = codes "report\n" ++ (machine_pages es marks f.pages ++ total_line f es)
