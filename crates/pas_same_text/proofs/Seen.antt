-- What a transcript tells, so that the kernel can compare it with what the definition comes to: the records of its lines, the rows of its report, and its
-- totals; or the fault of a text that is no trace. A record and a row stand for their lines, since `line_of` and `report_text` print just these fields.
use Rattle.std.proofs.Common.{ℕ, ◌+◌, ◌*◌, ◌/◌, ◌==◌, Bool, true, false, not, List, [], ◌∷◌, length, count_by, reverse, Option, None, Some, Result, Ok, Err}
use Rattle.pas_bits.specs.Bits.{count_below}
use Rattle.pas_report.specs.{Reports.live_on, Totals.totals_of, declared.totals.Totals.Totals}
use Rattle.pas_trace.specs.Plans.{parsed, fault_at}
use Rattle.pas_same_text.proofs.Common.{region_of, flat_map, Directory, Kind as TheKind, Event as TheEvent, Event, Why, Block, Name, Profile, grain_of, deed_in}
use Rattle.pas_same_text.proofs.Common.{epoch_in, Marked, Record as TheRecord, Record, Said, Parsed, Reason, TraceFault, World, page_numbers, blocks_on}
use Rattle.pas_same_text.{proofs.Common.{is_covered, replay_of}, specs.Reports.marks_of}

-- ---- what is seen
pub record Row : Type 0 where
  pub page : ℕ
  pub directory : Directory
  pub live : ℕ
  pub free : ℕ
  pub stamp : ℕ
  pub marks : Marked

pub record Seen : Type 0 where
  pub records : List TheRecord
  pub rows : List Row
  pub totals : Totals

-- ---- of the definition
-- the grains of the page that none of these blocks covers
abbrev uncovered_by : List Block → ℕ → ℕ
uncovered_by blocks page = count_below 256 (λ b. not (is_covered blocks (256 * page + b)))

abbrev free_on : World → ℕ → ℕ
free_on w page = uncovered_by (blocks_on w page) page

-- a row of these numbers of live blocks and of free grains
abbrev row_with : World → ℕ → Option Directory → ℕ → ℕ → List Row
row_with w page None live free = []
row_with w page (Some d) live free = record { page = page; directory = d; live = live; free = free; stamp = epoch_in w.events page; marks = marks_of w page } ∷ []

-- with the numbers of live blocks, of gives and of ends that the report has: those of each grain of the region
abbrev seen_of : Profile → World → Seen
seen_of f w = record {
  records = reverse w.records;
  rows = flat_map (λ page. row_with w page (deed_in w.events page) (live_on w.events page) (free_on w page)) (page_numbers f);
  totals = totals_of f w.events;
}

abbrev seen_by : (Profile → World → Seen) → Result Parsed TraceFault → Result Seen TraceFault
seen_by of (Err fault) = Err fault
seen_by of (Ok p) = Ok (of (region_of p) (replay_of p))

unfoldable pub seen : List ℕ → Result Seen TraceFault
seen bytes = seen_by seen_of (parsed bytes)

-- ---- the same in fewer steps: these numbers are counted in the list of live blocks and in the events
abbrev is_give : TheEvent → Bool
is_give (Event.Give k block) = true
is_give e = false

abbrev is_end : TheEvent → Bool
is_end (Event.End k name e) = true
is_end e = false

abbrev counted_of : Profile → World → Seen
counted_of f w = record {
  records = reverse w.records;
  rows = flat_map (λ page. row_with w page (deed_in w.events page) (count_by (λ (b : Block). grain_of b.name / 256 == page) w.live) (free_on w page)) (page_numbers f);
  totals = record (totals_of f w.events) { live = length w.live; given = count_by is_give w.events; ended = count_by is_end w.events };
}

unfoldable pub counted : List ℕ → Result Seen TraceFault
counted bytes = seen_by counted_of (parsed bytes)

-- ---- of a transcript: each line in its own words
abbrev pub shown : List TheRecord → List Row → Totals → Result Seen TraceFault
shown records rows totals = Ok record { records = records; rows = rows; totals = totals }

abbrev pub faulty : ℕ → Reason → Result Seen TraceFault
faulty line reason = Err (fault_at line reason)

abbrev pub in_heap : ℕ → TheKind → Directory
in_heap heap kind = record { heap = heap; kind = kind }

abbrev pub name : ℕ → ℕ → Name
name address turn = record { address = record { 0 = address }; turn = turn }

abbrev pub deed_of : ℕ → ℕ → ℕ → TheKind → TheRecord
deed_of k page heap kind = Record.Event (Event.Deed k page (in_heap heap kind))

abbrev pub back_of : ℕ → ℕ → TheRecord
back_of k page = Record.Event (Event.Back k page)

abbrev pub unback_of : ℕ → ℕ → ℕ → TheRecord
unback_of k page epoch = Record.Event (Event.Unback k page epoch)

abbrev pub give_of : ℕ → ℕ → ℕ → ℕ → ℕ → TheRecord
give_of k address turn room heap = Record.Event (Event.Give k (record { name = name address turn; room = room; heap = heap }))

abbrev pub freed_of : ℕ → ℕ → ℕ → ℕ → TheRecord
freed_of k address turn epoch = Record.Event (Event.End k (name address turn) epoch)

abbrev pub ended_of : ℕ → ℕ → ℕ → TheRecord
ended_of k address turn = Record.Event (Event.Reject k (name address turn) Why.Ended)

abbrev pub no_block_of : ℕ → ℕ → ℕ → TheRecord
no_block_of k address turn = Record.Event (Event.Reject k (name address turn) Why.NoBlock)

abbrev pub size_differs_of : ℕ → ℕ → ℕ → ℕ → TheRecord
size_differs_of k address turn asked = Record.Event (Event.Reject k (name address turn) (Why.SizeDiffers asked))

abbrev pub outside_of : ℕ → ℕ → ℕ → TheRecord
outside_of k address turn = Record.Said k (Said.Outside (name address turn))

abbrev pub unaligned_of : ℕ → ℕ → ℕ → TheRecord
unaligned_of k address turn = Record.Said k (Said.Unaligned (name address turn))

abbrev pub no_space_of : ℕ → ℕ → TheRecord
no_space_of k asked = Record.Said k (Said.NoSpace asked)

abbrev pub held_of : ℕ → ℕ → ℕ → TheRecord
held_of k page asked = Record.Said k (Said.Held page asked)

abbrev pub skipped_of : ℕ → ℕ → TheRecord
skipped_of k freed = Record.Said k (Said.Skipped freed)

abbrev pub kept_of : ℕ → ℕ → ℕ → ℕ → TheRecord
kept_of k address turn new = Record.Said k (Said.Kept (name address turn) new)

abbrev pub guarded_of : ℕ → ℕ → ℕ → ℕ → TheRecord
guarded_of k low high asked = Record.Said k (Said.Guarded low high asked)

abbrev pub lowered_of : ℕ → ℕ → ℕ → TheRecord
lowered_of k low high = Record.Said k (Said.Lowered low high)

abbrev pub tick_of : ℕ → TheRecord
tick_of epoch = Record.Said 0 (Said.Tick epoch)

abbrev pub pass_of : ℕ → TheRecord
pass_of epoch = Record.Said 0 (Said.Pass epoch)

abbrev pub young_of : ℕ → ℕ → TheRecord
young_of page stamp = Record.Said 0 (Said.Young page stamp)

abbrev pub in_use_of : ℕ → ℕ → ℕ → TheRecord
in_use_of page word value = Record.Said 0 (Said.InUse page word value)

abbrev pub not_offered_of : ℕ → TheRecord
not_offered_of page = Record.Said 0 (Said.NotOffered page)

abbrev pub stopped_of : ℕ → TheRecord
stopped_of thread = Record.Said 0 (Said.Stopped thread)

abbrev pub phase_of : ℕ → TheRecord
phase_of n = Record.Phase n

abbrev pub closed : TheRecord
closed = Record.Close

abbrev pub row_of : ℕ → ℕ → TheKind → ℕ → ℕ → ℕ → Marked → Row
row_of page heap kind live free stamp marks = record { page = page; directory = in_heap heap kind; live = live; free = free; stamp = stamp; marks = marks }

abbrev pub marked : Bool → Bool → Bool → Bool → Marked
marked backed offered parked hinted = record { backed = backed; offered = offered; parked = parked; hinted = hinted }

abbrev pub totalled : ℕ → ℕ → ℕ → ℕ → ℕ → Totals
totalled deeds backed live given ended = record { deeds = deeds; backed = backed; live = live; given = given; ended = ended }
