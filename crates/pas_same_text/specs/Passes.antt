-- THE SCAVENGER: ticks, passes and idle operations.
use Rattle.std.specs.{Prelude.{ℕ, zero, suc, ◌+◌, ◌*◌, ◌^◌, nat_le, nat_lt, max, not, if◌then◌else◌, [], ◌∷◌, Option, None, Some}, List.{find, filter}}
use Rattle.pas_profile.specs.declared.{event.{Event.Event, Outcome.Outcome}, profile.Profile.Profile}
use Rattle.pas_machine.specs.State.{backed_in, epoch_in}
use Rattle.pas_answers.specs.PassRecords.{record_of}
use Rattle.pas_same_text.specs.{State.{World, each, shows, says, cache_of}, Pages.{page_numbers, is_free, are_free, is_kept, is_hinted, unhints}, Frees.stops}
use Rattle.pas_records.specs.declared.record.{Record.Record, Said.Said}

-- ---- a tick: the epoch never falls
abbrev pub ticks : ℕ → World → World
ticks asked w = says (Record.Said 0 (Said.Tick (max w.epoch asked))) (record w { epoch = max w.epoch asked })

-- ---- a pass
-- the lowest of the page's four words of 64 grains that has a grain which isn't free
abbrev pub used_word : World → ℕ → Option ℕ
used_word w page = find (λ word. not (are_free w page (64 * word) 64)) (0 ∷ 1 ∷ 2 ∷ 3 ∷ [])

-- the first n free grains of a word as the bits of a number
unfoldable pub free_bits : World → ℕ → ℕ → ℕ → ℕ
free_bits w page word zero = 0
free_bits w page word (suc n) = free_bits w page word n + (if is_free w page (64 * word + n) then 2 ^ n else 0)

-- a backed page: it is in use; or it is empty, and then kept by some cache, or a block of it ended too short a time ago, or its memory goes back
abbrev pub outcome_backed : Profile → World → ℕ → Option ℕ → Outcome
outcome_backed f w page (Some word) = Outcome.InUse word (free_bits w page word 64)
outcome_backed f w page None = if is_kept w page then Outcome.NotOffered
    else (if nat_lt w.epoch (epoch_in w.events page + f.age) then Outcome.Young (epoch_in w.events page) else Outcome.Unbacked)

-- THE OUTCOME of a page that is examined
abbrev pub outcome_of : Profile → World → ℕ → Outcome
outcome_of f w page = if backed_in w.events page then outcome_backed f w page (used_word w page) else Outcome.Bare

-- the page stays hinted where it is still empty and backed
abbrev pub hint_after : Outcome → ℕ → World → World
hint_after (Outcome.Young stamp) page w = w
hint_after Outcome.NotOffered page w = w
hint_after (Outcome.InUse word value) page w = unhints page w
hint_after Outcome.Bare page w = unhints page w
hint_after Outcome.Unbacked page w = unhints page w

-- its line: that of the event where its memory goes back
abbrev pub line_after : Outcome → ℕ → World → World
line_after Outcome.Unbacked page w = shows (Event.Unback 0 page w.epoch) w
line_after (Outcome.Young stamp) page w = says (record_of 0 w.epoch page (Outcome.Young stamp)) w
line_after Outcome.NotOffered page w = says (record_of 0 w.epoch page Outcome.NotOffered) w
line_after (Outcome.InUse word value) page w = says (record_of 0 w.epoch page (Outcome.InUse word value)) w
line_after Outcome.Bare page w = says (record_of 0 w.epoch page Outcome.Bare) w

-- a page came to this outcome
abbrev pub comes_to : ℕ → Outcome → World → World
comes_to page outcome w = line_after outcome page (hint_after outcome page w)

abbrev pub examines : Profile → ℕ → World → World
examines f page w = comes_to page (outcome_of f w page) w

-- A PASS: a line with the epoch, and then each hinted page is examined, the lowest first
abbrev pub passes : Profile → World → World
passes f w = each (examines f) (filter (is_hinted w) (page_numbers f)) (says (Record.Said 0 (Said.Pass w.epoch)) w)

-- ---- an idle operation: the scavenger reads the epoch, and stops a thread that began its last phase n epochs before, or more
abbrev pub reads_epoch : World → World
reads_epoch w = record w { read = w.epoch }

-- thread k is stopped, and that is said, where it was idle for so long
abbrev pub stops_idle : Profile → ℕ → ℕ → World → World
stops_idle f k n w = if nat_le ((cache_of w k).idle_since + n) w.read then says (Record.Said 0 (Said.Stopped k)) (stops f k w) else w
