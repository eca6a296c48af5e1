-- What a check keeps beside the machine.
use Rattle.std.specs.Prelude.{ℕ, ◌*◌, ◌≡◌, List, Option, slice_index, length, take, drop}
use Rattle.pas_profile.specs.declared.{name.Block.Block, entry.Entry.Entry}
use Rattle.pas_check.specs.{Meanings.{meaning_at, meaning_of}, declared.{naming.Names.Names, logging.Logs.Logs}}
use Rattle.pas_trace.specs.Named.{Named, standing_for}

-- what a name stands for; None where no request had it
abbrev pub meant : Names → ℕ → Option (Option Block)
meant names name = meaning_of (meaning_at names.meanings.items name)

-- for how many names there is room, from 0 on
abbrev pub names_held : Names → ℕ
names_held names = length names.meanings.items

-- the table tells what the names stand for
abbrev pub AreNamed : Names → List Named → Type 0
AreNamed names list = (name : ℕ) → standing_for list name ≡ meant names name

-- ---- the logs
-- thread k's entries, of which there are counts k from the place 64 k on
abbrev pub log_of : List Entry → List ℕ → ℕ → List Entry
log_of entries counts k = take (slice_index counts k) (drop (64 * k) entries)

abbrev pub logged : Logs → ℕ → List Entry
logged logs k = log_of logs.entries.items logs.counts.items k

-- how many logs there are
abbrev pub logs_held : Logs → ℕ
logs_held logs = length logs.counts.items
