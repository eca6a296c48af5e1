-- What a log shows.
use Rattle.std.specs.Prelude.{List}
use Rattle.pas_profile.specs.declared.entry.Entry.{Entry}
use Rattle.pas_free_log.specs.declared.log.FreeLog.{FreeLog}

-- A log is the list of its entries, in order. Contracts above may say so by this name.
abbrev pub entries_in : FreeLog → List Entry
entries_in log = log
