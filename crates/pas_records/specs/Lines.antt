-- The lines of a transcript. Every line ends with a newline; words are separated by single spaces.
use Rattle.std.specs.{Prelude.{ℕ, zero, suc, ◌+◌, ◌/◌, ◌%◌, ◌^◌, nat_lt, if◌then◌else◌, List, [], ◌∷◌, ◌++◌, codes}, Fmt.decimal}
use Rattle.pas_profile.specs.{Classes.class_size, Directories.IsKind, Blocks.address_of, declared.{directory.{Kind.Kind, Directory.Directory}, name.Name.Name}}
use Rattle.pas_profile.specs.declared.{name.Block.Block, event.{Event.Event, Why.Why}}
use Rattle.pas_records.specs.declared.record.{Said.Said, Record.Record}

-- a hexadecimal digit, in lower case
abbrev pub hex_digit : ℕ → ℕ
hex_digit n = if nat_lt n 10 then 48 + n else 87 + n

-- so many hexadecimal digits of a number, the highest first
abbrev pub hex_digits : ℕ → ℕ → List ℕ
hex_digits zero n = []
hex_digits (suc k) n = hex_digit (n / 16 ^ k % 16) ∷ hex_digits k n

abbrev pub kind_text : Kind → List ℕ
kind_text (Kind.Class class) = codes "class " ++ decimal (class_size class)
kind_text Kind.Bitfit = codes "bitfit"
kind_text Kind.Shared = codes "shared"
kind_text Kind.Large = codes "large"

-- an address and a turn, as in ` 0x00001000 turn 0`
abbrev pub name_text : Name → List ℕ
name_text name = codes " 0x" ++ (hex_digits 8 (address_of name) ++ (codes " turn " ++ decimal name.turn))

-- ---- events
abbrev pub deed_line : ℕ → ℕ → Directory → List ℕ
deed_line k page d = decimal k ++ (codes " deed page " ++ (decimal page ++ (codes " heap " ++ (decimal d.heap ++ (codes " " ++ (kind_text d.kind ++ codes "\n"))))))

abbrev pub back_line : ℕ → ℕ → List ℕ
back_line k page = decimal k ++ (codes " back page " ++ (decimal page ++ codes "\n"))

abbrev pub unback_line : ℕ → ℕ → ℕ → List ℕ
unback_line k page epoch = decimal k ++ (codes " unback page " ++ (decimal page ++ (codes " epoch " ++ (decimal epoch ++ codes "\n"))))

abbrev pub give_line : ℕ → Block → List ℕ
give_line k block = decimal k ++ (codes " give" ++ (name_text block.name ++ (codes " room " ++ (decimal block.room ++ (codes " heap " ++ (decimal block.heap ++ codes "\n"))))))

abbrev pub freed_line : ℕ → Name → ℕ → List ℕ
freed_line k name epoch = decimal k ++ (codes " freed" ++ (name_text name ++ (codes " epoch " ++ (decimal epoch ++ codes "\n"))))

abbrev pub ended_line : ℕ → Name → List ℕ
ended_line k name = decimal k ++ (codes " ended" ++ (name_text name ++ codes "\n"))

abbrev pub no_block_line : ℕ → Name → List ℕ
no_block_line k name = decimal k ++ (codes " no-block" ++ (name_text name ++ codes "\n"))

abbrev pub size_differs_line : ℕ → Name → ℕ → List ℕ
size_differs_line k name room = decimal k ++ (codes " size-differs" ++ (name_text name ++ (codes " asked " ++ (decimal room ++ codes "\n"))))

abbrev pub line_of_event : Event → List ℕ
line_of_event (Event.Deed k page d) = deed_line k page d
line_of_event (Event.Back k page) = back_line k page
line_of_event (Event.Unback k page epoch) = unback_line k page epoch
line_of_event (Event.Give k block) = give_line k block
line_of_event (Event.End k name epoch) = freed_line k name epoch
line_of_event (Event.Reject k name Why.Ended) = ended_line k name
line_of_event (Event.Reject k name Why.NoBlock) = no_block_line k name
line_of_event (Event.Reject k name (Why.SizeDiffers room)) = size_differs_line k name room

-- ---- answers that are no events
-- actor k, these words, a number
abbrev pub numbered_line : ℕ → List ℕ → ℕ → List ℕ
numbered_line k words n = decimal k ++ (words ++ (decimal n ++ codes "\n"))

abbrev pub held_line : ℕ → ℕ → ℕ → List ℕ
held_line k page name = decimal k ++ (codes " held " ++ (decimal page ++ (codes " name " ++ (decimal name ++ codes "\n"))))

abbrev pub refused_line : ℕ → List ℕ → Name → List ℕ
refused_line k words block = decimal k ++ (words ++ (name_text block ++ codes "\n"))

abbrev pub young_line : ℕ → ℕ → ℕ → List ℕ
young_line k page stamp = decimal k ++ (codes " young page " ++ (decimal page ++ (codes " stamp " ++ (decimal stamp ++ codes "\n"))))

abbrev pub in_use_line : ℕ → ℕ → ℕ → ℕ → List ℕ
in_use_line k page word value = decimal k ++ (codes " in-use page " ++ (decimal page ++ (codes " word " ++ (decimal word ++ (codes " value 0x" ++ (hex_digits 16 value ++ codes "\n"))))))

abbrev pub kept_line : ℕ → Name → ℕ → List ℕ
kept_line k block name = decimal k ++ (codes " kept" ++ (name_text block ++ (codes " name " ++ (decimal name ++ codes "\n"))))

abbrev pub guarded_line : ℕ → ℕ → ℕ → ℕ → List ℕ
guarded_line k low high name = decimal k ++ (codes " guarded " ++ (decimal low ++ (codes " " ++ (decimal high ++ (codes " name " ++ (decimal name ++ codes "\n"))))))

abbrev pub lowered_line : ℕ → ℕ → ℕ → List ℕ
lowered_line k low high = decimal k ++ (codes " lowered " ++ (decimal low ++ (codes " " ++ (decimal high ++ codes "\n"))))

abbrev pub line_of_answer : ℕ → Said → List ℕ
line_of_answer k (Said.NoSpace name) = numbered_line k (codes " no-space name ") name
line_of_answer k (Said.Held page name) = held_line k page name
line_of_answer k (Said.Outside block) = refused_line k (codes " outside") block
line_of_answer k (Said.Unaligned block) = refused_line k (codes " unaligned") block
line_of_answer k (Said.Skipped name) = numbered_line k (codes " skipped name ") name
line_of_answer k (Said.Kept block name) = kept_line k block name
line_of_answer k (Said.Tick epoch) = numbered_line k (codes " tick ") epoch
line_of_answer k (Said.Pass epoch) = numbered_line k (codes " pass ") epoch
line_of_answer k (Said.Bare page) = numbered_line k (codes " bare page ") page
line_of_answer k (Said.Young page stamp) = young_line k page stamp
line_of_answer k (Said.InUse page word value) = in_use_line k page word value
line_of_answer k (Said.NotOffered page) = numbered_line k (codes " not-offered page ") page
line_of_answer k (Said.Stopped thread) = numbered_line k (codes " stopped ") thread
line_of_answer k (Said.Guarded low high name) = guarded_line k low high name
line_of_answer k (Said.Lowered low high) = lowered_line k low high

-- ---- records
abbrev pub line_of : Record → List ℕ
line_of (Record.Event e) = line_of_event e
line_of (Record.Said k said) = line_of_answer k said
line_of (Record.Phase n) = codes "phase " ++ (decimal n ++ codes "\n")
line_of Record.Close = codes "close\n"

-- the lines of records in order
abbrev pub lines_of : List Record → List ℕ
lines_of [] = []
lines_of (r ∷ rs) = line_of r ++ lines_of rs

-- the number of a class in an event names a class
abbrev pub IsShowable : Event → Type 0
IsShowable (Event.Deed k page d) = IsKind d.kind
IsShowable (Event.Back k page) = Unit {0}
IsShowable (Event.Unback k page epoch) = Unit {0}
IsShowable (Event.Give k block) = Unit {0}
IsShowable (Event.End k name epoch) = Unit {0}
IsShowable (Event.Reject k name why) = Unit {0}

-- .. and so does that of a record
abbrev pub CanShow : Record → Type 0
CanShow (Record.Event e) = IsShowable e
CanShow (Record.Said k said) = Unit {0}
CanShow (Record.Phase n) = Unit {0}
CanShow Record.Close = Unit {0}
