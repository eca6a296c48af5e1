-- What a line says: the lines of a trace, word by word.
use Rattle.std.specs.Prelude.{ℕ, ◌-◌, ◌^◌, ◌==◌, nat_lt, nat_le, Bool, true, false, ◌&&◌, ◌||◌, if◌then◌else◌, List, [], ◌∷◌, Option, None, Some, codes, Result}
use Rattle.std.specs.Prelude.{Ok, Err}
use Rattle.pas_trace.specs.{Texts.words_of, Numbers.{number_of, address_of_word}, declared.item.Item.{Item, TheVariants.{Blank, Shares, Guards, NextPhase}}}
use Rattle.pas_trace.specs.declared.item.{Item.TheVariants.{Operates, Scavenges}, Wish.TheVariants.{Asks, Frees, FreesSized, FreesRaw, FreesRawSized, Remakes}}
use Rattle.pas_trace.specs.declared.{item.Wish.TheVariants.{Flushes, Stops}, plan.Chore.Chore, fault.Reason.Reason}

-- two words are the same bytes
abbrev pub same_bytes : List ℕ → List ℕ → Bool
same_bytes [] [] = true
same_bytes [] (y ∷ ys) = false
same_bytes (x ∷ xs) [] = false
same_bytes (x ∷ xs) (y ∷ ys) = (x == y) && same_bytes xs ys

-- ---- numbers in their places: each place wants a number in a range, or the line is a BadNumber
abbrev pub below : ℕ → Option ℕ → Option ℕ
below limit None = None
below limit (Some n) = if nat_lt n limit then Some n else None

abbrev pub plain : List ℕ → Option ℕ
plain word = number_of word

-- a trace name is from 1 to 1,000,000
abbrev pub from_one : Option ℕ → Option ℕ
from_one None = None
from_one (Some n) = if nat_le 1 n then Some n else None

abbrev pub trace_name : List ℕ → Option ℕ
trace_name word = from_one (below 1000001 (number_of word))

-- an epoch, and the argument of an idle line, is below 2^40
abbrev pub epoch_word : List ℕ → Option ℕ
epoch_word word = below (2 ^ 40) (number_of word)

-- a turn is below 2^40 - 1
abbrev pub turn_word : List ℕ → Option ℕ
turn_word word = below (2 ^ 40 - 1) (number_of word)

-- ---- items from the values of their places
abbrev pub item1 : (ℕ → Item) → Option ℕ → Result Item Reason
item1 make None = Err Reason.BadNumber
item1 make (Some a) = Ok (make a)

abbrev pub item2 : (ℕ → ℕ → Item) → Option ℕ → Option ℕ → Result Item Reason
item2 make None b = Err Reason.BadNumber
item2 make (Some a) b = item1 (make a) b

abbrev pub item3 : (ℕ → ℕ → ℕ → Item) → Option ℕ → Option ℕ → Option ℕ → Result Item Reason
item3 make None b c = Err Reason.BadNumber
item3 make (Some a) b c = item2 (make a) b c

abbrev pub item4 : (ℕ → ℕ → ℕ → ℕ → Item) → Option ℕ → Option ℕ → Option ℕ → Option ℕ → Result Item Reason
item4 make None b c d = Err Reason.BadNumber
item4 make (Some a) b c d = item3 (make a) b c d

abbrev pub item5 : (ℕ → ℕ → ℕ → ℕ → ℕ → Item) → Option ℕ → Option ℕ → Option ℕ → Option ℕ → Option ℕ → Result Item Reason
item5 make None b c d e = Err Reason.BadNumber
item5 make (Some a) b c d e = item4 (make a) b c d e

-- ---- which words begin lines of a version
-- the version in which the word began a line first, where that isn't the first of all; of a word that begins no line nothing is said here
abbrev pub since : List ℕ → Option ℕ
since w = if same_bytes w (codes "fs") || same_bytes w (codes "rs") then Some 2 else (if same_bytes w (codes "m") || same_bytes w (codes "guard") then Some 4 else None)

abbrev pub has_since : ℕ → Option ℕ → Bool
has_since version None = true
has_since version (Some first) = nat_le first version

-- ---- a line's words, by how many there are: the first word and the number of words choose the item
-- `started` says that an operation or a `phase` line stands before: a `shared` line may not follow it. A `guard` line says its number, if it has one:
-- where it may stand, and what its number has to be, its checks ask (`guard_checks`), so that one in a wrong place has that fault
abbrev pub item_of_one : List ℕ → Result Item Reason
item_of_one w = if same_bytes w (codes "pass") then Ok (Scavenges Chore.Pass) else (if same_bytes w (codes "phase") then Ok NextPhase else Err Reason.BadWord)

abbrev pub item_of_two : Bool → List ℕ → List ℕ → Result Item Reason
item_of_two started w a =
    if same_bytes w (codes "shared") then (if started then Err Reason.BadWord else item1 Shares (plain a)) else
    (if same_bytes w (codes "flush") then item1 (λ t. Operates t Flushes) (plain a) else
    (if same_bytes w (codes "stop") then item1 (λ t. Operates t Stops) (plain a) else
    (if same_bytes w (codes "tick") then item1 (λ e. Scavenges (Chore.Tick e)) (epoch_word a) else
    (if same_bytes w (codes "idle") then item1 (λ n. Scavenges (Chore.Idle n)) (epoch_word a) else
    (if same_bytes w (codes "guard") then Ok (Guards (plain a)) else Err Reason.BadWord)))))

abbrev pub item_of_three : List ℕ → List ℕ → List ℕ → Result Item Reason
item_of_three w a b = if same_bytes w (codes "f") then item2 (λ t n. Operates t (Frees n)) (plain a) (trace_name b) else Err Reason.BadWord

abbrev pub item_of_four : List ℕ → List ℕ → List ℕ → List ℕ → Result Item Reason
item_of_four w a b c = if same_bytes w (codes "r") then item3 (λ t a n. Operates t (FreesRaw a n)) (plain a) (address_of_word b) (turn_word c) else Err Reason.BadWord

abbrev pub item_of_five : List ℕ → List ℕ → List ℕ → List ℕ → List ℕ → Result Item Reason
item_of_five w a b c d = if same_bytes w (codes "fs") then item4 (λ t n s a. Operates t (FreesSized n s a)) (plain a) (trace_name b) (plain c) (plain d) else Err Reason.BadWord

abbrev pub item_of_six : List ℕ → List ℕ → List ℕ → List ℕ → List ℕ → List ℕ → Result Item Reason
item_of_six w a b c d e =
    if same_bytes w (codes "a") then item5 (λ t n h s a. Operates t (Asks n h s a)) (plain a) (trace_name b) (plain c) (plain d) (plain e) else
    (if same_bytes w (codes "rs") then item5 (λ t b n s a. Operates t (FreesRawSized b n s a)) (plain a) (address_of_word b) (turn_word c) (plain d) (plain e) else
    (if same_bytes w (codes "m") then item5 (λ t n o s a. Operates t (Remakes n o s a)) (plain a) (trace_name b) (trace_name c) (plain d) (plain e) else Err Reason.BadWord))

abbrev pub item_by_count : Bool → List ℕ → List (List ℕ) → Result Item Reason
item_by_count started w [] = item_of_one w
item_by_count started w (a ∷ []) = item_of_two started w a
item_by_count started w (a ∷ b ∷ []) = item_of_three w a b
item_by_count started w (a ∷ b ∷ c ∷ []) = item_of_four w a b c
item_by_count started w (a ∷ b ∷ c ∷ d ∷ []) = item_of_five w a b c d
item_by_count started w (a ∷ b ∷ c ∷ d ∷ e ∷ []) = item_of_six w a b c d e
item_by_count started w (a ∷ b ∷ c ∷ d ∷ e ∷ g ∷ more) = Err Reason.BadWord

-- in a text of this version
abbrev pub item_of_words : ℕ → Bool → List (List ℕ) → Result Item Reason
item_of_words version started [] = Ok Blank
item_of_words version started (w ∷ more) = if has_since version (since w) then item_by_count started w more else Err Reason.BadWord

-- a line whose first byte is `#` is a comment
abbrev pub item_of_line : ℕ → Bool → List ℕ → Result Item Reason
item_of_line version started [] = Ok Blank
item_of_line version started (b ∷ bs) = if b == 35 then Ok Blank else item_of_words version started (words_of (b ∷ bs))
