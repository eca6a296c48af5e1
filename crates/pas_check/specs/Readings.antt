-- Which record a line may be of. Its numbers are read where they would stand, and what stands between them is hardly looked at: the line of a record is read
-- as that record, and for any other line this says nothing.
use Rattle.std.specs.Prelude.{ℕ, zero, suc, ◌+◌, ◌-◌, ◌*◌, ◌%◌, ◌^◌, ◌==◌, false, nat_lt, if◌then◌else◌, List, [], ◌∷◌, drop, get_or}
use Rattle.pas_profile.specs.{Requests.kind_of_route, Routes.route_of, declared.{directory.{Kind.Kind, Directory.Directory}, name.Name.Name, event.Event.Event}}
use Rattle.pas_profile.specs.declared.event.Why.{Why}
use Rattle.pas_trace.specs.Numbers.{is_digit, hex_value}
use Rattle.pas_records.specs.declared.record.{Said.Said, Record.Record}

-- ---- numbers in front of a text
-- the value of the digits there, after a value
abbrev pub digits_after : ℕ → List ℕ → ℕ
digits_after n [] = n
digits_after n (b ∷ bs) = if is_digit b then digits_after (10 * n + (b - 48)) bs else n

-- a number that doesn't fit is read as 0
abbrev pub small : ℕ → ℕ → ℕ
small limit n = if nat_lt n limit then n else 0

abbrev pub number_at : List ℕ → ℕ
number_at bs = small (2 ^ 64) (digits_after 0 bs)

-- what stands behind the digits
abbrev pub past_digits : List ℕ → List ℕ
past_digits [] = []
past_digits (b ∷ bs) = if is_digit b then past_digits bs else b ∷ bs

-- the value of so many hexadecimal digits, after a value
abbrev pub hex_after : ℕ → ℕ → List ℕ → ℕ
hex_after zero n bs = n
hex_after (suc k) n [] = n
hex_after (suc k) n (b ∷ bs) = hex_after k (16 * n + hex_value b % 16) bs

abbrev pub byte_at : ℕ → List ℕ → ℕ
byte_at i bs = get_or bs i 0

abbrev pub of_u8 : List ℕ → ℕ
of_u8 bs = small (2 ^ 8) (number_at bs)

abbrev pub of_u32 : List ℕ → ℕ
of_u32 bs = small (2 ^ 32) (number_at bs)

-- ` 0x00001000 turn 0`
abbrev pub name_at : List ℕ → Name
name_at bs = record { address = record { 0 = hex_after 8 0 (drop 3 bs) }; turn = number_at (drop 17 bs) }

abbrev pub past_name : List ℕ → List ℕ
past_name bs = past_digits (drop 17 bs)

-- ` class 32`, of any class, or the first letter of another kind
abbrev pub kind_at : List ℕ → Kind
kind_at bs = if byte_at 1 bs == 99 then kind_of_route false (route_of 20 (of_u32 (drop 7 bs)) 16)
    else (if byte_at 1 bs == 98 then Kind.Bitfit else (if byte_at 1 bs == 115 then Kind.Shared else Kind.Large))

-- ---- records, by what stands behind the actor
abbrev pub directory_at : List ℕ → Directory
directory_at bs = record { heap = of_u8 (drop 6 bs); kind = kind_at (past_digits (drop 6 bs)) }

abbrev pub deed_at : ℕ → List ℕ → Event
deed_at k bs = Event.Deed k (of_u32 (drop 11 bs)) (directory_at (past_digits (drop 11 bs)))

abbrev pub back_at : ℕ → List ℕ → Event
back_at k bs = Event.Back k (of_u32 (drop 11 bs))

abbrev pub unback_at : ℕ → List ℕ → Event
unback_at k bs = Event.Unback k (of_u32 (drop 13 bs)) (number_at (drop 7 (past_digits (drop 13 bs))))

abbrev pub give_at : ℕ → List ℕ → Event
give_at k bs =
    let room = drop 6 (past_name (drop 5 bs)) in
    Event.Give k record { name = name_at (drop 5 bs); room = of_u32 room; heap = of_u8 (drop 6 (past_digits room)) }

abbrev pub held_at : List ℕ → Said
held_at bs = Said.Held (of_u32 (drop 6 bs)) (of_u32 (drop 6 (past_digits (drop 6 bs))))

abbrev pub in_use_at : List ℕ → Said
in_use_at bs =
    let word = drop 6 (past_digits (drop 13 bs)) in
    Said.InUse (of_u32 (drop 13 bs)) (of_u8 word) (hex_after 16 0 (drop 9 (past_digits word)))

abbrev pub young_at : List ℕ → Said
young_at bs = Said.Young (of_u32 (drop 12 bs)) (number_at (drop 7 (past_digits (drop 12 bs))))

abbrev pub freed_at : ℕ → List ℕ → Event
freed_at k bs = Event.End k (name_at (drop 6 bs)) (number_at (drop 7 (past_name (drop 6 bs))))

abbrev pub size_differs_at : ℕ → List ℕ → Event
size_differs_at k bs = Event.Reject k (name_at (drop 13 bs)) (Why.SizeDiffers (of_u32 (drop 7 (past_name (drop 13 bs)))))

abbrev pub kept_at : List ℕ → Said
kept_at bs = Said.Kept (name_at (drop 5 bs)) (of_u32 (drop 6 (past_name (drop 5 bs))))

abbrev pub guarded_at : List ℕ → Said
guarded_at bs =
    let high = drop 1 (past_digits (drop 9 bs)) in
    Said.Guarded (of_u32 (drop 9 bs)) (of_u32 high) (of_u32 (drop 6 (past_digits high)))

abbrev pub lowered_at : List ℕ → Said
lowered_at bs = Said.Lowered (of_u32 (drop 9 bs)) (of_u32 (drop 1 (past_digits (drop 9 bs))))

-- ---- which record, by letters of its word
-- those that begin with b, u, g, n, s
abbrev pub with_b : ℕ → List ℕ → Record
with_b k bs = if byte_at 3 bs == 99 then Record.Event (back_at k bs) else Record.Said k (Said.Bare (of_u32 (drop 11 bs)))

abbrev pub with_u : ℕ → List ℕ → Record
with_u k bs = if byte_at 3 bs == 98 then Record.Event (unback_at k bs) else Record.Said k (Said.Unaligned (name_at (drop 10 bs)))

abbrev pub with_g : ℕ → List ℕ → Record
with_g k bs = if byte_at 2 bs == 105 then Record.Event (give_at k bs) else Record.Said k (guarded_at bs)

abbrev pub with_n : ℕ → List ℕ → Record
with_n k bs = if byte_at 4 bs == 98 then Record.Event (Event.Reject k (name_at (drop 9 bs)) Why.NoBlock)
    else (if byte_at 4 bs == 115 then Record.Said k (Said.NoSpace (of_u32 (drop 15 bs))) else Record.Said k (Said.NotOffered (of_u32 (drop 18 bs))))

abbrev pub with_s : ℕ → List ℕ → Record
with_s k bs = if byte_at 2 bs == 107 then Record.Said k (Said.Skipped (of_u32 (drop 14 bs))) else (if byte_at 2 bs == 105 then Record.Event (size_differs_at k bs) else Record.Said k (Said.Stopped (of_u8 (drop 9 bs))))

abbrev pub word_at : ℕ → ℕ → List ℕ → Record
word_at letter k bs =
    if letter == 100 then Record.Event (deed_at k bs) else
    (if letter == 98 then with_b k bs else
    (if letter == 117 then with_u k bs else
    (if letter == 103 then with_g k bs else
    (if letter == 102 then Record.Event (freed_at k bs) else
    (if letter == 101 then Record.Event (Event.Reject k (name_at (drop 6 bs)) Why.Ended) else
    (if letter == 110 then with_n k bs else
    (if letter == 104 then Record.Said k (held_at bs) else
    (if letter == 111 then Record.Said k (Said.Outside (name_at (drop 8 bs))) else
    (if letter == 115 then with_s k bs else
    (if letter == 116 then Record.Said k (Said.Tick (number_at (drop 6 bs))) else
    (if letter == 112 then Record.Said k (Said.Pass (number_at (drop 6 bs))) else
    (if letter == 121 then Record.Said k (young_at bs) else
    (if letter == 108 then Record.Said k (lowered_at bs) else
    (if letter == 107 then Record.Said k (kept_at bs) else Record.Said k (in_use_at bs)))))))))))))))

-- the record that a line may be of: a mark, or what its actor says
abbrev pub record_at : List ℕ → Record
record_at line =
    if byte_at 0 line == 112 then Record.Phase (of_u32 (drop 6 line)) else
    (if byte_at 0 line == 99 then Record.Close else word_at (byte_at 1 (past_digits line)) (of_u8 line) (past_digits line))
