-- Digits and words of lines are read back.
use Rattle.std.proofs.Common.{◌≡◌, ℕ, zero, suc, ◌+◌, ◌-◌, ◌*◌, ◌/◌, ◌%◌, ◌^◌, ◌<◌, ◌≤◌, nat_lt, Bool, true, false, if◌then◌else◌, List, [], ◌∷◌, ◌++◌, refl}
use Rattle.std.proofs.{Common.{ap, sym, ◌∙◌, arith, lt-ltb, le-ltb, ◌==◌, length, drop, codes, eqb-true}, lemmas.Bool.{and_parts, Decides.nat_tests}}
use Rattle.std.proofs.{lemmas.Grind.pow_more, Math.Nat.{pow-le-pow_right, pow-suc, div-add-mod, div-div-eq-div-mul, mul-add, mul_comm, mul_assoc}}
use Rattle.std.{proofs.Math.Nat.mul_left_comm, specs.Fmt.decimal}
use Rattle.pas_trace.{specs.Numbers.{is_digit, all_digits, value_from, hex_value}, proofs.Digits.digit-is}
use Rattle.pas_generate.proofs.Digits.{are-digits}
use Rattle.pas_records.specs.{Lines.{hex_digit, hex_digits, kind_text, name_text, line_of, line_of_event, line_of_answer, CanShow}, declared.record.Said.Said}
use Rattle.pas_records.specs.declared.record.Record.{Record}
use Rattle.pas_check.specs.Readings.{digits_after, past_digits, number_at, hex_after, small, of_u8, of_u32, byte_at, name_at, past_name, kind_at, directory_at}
use Rattle.pas_check.specs.Readings.{deed_at, back_at, unback_at, give_at, freed_at, held_at, in_use_at, young_at, size_differs_at, kept_at, guarded_at}
use Rattle.pas_check.specs.{Readings.{lowered_at, word_at, record_at}, Ranges.{FitsName, FitsBlock, FitsEvent, FitsSaid, Fits}}
use Rattle.pas_profile.specs.{Classes.{IsClass, class_size}, Requests.kind_of_route, Routes.route_of, Directories.IsKind, Blocks.address_of}
use Rattle.pas_profile.specs.declared.{directory.{Kind.Kind, Directory.Directory}, name.{Name.Name, Block.Block}, event.{Event.Event, Why.Why}}
use Rattle.pas_profile.proofs.Sizes.{class_passes, class_size_le}

-- ---- Numbers that stand in front of a text are read back
-- ---- decimals
small_is : (limit n : ℕ) → n < limit → small limit n ≡ n
small_is limit n h = let t : nat_lt n limit ≡ true = lt-ltb n limit h in rw t refl

digits_value : (ds : List ℕ) (n end : ℕ) (rest : List ℕ) → all_digits ds ≡ true → is_digit end ≡ false → digits_after n (ds ++ end ∷ rest) ≡ value_from n ds
digits_value [] n end rest digits stops = rw stops refl
digits_value (d ∷ ds) n end rest digits stops =
    let p = and_parts (is_digit d) (all_digits ds) digits in
    let one : is_digit d ≡ true = p.0 in
    rw one (digits_value ds (10 * n + (d - 48)) end rest p.1 stops)

digits_past : (ds : List ℕ) (end : ℕ) (rest : List ℕ) → all_digits ds ≡ true → is_digit end ≡ false → past_digits (ds ++ end ∷ rest) ≡ end ∷ rest
digits_past [] end rest digits stops = rw stops refl
digits_past (d ∷ ds) end rest digits stops =
    let p = and_parts (is_digit d) (all_digits ds) digits in
    let one : is_digit d ≡ true = p.0 in
    rw one (digits_past ds end rest p.1 stops)

-- a number before a byte that is no digit
number_back : (n end : ℕ) (rest : List ℕ) → n < 2 ^ 64 → is_digit end ≡ false → number_at (decimal n ++ end ∷ rest) ≡ n
number_back n end rest fits stops =
    let h = are-digits n fits in
    ap (small (2 ^ 64)) (digits_value (decimal n) 0 end rest h.digits stops ∙ h.value_is) ∙ small_is (2 ^ 64) n fits

-- The digits of a number in front of a text end where another byte stands.
pub past_number : (n end : ℕ) (rest : List ℕ) → n < 2 ^ 64 → is_digit end ≡ false → past_digits (decimal n ++ end ∷ rest) ≡ end ∷ rest
past_number n end rest fits stops = digits_past (decimal n) end rest (are-digits n fits).digits stops

-- A number below 256 in front of a text is read back.
pub u8_back : (n end : ℕ) (rest : List ℕ) → n < 2 ^ 8 → is_digit end ≡ false → of_u8 (decimal n ++ end ∷ rest) ≡ n
u8_back n end rest fits stops = ap (small (2 ^ 8)) (number_back n end rest (omega (arith, fits)) stops) ∙ small_is (2 ^ 8) n fits

-- A number below 2^32 in front of a text is read back.
u32_back : (n end : ℕ) (rest : List ℕ) → n < 2 ^ 32 → is_digit end ≡ false → of_u32 (decimal n ++ end ∷ rest) ≡ n
u32_back n end rest fits stops = ap (small (2 ^ 32)) (number_back n end rest (omega (arith, fits)) stops) ∙ small_is (2 ^ 32) n fits

-- in each case it computes, or is given
grown : (t : Bool) (v w x : ℕ) → v ≤ w → w ≤ x → v ≤ (if t then x else v)
grown t v w x a b = search arith

no_small : (limit n : ℕ) → limit ≤ n → small limit n ≡ 0
no_small limit n h = let t : nat_lt n limit ≡ false = le-ltb n limit h in rw t refl

-- ---- hexadecimal digits
hex_one : (d : ℕ) → d < 16 → hex_value (hex_digit d) % 16 ≡ d
hex_one d h = grind (arith, nat_tests)

-- the last digits of n, after a value v: one digit, and then those below p
joined : (v q a r p n rest all : ℕ) → q ≡ 16 * a + r → n ≡ p * q + rest → n ≡ 16 * (p * a) + all → (16 * v + r) * p + rest ≡ 16 * (v * p) + all
joined v q a r p n rest all parts low high = search (arith, mul-add, mul_left_comm, mul_comm)

digits_join : (v n p : ℕ) → (16 * v + n / p % 16) * p + n % p ≡ 16 * (v * p) + n % (p * 16)
digits_join v n p =
    search (arith, div-div-eq-div-mul, mul_assoc, mul_left_comm, div-add-mod, joined)

hex_value_is : (k v n : ℕ) (rest : List ℕ) → hex_after k v (hex_digits k n ++ rest) ≡ v * 16 ^ k + n % 16 ^ k
hex_value_is zero v n rest = omega arith
hex_value_is (suc k) v n rest =
    let rest = hex_value_is k (16 * v + n / 16 ^ k % 16) n rest in grind (arith, rest, pow-suc, hex_one, digits_join, mul_left_comm, mul_comm)

-- A number in eight hexadecimal digits is read back.
hex8_back : (n : ℕ) (rest : List ℕ) → n < 2 ^ 32 → hex_after 8 0 (hex_digits 8 n ++ rest) ≡ n
hex8_back n rest fits = hex_value_is 8 0 n rest ∙ omega (arith, fits)

-- A number in sixteen hexadecimal digits is read back.
hex16_back : (n : ℕ) (rest : List ℕ) → n < 2 ^ 64 → hex_after 16 0 (hex_digits 16 n ++ rest) ≡ n
hex16_back n rest fits = hex_value_is 16 0 n rest ∙ omega (arith, fits)

-- ---- loops over the digits
-- one more digit, and the first byte that is none
digit_more : (v b : ℕ) (bs : List ℕ) → 48 ≤ b → b ≤ 57 → digits_after v (b ∷ bs) ≡ digits_after (10 * v + (b - 48)) bs
digit_more v b bs lo hi = let t : is_digit b ≡ true = digit-is b lo hi in rw t refl

-- a value grows
digits_grow : (v : ℕ) (bs : List ℕ) → v ≤ digits_after v bs
digits_grow v [] = omega arith
digits_grow v (b ∷ bs) = grown (is_digit b) v (10 * v + (b - 48)) (digits_after (10 * v + (b - 48)) bs) (omega arith) (digits_grow (10 * v + (b - 48)) bs)

-- Digits that come to 2^64 or more read as 0.
pub too_large : (v b : ℕ) (bs : List ℕ) → 48 ≤ b → b ≤ 57 → 2 ^ 64 ≤ 10 * v + (b - 48) → small (2 ^ 64) (digits_after v (b ∷ bs)) ≡ 0
too_large v b bs lo hi large = search (arith, digit_more, digits_grow, no_small)

-- ---- loops over hexadecimal digits
pub hex_bound : (v d i : ℕ) → v < 16 ^ i → d < 16 → 16 * v + d < 16 ^ (i + 1)
hex_bound v d i lt less = omega (arith, pow_more 16 i, lt, less)

-- A number of fewer than sixteen hexadecimal digits is below 16^15.
pub hex_room : (v i : ℕ) → v < 16 ^ i → i < 16 → v < 16 ^ 15
hex_room v i lt le = let few : i ≤ 15 = omega (arith, le) in let p : 16 ^ i ≤ 16 ^ 15 = pow-le-pow_right (omega arith) few in omega (arith, lt, p)

-- A number below a power of 16 is below each that is at least as great.
pub hex_most : (v i n : ℕ) → v < 16 ^ i → i ≤ n → v < 16 ^ n
hex_most v i n lt le = let p : 16 ^ i ≤ 16 ^ n = pow-le-pow_right (omega arith) le in omega (arith, lt, p)

-- One hexadecimal digit more is read as sixteen times the number before and its value.
pub hex_more : (k v b : ℕ) (bs : List ℕ) → 0 < k → hex_after k v (b ∷ bs) ≡ hex_after (k - 1) (16 * v + hex_value b % 16) bs
hex_more k v b bs some = search arith

-- Where no byte is left, the number read so far stays.
pub hex_stops : (k v : ℕ) → hex_after k v [] ≡ v
hex_stops k v = search arith

-- ---- THE LINE of a record is read as that record. So no two records whose numbers fit have one line
-- ---- names
name_is : (name : Name) (end : ℕ) (rest : List ℕ) → FitsName name → is_digit end ≡ false → name_at (name_text name ++ end ∷ rest) ≡ name
name_is name end rest fits stops i = record {
  address = record { 0 = hex8_back (address_of name) (codes " turn " ++ (decimal name.turn ++ end ∷ rest)) fits.address i };
  turn = number_back name.turn end rest fits.turn stops i;
}

past_is : (name : Name) (end : ℕ) (rest : List ℕ) → FitsName name → is_digit end ≡ false → past_name (name_text name ++ end ∷ rest) ≡ end ∷ rest
past_is name end rest fits stops = past_number name.turn end rest fits.turn stops

-- ---- kinds
size_fits : (class : ℕ) → class_size class < 2 ^ 32
size_fits class = omega (arith, class_size_le class)

abbrev is_of_class : Kind → ℕ → Bool
is_of_class (Kind.Class c) class = c == class
is_of_class other class = false

of_class : (kind : Kind) (class : ℕ) → is_of_class kind class ≡ true → kind ≡ Kind.Class class
of_class kind class e = search (arith, eqb-true)

-- the size of a class names it
class_is : (class : ℕ) → IsClass class → kind_of_route false (route_of 20 (class_size class) 16) ≡ Kind.Class class
class_is class is = of_class _ class (class_passes (λ c. is_of_class (kind_of_route false (route_of 20 (class_size c) 16)) c) refl class is)

kind_is : (kind : Kind) → IsKind kind → kind_at (codes " " ++ (kind_text kind ++ codes "\n")) ≡ kind
kind_is kind h = search (arith, u32_back, size_fits, class_is)

directory_is : (d : Directory) → d.heap < 2 ^ 8 → IsKind d.kind
    → directory_at (codes " heap " ++ (decimal d.heap ++ (codes " " ++ (kind_text d.kind ++ codes "\n")))) ≡ d
directory_is d heap kind = search (arith, u8_back, past_number, kind_is)

-- ---- events
deed_is : (k page : ℕ) (d : Directory) → FitsEvent (Event.Deed k page d)
    → deed_at k (codes " deed page " ++ (decimal page ++ (codes " heap " ++ (decimal d.heap ++ (codes " " ++ (kind_text d.kind ++ codes "\n"))))))
    ≡ Event.Deed k page d
deed_is k page d fits = search (arith, u32_back, past_number, directory_is)

back_is : (k page : ℕ) → page < 2 ^ 32 → back_at k (codes " back page " ++ (decimal page ++ codes "\n")) ≡ Event.Back k page
back_is k page fits = ap (Event.Back k) (u32_back page 10 [] fits refl)

unback_is : (k page epoch : ℕ) → page < 2 ^ 32 → epoch < 2 ^ 64
    → unback_at k (codes " unback page " ++ (decimal page ++ (codes " epoch " ++ (decimal epoch ++ codes "\n")))) ≡ Event.Unback k page epoch
unback_is k page epoch fits small = search (arith, u32_back, past_number, number_back)

give_is : (k : ℕ) (block : Block) → FitsBlock block
    → give_at k (codes " give" ++ (name_text block.name ++ (codes " room " ++ (decimal block.room ++ (codes " heap " ++ (decimal block.heap ++ codes "\n"))))))
    ≡ Event.Give k block
give_is k block fits =
    search (arith, past_is, past_number, name_is, u32_back, u8_back)

freed_is : (k : ℕ) (name : Name) (epoch : ℕ) → FitsName name → epoch < 2 ^ 64
    → freed_at k (codes " freed" ++ (name_text name ++ (codes " epoch " ++ (decimal epoch ++ codes "\n")))) ≡ Event.End k name epoch
freed_is k name epoch fits small = search (arith, past_is, name_is, number_back)

size_differs_is : (k : ℕ) (name : Name) (room : ℕ) → FitsName name → room < 2 ^ 32
    → size_differs_at k (codes " size-differs" ++ (name_text name ++ (codes " asked " ++ (decimal room ++ codes "\n"))))
    ≡ Event.Reject k name (Why.SizeDiffers room)
size_differs_is k name room fits small = search (arith, past_is, name_is, u32_back)

-- ---- answers
held_is : (page name : ℕ) → page < 2 ^ 32 → name < 2 ^ 32
    → held_at (codes " held " ++ (decimal page ++ (codes " name " ++ (decimal name ++ codes "\n")))) ≡ Said.Held page name
held_is page name fits small = search (arith, u32_back, past_number)

young_is : (page stamp : ℕ) → page < 2 ^ 32 → stamp < 2 ^ 64
    → young_at (codes " young page " ++ (decimal page ++ (codes " stamp " ++ (decimal stamp ++ codes "\n")))) ≡ Said.Young page stamp
young_is page stamp fits small = search (arith, u32_back, past_number, number_back)

in_use_is : (page word value : ℕ) → page < 2 ^ 32 → word < 2 ^ 8 → value < 2 ^ 64
    → in_use_at (codes " in-use page " ++ (decimal page ++ (codes " word " ++ (decimal word ++ (codes " value 0x" ++ (hex_digits 16 value ++ codes "\n"))))))
    ≡ Said.InUse page word value
in_use_is page word value fits few small =
    let last : List ℕ = codes "value 0x" ++ (hex_digits 16 value ++ codes "\n") in
    let rest : List ℕ = codes "word " ++ (decimal word ++ 32 ∷ last) in
    let past : past_digits (decimal page ++ 32 ∷ rest) ≡ 32 ∷ rest = past_number page 32 rest (omega (arith, fits)) refl in
    let of_word : past_digits (decimal word ++ 32 ∷ last) ≡ 32 ∷ last = past_number word 32 last (omega (arith, few)) refl in
    (λ i. Said.InUse (u32_back page 32 rest fits refl i) (of_u8 (drop 6 (past i))) (hex_after 16 0 (drop 9 (past_digits (drop 6 (past i))))))
    ∙ (λ i. Said.InUse page (u8_back word 32 last few refl i) (hex_after 16 0 (drop 9 (of_word i))))
    ∙ ap (Said.InUse page word) (hex16_back value (codes "\n") small)

kept_is : (block : Name) (name : ℕ) → FitsName block → name < 2 ^ 32
    → kept_at (codes " kept" ++ (name_text block ++ (codes " name " ++ (decimal name ++ codes "\n")))) ≡ Said.Kept block name
kept_is block name fits small = search (arith, past_is, name_is, u32_back)

guarded_is : (low high name : ℕ) → low < 2 ^ 32 → high < 2 ^ 32 → name < 2 ^ 32
    → guarded_at (codes " guarded " ++ (decimal low ++ (codes " " ++ (decimal high ++ (codes " name " ++ (decimal name ++ codes "\n"))))))
    ≡ Said.Guarded low high name
guarded_is low high name fits few small = search (arith, past_number, u32_back)

lowered_is : (low high : ℕ) → low < 2 ^ 32 → high < 2 ^ 32
    → lowered_at (codes " lowered " ++ (decimal low ++ (codes " " ++ (decimal high ++ codes "\n")))) ≡ Said.Lowered low high
lowered_is low high fits small = search (arith, u32_back, past_number)

-- ---- a line whose actor is k, and the letter of its word
-- the first byte of a decimal is a digit
no_digit : (b c : ℕ) → is_digit b ≡ true → 57 < c → (b == c) ≡ false
no_digit b c is large = grind (arith, nat_tests)

head_of : (ds rest : List ℕ) (c : ℕ) → 0 < length ds → all_digits ds ≡ true → 57 < c → (byte_at 0 (ds ++ rest) == c) ≡ false
head_of [] rest c some digits large = absurd (omega (arith, some))
head_of (d ∷ ds) rest c some digits large = no_digit d c (and_parts (is_digit d) (all_digits ds) digits).0 large

head_isnt : (k c : ℕ) (rest : List ℕ) → k < 2 ^ 8 → 57 < c → (byte_at 0 (decimal k ++ rest) == c) ≡ false
head_isnt k c rest fits large = let h = are-digits k (omega (arith, fits)) in head_of (decimal k) rest c h.some h.digits large

by_actor : (k : ℕ) (rest : List ℕ) → k < 2 ^ 8 → record_at (decimal k ++ 32 ∷ rest) ≡ word_at (byte_at 1 (32 ∷ rest)) k (32 ∷ rest)
by_actor k rest fits =
    let not_phase : (byte_at 0 (decimal k ++ 32 ∷ rest) == 112) ≡ false = head_isnt k 112 (32 ∷ rest) fits (omega arith) in
    let not_close : (byte_at 0 (decimal k ++ 32 ∷ rest) == 99) ≡ false = head_isnt k 99 (32 ∷ rest) fits (omega arith) in
    rw not_phase (rw not_close
    ((λ i. word_at (byte_at 1 (past_number k 32 rest (omega (arith, fits)) refl i)) (u8_back k 32 rest fits refl i) (past_number k 32 rest (omega (arith, fits)) refl i))))

read_event : (e : Event) → FitsEvent e → record_at (line_of_event e) ≡ Record.Event e
read_event (Event.Deed k page d) fits = by_actor k _ fits.0 ∙ ap Record.Event (deed_is k page d fits)
read_event (Event.Back k page) fits = by_actor k _ fits.0 ∙ ap Record.Event (back_is k page fits.1)
read_event (Event.Unback k page epoch) fits = by_actor k _ fits.0 ∙ ap Record.Event (unback_is k page epoch fits.1 fits.2)
read_event (Event.Give k block) fits = by_actor k _ fits.0 ∙ ap Record.Event (give_is k block fits.1)
read_event (Event.End k name epoch) fits = by_actor k _ fits.0 ∙ ap Record.Event (freed_is k name epoch fits.1 fits.2)
read_event (Event.Reject k name Why.Ended) fits = by_actor k _ fits.0 ∙ ap (λ n. Record.Event (Event.Reject k n Why.Ended)) (name_is name 10 [] fits.1 refl)
read_event (Event.Reject k name Why.NoBlock) fits = by_actor k _ fits.0 ∙ ap (λ n. Record.Event (Event.Reject k n Why.NoBlock)) (name_is name 10 [] fits.1 refl)
read_event (Event.Reject k name (Why.SizeDiffers room)) fits =
    by_actor k _ fits.0 ∙ ap Record.Event (size_differs_is k name room fits.1 fits.2)

read_said : (k : ℕ) (said : Said) → k < 2 ^ 8 → FitsSaid said → record_at (line_of_answer k said) ≡ Record.Said k said
read_said k (Said.NoSpace name) few fits = by_actor k _ few ∙ ap (λ n. Record.Said k (Said.NoSpace n)) (u32_back name 10 [] fits refl)
read_said k (Said.Held page name) few fits = by_actor k _ few ∙ ap (Record.Said k) (held_is page name fits.0 fits.1)
read_said k (Said.Outside block) few fits = by_actor k _ few ∙ ap (λ n. Record.Said k (Said.Outside n)) (name_is block 10 [] fits refl)
read_said k (Said.Unaligned block) few fits = by_actor k _ few ∙ ap (λ n. Record.Said k (Said.Unaligned n)) (name_is block 10 [] fits refl)
read_said k (Said.Skipped name) few fits = by_actor k _ few ∙ ap (λ n. Record.Said k (Said.Skipped n)) (u32_back name 10 [] fits refl)
read_said k (Said.Kept block name) few fits = by_actor k _ few ∙ ap (Record.Said k) (kept_is block name fits.0 fits.1)
read_said k (Said.Tick epoch) few fits = by_actor k _ few ∙ ap (λ n. Record.Said k (Said.Tick n)) (number_back epoch 10 [] fits refl)
read_said k (Said.Pass epoch) few fits = by_actor k _ few ∙ ap (λ n. Record.Said k (Said.Pass n)) (number_back epoch 10 [] fits refl)
read_said k (Said.Bare page) few fits = by_actor k _ few ∙ ap (λ n. Record.Said k (Said.Bare n)) (u32_back page 10 [] fits refl)
read_said k (Said.Young page stamp) few fits = by_actor k _ few ∙ ap (Record.Said k) (young_is page stamp fits.0 fits.1)
read_said k (Said.InUse page word value) few fits =
    by_actor k _ few ∙ ap (Record.Said k) (in_use_is page word value fits.0 fits.1 fits.2)
read_said k (Said.NotOffered page) few fits = by_actor k _ few ∙ ap (λ n. Record.Said k (Said.NotOffered n)) (u32_back page 10 [] fits refl)
read_said k (Said.Stopped thread) few fits = by_actor k _ few ∙ ap (λ n. Record.Said k (Said.Stopped n)) (u8_back thread 10 [] fits refl)
read_said k (Said.Guarded low high name) few fits =
    by_actor k _ few ∙ ap (Record.Said k) (guarded_is low high name fits.0 fits.1 fits.2)
read_said k (Said.Lowered low high) few fits = by_actor k _ few ∙ ap (Record.Said k) (lowered_is low high fits.0 fits.1)

-- THE LINE is read as its record
read_back : (r : Record) → Fits r → record_at (line_of r) ≡ r
read_back (Record.Event e) fits = read_event e fits
read_back (Record.Said k said) fits = read_said k said fits.0 fits.1
read_back (Record.Phase n) fits = ap Record.Phase (u32_back n 10 [] fits refl)
read_back Record.Close fits = refl

-- no two records have one line
pub one_line : (r q : Record) → Fits r → Fits q → line_of r ≡ line_of q → r ≡ q
one_line r q fits fits' same = sym (read_back r fits) ∙ ap record_at same ∙ read_back q fits'

-- a record whose numbers fit can be shown
pub fits_show : (r : Record) → Fits r → CanShow r
fits_show r fits = search arith

-- the record that was found is the one of the line
pub found_is : (line : List ℕ) (found r : Record) → found ≡ record_at line → Fits r → line ≡ line_of r → found ≡ r
found_is line found r is fits same = is ∙ ap record_at same ∙ read_back r fits
