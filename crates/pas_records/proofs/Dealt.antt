-- Sheets that hold the parts of a round hold the round.
use Rattle.std.proofs.Common.{◌≡◌, ℕ, suc, ◌+◌, ◌*◌, ◌-◌, min, ◌<◌, ◌≤◌, List, [], ◌∷◌, ◌++◌, All, refl, ap, sym, ◌∙◌, subst, arith, append_assoc, length}
use Rattle.std.proofs.{Common.{length-take, get_or, take, drop, take_all, drop_at, take_at, drop-drop}, lemmas.List.{take_min, take_rest, drop_min}}
use Rattle.std.proofs.{lemmas.List.Elements.{All-take, All-drop}, Math.Seq.take-add}
use Rattle.pas_records.specs.{declared.{sheets.Sheet.Sheet, record.Record.Record}, Lines.{CanShow, line_of, lines_of}, Texts.{part_of, texts_of}}

-- each sheet holds the lines of its part
abbrev pub AreFilled : List Sheet → List Record → Type 0
AreFilled sheets round = (place : ℕ) (d : Sheet) → place < length sheets → (get_or sheets place d).text.items ≡ lines_of (part_of round place)

lines_append : (rs more : List Record) → lines_of (rs ++ more) ≡ lines_of rs ++ lines_of more
lines_append [] more = refl
lines_append (r ∷ rs) more = ap (λ (t : List ℕ). line_of r ++ t) (lines_append rs more) ∙ sym (append_assoc (line_of r) (lines_of rs) (lines_of more))

next_part : (round : List Record) (place : ℕ) → part_of round (suc place) ≡ part_of (drop 2048 round) place
next_part round place =
    let e : suc place * 2048 ≡ 2048 + place * 2048 = omega arith in
    ap (λ n. take 2048 (drop n round)) e ∙ ap (λ (rs : List Record). take 2048 rs) (sym (drop-drop (place * 2048) 2048 round))

texts_are : (sheets : List Sheet) (round : List Record) → AreFilled sheets round → texts_of sheets ≡ lines_of (take (length sheets * 2048) round)
texts_are [] round filled = refl
texts_are (sheet ∷ sheets) round filled =
    let first : sheet.text.items ≡ lines_of (take 2048 round) = filled 0 sheet (omega arith) in
    let others : AreFilled sheets (drop 2048 round) = λ place d within. filled (suc place) d (omega arith) ∙ ap lines_of (next_part round place) in
    let e : suc (length sheets) * 2048 ≡ 2048 + length sheets * 2048 = omega arith in
    let rest = drop 2048 round in
    cc (texts_are sheets rest others, lines_append (take 2048 round) (take (length sheets * 2048) rest), take-add 2048 (length sheets * 2048) round)

-- .. the whole round, where there are sheets enough
pub round_is : (sheets : List Sheet) (round : List Record) → length round ≤ length sheets * 2048 → AreFilled sheets round → texts_of sheets ≡ lines_of round
round_is sheets round few filled = texts_are sheets round filled ∙ ap lines_of (take_all (length sheets * 2048) round few)

-- what is cut out of a round is a part
pub part_is : (round : List Record) (place start size : ℕ) → start ≡ min (length round) (place * 2048)
    → size ≡ min (length (take (length round - start) (drop start round))) 2048
    → take size (take (length round - start) (drop start round)) ≡ part_of round place
part_is round place start size start_is size_is =
    let rest : List Record = take (length round - start) (drop start round) in
    let start' : start ≡ min (place * 2048) (length round) = omega arith in
    let size' : size ≡ min 2048 (length rest) = omega arith in
    let all : rest ≡ drop (place * 2048) round = take_rest round start ∙ ap (λ n. drop n round) start' ∙ drop_min (place * 2048) round in
    ap (λ n. take n rest) size' ∙ take_min 2048 rest ∙ ap (λ (rs : List Record). take 2048 rs) all

-- A sheet's part of a round has at most 2,048 records.
pub part_short : (round : List Record) (place : ℕ) → length (part_of round place) ≤ 2048
part_short round place = omega (arith, length-take 2048 (drop (place * 2048) round))

-- the first round's lines, before those of the others
pub first_round : (records first others : List Record) (text : List ℕ) → records ≡ first ++ others → text ≡ lines_of first
    → text ++ lines_of others ≡ lines_of records
first_round records first others text is text_is = ap (λ (t : List ℕ). t ++ lines_of others) text_is ∙ sym (lines_append first others) ∙ ap lines_of (sym is)

-- the lines of one round more, where a text was written and another holds the round's before
pub next_round : (records rest round more : List Record) (text held next : List ℕ) → rest ≡ round ++ more → next ≡ lines_of round
    → text ++ (held ++ lines_of rest) ≡ lines_of records → (text ++ held) ++ (next ++ lines_of more) ≡ lines_of records
next_round records rest round more text held next rest_is next_is before = cc (lines_append round more, append_assoc text held (lines_of rest))

-- Records that can be shown can be shown behind a round of them.
pub shown_after : (rest round more : List Record) → rest ≡ round ++ more → All CanShow rest → All CanShow more
shown_after rest round more is shown =
    let more_is : drop (length round) rest ≡ more = ap (λ (rs : List Record). drop (length round) rs) is ∙ drop_at round more (length round) refl in
    subst (λ (rs : List Record). All CanShow rs) more_is (All-drop CanShow (length round) rest shown)

-- Records that can be shown can be shown in their first round.
pub shown_before : (rest round more : List Record) → rest ≡ round ++ more → All CanShow rest → All CanShow round
shown_before rest round more is shown =
    let round_is : take (length round) rest ≡ round = ap (λ (rs : List Record). take (length round) rs) is ∙ take_at round more (length round) refl in
    subst (λ (rs : List Record). All CanShow rs) round_is (All-take CanShow (length round) rest shown)
