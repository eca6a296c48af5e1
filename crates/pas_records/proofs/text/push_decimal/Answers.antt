use Rattle.std.{proofs.Common.{rules, ◌≡◌, List, ℕ, ◌++◌, ◌∷◌, [], length, ◌/◌, ◌%◌, ap, sym, ◌∙◌, arith}, specs.Fmt.decimal}
use Rattle.pas_records.{specs.Lines.hex_digit, proofs.{Decimals.{one_digit, two_digits, three_digits}, Texts.then_piece}}
use Rattle.pas_records.proofs.text.push_decimal.Goals as goal

pub push_str-requires : goal.push_str-requires
push_str-requires g c =
    let all : length (decimal c.args.n) ≡ 1 = ap length (one_digit c.args.n (omega arith)) in
    let digit : length c.digit.result.now ≡ 1 = ap length c.digit.ensures in
    (search rules, omega arith)

pub push_two-requires : goal.push_two-requires
push_two-requires g c =
    let all : length (decimal c.args.n) ≡ 2 = ap length (two_digits c.args.n (omega arith) (omega arith)) in
    (search rules, (omega arith, omega arith))

pub push_str-requires-then-n-lt1000 : goal.push_str-requires-then-n-lt1000
push_str-requires-then-n-lt1000 g c =
    let all : length (decimal c.args.n) ≡ 3 = ap length (three_digits c.args.n (omega arith) (omega arith)) in
    let digit : length c.digit-then-n-lt1000.result.now ≡ 1 = ap length c.digit-then-n-lt1000.ensures in
    (search rules, omega arith)

pub push_two-requires-then-n-lt1000 : goal.push_two-requires-then-n-lt1000
push_two-requires-then-n-lt1000 g c =
    let all : length (decimal c.args.n) ≡ 3 = ap length (three_digits c.args.n (omega arith) (omega arith)) in
    let digit : length c.digit-then-n-lt1000.result.now ≡ 1 = ap length c.digit-then-n-lt1000.ensures in
    (search rules, (omega arith, omega arith))

pub returns-then-n-lt10 : goal.returns-then-n-lt10
returns-then-n-lt10 g c = c.push_str.ensures.bytes ∙ ap (λ (t : List ℕ). c.args.text.now.bytes ++ t) (c.digit.ensures ∙ sym (one_digit c.args.n (omega arith)))

pub returns-then-n-lt100 : goal.returns-then-n-lt100
returns-then-n-lt100 g c = c.push_two.ensures.bytes ∙ ap (λ (t : List ℕ). c.args.text.now.bytes ++ t) (sym (two_digits c.args.n (omega arith) (omega arith)))

pub returns-then-n-lt1000 : goal.returns-then-n-lt1000
returns-then-n-lt1000 g c =
    let digit = c.digit-then-n-lt1000 in
    let text : List ℕ = c.args.text.now.bytes in
    let rest = c.args.n % 100 in
    then_piece text _ _ (hex_digit (c.args.n / 100) ∷ []) (hex_digit (rest / 10) ∷ hex_digit (rest % 10) ∷ [])
    (c.push_str-then-n-lt1000.ensures.bytes ∙ ap (λ (t : List ℕ). text ++ t) digit.ensures) c.push_two-then-n-lt1000.ensures.bytes
    ∙ ap (λ (t : List ℕ). text ++ t) (sym (three_digits c.args.n (omega arith) (omega arith)))
