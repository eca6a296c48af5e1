-- A report that goes out in pieces.
use Rattle.std.proofs.Common.{◌≡◌, ℕ, zero, suc, ◌+◌, ◌-◌, ◌≤◌, List, [], ◌++◌, Option, ap, sym, ◌∙◌, append_assoc, append-nil, add-zero, add-suc, arith, codes}
use Rattle.pas_io.specs.Told.{WritesFront}
use Rattle.pas_steps.specs.declared.state.State.{State}
use Rattle.pas_report.specs.Counts.{page_by_words, pages_by_words, pages_of, report_by_words, totals_by_words}
use Rattle.pas_records.{specs.Pieces.IsPutOut, proofs.Pieces.front_longer}

-- ---- the report so far
abbrev pub so_far : State → ℕ → List ℕ
so_far state n = codes "report\n" ++ pages_by_words state n

-- .. with the line of one more page
pub next_page : (state : State) (page : ℕ) → 1 ≤ page → so_far state (page + 1 - 1) ≡ so_far state (page - 1) ++ page_by_words state page
next_page state zero some = absurd (omega arith)
next_page state (suc n) some =
    let after : suc n + 1 - 1 ≡ suc n = omega arith in
    let before : suc n - 1 ≡ n = omega arith in
    ap (so_far state) after ∙ sym (ap (λ m. so_far state m ++ page_by_words state (suc n)) before ∙ append_assoc (codes "report\n") (pages_by_words state n) (page_by_words state (suc n)))

-- the rest of the report, after the pages 1 to n
abbrev pub pages_between : State → ℕ → ℕ → List ℕ
pages_between state n zero = []
pages_between state n (suc k) = pages_between state n k ++ page_by_words state (n + suc k)

split_pages : (state : State) (n k : ℕ) → pages_by_words state (n + k) ≡ pages_by_words state n ++ pages_between state n k
split_pages state n zero = ap (pages_by_words state) (add-zero n) ∙ sym (append-nil (pages_by_words state n))
split_pages state n (suc k) = ap (pages_by_words state) (add-suc n k) ∙ (λ t. split_pages state n k t ++ page_by_words state (sym (add-suc n k) t))
    ∙ append_assoc (pages_by_words state n) (pages_between state n k) (page_by_words state (n + suc k))

-- the lines so far are a front of the report
so_far_front : (state : State) (n : ℕ) → n ≤ pages_of state
    → report_by_words state ≡ so_far state n ++ (pages_between state n (pages_of state - n) ++ totals_by_words state)
so_far_front state n within =
    let all : pages_of state ≡ n + (pages_of state - n) = omega arith in
    let pages : pages_by_words state (pages_of state) ≡ pages_by_words state n ++ pages_between state n (pages_of state - n) = ap (pages_by_words state) all ∙ split_pages state n (pages_of state - n) in
    search (arith, append_assoc)

-- A first part that was written of the report so far is one of the whole report.
pub report_front : (state : State) (n : ℕ) (before after : Option (List ℕ)) → n ≤ pages_of state → WritesFront before after (so_far state n)
    → WritesFront before after (report_by_words state)
report_front state n before after within wrote = front_longer before after (so_far state n)
    (pages_between state n (pages_of state - n) ++ totals_by_words state) (report_by_words state) (so_far_front state n within) wrote

-- the lines of all pages, and that of the totals
report_is : (state : State) (n : ℕ) (line : List ℕ) → n ≡ pages_of state → line ≡ totals_by_words state → so_far state n ++ line ≡ report_by_words state
report_is state n line all is = (λ t. so_far state (all t) ++ is t) ∙ append_assoc (codes "report\n") (pages_by_words state (pages_of state)) (totals_by_words state)

-- The report so far with its totals, put out, is the whole report.
pub report_put_out : (state : State) (n : ℕ) (line waiting : List ℕ) (before now : Option (List ℕ)) → n ≡ pages_of state → line ≡ totals_by_words state
    → IsPutOut before now waiting (so_far state n ++ line) → IsPutOut before now waiting (report_by_words state)
report_put_out state n line waiting before now all is out = record { written = out.written; text_is = sym (report_is state n line all is) ∙ out.text_is; writes = out.writes }
