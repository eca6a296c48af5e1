-- What the first line and the lines of operations say, in texts that are read line by line.
use Rattle.std.proofs.Common.{◌≡◌, ℕ, ◌^◌, ◌<◌, ◌≤◌, List, [], ◌∷◌, codes, Some, refl, arith, le-leb, Bool, ◌++◌, Ok, ap, ◌∙◌, lit<, lt-ltb, ne_eqb, ◌+◌, None}
use Rattle.std.{proofs.{Common.{sym, append_assoc, append-nil}, lemmas.Bool.and_from}, specs.Fmt.decimal}
use Rattle.pas_trace.specs.{Numbers.number_of, Texts.{words_of, lines_of}, Plans.{items_from, parsed}, Reasons.{within, header_with, header_of_words, started}}
use Rattle.pas_trace.specs.{Reasons.{reason_of, checked, kept, line_says}, Items.{trace_name, epoch_word, item1, item2, item5, item_of_words, item_of_line}}
use Rattle.pas_trace.specs.declared.{item.{Item.{Item, TheVariants.{Operates, Scavenges}}, Wish.TheVariants.{Asks, Frees}}, plan.Chore.Chore}
use Rattle.pas_trace.{specs.declared.header.Header.Header, proofs.WordLines.{IsLine, Lacks, lines-until}}
use Rattle.pas_generate.{specs.{Lines.{header, free_line, tick_line}, Meant.heading}, proofs.{Digits.number-back, Splits.{decimal-word, word-by, last-word}}}
use Rattle.pas_generate.proofs.Splits.{word-before, IsWord}

-- ==== What the first line says.

abbrev pub header_words : ℕ → ℕ → List (List ℕ)
header_words pages threads =
    codes "pas" ∷ codes "1" ∷ codes "pages" ∷ decimal pages ∷ codes "threads" ∷ decimal threads ∷ codes "heaps" ∷ codes "6" ∷ codes "age" ∷ codes "2" ∷ []

-- The first line of a generated trace has the words of its header.
pub header-line : (pages threads : ℕ) → pages < 2 ^ 64 → threads < 2 ^ 64 → IsLine (header pages threads) (header_words pages threads) (codes "shared 5\n")
unfolding header
header-line pages threads pw tw =
    word-before (codes "pas") _ _ _ (word-by (codes "pas") refl refl refl) (word-before (codes "1") _ _ _ (word-by (codes "1") refl refl refl) (word-before (codes "pages") _ _ _ (word-by (codes "pages") refl refl refl)
    (word-before (decimal pages) _ _ _ (decimal-word pages pw) (word-before (codes "threads") _ _ _ (word-by (codes "threads") refl refl refl) (word-before (decimal threads) _ _ _ (decimal-word threads tw)
    (word-before (codes "heaps") _ _ _ (word-by (codes "heaps") refl refl refl) (word-before (codes "6") _ _ _ (word-by (codes "6") refl refl refl) (word-before (codes "age") _ _ _ (word-by (codes "age") refl refl refl)
    (last-word (codes "2") (codes "shared 5\n") (word-by (codes "2") refl refl refl))))))))))

in-range : (least most n : ℕ) → n < 2 ^ 64 → least ≤ n → n ≤ most → within least most (number_of (decimal n)) ≡ Some n
in-range least most n small lo hi = search (arith, and_from, le-leb, number-back)

-- The words of a generated header say its region.
pub header-says : (pages threads : ℕ) → 1 ≤ pages → pages ≤ 4096 → 1 ≤ threads → threads ≤ 16
    → header_of_words (header_words pages threads) ≡ Some (heading pages threads)
header-says pages threads pages_lo pages_hi threads_lo threads_hi =
    λ i. header_with 1 (in-range 1 4096 pages (omega arith) pages_lo pages_hi i) (in-range 1 16 threads (omega arith) threads_lo threads_hi i) (Some 6) (Some 2)

-- ==== What the lines of operations say.

-- ---- numbers in their places
name-fits : (n : ℕ) → 1 ≤ n → n ≤ 1000000 → trace_name (decimal n) ≡ Some n
name-fits n lo hi = search (arith, lt-ltb, le-leb, number-back)

epoch-fits : (n : ℕ) → n < 2 ^ 40 → epoch_word (decimal n) ≡ Some n
epoch-fits n small = search (arith, lt-ltb, number-back)

-- ---- a line of a text of this version and what it says, whatever stands before it
pub record Says (version : ℕ) (text : List ℕ) (item : Item) : Type 0 where
  pub line : List ℕ
  pub text_is : text ≡ line ++ 10 ∷ []
  pub whole : Lacks 10 line
  pub says : (started : Bool) → item_of_line version started line ≡ Ok item

-- a line is no comment if its text begins with a letter
by-words : (started : Bool) (b : ℕ) (bs line : List ℕ) → b ∷ bs ≡ line ++ 10 ∷ [] → 35 < b
    → item_of_line 1 started line ≡ item_of_words 1 started (words_of line)
by-words started b bs a is big = search (arith, ne_eqb)

line-says : (b : ℕ) (bs : List ℕ) (words : List (List ℕ)) (item : Item) → 35 < b → IsLine (b ∷ bs) words []
    → ((started : Bool) → item_of_words 1 started words ≡ Ok item) → Says 1 (b ∷ bs) item
line-says b bs words item big l says = record {
  line = l.line;
  text_is = l.text_is;
  whole = l.whole;
  says = λ started. by-words started b bs l.line l.text_is big ∙ ap (item_of_words 1 started) l.words_are ∙ says started;
}

-- A byte above 35 is a word by itself.
letter : (b : ℕ) → 35 < b → IsWord (b ∷ [])
letter b big = record { some = lit< tt; no_end = (λ e. omega (arith, e, big), tt); no_space = (λ e. omega (arith, e, big), tt) }

-- the numbers of an allocation, each of which a line can have
pub record IsWritten (thread name heap size align : ℕ) : Type 0 where
  pub thread_fits : thread < 2 ^ 64
  pub some_name : 1 ≤ name
  pub name_fits : name ≤ 1000000
  pub heap_fits : heap < 2 ^ 64
  pub size_fits : size < 2 ^ 64
  pub align_fits : align < 2 ^ 64

-- The line of an allocation says the allocation.
pub allocation-says : (t n h s a : ℕ) → IsWritten t n h s a
    → Says 1 (97 ∷ 32 ∷ (decimal t ++ 32 ∷ (decimal n ++ 32 ∷ (decimal h ++ 32 ∷ (decimal s ++ 32 ∷ (decimal a ++ 10 ∷ [])))))) (Operates t (Asks n h s a))
allocation-says t n h s a w =
    let tw = decimal-word t w.thread_fits in
    let nw = decimal-word n (omega (arith, w.name_fits)) in
    let hw = decimal-word h w.heap_fits in
    let sw = decimal-word s w.size_fits in
    let aw = decimal-word a w.align_fits in
    line-says 97 (32 ∷ (decimal t ++ 32 ∷ (decimal n ++ 32 ∷ (decimal h ++ 32 ∷ (decimal s ++ 32 ∷ (decimal a ++ 10 ∷ []))))))
    ((97 ∷ []) ∷ decimal t ∷ decimal n ∷ decimal h ∷ decimal s ∷ decimal a ∷ []) _ (lit< tt)
    (word-before (97 ∷ []) _ _ [] (letter 97 (lit< tt)) (word-before (decimal t) _ _ [] tw
    (word-before (decimal n) _ _ [] nw (word-before (decimal h) _ _ [] hw (word-before (decimal s) _ _ [] sw (last-word (decimal a) [] aw))))))
    (λ started i. item5 (λ t n h s a. Operates t (Asks n h s a)) (number-back t w.thread_fits i) (name-fits n w.some_name w.name_fits i)
    (number-back h w.heap_fits i) (number-back s w.size_fits i) (number-back a w.align_fits i))

-- The line of a free says the free.
pub free-says : (t n : ℕ) → t < 2 ^ 64 → 1 ≤ n → n ≤ 1000000 → Says 1 (free_line t n) (Operates t (Frees n))
free-says t n small lo hi =
    line-says 102 (32 ∷ (decimal t ++ 32 ∷ (decimal n ++ 10 ∷ []))) ((102 ∷ []) ∷ decimal t ∷ decimal n ∷ []) _ (lit< tt)
    (word-before (102 ∷ []) _ _ [] (letter 102 (lit< tt)) (word-before (decimal t) _ _ [] (decimal-word t small) (last-word (decimal n) [] (decimal-word n (omega arith)))))
    (λ started i. item2 (λ t n. Operates t (Frees n)) (number-back t small i) (name-fits n lo hi i))

-- The line of a tick says the tick.
pub tick-says : (n : ℕ) → n < 2 ^ 40 → Says 1 (tick_line n) (Scavenges (Chore.Tick n))
tick-says n small =
    line-says 116 (105 ∷ 99 ∷ 107 ∷ 32 ∷ (decimal n ++ 10 ∷ [])) (codes "tick" ∷ decimal n ∷ []) _ (lit< tt)
    (word-before (codes "tick") _ _ [] (word-by (codes "tick") refl refl refl) (last-word (decimal n) [] (decimal-word n (omega arith))))
    (λ started i. item1 (λ e. Scavenges (Chore.Tick e)) (epoch-fits n small i))

-- ==== Texts that are read line by line, with nothing between them.

-- wherever the text stands after these items, its lines are read, and leave those
abbrev pub Reads : Header → List Item → List ℕ → List Item → Type 0
Reads f earlier text after = (number : ℕ) (rest : List ℕ) → (next : ℕ) × (items_from f number earlier (lines_of (text ++ rest)) ≡ items_from f next after (lines_of rest))

-- An empty text reads no item more.
pub reads-none : (f : Header) (earlier : List Item) → Reads f earlier [] earlier
reads-none f earlier number rest = (number, refl)

-- Two texts that are read one after the other are read together.
pub reads-both : (f : Header) (earlier middle after : List Item) (text more : List ℕ) → Reads f earlier text middle → Reads f middle more after
    → Reads f earlier (text ++ more) after
reads-both f earlier middle after text more one two number rest =
    let first = one number (more ++ rest) in
    let second = two first.0 rest in
    (second.0, ap (λ (t : List ℕ). items_from f number earlier (lines_of t)) (append_assoc text more rest) ∙ first.1 ∙ second.1)

-- A line that says an item reads as it, with the line feed behind it.
pub reads-line : (f : Header) (earlier : List Item) (line : List ℕ) (i : Item) → Lacks 10 line → line_says f earlier line ≡ Ok i
    → Reads f earlier (line ++ 10 ∷ []) (i ∷ earlier)
reads-line f earlier line i whole says number rest = (
  number + 1,
  simp (append_assoc, lines-until, says),
)

-- A text that says an item, which passes its checks, reads as it.
pub reads-said : (f : Header) (earlier : List Item) (text : List ℕ) (i : Item) → Says f.version text i → reason_of f.profile earlier i ≡ None
    → Reads f earlier text (i ∷ earlier)
reads-said f earlier text i s fine number rest =
    let says : line_says f earlier s.line ≡ Ok i = ap (checked f.profile earlier) (s.says (started earlier)) ∙ ap (kept i) fine in
    let read = reads-line f earlier s.line i s.whole says number rest in
    (read.0, ap (λ (t : List ℕ). items_from f number earlier (lines_of (t ++ rest))) s.text_is ∙ read.1)

-- a header, and the lines after it
pub parsed-by : (f : Header) (text : List ℕ) (words : List (List ℕ)) (rest : List ℕ) (items : List Item) → IsLine text words rest
    → header_of_words words ≡ Some f → Reads f [] rest items
    → parsed text ≡ Ok (record { header = f; items = items })
parsed-by f text words rest items l header reads =
    let all = reads 2 [] in
    let read : items_from f 2 [] (lines_of rest) ≡ Ok items = ap (λ (t : List ℕ). items_from f 2 [] (lines_of t)) (sym (append-nil rest)) ∙ all.1 in
    cc (lines-until l.line rest l.whole)
