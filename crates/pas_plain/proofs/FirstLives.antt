-- The life words of first grains, which stand side by side once more, after a write.
use Rattle.std.proofs.Common.{◌≡◌, ℕ, ◌-◌, ◌<◌, ◌≤◌, ◌==◌, false, ◌&&◌, if◌then◌else◌, List, length, slice_index, slice_set, inl, inr, ap, sym, ◌∙◌, arith}
use Rattle.std.proofs.{Common.{subst, eq-eqb, ne_eqb, get_or-set_same, get_or-set_other}, lemmas.Bool.cases_eq}
use Rattle.pas_profile.specs.{Layouts.same_word, Profiles.IsWordIn, declared.word.{Layout.Layout, Word.Word}}
use Rattle.pas_steps.specs.{Paged.value_in, declared.paged.PagedWords.PagedWords}

-- these are the life words of the first grains of all pages
abbrev pub AreFirsts : List ℕ → PagedWords → Type 0
AreFirsts firsts words = (page : ℕ) → 1 ≤ page → page ≤ words.layout.pages → slice_index firsts (page - 1) ≡ value_in words (Word.Life page 0)

-- the word has this value now, and each other one is as it was
abbrev pub IsWrittenIn : PagedWords → PagedWords → Word → ℕ → Type 0
IsWrittenIn old new word value =
    (w : Word) → IsWordIn old.layout.pages old.layout.heaps w → value_in new w ≡ (if same_word word w then value else value_in old w)

module _ (old new : PagedWords) (firsts : List ℕ) (value : ℕ) (layout : new.layout ≡ old.layout) (are : AreFirsts firsts old) where
  most : (q : ℕ) → q ≤ new.layout.pages → q ≤ old.layout.pages
  most q high = subst (λ (l : Layout). q ≤ l.pages) layout high

  -- A life word of a first grain is written in both places.
  pub first_written : (page : ℕ) → IsWrittenIn old new (Word.Life page 0) value → 1 ≤ page → page - 1 < length firsts
      → AreFirsts (slice_set firsts (page - 1) value) new
  first_written page written some within q low high =
      let now = written (Word.Life q 0) (low, most q high, omega arith) in elim (cases_eq q page) [
        | inl e ↦
            cc (get_or-set_same firsts (page - 1) value 0 within, eq-eqb page q (sym e))
        | inr ne ↦
            get_or-set_other firsts (page - 1) (q - 1) value 0 (λ same. ne (omega (arith, same, low, some))) ∙ are q low (most q high)
            ∙ sym (now ∙ ap (λ t. if t then value else value_in old (Word.Life q 0)) (ne_eqb page q (λ same. ne (sym same))))
      ]

  -- Where another word is written they stay.
  pub firsts_kept : (word : Word) → IsWrittenIn old new word value → ((q : ℕ) → same_word word (Word.Life q 0) ≡ false) → AreFirsts firsts new
  firsts_kept word written other q low high =
      let now = written (Word.Life q 0) (low, most q high, omega arith) in
      are q low (most q high) ∙ sym (now ∙ ap (λ t. if t then value else value_in old (Word.Life q 0)) (other q))

-- A life word of another grain is none of a first grain.
pub other_grain : (page grain q : ℕ) → (grain ≡ 0 → ⊥) → same_word (Word.Life page grain) (Word.Life q 0) ≡ false
other_grain page grain q ne = ap (λ t. t && (page == q)) (ne_eqb grain 0 ne)
