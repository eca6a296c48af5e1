-- Deed words and backed words: what of them stays, of which directories and pages they are, and that they are those of the machine.
use Rattle.std.proofs.Common.{◌≡◌, ◌≢◌, ℕ, ◌==◌, Bool, true, if◌then◌else◌, [], ◌∷◌, refl, ap, ◌∙◌, arith, ◌⊎◌, not, List, Some, None, eqb-true, ne_eqb}
use Rattle.std.proofs.lemmas.Bool.{cases_eq, cond_both, Decides.nat_tests}
use Rattle.pas_profile.specs.{Directories.{IsKind, number_of, deed_word_of, deed_word_numbered}, Layouts.same_word, Profiles.{IsPage, IsDirectoryOf}}
use Rattle.pas_profile.specs.declared.{profile.Profile.Profile, directory.Directory.Directory, word.Word.Word, event.Event.Event}
use Rattle.pas_profile.proofs.Codecs.{kind_number_lt}
use Rattle.pas_steps.specs.{Effects.{target, new_value}, Agreement.IsDeedWord, Events.with_event, Lists.{Triple, Whole, word_after, Legal, visible}}
use Rattle.pas_steps.specs.declared.step.Step.{Step, TheVariants.Deed}
use Rattle.pas_machine.specs.State.{deed_in, backed_in}
use Rattle.pas_core.specs.Good.{word_of_deed, word_of_backed}

-- ==== A deed stays once it is written, it is that of a directory of the profile, and its page is one.

-- a word's value after a step of an actor that knows this epoch
abbrev pub next_value : ℕ → Step → Word → ℕ → ℕ
next_value e s w old = if same_word (target s) w then new_value e s old else old

-- a look leaves the word
pub looked : {A : Type 0} (t : Bool) (x : A) → (if t then x else x) ≡ x
looked t x = grind arith

-- ---- deeds
-- of the word nothing is known, or just the word
abbrev pub IsKnown : ℕ → ℕ → Type 0
IsKnown known word = (known ≡ 0) ⊎ (known ≡ word)

-- A known deed word that isn't 0 is the word.
pub known_is : (known word : ℕ) → IsKnown known word → known ≢ 0 → known ≡ word
known_is known word e ne = grind arith

-- what is known of a deed word stays true
pub word_stays : (e : ℕ) (s : Step) (p old known : ℕ) → IsKnown known old → IsKnown known (next_value e s (Word.Deed p) old)
word_stays e s p old known h = grind (arith, looked, cases_eq, ne_eqb)

-- A deed step leaves what its actor knows of the deed word true.
pub deed_tells : (x : Bool) (d : Directory) (old a known : ℕ) → (x ≡ true → a ≡ old) → IsKnown known old
    → IsKnown (if x then (if a == 0 then deed_word_of d else a) else known) (if x then (if old == 0 then deed_word_of d else old) else old)
deed_tells x d old a known is h = grind arith

-- A look leaves what its actor knows of the word true.
pub look_tells : (x : Bool) (old a known : ℕ) → (x ≡ true → a ≡ old) → IsKnown known old → IsKnown (if x then a else known) (if x then old else old)
look_tells x old a known is h = grind arith

-- An answer that is the deed word of a page is that of the page with the same number.
pub deed_at : (l : Whole) (a q p : ℕ) → a ≡ word_after l (Word.Deed q) → (q == p) ≡ true → a ≡ word_after l (Word.Deed p)
deed_at l a q p is t = is ∙ ap (λ n. word_after l (Word.Deed n)) (eqb-true q p t)

-- a deed word that is written stays
pub deed_kept : (l : Whole) (t : Triple) (p : ℕ) → word_after l (Word.Deed p) ≢ 0 → word_after (t ∷ l) (Word.Deed p) ≡ word_after l (Word.Deed p)
deed_kept l t p ne = search (arith, known_is, word_stays)

-- ---- each deed word is that of a directory of the profile
-- The deed word of each page in a legal list is 0 or that of a directory of the profile.
pub deed_words : (f : Profile) (l : Whole) → Legal f l → (p : ℕ) → IsDeedWord f (word_after l (Word.Deed p))
deed_words f [] legal p = λ ne. absurd (ne refl)
deed_words f (t ∷ l) legal p = search (arith, looked, deed_words f l legal.1 p)

-- ---- only pages have deeds
-- what has a deed is a page of the profile
pub deed_has_page : (f : Profile) (l : Whole) → Legal f l → (p : ℕ) → word_after l (Word.Deed p) ≢ 0 → IsPage f p
deed_has_page f [] legal p ne = absurd (ne refl)
deed_has_page f (t ∷ l) legal p ne = search (arith, looked, eqb-true, deed_has_page f l legal.1 p)

-- ---- the numbers of directories
pub numbered_ne : (n : ℕ) → deed_word_numbered n ≢ 0
numbered_ne n z = absurd (omega (arith, z))

-- a deed word tells the directory's number
pub number_told : (d : Directory) (n : ℕ) → IsKind d.kind → deed_word_of d ≡ deed_word_numbered n → number_of d ≡ n
number_told d n kind h = let small = kind_number_lt d.kind kind in omega (arith, small, h)

-- ==== The deed words and the backed words are those of the machine.

-- ---- steps that may make an event: what holds with it and without it holds after them
pub event_if : (P : List Event → Type 0) (z : Bool) (e : Event) (es : List Event) → P (e ∷ es) → P es → P (with_event (if z then Some e else None) es)
event_if P z e es new old = cond_both z (Some e) None (λ o. P (with_event o es)) (λ made. new) (λ none. old)

-- What an end makes of the events is so by its three cases: the end, a refusal, or no event.
pub end_event_cases : (P : List Event → Type 0) (z y : Bool) (end reject : Event) (es : List Event) → (z ≡ true → P (end ∷ es)) → P (reject ∷ es) → P es
    → P (with_event (if z then Some end else (if y then None else Some reject)) es)
end_event_cases P z y end reject es ended rejected old = search (arith, cond_both)

-- ---- deeds
-- the deed word of a page records the machine's directory
pub deed_of : (f : Profile) (l : Whole) → Legal f l → (p : ℕ) → word_after l (Word.Deed p) ≡ word_of_deed (deed_in (visible l) p)
deed_of f [] legal p = refl
deed_of f (t ∷ l) legal p = search (arith, eqb-true, event_if, end_event_cases, deed_of f l legal.1 p)

-- ---- each directory of the machine is of the profile
-- A page's deed by the events of a legal list is a directory of the profile.
pub directory_is_of : (f : Profile) (l : Whole) → Legal f l → (p : ℕ) (d : Directory) → deed_in (visible l) p ≡ Some d → IsDirectoryOf f d
directory_is_of f [] legal p d is = cc
directory_is_of f (t ∷ l) legal p d is = search (arith, directory_is_of f l legal.1)

-- ---- backed pages
-- A backed word is 0 exactly where the page isn't backed.
pub is_backed : (z : Bool) (b : Bool) (n : ℕ) → n ≡ word_of_backed b → (n == 0) ≡ z → b ≡ not z
is_backed z b n h e = grind (arith, nat_tests)

-- the backed word of a page says whether the machine has it backed
pub backed_of : (f : Profile) (l : Whole) → Legal f l → (p : ℕ) → word_after l (Word.Backed p) ≡ word_of_backed (backed_in (visible l) p)
backed_of f [] legal p = refl
backed_of f (t ∷ l) legal p = search (arith, event_if, is_backed, eqb-true, end_event_cases, backed_of f l legal.1 p)
