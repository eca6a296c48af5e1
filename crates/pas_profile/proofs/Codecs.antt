-- The words of deeds and of lives say what they were made from, and nothing else.
use Rattle.std.proofs.Common.{◌≡◌, ◌≢◌, ℕ, ◌-◌, ◌*◌, ◌/◌, ◌%◌, ◌^◌, ◌<◌, ◌≤◌, true, ltb, if◌then◌else◌, Option, None, Some, refl, ap, sym, ◌∙◌, arith, lt-ltb}
use Rattle.std.proofs.{Common.{le-ltb, le-leb}, lemmas.Nat.mul-add-lt}
use Rattle.pas_profile.specs.Directories.{IsKind, kind_number, IsDirectory, number_of, deed_word_of, kind_of, directory_read, deed_word_numbered}
use Rattle.pas_profile.specs.{Profiles.{IsValid, IsDirectoryOf}, declared.{profile.Profile.Profile, directory.{Directory.Directory, Kind.Kind}}}
use Rattle.pas_profile.specs.Lives.{live_word, turn_of, grains_of, is_live}

-- A kind's number is below 23, and names the kind.

-- The number of a kind is below 23.
pub kind_number_lt : (k : Kind) → IsKind k → kind_number k < 23
kind_number_lt k h = grind arith

kind_of-kind_number : (k : Kind) → IsKind k → kind_of (kind_number k) ≡ Some k
kind_of-kind_number k h = grind (arith, lt-ltb)

same_kind : (a b : Kind) → IsKind a → IsKind b → kind_number a ≡ kind_number b → a ≡ b
same_kind a b ha hb e =
    let both : Some a ≡ Some b = sym (kind_of-kind_number a ha) ∙ ap kind_of e ∙ kind_of-kind_number b hb in cc

-- A directory's number is below 23 times the number of heaps, and names the directory.

-- The number of a directory is below 23 times the number of heaps.
pub number_lt : (d : Directory) (heaps : ℕ) → d.heap < heaps → IsKind d.kind → number_of d < 23 * heaps
number_lt d heaps h k = mul-add-lt d.heap 23 (kind_number d.kind) heaps h (kind_number_lt d.kind k)

-- a directory of a profile is one of some region
pub directory_from_profile : (f : Profile) (d : Directory) → IsValid f → IsDirectoryOf f d → IsDirectory d
directory_from_profile f d v h =
    record { heap = omega (arith, v.heaps, h.heap); kind = h.kind }

-- a directory's number tells its deed word
pub numbered : (d : Directory) → IsKind d.kind → deed_word_numbered (number_of d) ≡ deed_word_of d
numbered d kind = let small = kind_number_lt d.kind kind in omega (arith, small)

-- Two directories of the same heap and kind are one.
pub same_parts : (a b : Directory) → a.heap ≡ b.heap → a.kind ≡ b.kind → a ≡ b
same_parts a b h k = ap (λ (n : ℕ). record { heap = n; kind = a.kind }) h ∙ ap (λ (n : Kind). record { heap = b.heap; kind = n }) k

-- A deed word is not 0 and fits its word.

-- The deed word of a directory isn't 0.
pub deed_word_of-positive : (d : Directory) → deed_word_of d ≢ 0
deed_word_of-positive d e = omega (arith, e)

-- The deed word of a directory reads as that directory.
pub read-deed_word_of : (d : Directory) → IsDirectory d → directory_read (deed_word_of d) ≡ Some d
read-deed_word_of d h =
    search (arith, kind_number_lt, ltb, lt-ltb, le-ltb, kind_of-kind_number)

abbrev Records : ℕ → Directory → Type 0
Records w d = IsDirectory d × (w ≡ deed_word_of d)

-- a word is read as a directory only where it is that directory's deed word
pub read_is : (w : ℕ) (d : Directory) → directory_read w ≡ Some d → Records w d
read_is w d e = grind arith

not_read : (w : ℕ) (o : Option Directory) → directory_read w ≡ o → ((d : Directory) → IsDirectory d → w ≢ deed_word_of d) → o ≡ None
not_read w o e h = grind (arith, read_is)

-- a word that is no deed word is read as none
pub read_none : (w : ℕ) → ((d : Directory) → IsDirectory d → w ≢ deed_word_of d) → directory_read w ≡ None
read_none w h = not_read w (directory_read w) refl h

-- distinct directories have distinct deed words
pub same_from_deed_word : (a b : Directory) → IsKind a.kind → IsKind b.kind → deed_word_of a ≡ deed_word_of b → a ≡ b
same_from_deed_word a b ha hb e = search (arith, kind_number_lt, same_parts, same_kind)

-- A live block's word is read as its turn and its grains.

-- The turn of a live word is the one that it was made of.
pub turn_of-live_word : (turn grains : ℕ) → turn < 2 ^ 40 → turn_of (live_word turn grains) ≡ turn
turn_of-live_word turn grains h = omega (arith, h)

-- The grains of a live word are those that it was made of.
pub grains_of-live_word : (turn grains : ℕ) → turn < 2 ^ 40 → grains < 2 ^ 23 → grains_of (live_word turn grains) ≡ grains
grains_of-live_word turn grains h k = omega (arith, h, k)

-- A live word tells that a block lives.
pub is_live-live_word : (turn grains : ℕ) → is_live (live_word turn grains) ≡ true
is_live-live_word turn grains = le-leb (2 ^ 63) _ (omega arith)
