-- Steps that aren't ticks leave the epoch as it is.
use Rattle.std.proofs.Common.{arith, ◌≡◌, ℕ, Bool, true, false, if◌then◌else◌, List, [], ◌∷◌, ◌++◌, refl, ◌∙◌}
use Rattle.pas_profile.specs.{Layouts.same_word, declared.word.Word.Word}
use Rattle.pas_steps.specs.{Desks.triples, Effects.{target, new_value}, Lists.{Whole, part, word_after}, Views.epoch_of, Kinds.{Kinds, Ticking, Only, kind_of}}
use Rattle.pas_steps.{specs.{Kinds.{is_in, apart, place_of}, declared.step.{Made.Made, Step.Step}}, proofs.Apart.in_apart}

-- in each case it computes, or is given
same_both : (t : Bool) (x : ℕ) → (if t then x else x) ≡ x
same_both t x = search arith

abbrev pub raising : Kinds
raising = Ticking ∷ []

epoch_stays : (e : ℕ) (s : Step) (old : ℕ) → is_in raising (kind_of s) ≡ false → (if same_word (target s) Word.Epoch then new_value e s old else old) ≡ old
epoch_stays e s old h = search (arith, same_both)

-- THE EPOCH after steps of these kinds of one actor
pub epoch_kept : (ks : Kinds) → apart ks raising ≡ true → (k : ℕ) (steps : List Made) (l : Whole) → Only ks steps
    → word_after (triples k steps ++ l) Word.Epoch ≡ word_after l Word.Epoch
epoch_kept ks w k [] l only = refl
epoch_kept ks w k (m ∷ ms) l only = epoch_stays (epoch_of (part k (triples k ms ++ l))) m.step (word_after (triples k ms ++ l) Word.Epoch)
    (in_apart ks raising (place_of (kind_of m.step)) w only.0)
    ∙ epoch_kept ks w k ms l only.1
