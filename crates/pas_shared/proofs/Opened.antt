-- The table and the passes at the opening.
use Rattle.std.proofs.Common.{◌≡◌, ℕ, suc, zero, ◌+◌, All, List, [], ◌∷◌, ◌++◌, length, refl, sym, ap, subst, ◌∙◌, arith, append_assoc, slice_index}
use mathlib.Core.Option.{some-injective, some-ne-none}
use Rattle.atomic_table.specs.{Seated.TableId, Table.{Me, Splits}}
use Rattle.pas_profile.specs.{Layouts.{index_of, words_of, opening}, Profiles.IsWordOf, Rooms.EventRoom, declared.{profile.Profile.Profile, word.Word.Word}}
use Rattle.pas_steps.specs.Views.{View}
use Rattle.pas_shared.specs.{declared.{rule.Roster.{Roster, TheVariants.Unused}, pass.SharedPass.SharedPass}, Ruled.{Names, all_but_first, first_alone}}
use Rattle.pas_shared.{specs.{Ruled.{AreNamed, AllKnow, AreAfterOneList, Holds}, Passes.{IsOfTable, IsFresh, AreFresh}}, proofs.Ruling.{Apart, SawOf, RowsOf}}
use Rattle.pas_shared.proofs.Ruling.{splits}

-- of the one seat
know_one : (P : Roster → Type 0) (w : Roster) → P w → AllKnow P (w ∷ [])
know_one P w so zero u e = subst P (some-injective w u e) so
know_one P w so (suc i) u e = absurd (some-ne-none u (sym e))

-- The words of the opening are those after the list without a step.
pub begins : (f : Profile) (words : List ℕ) → length words ≡ words_of f.pages f.heaps
    → ((w : Word) → IsWordOf f w → slice_index words (index_of f.pages w) ≡ opening w) → AreAfterOneList f words (Unused 0 ∷ [])
begins f words sized values = record {
  whole = [];
  legal = tt;
  words_are = record { sized = sized; values = values };
  own = λ _. [];
  one_order = λ _. refl;
  seat_number = λ _. 0;
  named = named;
  apart = know_one Apart (Unused 0) tt;
  seen = know_one (SawOf []) (Unused 0) tt;
  rows = know_one (RowsOf []) (Unused 0) tt;
}
  where
    -- An actor at a seat that nobody used made no step.
    none : (u : Roster) (k : ℕ) (v : View) → Unused 0 ≡ u → Names u k v → [] ≡ v
    none u k v e its = sym (subst (λ (y : Roster). Names y k v) (sym e) its).1

    -- A table with one seat that nobody used names each actor there.
    named : AreNamed (λ _. []) (λ _. 0) (Unused 0 ∷ [])
    named zero u k v e its = (refl, none u k v (some-injective _ _ e) its)
    named (suc i) u k v e its = absurd (some-ne-none u (sym e))

-- The first actor of those that nobody used may be taken away, however they are written.
pub splits_as : (f : Profile) (id n : ℕ) (me : Me (Unit {0}) Roster) → me ≡ (Unused n, []) → Splits (Holds f) id me.0 (all_but_first me.0) (first_alone me.0)
splits_as f id n me is = subst (λ (m : Me (Unit {0}) Roster). Splits (Holds f) id m.0 (all_but_first m.0) (first_alone m.0)) (sym is) (splits f id n)

-- ---- one more pass
pub fresh_many : (id : TableId) (f : Profile) (k : ℕ) (rooms : List EventRoom) (passes : List SharedPass) → AreFresh id f k rooms passes
    → length rooms ≡ length passes
fresh_many id f k [] [] h = refl
fresh_many id f k (room ∷ rooms) (pass ∷ passes) h = ap suc (fresh_many id f (k + 1) rooms passes h.1)
fresh_many id f k _ _ h = absurd h

-- A pass for one room more makes the fresh passes one more.
pub fresh_more : (id : TableId) (f : Profile) (k n : ℕ) (rooms : List EventRoom) (passes : List SharedPass) (room : EventRoom) (pass : SharedPass)
    → AreFresh id f k rooms passes → n ≡ k + length passes → IsFresh id f n room pass → AreFresh id f k (rooms ++ room ∷ []) (passes ++ pass ∷ [])
fresh_more id f k n [] [] room pass h at new = (subst (λ (m : ℕ). IsFresh id f m room pass) (omega (arith, at)) new, tt)
fresh_more id f k n (r ∷ rooms) (p ∷ passes) room pass h at new = (h.0, fresh_more id f (k + 1) n rooms passes room pass h.1 (omega (arith, at)) new)
fresh_more id f k n _ _ room pass h at new = absurd h

-- ---- all of them are of the table
pub fresh_are_of : (id : TableId) (f : Profile) (k : ℕ) (rooms : List EventRoom) (passes : List SharedPass) → AreFresh id f k rooms passes
    → All (IsOfTable id f) passes
fresh_are_of id f k [] [] h j d lt = absurd (omega (arith, lt))
fresh_are_of id f k (room ∷ rooms) (pass ∷ passes) h zero d lt = h.0.of_table
fresh_are_of id f k (room ∷ rooms) (pass ∷ passes) h (suc j) d lt = fresh_are_of id f (k + 1) rooms passes h.1 j d (omega (arith, lt))
fresh_are_of id f k _ _ h j d lt = absurd h

-- ---- the rooms that are left
pub one_done : {A : Type 0} (done xs : List A) (x : A) (rest whole : List A) → xs ≡ x ∷ rest → done ++ xs ≡ whole → (done ++ x ∷ []) ++ rest ≡ whole
one_done {A = A} done xs x rest whole is all = append_assoc done (x ∷ []) rest ∙ (ap (λ (ys : List A). done ++ ys) (sym is) ∙ all)
