-- The part of each actor after steps of one actor, and after every legal list.
use Rattle.std.proofs.Common.{◌≡◌, ◌≢◌, ℕ, Bool, if◌then◌else◌, List, [], ◌∷◌, ◌++◌, refl, ap, ◌∙◌, ◌==◌, false, subst, eq-eqb, ne_eqb, eqb-true}
use Rattle.std.proofs.lemmas.Bool.{cond_both}
use Rattle.pas_steps.specs.{Lists.{Whole, part, Triple, Legal}, Desks.triples, Views.View, declared.step.Made.Made}
use Rattle.pas_profile.specs.declared.profile.Profile.{Profile}

-- an actor's steps go to its own part
pub part_of_own : (k : ℕ) (steps : List Made) (l : Whole) → part k (triples k steps ++ l) ≡ steps ++ part k l
part_of_own k [] l = refl
part_of_own k (m ∷ steps) l =
    ap (λ (b : Bool). if b then m ∷ part k (triples k steps ++ l) else part k (triples k steps ++ l)) (eq-eqb k k refl)
    ∙ ap (λ v. m ∷ v) (part_of_own k steps l)

-- and leave the parts of the others as they were
pub part_of_others : (j k : ℕ) (steps : List Made) (l : Whole) → k ≢ j → part j (triples k steps ++ l) ≡ part j l
part_of_others j k [] l other = refl
part_of_others j k (m ∷ steps) l other =
    ap (λ (b : Bool). if b then m ∷ part j (triples k steps ++ l) else part j (triples k steps ++ l)) (ne_eqb k j other)
    ∙ part_of_others j k steps l other

-- what holds of an actor's part holds after every legal list, where each step leaves it so for its own actor and for each other one
pub each_part : (f : Profile) (P : Whole → ℕ → View → Type 0) → ((k : ℕ) → P [] k [])
    → ((t : Triple) (l : Whole) → Legal f (t ∷ l) → P l t.actor (part t.actor l) → P (t ∷ l) t.actor (t.made ∷ part t.actor l))
    → ((t : Triple) (l : Whole) (k : ℕ) → Legal f (t ∷ l) → (t.actor == k) ≡ false → P l k (part k l) → P (t ∷ l) k (part k l)) → (l : Whole) → Legal f l
    → (k : ℕ) → P l k (part k l)
each_part f P none own other [] legal k = none k
each_part f P none own other (t ∷ l) legal k =
    let before : (j : ℕ) → P l j (part j l) = each_part f P none own other l legal.1 in
    cond_both (t.actor == k) (t.made ∷ part k l) (part k l) (P (t ∷ l) k)
    (λ same. subst (λ j. P (t ∷ l) j (t.made ∷ part j l)) (eqb-true t.actor k same) (own t l legal (before t.actor))) (λ ne. other t l k legal ne (before k))
