-- Pages whose deeds aren't known grow fewer, and the room that is left for their deeds.
use Rattle.std.proofs.Common.{◌≡◌, ◌≢◌, ℕ, zero, suc, ◌+◌, ◌≤◌, ◌==◌, Bool, if◌then◌else◌, List, ◌++◌, inl, inr, refl, ap, sym, ◌∙◌, arith, eqb-true, ne_eqb}
use Rattle.std.proofs.lemmas.Bool.{eqb-false, cases_eq}
use Rattle.pas_profile.specs.{Profiles.IsPage, declared.profile.Profile.Profile}
use Rattle.pas_steps.specs.{Views.{View, known_deed}, Agreement.Agreed, Unknown.{KnowsAllDeeds, unknown_here, unknown_below, unknown_pages, HasRoom}}
use Rattle.pas_steps.{specs.declared.step.Made.Made, proofs.Frames.deed_stays}

abbrev one_if : Bool → ℕ
one_if t = if t then 1 else 0

no_more : (a b : ℕ) (t u : Bool) → (a == 0) ≡ t → (b == 0) ≡ u → (b ≢ 0 → a ≢ 0) → unknown_here a ≤ unknown_here b
no_more a b t u ea eb h = grind (arith, eqb-false, eqb-true)

unknown_kept : (f : Profile) (n : ℕ) (steps : List Made) (v : View) → Agreed f v steps → unknown_below n (steps ++ v) ≤ unknown_below n v
unknown_kept f zero steps v agreed = omega arith
unknown_kept f (suc n) steps v agreed =
    let here = no_more (known_deed (steps ++ v) (suc n)) (known_deed v (suc n)) _ _ refl refl (λ ne z. ne (sym (deed_stays f steps v (suc n) agreed ne) ∙ z)) in
    omega (arith, here, unknown_kept f n steps v agreed)

-- After steps no more pages have a deed that isn't known.
pub unknown_no_more : (f : Profile) (steps : List Made) (v : View) → Agreed f v steps → unknown_pages f (steps ++ v) ≤ unknown_pages f v
unknown_no_more f steps v agreed = unknown_kept f f.pages steps v agreed

unknown_fewer : (f : Profile) (n page : ℕ) (steps : List Made) (v : View) → Agreed f v steps → known_deed v page ≡ 0 → known_deed (steps ++ v) page ≢ 0
    → 1 ≤ page → page ≤ n → unknown_below n (steps ++ v) + 1 ≤ unknown_below n v
unknown_fewer f zero page steps v agreed was now low high = absurd (omega (arith, low, high))
unknown_fewer f (suc n) page steps v agreed was now low high = elim (cases_eq page (suc n)) [
  | inl e ↦ search (arith, ne_eqb, unknown_kept)
  | inr ne ↦
      let below = unknown_fewer f n page steps v agreed was now low (omega (arith, high, ne)) in
      omega (arith, no_more (known_deed (steps ++ v) (suc n)) (known_deed v (suc n)) _ _ refl refl (λ some z. some (sym (deed_stays f steps v (suc n) agreed some) ∙ z)), below)
]

-- A deed that is known by now makes the unknown pages one fewer.
pub unknown_less : (f : Profile) (page : ℕ) (steps : List Made) (v : View) → Agreed f v steps → IsPage f page → known_deed v page ≡ 0
    → known_deed (steps ++ v) page ≢ 0 → unknown_pages f (steps ++ v) + 1 ≤ unknown_pages f v
unknown_less f page steps v agreed is was now = unknown_fewer f f.pages page steps v agreed was now is.0 is.1

none_below : (f : Profile) (n : ℕ) (v : View) → KnowsAllDeeds f v → n ≤ f.pages → unknown_below n v ≡ 0
none_below f zero v all le = refl
none_below f (suc n) v all le =
    omega (arith, ap one_if (ne_eqb (known_deed v (suc n)) 0 (all (suc n) (omega arith, le))), none_below f n v all (omega (arith, le)))

-- Where all deeds are known, no page is unknown.
pub none_unknown : (f : Profile) (v : View) → KnowsAllDeeds f v → unknown_pages f v ≡ 0
none_unknown f v all = none_below f f.pages v all (omega arith)

all_below : (n : ℕ) (v : View) (page : ℕ) → unknown_below n v ≡ 0 → 1 ≤ page → page ≤ n → known_deed v page ≢ 0
all_below zero v page none low high = absurd (omega (arith, low, high))
all_below (suc n) v page none low high = elim (cases_eq page (suc n)) [
  | inl e ↦ search arith
  | inr ne ↦ all_below n v page (omega (arith, none)) low (omega (arith, high, ne))
]

-- room for so many events beside the pages whose deed isn't known is room for a request
pub has_room : (f : Profile) (n spare : ℕ) (v : View) → n + unknown_pages f v ≤ spare → HasRoom f n spare v
has_room f n spare v fits = (
  omega (arith, fits),
  elim (cases_eq (unknown_pages f v) 0) [
    | inl none ↦ inl (λ page is. all_below f.pages v page none is.0 is.1)
    | inr some ↦ inr (omega (arith, fits, some))
  ],
)

-- what was known of deeds is known
pub all_known : (f : Profile) (steps : List Made) (v : View) → Agreed f v steps → KnowsAllDeeds f v → KnowsAllDeeds f (steps ++ v)
all_known f steps v agreed all p is z = all p is (sym (deed_stays f steps v p agreed (all p is)) ∙ z)

-- Room that is left for the unknown pages is left after steps, too.
pub room_after : (f : Profile) (n spare : ℕ) (steps : List Made) (v : View) → Agreed f v steps → HasRoom f n spare v → HasRoom f n spare (steps ++ v)
room_after f n spare steps v agreed h = (h.0, elim h.1 [ inl all ↦ inl (all_known f steps v agreed all) | inr more ↦ inr more ])
