-- What readings say of the view, and of later steps of the call.
use Rattle.std.proofs.Common.{arith, ◌≡◌, ◌≢◌, ℕ, ◌==◌, false, if◌then◌else◌, List, [], ◌∷◌, ◌++◌, inl, inr, refl, ap, sym, ◌∙◌, eq-eqb}
use Rattle.pas_profile.specs.{Directories.deed_word_of, declared.{directory.Directory.Directory, profile.Profile.Profile}}
use Rattle.pas_steps.specs.{Agreement.{Agrees, Agreed}, Desks.made, Past.Once, Evidence.{ReadsDeed, ZeroHere, DeedHere, NoDeedHere}, Views.{View, has_right}}
use Rattle.pas_steps.{specs.{Views.{known_deed, KnowsDeed}, declared.step.{Made.Made, Step.{Step, TheVariants.Deed}}}, proofs.Frames.{right_own, deed_stays}}
use Rattle.pas_steps.proofs.Past.{once_earlier}

-- a page that was read as having no deed isn't known to have one
read_unknown : (f : Profile) (v : View) (p : ℕ) (s : Step) (a : ℕ) → ReadsDeed p s → Agrees f v s a → a ≡ 0 → known_deed v p ≢ 0 → ⊥
read_unknown f v p s a e agrees z known = grind arith

-- A page that was once read as without a deed isn't known to have one.
pub unknown : (f : Profile) (v : View) (p : ℕ) (xs : List Made) → Agreed f v xs → Once (NoDeedHere p) xs → known_deed v p ≢ 0 → ⊥
unknown f v p [] agreed h known = h
unknown f v p (m ∷ more) agreed (inr h) known = unknown f v p more agreed.1 h known
unknown f v p (m ∷ more) agreed (inl h) known = read_unknown f (more ++ v) p m.step m.answer h.0 agreed.0 h.1 (λ z. known (sym (deed_stays f more v p agreed.1 known) ∙ z))

-- a deed that was made is known
pub deed_known : (p : ℕ) (d : Directory) (a : ℕ) (v : View) → a ≡ 0 → KnowsDeed p d (made (Deed p d) a ∷ v)
deed_known p d a v e = ap (λ t. if t then (if a == 0 then deed_word_of d else a) else known_deed v p) (eq-eqb p p refl) ∙ ap (λ t. if t then deed_word_of d else a) (eq-eqb a 0 e)

-- readings, with the steps before them
pub deed_before : (p : ℕ) (ys xs : List Made) → Once (DeedHere p) ys → Once (DeedHere p) (ys ++ xs)
deed_before p ys xs = once_earlier (DeedHere p) (DeedHere p) ys xs (λ m before z. z)

-- A page that later steps read as not offered was so read behind steps that lack its right.
pub zero_before : (d : Directory) (p : ℕ) (ys xs : List Made) → has_right xs p ≡ false → Once (ZeroHere d p) ys → Once (ZeroHere d p) (ys ++ xs)
zero_before d p ys xs none = once_earlier (ZeroHere d p) (ZeroHere d p) ys xs (λ m before z. (z.0, z.1, right_own p before xs none ∙ z.2))
