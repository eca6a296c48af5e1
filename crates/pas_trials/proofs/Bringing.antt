-- What a view meets after a deed, and after a look at a deed word.
use Rattle.std.proofs.Common.{arith, ◌≡◌, ℕ, if◌then◌else◌, ◌∷◌, ap, ◌∙◌}
use Rattle.pas_profile.specs.{Directories.deed_word_of, declared.{directory.Directory.Directory, word.Word.Word}}
use Rattle.pas_steps.specs.{Desks.made, Views.{View, known_deed, KnowsDeed}, declared.step.Step.TheVariants.{Look, Deed}}
use Rattle.pas_rights.{specs.Leaves.MayLeave, proofs.Orders.same_page}

-- a deed that the page hadn't gives the right
pub deed_gives : (p : ℕ) (d : Directory) (a : ℕ) (v : View) → a ≡ 0 → MayLeave p d (made (Deed p d) a ∷ v)
deed_gives p d a v e = search (arith, same_page)

-- a deed word that is read is known
pub look_reads : (p a : ℕ) (v : View) → known_deed (made (Look (Word.Deed p)) a ∷ v) p ≡ a
look_reads p a v = ap (λ t. if t then a else known_deed v p) (same_page p)

-- A look at a deed word that reads as a directory's tells that the page is of it.
pub look_tells : (p : ℕ) (d : Directory) (a : ℕ) (v : View) → a ≡ deed_word_of d → KnowsDeed p d (made (Look (Word.Deed p)) a ∷ v)
look_tells p d a v e = look_reads p a v ∙ e
