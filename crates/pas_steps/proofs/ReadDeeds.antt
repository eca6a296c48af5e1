-- The directory of a deed word that was read.
use Rattle.std.proofs.Common.{◌≡◌, ℕ, Option, Some, ap, ◌∙◌, subst}
use Rattle.pas_profile.specs.{Directories.{deed_word_of, directory_read}, Profiles.{IsValid, IsDirectoryOf}, declared.directory.Directory.Directory}
use Rattle.pas_profile.{specs.declared.profile.Profile.Profile, proofs.Codecs.{read-deed_word_of, directory_from_profile}}

-- The deed word of a page of the profile reads as its directory.
pub directory_told : (f : Profile) (deed : ℕ) (r : Option Directory) → IsValid f → r ≡ directory_read deed
    → ((d : Directory) × (deed ≡ deed_word_of d) × IsDirectoryOf f d) → (d : Directory) × (r ≡ Some d) × (deed ≡ deed_word_of d) × IsDirectoryOf f d
directory_told f deed r valid read told = (told.0, read ∙ ap directory_read told.1 ∙ read-deed_word_of _ (directory_from_profile f _ valid told.2), told.1, told.2)

-- A deed word that was read as a directory is that directory's word.
pub directory_is : (f : Profile) (deed : ℕ) (r : Option Directory) (d : Directory)
    → ((d : Directory) × (r ≡ Some d) × (deed ≡ deed_word_of d) × IsDirectoryOf f d) → r ≡ Some d → (deed ≡ deed_word_of d) × IsDirectoryOf f d
directory_is f deed r d told is = let same : told.0 ≡ d = cc in (told.2 ∙ ap deed_word_of same, subst (IsDirectoryOf f) same told.3)
