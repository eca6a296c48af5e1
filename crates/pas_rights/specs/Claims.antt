-- An actor asks for the right of an offered page.
use Rattle.std.specs.Prelude.{ℕ, ◌%◌, ◌≡◌, Bool, if◌then◌else◌, [], ◌∷◌}
use Rattle.pas_bits.specs.Bits.{has_bit}
use Rattle.pas_profile.specs.declared.directory.Directory.{Directory}
use Rattle.pas_steps.specs.{Calls.{Calls, Does, Kept, Gained, on_page}, Desks.{Standing, made}, Views.KnowsDeed, declared.step.Step.TheVariants.TakeRight}

-- The one step of a claim. It got the right exactly where the page's eligible bit was 1.
pub record Claims (page : ℕ) (directory : Directory) (desk desk' : Standing) (got : Bool) : Type 0 where
  pub answer : ℕ
  pub got_is : got ≡ has_bit answer (page % 64)
  pub calls : Calls desk desk' (KnowsDeed page directory) (Does (on_page page (if got then Gained else Kept) Kept))
      (made (TakeRight page directory) answer ∷ [])
