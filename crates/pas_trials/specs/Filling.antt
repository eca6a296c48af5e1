-- What refills leave behind.
use Rattle.std.specs.Prelude.{List}
use Rattle.pas_steps.specs.{Views.View, Desks.{Standing, Adds}, declared.step.Made.Made}

-- a call made some steps
pub record Steps (desk desk' : Standing) (Before : View → Type 0) : Type 0 where
  pub steps : List Made
  pub adds : Adds desk desk' Before steps
