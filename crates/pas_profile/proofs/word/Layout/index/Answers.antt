use Rattle.std.proofs.Common.{arith, subst}
use Rattle.pas_profile.{specs.{Profiles.IsWordIn, declared.word.Word.TheVariants.Eligible}, proofs.Places.index_lt}
use Rattle.pas_profile.proofs.word.Layout.index.Goals as goal

pub returns-in-Eligible-clause-within : goal.returns-in-Eligible-clause-within
returns-in-Eligible-clause-within c =
    search (arith, index_lt)
