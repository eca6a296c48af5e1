use Rattle.std.proofs.Common.{◌≡◌, ◌*◌, rules, refl, arith, subst, slice_index}
use Rattle.pas_bits.{specs.Masks.AreClear, proofs.Masks.{lowest_from, lowest_is, none_left}}
use Rattle.pas_bits.proofs.mask.Mask4.first_set_from.Goals as goal

pub overflow_cast-result-then-rest-ne0 : goal.overflow_cast-result-then-rest-ne0
overflow_cast-result-then-rest-ne0 c =
    search (arith, lowest_from, rules)

pub returns-then-rest-ne0 : goal.returns-then-rest-ne0
returns-then-rest-ne0 c =
    search (arith, lowest_is, rules)

pub loop-word-preserved : goal.loop-word-preserved
loop-word-preserved c = search (arith, none_left)

-- no word was left, and none had a bit from there on
pub returns : goal.returns
returns c =
    search arith
