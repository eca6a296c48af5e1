-- A lone search for a run.
use Rattle.std.proofs.Common.{refl}
use Rattle.pas_same_text.proofs.Common.{lends_none, finding, lowest_alone}
use Rattle.pas_same_text.proofs.laws.lone_searches_find_the_lowest_run.Goals as goal

pub returns : goal.returns
returns c = λ f k l d n first steps of met legal kinds due found.
    lowest_alone f k l d n of.kind met first steps (record { legal = legal; lends_none = lends_none finding refl steps kinds; returns = due }) found
