use Rattle.std.proofs.Common.{subst}
use Rattle.pas_answers.proofs.{Common.{Whole, part, Legal, MakesCalls, region_of}, Reached.is_keeper}
use Rattle.pas_answers.proofs.laws.guards_stay_bare.Goals as goal

pub returns : goal.returns
returns c = λ way plan whole records keeper guard later newer older give valid is lt same gives none.
    let f = region_of plan in
    let legal = subst (Legal f) same is.legal in
    let calls = is.keepers keeper lt in
    let made = subst (λ (l : Whole). MakesCalls f keeper calls.0 calls.1 (part keeper l)) same calls.2 in
    c.outer_pages_stay_bare.ensures.given f keeper guard later newer older give valid legal (is_keeper f keeper later newer older give calls.0 calls.1 valid legal gives.own made) gives none
