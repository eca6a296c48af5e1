use Rattle.std.proofs.Common.{length, ap, arith, length-append}
use Rattle.pas_threads.proofs.Common.{passes_in, own_passes}
use Rattle.pas_threads.proofs.whole.+add_passes.Goals as goal

pub add_passes_of-requires : goal.add_passes_of-requires
add_passes_of-requires t c =
    let next = ap (λ ws. length (passes_in ws)) c.in-Some.ensures.cases.0 in
    omega (arith, c.requires, next, length-append (own_passes c.in-Some.worker.now) (passes_in c.in-Some.others.now))

pub add_passes-requires : goal.add_passes-requires
add_passes-requires t c =
    let is = c.in-Some.ensures.cases.0 in
    let next = ap (λ ws. length (passes_in ws)) is in
    let both = length-append (own_passes c.in-Some.worker.now) (passes_in c.in-Some.others.now) in
    (omega (arith, c.decreases, ap length is), omega (arith, next, both, c.add_passes_of.ensures.many, c.add_passes_of.ensures.places, c.requires))
