use Rattle.std.proofs.Common.{refl}
use Rattle.pas_bitfit.proofs.Asked.{is_wanted, answer_of_request}
use Rattle.pas_bitfit.proofs.allocating.alloc.Goals as goal

pub alloc-requires-clause-suits : goal.alloc-requires-clause-suits
alloc-requires-clause-suits g c = (is_wanted c.args.room c.args.align c.requires.room c.requires.align, refl)

pub returns-clause-allocates : goal.returns-clause-allocates
returns-clause-allocates g c = (c.alloc.ensures.allocates, answer_of_request c.args.room c.args.align c.requires.room c.requires.align c.args.heap c.alloc.result c.alloc.ensures.allocates)
