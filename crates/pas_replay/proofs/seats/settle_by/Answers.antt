use Rattle.std.proofs.Common.{rules, ◌∙◌, ap}
use Rattle.pas_replay.proofs.{Common.{cached, Indexes, with_noted}, ByActors.handed}
use Rattle.pas_replay.proofs.seats.settle_by.Goals as goal

pub returns-clause-indexes : goal.returns-clause-indexes
returns-clause-indexes c =
    let runs = (cached c.args.cache.now).noted in
    let went = handed runs c.new-plain.result c.settle.new.door c.settle.ensures.settles in
    search (rules, went.1 ∙ ap (λ (ix : Indexes). with_noted ix runs) c.new-plain.ensures.indexes, went.0 ∙ c.new-plain.ensures.same_reference)
