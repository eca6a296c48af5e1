use Rattle.std.proofs.Common.{◌≡◌, List, [], ◌∷◌, ◌++◌, length, ap, ◌∙◌, arith}
use Rattle.pas_steps.proofs.Nothing.{calls_rest, can_go_on}
use Rattle.pas_profile.specs.{Entries.entry_of, declared.entry.Entry.Entry}
use Rattle.pas_free_log.proofs.AllEntries.{ends_name}
use Rattle.pas_free_log.proofs.flushing.end_one.Goals as goal

pub returns-clause-ends : goal.returns-clause-ends
returns-clause-ends g c =
    let empty : length c.new-log.result ≡ 0 = ap length c.new-log.ensures in
    let logged =
    c.add.ensures.added (c.add.ensures.room.1 (omega (arith, empty))) ∙ ap (λ (l : List Entry). l ++ entry_of c.args.name ∷ []) c.new-log.ensures in
    ends_name _ _ _ _ logged c.new-ended.ensures c.flush.ensures.flushes

pub returns-clause-rests : goal.returns-clause-rests
returns-clause-rests g c can = can_go_on (calls_rest c.flush.ensures.flushes.calls) can
