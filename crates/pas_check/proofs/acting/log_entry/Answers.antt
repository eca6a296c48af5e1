use Rattle.std.proofs.Common.{length, sym, leb-false}
use Rattle.pas_check.{specs.Tables.logged, proofs.Actings.{logged_added, logged_full}}
use Rattle.pas_check.proofs.acting.log_entry.Goals as goal

pub returns-then-is_full-clause-taken : goal.returns-then-is_full-clause-taken
returns-then-is_full-clause-taken c = λ f. logged_full c.args.k c.args.entry c.requires.held c.if-is_full.ensures (c.refill_log.ensures.taken f)

pub returns-clause-taken : goal.returns-clause-taken
returns-clause-taken c = λ f.
    logged_added c.args.k c.args.entry c.requires.held c.requires.within c.if-is_full.ensures c.add.new.self c.add.ensures.added c.add.ensures.others c.add.ensures.held

pub add-requires-clause-room : goal.add-requires-clause-room
add-requires-clause-room c = leb-false 64 (length (logged c.args.judge.now.logs c.args.k)) (sym c.if-is_full.ensures)
