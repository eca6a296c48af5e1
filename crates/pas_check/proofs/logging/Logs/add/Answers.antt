use Rattle.std.proofs.{Common.arith, lemmas.List.get_or_read}
use Rattle.pas_check.proofs.Logs.{length_is, log_added, logs_kept}
use Rattle.pas_check.proofs.logging.Logs.add.Goals as goal

pub returns-clause-added : goal.returns-clause-added
returns-clause-added c = search (arith, log_added, length_is, get_or_read, c.index-count.ensures)

pub returns-clause-others : goal.returns-clause-others
returns-clause-others c = search (arith, logs_kept, length_is, get_or_read, c.index-count.ensures)
