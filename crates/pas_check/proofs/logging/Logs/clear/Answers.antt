use Rattle.pas_check.proofs.Logs.{clear_kept, log_cleared}
use Rattle.pas_check.proofs.logging.Logs.clear.Goals as goal

pub returns-clause-cleared : goal.returns-clause-cleared
returns-clause-cleared c = log_cleared c.args.self.now.entries.items c.args.self.now.counts.items c.args.k c.requires

pub returns-clause-others : goal.returns-clause-others
returns-clause-others c = clear_kept c.args.self.now.entries.items c.args.self.now.counts.items c.args.k
