use Rattle.pas_trials.specs.Trades.{table_of}
use Rattle.pas_trials.proofs.trading.trade_blocks.Given as goal

-- gifts are of this region
abbrev pub ghosts-both : goal.ghosts-both
ghosts-both g a = record { table = table_of a.region.now }
