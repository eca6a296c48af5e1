-- Flushes, and frees into any log.
use Rattle.pas_same_text.proofs.BackActs.{flush_act, raw_act, raw_sized_act, free_act, free_sized_act}
use Rattle.pas_same_text.proofs.laws.flushes_stay_the_same.Goals as goal

pub returns-clause-flush : goal.returns-clause-flush
returns-clause-flush c = λ f line k is. flush_act f line k is

pub returns-clause-raw : goal.returns-clause-raw
returns-clause-raw c = λ f line k block is. raw_act f line k block is

pub returns-clause-raw_sized : goal.returns-clause-raw_sized
returns-clause-raw_sized c = λ f line k room block is. raw_sized_act f line k room block is

pub returns-clause-named : goal.returns-clause-named
returns-clause-named c = λ f line k name is. free_act f line k name is

pub returns-clause-named_sized : goal.returns-clause-named_sized
returns-clause-named_sized c = λ f line k name room is. free_sized_act f line k name room is
