use Rattle.pas_calls.proofs.Headline.{read_plan}
use Rattle.pas_top.proofs.outcome.replayed_on_threads.Goals as goal

pub records_for-requires : goal.records_for-requires
records_for-requires g c = (c.args.bytes.items, c.requires, read_plan _ _ _ _ c.deref.ensures.value c.in-Ok.is c.read_for_threads-read.ensures)

pub returns : goal.returns
returns g c = record { plan = c.in-Ok.plan; read = read_plan _ _ _ _ c.deref.ensures.value c.in-Ok.is c.read_for_threads-read.ensures; shown = c.in_ok-state.ensures }
