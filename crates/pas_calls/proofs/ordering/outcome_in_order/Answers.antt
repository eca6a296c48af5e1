use Rattle.pas_calls.proofs.Headline.{read_plan}
use Rattle.pas_calls.proofs.ordering.outcome_in_order.Goals as goal

pub records_for-requires : goal.records_for-requires
records_for-requires c = (c.args.bytes.items, c.requires, read_plan _ _ _ _ c.deref.ensures.value c.in-Ok.is c.read_trace-read.ensures)

pub returns : goal.returns
returns c = record {
  plan = c.in-Ok.plan;
  read = read_plan _ _ _ _ c.deref.ensures.value c.in-Ok.is c.read_trace-read.ensures;
  shown = record { shows = c.in_ok-state.ensures; alone = λ one. c.in_ok-state.ensures };
}
