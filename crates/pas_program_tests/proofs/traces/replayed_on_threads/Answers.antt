use Rattle.pas_program_tests.proofs.traces.replayed_on_threads.Goals as goal

pub records_for-requires : goal.records_for-requires
records_for-requires g c = (c.args.text.now, c.requires, c.in-Ok.ensures)

pub on_threads-state-requires-clause-plan : goal.on_threads-state-requires-clause-plan
on_threads-state-requires-clause-plan g c = λ here lives. (c.args.text.now, c.requires, c.in-Ok.ensures)
