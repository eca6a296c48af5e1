use Rattle.pas_bitfit.specs.{Allocates.{bitfit_directory, run_for}, Runs.{runs, run_at, fewer_runs}}
use Rattle.pas_search.proofs.Allocated.{run_alone}
use Rattle.pas_bitfit.proofs.laws.a_lone_request_finds_what_there_is.Goals as goal

pub returns : goal.returns
returns g c = λ heap room align answer call l of legal may.
    run_alone (runs (run_for room align)) (run_at (run_for room align)) (bitfit_directory heap) g.D.Desk.tells answer call.0 l (g.met.D.Desk.valid c.args.desk.now) of (fewer_runs (run_for room align)) legal may
