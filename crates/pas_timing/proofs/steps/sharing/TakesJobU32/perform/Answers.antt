use Rattle.std.proofs.{Common.{◌≡◌, ℕ, Bool, true, false, [], refl}, lemmas.Bool.false≢true}
use Rattle.pas_profile.specs.declared.directory.Directory.{Directory}
use Rattle.pas_rights.specs.Leaves.{MayLeave}
use Rattle.pas_steps.{specs.Views.View, proofs.Called.next_call}
use Rattle.pas_shared.specs.Passes.{view_of}
use Rattle.pas_trials.specs.Trials.{MayLeaveIf}
use Rattle.pas_timing.proofs.steps.sharing.TakesJobU32.perform.Goals as goal

may_leave : (got : Bool) (page : ℕ) (d : Directory) (v : View) → got ≡ true → MayLeaveIf got page d v → MayLeave page d v
may_leave true page d v is may = may
may_leave false page d v is may = absurd (false≢true is)

pub take_often-requires-clause-can : goal.take_often-requires-clause-can
take_often-requires-clause-can c =
    next_call c.occupy.ensures.brings.calls (record { view = view_of c.args.desk.now.pass; whole = []; stood = refl; met = tt }) (λ v met b. may_leave _ _ _ _ c.if-occupy.true b)
