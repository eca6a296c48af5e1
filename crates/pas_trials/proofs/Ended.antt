-- What an actor that tried the end of a name has.
use Rattle.std.proofs.Common.{arith, ◌≡◌, ℕ, List, [], ◌++◌, Option, refl, sym, subst, IfSome, MatchOption}
use Rattle.pas_profile.specs.declared.{event.Event.Event, name.Name.Name}
use Rattle.pas_steps.{specs.{Clear.HasNothing, Desks.CanCall, Events.events_of}, proofs.Frames.events_split}
use Rattle.pas_free_log.specs.Flushes.{EndsName}
use Rattle.pas_shared.specs.{Passes.{seat_of, view_of}, declared.pass.SharedPass.SharedPass}
use Rattle.pas_trials.specs.Trades.{standing_at, HasEnded}

-- the one view of its pass has nothing
pub has_nothing : (pass : SharedPass) → CanCall (standing_at pass) HasNothing → HasNothing (view_of pass)
has_nothing pass can = subst HasNothing (sym can.stood) can.met

ended_by : (name : Name) (old new : SharedPass) → HasNothing (view_of old) → EndsName name (standing_at old) (standing_at new) → HasEnded new name
ended_by name old new none ends =
    let all = ends.flushes in
    let k : ℕ = (seat_of old).actor in
    let before : List Event = events_of k (view_of old) in
    let view : view_of new ≡ all.steps ++ view_of old = all.calls.adds.added (view_of old) [] refl none.clear in
    search (arith, events_split)

pub has_ended : (A : Type 0) (ended : Option Name) (old new : SharedPass) → CanCall (standing_at old) HasNothing
    → MatchOption ended A (λ name. EndsName name (standing_at old) (standing_at new)) → IfSome ended (HasEnded new)
has_ended A ended old new can ends = search (arith, ended_by, has_nothing)
