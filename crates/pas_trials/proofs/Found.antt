-- What the searches found, said of the seat in which all of them began.
use Rattle.std.proofs.Common.{◌≡◌, ℕ, ◌≤◌, Option, None, Some, MatchOption, List}
use Rattle.pas_profile.specs.declared.{directory.Directory.Directory, event.NoRoom.NoRoom, profile.Profile.Profile}
use Rattle.pas_steps.specs.{Desks.Standing, Past.Once, Evidence.DeedHere}
use Rattle.pas_scan.specs.Scan.{NoneOffered, IsFirstOffered, FindsOffered, IsFirstBare, FindsBare, IsVerdict, Judges}

-- The page that a search of offered pages found, or none, is the first one that was read so.
pub offered_found : {σ σ' : Standing} {d' : Directory} {n n' : ℕ} (o : Option ℕ) (f : Profile) (d : Directory) → σ.seat.profile ≡ f → d' ≡ d → n ≡ 1
    → (h : FindsOffered d' n σ σ' n' o)
    → MatchOption o (NoneOffered f d 1 h.steps) (IsFirstOffered f d 1 h.steps)
offered_found {σ} {σ'} {d'} {n} {n'} None f d ef ed en h =
    rw (ef, ed, en) at h.outcome.1
offered_found {σ} {σ'} {d'} {n} {n'} (Some p) f d ef ed en h =
    rw (ef, ed, en) at h.outcome.1

-- The page that a search of pages without a deed found, or none, is the first one that was read so.
pub bare_found : {σ σ' : Standing} {from : ℕ} {o : Option ℕ} (f : Profile) → σ.seat.profile ≡ f → (h : FindsBare from σ σ' o)
    → MatchOption o ((p : ℕ) → from ≤ p → p ≤ f.pages → Once (DeedHere p) h.steps) (IsFirstBare f from h.steps)
bare_found f ef h = rw ef at h.outcome

-- The verdict that was found is one of the marks and the readings.
pub verdict_found : {σ σ' : Standing} {marks : List ℕ} {d' : Directory} {answer : NoRoom} (f : Profile) (d : Directory) → σ.seat.profile ≡ f → d' ≡ d
    → (h : Judges marks d' σ σ' answer) → IsVerdict f marks d h.steps answer
verdict_found f d ef ed h = rw (ef, ed) at h.verdict
