-- What a worker of the shared region has in hand while it doesn't sit at the region, before and after its acts of a phase.
use Rattle.std.specs.Prelude.{ℕ, ◌+◌, ◌≡◌, List, Option, Some}
use Rattle.pas_profile.specs.declared.profile.Profile.{Profile}
use Rattle.pas_steps.specs.Desks.{Standing}
use Rattle.pas_cache.specs.Caches.{cached}
use Rattle.pas_shared.specs.{Passes.{seat_of, view_of, IsPassOf}, declared.{region.SharedRegion.SharedRegion, pass.SharedPass.SharedPass}}
use Rattle.pas_trace.specs.Acts.{Act}
use Rattle.pas_answers.specs.{Answers.Progress, Fit.costs_of}
use Rattle.pas_records.specs.Rooms.{Records}
use Rattle.pas_acts.specs.{AtDesks.HasRoomAt, NameBooks.table, Works.{Keeps, keeps, Later, ThreadAt}, declared.names.NameBook.NameBook}
use Rattle.pas_threads.specs.declared.workers.Worker.{Worker}

-- so many events and records more, beside what these acts cost
abbrev pub and_left : Profile → List Act → Later → Later
and_left f acts later = record { events = costs_of f.pages acts + later.events; records = costs_of f.pages acts + later.records }

-- a pass stands for the view of its actor, and for no other, beside any list
abbrev pub standing_of_pass : SharedPass → Standing
standing_of_pass pass = record { seat = seat_of pass; stands = λ v l. view_of pass ≡ v }

-- what the thread keeps beside its pass, in a phase with this book of names
abbrev pub kept_by : NameBook → Worker → Keeps
kept_by book worker = keeps (cached worker.cache) (table book worker.requests) worker.out

-- it has its pass, which is one of the region
pub record HasPass (region : SharedRegion) (slot : Option SharedPass) : Type 0 where
  pub pass : SharedPass
  pub present : slot ≡ Some pass
  pub of : IsPassOf region pass

-- The replay, as far as the scavenger has a hand in it, came as far as p, and these of its acts come next. It has nothing, and places for the outcomes of a
-- pass. There is room for the events and the records of these acts, and for those of `later` more.
pub record ScavengerAt (f : Profile) (acts : List Act) (desk : Standing) (places : ℕ) (out : Records) (later : Later) (p : Progress) : Type 0 where
  pub stands : HasRoomAt f desk out (and_left f acts later) p
  pub has_places : places ≡ f.pages

-- The worker of thread k has its pass, and with it stands where the replay came as far as p. These of its acts come next.
pub record WorkerAt (region : SharedRegion) (book : NameBook) (f : Profile) (k : ℕ) (acts : List Act) (worker : Worker) (later : Later) (p : Progress) : Type 0 where
  pub has : HasPass region worker.pass
  pub stands : ThreadAt f k acts (standing_of_pass has.pass) (kept_by book worker) later p

-- The worker has its pass again, and did this with it.
pub record Did (region : SharedRegion) (old new : Option SharedPass) (Does : Standing → Standing → Type 0) : Type 0 where
  pub before : HasPass region old
  pub after : HasPass region new
  pub does : Does (standing_of_pass before.pass) (standing_of_pass after.pass)
