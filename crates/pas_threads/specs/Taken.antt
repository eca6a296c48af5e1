-- What the workers of a phase hand over after it.
use Rattle.std.specs.Prelude.{ℕ, ◌<◌, ◌≡◌, ◌⊎◌, true, List, [], length, get_or, Option, Some}
use Rattle.pas_profile.specs.declared.{name.Block.Block, profile.Profile.Profile}
use Rattle.pas_trace.specs.{EveryPlan.is_asked, Acts.own_acts, declared.plan.Op.Op}
use Rattle.pas_answers.specs.{Answers.{Named, standing_for}, Calls.MayStand, Names.block_named}
use Rattle.pas_acts.specs.{NameBooks.{Requests, requests_in, room_for, names_of, names_asked, AreWithin, known_in}, declared.names.NameBook.NameBook}
use Rattle.pas_threads.specs.declared.workers.Worker.{Worker}

-- the names of the worker's requests are below the limit
pub record IsWithin (limit : ℕ) (worker : Worker) : Type 0 where
  pub within : AreWithin limit (names_of (requests_in worker.requests))

-- a request of the worker has the name
abbrev pub HasRequest : Worker → ℕ → Type 0
HasRequest worker n = is_asked (names_of (requests_in worker.requests)) n ≡ true

-- What each name stands for in the book after it has taken the requests of these workers: what one of them came to that has the name; what it stood for
-- before where none has it.
abbrev pub HasTaken : NameBook → NameBook → List Worker → Type 0
HasTaken before after workers = (n : ℕ)
    → ((i : ℕ) × (i < length workers) × ((d : Worker) → HasRequest (get_or workers i d) n × (block_named after.names n ≡ known_in before (get_or workers i d).requests n)))
    ⊎ (((i : ℕ) (d : Worker) → i < length workers → HasRequest (get_or workers i d) n → ⊥) × (block_named after.names n ≡ block_named before.names n))

-- the worker's requests were taken over, and nothing else of it changed
pub record IsEmptied (old new : Worker) : Type 0 where
  pub pass : new.pass ≡ old.pass
  pub cache : new.cache ≡ old.cache
  pub out : new.out ≡ old.out
  pub keeper : new.keeper ≡ old.keeper
  pub empty : requests_in new.requests ≡ []
  pub room : room_for new.requests ≡ room_for old.requests

-- The worker of thread k made these requests, all those of its operations in the phase, and what each came to is what its name stands for.
pub record HandsOver (f : Profile) (phase : List Op) (book : NameBook) (k : ℕ) (requests : Requests) (names : List Named) : Type 0 where
  pub noted : names_of (requests_in requests) ≡ names_asked (own_acts k phase)
  pub says : (n : ℕ) → is_asked (names_of (requests_in requests)) n ≡ true
      → (block : Option Block) × (standing_for names n ≡ Some block) × (known_in book requests n ≡ block) × MayStand f block
