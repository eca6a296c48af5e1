-- A thread of a phase with its keeper, before its acts and after them.
use Rattle.std.specs.{Prelude.{ℕ, ◌+◌, ◌<◌, ◌≤◌, ◌≡◌, ◌≢◌, ◌==◌, ◌⊎◌, List, [], ◌∷◌, ◌++◌, length, Option, None, Some}, List.AllByRecursion}
use Rattle.pas_profile.specs.declared.{name.Block.Block, profile.Profile.Profile}
use Rattle.pas_steps.specs.{Desks.Standing, Lists.part, Views.View}
use Rattle.pas_trace.specs.{Acts.{Act, Guards, Settles, act_kept}, Asked.{request_in, keeper_in}, declared.{item.Request.Request, plan.Op.Op}}
use Rattle.pas_records.specs.{Rooms.{records_in, room_of}, declared.record.Record.Record}
use Rattle.pas_guard.specs.Books.{guards_in, size_of_book}
use Rattle.pas_answers.specs.{Answers.{Named, Progress}, Calls.owed_events, Fit.own_costs_of, Keeping.owed_by_keeper, Reaching.Reaches, Ways.is_of}
use Rattle.pas_answers.specs.Ways.{records_by}
use Rattle.pas_acts.specs.{AtDesks.{Here, MayOperate}, Turns.RestsAt, Works.{Later, Keeps, ThreadAt}, Keepers.{LaterKept, and_try, KeeperAt, Keeping, NoKeeper}}
use Rattle.pas_acts.specs.{Keepers.OneKeeper, NameBooks.{requests_in, room_for, names_of, names_asked}}

-- the acts of a thread's operation
abbrev pub head_acts : Op → List Act
head_acts op = act_kept (keeper_in op.what) op ∷ (Settles op.actor ∷ [])

-- ---- what acts ask of a keeper
-- room for the guarded request that an act is, and for those of several
abbrev pub for_request : Option Request → LaterKept → LaterKept
for_request None later = later
for_request (Some r) later = and_try r.size later

abbrev pub for_guard : Act → LaterKept → LaterKept
for_guard (Guards keeper op) later = for_request (request_in op.what) later
for_guard act later = later

abbrev pub for_guards : List Act → LaterKept → LaterKept
for_guards [] later = later
for_guards (act ∷ acts) later = for_guard act (for_guards acts later)

-- each guarded request among the acts is tried by this keeper; or there is none
abbrev pub IsTriedBy : ℕ → Act → Type 0
IsTriedBy keeper (Guards k op) = k ≡ keeper
IsTriedBy keeper act = Unit {0}

abbrev pub AreTriedBy : ℕ → List Act → Type 0
AreTriedBy keeper acts = AllByRecursion (IsTriedBy keeper) acts

abbrev pub IsUnguarded : Act → Type 0
IsUnguarded (Guards k op) = ⊥
IsUnguarded act = Unit {0}

abbrev pub AreUnguarded : List Act → Type 0
AreUnguarded acts = AllByRecursion IsUnguarded acts

-- The keeper of a thread, if it has one, before these acts of the thread: it has room for the guarded requests among them, and for `later` more. A thread without a keeper
-- makes none.
abbrev pub KeeperWaits : Profile → ℕ → List Act → Keeping → LaterKept → Progress → Type 0
KeeperWaits f keeper acts NoKeeper later p = AreUnguarded acts
KeeperWaits f keeper acts (OneKeeper has) later p = AreTriedBy keeper acts × KeeperAt f keeper has (for_guards acts later) p

-- ---- an operation
-- Its thread may do it, for what the name that it frees or reallocates stands for, and the keeper, if there is one, waits for it and for the acts behind it.
pub record MayServe (f : Profile) (keeper : ℕ) (op : Op) (next : List Act) (meant : Option Block) (old : Here) (kept : Keeping) (later : Later)
    (more : LaterKept) (p : Progress) : Type 0 where
  pub may : MayOperate f op.actor op.what meant old later p
  pub apart : op.actor ≢ keeper
  pub waits : KeeperWaits f keeper (head_acts op ++ next) kept more p

-- ---- what both said
-- each of these records is of actor j or of actor k, and none is a mark
abbrev pub IsOfTwo : ℕ → ℕ → Record → Type 0
IsOfTwo j k r = ((n : ℕ) → is_of n r ≡ (j == n)) ⊎ ((n : ℕ) → is_of n r ≡ (k == n))

abbrev pub EachOfTwo : ℕ → ℕ → List Record → Type 0
EachOfTwo j k = AllByRecursion (IsOfTwo j k)

-- what the keeper said of this came to its own records
abbrev pub KeptPushed : ℕ → List Record → Keeping → Keeping → Type 0
KeptPushed keeper said NoKeeper NoKeeper = records_by keeper said ≡ []
KeptPushed keeper said NoKeeper (OneKeeper new) = ⊥
KeptPushed keeper said (OneKeeper old) NoKeeper = ⊥
KeptPushed keeper said (OneKeeper old) (OneKeeper new) = (records_in new.out ≡ records_in old.out ++ records_by keeper said) × (room_of new.out ≡ room_of old.out) × (size_of_book new.book ≡ size_of_book old.book)

-- where there is none, that actor made no step
abbrev pub KeptStill : ℕ → Keeping → Progress → Progress → Type 0
KeptStill keeper NoKeeper p q = part keeper q.list ≡ part keeper p.list
KeptStill keeper (OneKeeper has) p q = Unit {0}

-- what it still owes
abbrev pub owed_of : Profile → Keeping → View → ℕ
owed_of f NoKeeper v = 0
owed_of f (OneKeeper has) v = owed_by_keeper f (guards_in has.book) v

-- ---- acts that two actors do
-- Thread k and its keeper did these acts, and the thread rests again. The records of each came to its own. These names came to stand for something. What both owed before,
-- and the cost of the acts, pays for what they said with what they owe then.
pub record PairActs (f : Profile) (k keeper : ℕ) (acts : List Act) (came : List Named) (old new : Here) (kept kept' : Keeping) (later : Later) (more : LaterKept) (p : Progress) : Type 0 where
  pub reached : Progress
  pub reaches : Reaches f acts p reached
  pub stands : RestsAt f k new.desk new.cache new.out later reached
  pub waits : KeeperWaits f keeper [] kept' more reached
  pub said : List Record
  pub records_are : reached.records ≡ p.records ++ said
  pub pushed : records_in new.out ≡ records_in old.out ++ records_by k said
  pub room : room_of new.out ≡ room_of old.out
  pub kept_pushed : KeptPushed keeper said kept kept'
  pub still : KeptStill keeper kept p reached
  pub each : EachOfTwo k keeper said
  pub names : reached.names ≡ came ++ p.names
  pub paid : length said + (owed_events f new.cache (part k reached.list) + owed_of f kept' (part keeper reached.list))
      ≤ own_costs_of k acts + (owed_events f old.cache (part k p.list) + owed_of f kept (part keeper p.list))

-- ---- a phase
-- Thread k stands before these acts of its own, and its keeper, if it has one, waits for them.
pub record PairAt (f : Profile) (k keeper : ℕ) (acts : List Act) (desk : Standing) (has : Keeps) (kept : Keeping) (later : Later) (more : LaterKept) (p : Progress) : Type 0 where
  pub thread : ThreadAt f k acts desk has later p
  pub apart : k ≢ keeper
  pub waits : KeeperWaits f keeper acts kept more p

-- Both did these acts, and those come next. What each said came to the end of its records.
pub record PairWorks (f : Profile) (k keeper : ℕ) (acts next : List Act) (desk desk' : Standing) (has has' : Keeps) (kept kept' : Keeping) (later : Later) (more : LaterKept) (p : Progress) : Type 0 where
  pub reached : Progress
  pub reaches : Reaches f acts p reached
  pub stands : PairAt f k keeper next desk' has' kept' later more reached
  pub said : List Record
  pub records_are : reached.records ≡ p.records ++ said
  pub pushed : records_in has'.out ≡ records_in has.out ++ records_by k said
  pub room : room_of has'.out ≡ room_of has.out
  pub kept_pushed : KeptPushed keeper said kept kept'
  pub still : KeptStill keeper kept p reached
  pub each : EachOfTwo k keeper said
  pub book : has'.table.book ≡ has.table.book
  pub noted : names_of (requests_in has'.table.requests) ≡ names_of (requests_in has.table.requests) ++ names_asked acts
  pub room_noted : room_for has'.table.requests ≡ room_for has.table.requests
  pub paid : length said + (owed_events f has'.cache (part k reached.list) + owed_of f kept' (part keeper reached.list))
      ≤ own_costs_of k acts + (owed_events f has.cache (part k p.list) + owed_of f kept (part keeper p.list))

-- ---- an operation among them
-- for some profile, keeper and acts behind it the pair stands before the operation
abbrev pub MayWork : Op → Standing → Keeps → Keeping → Type 0
MayWork op desk has kept = (f : Profile) × (k : ℕ) × (next : List Act) × (later : Later) × (more : LaterKept) × (p : Progress)
    × PairAt f op.actor k (head_acts op ++ next) desk has kept later more p

-- for each of which it stood before it, it did the operation
abbrev pub DoesWork : Op → Standing → Standing → Keeps → Keeps → Keeping → Keeping → Type 0
DoesWork op desk desk' has has' kept kept' = (f : Profile) (k : ℕ) (next : List Act) (later : Later) (more : LaterKept) (p : Progress)
    → PairAt f op.actor k (head_acts op ++ next) desk has kept later more p
    → PairWorks f op.actor k (head_acts op) next desk desk' has has' kept kept' later more p
