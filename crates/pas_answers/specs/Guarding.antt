-- Guarded requests in a replay: what a keeper does for one, and at the close.
use Rattle.std.specs.{Prelude.{ℕ, ◌+◌, ◌-◌, ◌*◌, ◌/◌, ◌≡◌, true, false, List, [], ◌∷◌, ◌++◌, length, Option, None, Some}, List.AllByRecursion}
use Rattle.pas_profile.specs.{Blocks.address_of, declared.{name.Block.Block, profile.Profile.Profile, guard.Guard.Guard}}
use Rattle.pas_steps.specs.{Desks.triples, Events.events_by, Views.View, declared.step.Made.Made}
use Rattle.pas_trace.specs.declared.item.Request.{Request}
use Rattle.pas_records.specs.declared.record.{Record.Record, Said.Said}
use Rattle.pas_cache.specs.Serves.{IsDeedOf, pages_of}
use Rattle.pas_guard.specs.{Books.FitsBook, Raises.RaiseSteps, Sweeps.SweepSteps}
use Rattle.pas_answers.specs.Answers.{named, records_of, wanted_by, IsGiven, Progress, with_records, with_book}

-- ---- what a keeper did for a request: its steps, its records, the block that it gave, if any, and the guards that it has up then
pub record Tried : Type 0 where
  pub steps : List Made
  pub records : List Record
  pub block : Option Block
  pub guards : List Guard

-- the keeper says which pages stand beside the block of k whole pages that it gave for the name
abbrev pub said_of_guard : ℕ → ℕ → ℕ → Option Block → List Record
said_of_guard keeper name k None = []
said_of_guard keeper name k (Some block) = Record.Said keeper (Said.Guarded (address_of block.name / 4096 - 1) (address_of block.name / 4096 + k) name) ∷ []

-- It gave the block as any request is served: of the heap and the size, last, after deeds of the request's directory and backs. Or it gave none, and made deeds alone.
abbrev pub TryEnds : Profile → ℕ → Request → View → List Made → Option Block → Type 0
TryEnds f keeper r v steps None = AllByRecursion (IsDeedOf (wanted_by f r).directory) (events_by keeper v steps)
TryEnds f keeper r v steps (Some block) = IsGiven keeper (wanted_by f r) v steps block

-- how many steps that takes at most: those of a sweep over the guards that are up, and of a raise
abbrev pub try_steps : Profile → Request → List Guard → ℕ
try_steps f r guards = 25 * length guards + (71 * f.pages + 12 * pages_of (wanted_by f r) + 26)

-- .. and the whole request, where the thread makes it itself after that
abbrev pub guarded_steps : Profile → Request → List Guard → ℕ
guarded_steps f r guards = try_steps f r guards + (56 * f.pages + 60 * pages_of (wanted_by f r) + 66)

-- The keeper, who fits its book, looks at each guard that is up, and lowers those whose blocks have ended. Then it raises a guard for the request, where a search finds a
-- run for it, two pages longer than the block: it gives the block, and holds the two outer pages, which it read as not backed. It gives none only where each such run has a
-- page that it read as not usable, or that was lost or broken, or an outer page that it read as backed while it held the run whole. It says which guards it lowered, and then
-- its events and the guard that went up.
pub record IsTried (f : Profile) (keeper : ℕ) (r : Request) (v : View) (guards : List Guard) (t : Tried) : Type 0 where
  pub fits : FitsBook f guards v
  pub swept : List Made
  pub left : List Guard
  pub lowered : List Record
  pub sweep : SweepSteps f keeper false guards left lowered swept
  pub raised : List Made
  pub raise : RaiseSteps f r.heap (pages_of (wanted_by f r)) left t.guards t.block raised
  pub ends : TryEnds f keeper r (swept ++ v) raised t.block
  pub steps_are : t.steps ≡ raised ++ swept
  pub records_are : t.records ≡ lowered ++ (records_of (events_by keeper (swept ++ v) raised) ++ said_of_guard keeper r.name (pages_of (wanted_by f r)) t.block)

-- ---- how far a replay has come then
abbrev pub after_trying : Progress → ℕ → Tried → Progress
after_trying p keeper t = with_records (record p { books = with_book p.books keeper t.guards; list = triples keeper t.steps ++ p.list }) t.records

-- the name stands for the block that the keeper gave; no cache and no index has changed
abbrev pub after_giving : Progress → ℕ → Block → Progress
after_giving p name block = record p { names = named name (Some block) ∷ p.names }

-- ---- the close
-- the keeper, who fits its book, lowers all its guards, and says so
pub record IsLowered (f : Profile) (keeper : ℕ) (v : View) (guards : List Guard) (steps : List Made) (said : List Record) : Type 0 where
  pub fits : FitsBook f guards v
  pub sweep : SweepSteps f keeper true guards [] said steps

abbrev pub after_lowering : Progress → ℕ → List Made → List Record → Progress
after_lowering p keeper steps said = with_records (record p { books = with_book p.books keeper []; list = triples keeper steps ++ p.list }) said
