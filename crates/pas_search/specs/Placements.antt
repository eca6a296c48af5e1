-- Where the run of a request stands among the free grains of a page.
use Rattle.std.specs.Prelude.{ℕ, ◌+◌, ◌≤◌, ◌≡◌, true}
use Rattle.pas_bits.specs.Runs.{in_run, AreFree}
use Rattle.pas_profile.specs.declared.directory.Kind.{Kind}
use Rattle.pas_steps.specs.{Evidence.{Readings, IsAntitone}, Told.NoRun, Views.usable_by_kind}
use Rattle.pas_search.specs.{Choices.{Choice, choosing}, Serving.Rule, declared.placing.{LeastRun.LeastRun, Run.Run}}

pub record Placement : Type 1 where
  pub asked : Type 0  -- what is asked of the request
  pub kind : Kind  -- of which kind its pages are
  pub no_fit : Readings → Type 0  -- no run fits, where the grains of a page that were read as free are these
  pub Found : Type 0  -- what tells its runs apart, as the first grain where all are of one length
  pub chosen : Readings → Found → Type 0  -- this is chosen among them
  pub run : Found → Run  -- and this is its run

-- the run of so many grains from this one on
abbrev pub run_of : ℕ → ℕ → Run
run_of grains first = record { first = first; grains = grains }

-- this run is the one that is chosen
pub record IsPlaced (p : Placement) (r : Readings) (run : Run) : Type 0 where
  pub found : p.Found
  pub chosen : p.chosen r found
  pub run_is : run ≡ p.run found

-- a run that is chosen is on the page, its grains are free, and so some run fits
pub record IsFit (no_fit : Readings → Type 0) (r : Readings) (run : Run) : Type 0 where
  pub some : 1 ≤ run.grains
  pub within : run.first + run.grains ≤ 256
  pub free : AreFree r run.first run.grains
  pub fits : no_fit r → ⊥

-- what each placement is held to: on a page that is all free a run fits, and where none does, none does among fewer free grains
pub record IsPlacement (p : Placement) : Type 0 where
  pub empty : p.asked → p.no_fit (λ g. true) → ⊥
  pub fewer : IsAntitone p.no_fit
  pub is_fit : (r : Readings) (found : p.Found) → p.asked → p.chosen r found → IsFit p.no_fit r (p.run found)

-- where no such run is free nothing fits, and each grain of the pages may be covered
pub record IsLeastRun (p : Placement) (run : LeastRun) : Type 0 where
  pub unfit : (r : Readings) → NoRun r run.grains run.align → p.no_fit r
  pub usable : (g : ℕ) → usable_by_kind p.kind g ≡ true

-- just the run is chosen, by what tells it apart
abbrev pub placed : (p : Placement) → Choice p.Found
placed p = record {
  asked = p.asked;
  kind = p.kind;
  no_fit = p.no_fit;
  chosen = p.chosen;
  kept = λ found. in_run (p.run found).first (p.run found).grains;
}

-- the same choice by the run itself, and the back end that takes it
abbrev pub by_run : Placement → Choice Run
by_run p = record { asked = p.asked; kind = p.kind; no_fit = p.no_fit; chosen = IsPlaced p; kept = λ run. in_run run.first run.grains }

abbrev pub placing : Placement → Rule Run
placing p = choosing (by_run p)
