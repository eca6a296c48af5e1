-- What a ledger has, and what a region comes to that is closed with one.
use Rattle.std.specs.Prelude.{◌≡◌, List, []}
use Rattle.pas_profile.specs.declared.profile.Profile.{Profile}
use Rattle.pas_steps.specs.{Lists.Whole, declared.state.State.State}
use Rattle.pas_shared.specs.{Ruled.{parts_in, looks_in, seen_in, IsEarlier}, Passes.{view_of, EndsWith}, declared.rule.{Entry.Entry, Part.Part}}
use Rattle.pas_shared.specs.declared.{rule.Roster.TheVariants.Listed, region.SharedRegion.SharedRegion, pass.SharedPass.SharedPass, ledger.Ledger.Ledger}
use Rattle.pas_shared.specs.declared.ledger.Rest.{Rest}

-- the steps that stand in it, the newest first
abbrev pub so_far : Ledger → Whole
so_far ledger = seen_in ledger.seat.me.0

-- those that stood in it at each look, and in another one that it took in
abbrev pub looks_of : Ledger → List (List Entry)
looks_of ledger = looks_in ledger.seat.me.0

-- the actors that it took in, the last one first, each with its own steps
abbrev pub actors_in : Ledger → List Part
actors_in ledger = parts_in ledger.seat.me.0

-- it is of the region
abbrev pub IsLedgerOf : SharedRegion → Ledger → Type 0
IsLedgerOf region ledger = ledger.seat.table_id ≡ region.table.shared.table_id

-- it is of the same region, saw the same at its looks, and the same steps stand in it
pub record IsSameLedger (old new : Ledger) : Type 0 where
  pub table : new.seat.table_id ≡ old.seat.table_id
  pub looks : looks_of new ≡ looks_of old
  pub steps : so_far new ≡ so_far old

-- the actor of a pass, with its own steps
abbrev pub part_of : SharedPass → Part
part_of pass = record { actor = pass.place.actor; made = view_of pass }

-- this is left of the pass: all but the actor's place at the region
pub record IsRestOf (pass : SharedPass) (rest : Rest) : Type 0 where
  pub table : rest.seat.table_id ≡ pass.place.seat.table_id
  pub id : rest.seat.id ≡ pass.place.seat.id
  pub me : rest.seat.me ≡ (Listed [], [])
  pub actor : rest.actor ≡ pass.place.actor
  pub profile : rest.profile ≡ pass.profile
  pub notes : rest.notes ≡ pass.notes

-- the state has the words after one legal list, in which each pass has its own steps, and which begins with these
pub record EndsAfter (f : Profile) (first : Whole) (passes : List SharedPass) (state : State) : Type 0 where
  pub ends : EndsWith f passes state
  pub begins : IsEarlier first ends.after.whole
