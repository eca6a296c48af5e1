-- What an actor that has nothing may ask, and what a request leaves for the next one.
use Rattle.std.proofs.Common.{ℕ, ◌+◌, ◌≤◌, ◌++◌, length, Bool, Result, refl, ◌∙◌, arith}
use Rattle.pas_profile.specs.{Profiles.{IsDirectoryOf, IsValid}, declared.{directory.{Directory.Directory, Kind.TheVariants.Bitfit}, event.NoRoom.NoRoom}}
use Rattle.pas_profile.specs.declared.{name.Block.Block, profile.Profile.Profile}
use Rattle.pas_steps.specs.{Agreement.Agreed, Clear.HasNothing, Desks.{Standing, CanCall}, Events.events_by, Views.View, Calls.{Lost, Does}}
use Rattle.pas_steps.proofs.{Adding.{adds_under, agreed_later}, Nothing.{can_go_on, nothing_still}, SpareRoom.{Spares, spare_falls}}
use Rattle.pas_search.specs.{Searches.{MaySearch, SearchRoom}, Serving.right_of, Allocates.AllocatesRun, Choices.Choice, declared.placing.Run.Run}
use Rattle.pas_search.proofs.ForBackEnds.{events_quiet}

-- ---- before a request
-- an actor that has nothing may ask where there is room for three events, whatever is known of the pages
-- three events leave room for two and one more
pub can_ask : {σ : Standing} {spare : ℕ} (d : Directory) → 3 ≤ spare → CanCall σ HasNothing → CanCall σ (SearchRoom σ.seat.profile d 2 spare)
can_ask d room can = search arith

-- each region has bit-fit pages of heap 0
pub bitfit_of_first : (f : Profile) → IsValid f → IsDirectoryOf f (record { heap = 0; kind = Bitfit })
bitfit_of_first f valid = record { heap = omega (arith, valid.some_heap); kind = tt; class = tt }

-- ---- what is left
nothing_left : (page : ℕ) (v w : View) → HasNothing v → Does (right_of page Lost) v w → HasNothing w
nothing_left page v w none does = record {
  grains = λ g. does.held g ∙ none.grains g;
  rights = λ q. does.right q ∙ (search arith);
  clear = record { on = λ q. does.clear q (none.clear.on q) };
}

module _ {Found : Type 0} {σ σ' : Standing} {tells : Bool} {choice : Choice Found} {run : Found → Run} (d : Directory) where
  -- After the request an actor that had nothing has nothing.
  leads : (answer : Result Block NoRoom) (asks : AllocatesRun choice run d tells σ σ' answer) (v : View) → HasNothing v
      → Agreed σ.seat.profile v (asks.after ++ asks.searched) → HasNothing ((asks.after ++ asks.searched) ++ v)
  leads answer asks v none agreed = search (arith, nothing_left, nothing_still)

  -- the actor has nothing again, and may go on
  pub can_ask_again : (answer : Result Block NoRoom) → AllocatesRun choice run d tells σ σ' answer → CanCall σ HasNothing → CanCall σ' HasNothing
  can_ask_again answer asks can = can_go_on (record {
    adds = adds_under asks.adds (λ v l stood none. (record { rights = λ p of. none.rights p; clear = none.clear }));
    leads = record { from = λ v none agreed. leads answer asks v none agreed };
  }) can

  -- it made at most three events
  pub room_left : (answer : Result Block NoRoom) (spare spare' : ℕ) → AllocatesRun choice run d tells σ σ' answer → CanCall σ (MaySearch d)
      → Spares σ spare → Spares σ' spare' → spare ≤ spare' + 3
  room_left answer spare spare' asks can old new =
      let most : length (events_by σ.seat.actor can.view (asks.after ++ asks.searched)) ≤ 3 = search (arith, agreed_later, events_quiet) in
      let made = length (events_by σ.seat.actor can.view (asks.after ++ asks.searched)) in
      omega (arith, most, spare_falls {C = MaySearch d} spare spare' made asks.adds can old new refl)
