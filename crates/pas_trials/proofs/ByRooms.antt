-- Ends of one name by rooms, one after the other, over any desk.
use Rattle.std.proofs.Common.{◌≡◌, ℕ, ◌+◌, ◌%◌, ◌≤◌, List, [], ◌∷◌, ◌++◌, length, refl, arith}
use Rattle.pas_profile.specs.{Profiles.IsValid, declared.{name.Name.Name, profile.Profile.Profile, word.Word.Word}}
use Rattle.pas_steps.specs.{Allowed.{IsStepOf, IsEpochKnown}, Events.{event_of, events_by}, Views.{View, known_epoch, epoch_of}, Desks.{Standing, made, Makes}}
use Rattle.pas_steps.{specs.{Desks.{CanMake, CanCall, AnyView, Adds}, declared.step.{Made.Made, Step.TheVariants.{Look, EndSized}}}, proofs.Adding.adds_none}
use Rattle.pas_steps.proofs.{Adding.{adds_step, can_step}, Frames.with_few, SpareRoom.{Spares, spare_falls}}

abbrev pub name : Name
name = record { address = record { 0 = 4096 }; turn = 0 }

-- steps were made, with at most so many events, after which the epoch is known
pub record ReadsOn (desk desk' : Standing) (n : ℕ) : Type 0 where
  pub steps : List Made
  pub adds : Adds desk desk' AnyView steps
  pub knows : (v : View) → IsEpochKnown (known_epoch (steps ++ v))
  pub few : (k : ℕ) (v : View) → length (events_by k v steps) ≤ n

-- After a look at the epoch it is known, and no event was made.
pub reads : {σ σ' : Standing} {a : ℕ} → Makes σ σ' (Look Word.Epoch) a → ReadsOn σ σ' 0
reads {a = a} makes = record { steps = made (Look Word.Epoch) a ∷ []; adds = adds_step adds_none makes (λ v l stood met. tt); knows = λ v. tt; few = λ k v. omega arith }

-- One end by room more makes at most one event more, and leaves the epoch known.
pub ends : {σ σ1 σ2 : Standing} {n room a : ℕ} → ReadsOn σ σ1 n → Makes σ1 σ2 (EndSized name room) a → ReadsOn σ σ2 (n + 1)
ends {room = room} {a = a} r makes = record {
  steps = made (EndSized name room) a ∷ r.steps;
  adds = adds_step r.adds makes (λ v l stood met. r.knows v);
  knows = λ v. r.knows v;
  few = λ k v. let more = with_few (event_of k (epoch_of (r.steps ++ v)) (EndSized name room) a) (events_by k v r.steps) in let few = r.few k v in omega (arith, more, few);
}

-- A room of whole grains of a block of the region is one that an end may name.
pub of_region : (f : Profile) (room : ℕ) → IsValid f → 16 ≤ room → room ≤ 4096 → room % 16 ≡ 0 → IsStepOf f (EndSized name room)
of_region f room valid low high whole = (((omega arith, omega (arith, valid.some_page)), refl, omega arith, omega (arith, low), omega (arith, high, valid.some_page)), whole)

-- Once the epoch is known, an end by room may be made.
pub may_end : {σ σ1 : Standing} {n room : ℕ} → ReadsOn σ σ1 n → CanCall σ AnyView → IsStepOf σ.seat.profile (EndSized name room)
    → CanMake σ1 (EndSized name room)
may_end r call of = can_step r.adds call of (λ v l stood met. r.knows v)

-- After ends by room there is room for the event of one more.
pub has_room : {σ σ1 : Standing} {n : ℕ} → ReadsOn σ σ1 n → CanCall σ AnyView → (spare spare' : ℕ) → Spares σ spare → Spares σ1 spare' → n + 1 ≤ spare
    → 1 ≤ spare'
has_room {σ} r call spare spare' law law' wide =
    let falls = spare_falls spare spare' (length (events_by σ.seat.actor call.view r.steps)) r.adds call law law' refl in
    search arith
