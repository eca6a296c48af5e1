-- How the content of a cache changes, over the steps of a call, the newest first.
use Rattle.std.specs.Prelude.{ℕ, ◌+◌, ◌*◌, ◌≤◌, ◌≡◌, ◌==◌, nat_le, Bool, true, false, not, ◌&&◌, List, [], ◌∷◌, ◌++◌, length, map, reverse, Option, None, Some}
use Rattle.std.specs.List.{flat_map}
use Rattle.pas_profile.specs.{Classes.class_size, Lives.turn_of, Blocks.address_of, declared.{name.Block.Block, word.Word.Word, entry.Entry.Entry}}
use Rattle.pas_bits.specs.Masks.{is_set, IsLowestSet, IsEmpty}
use Rattle.pas_steps.specs.{Views.View, Events.events_by, Desks.made, declared.step.{Made.Made, Step.TheVariants.{Look, Give}}}
use Rattle.pas_free_log.specs.{declared.noting.EndedRun.EndedRun, Stamps.stamps_by, Flushes.{Settled, EntriesSteps, shown_for, stamps_for, noted_after}}
use Rattle.pas_segregated.specs.{Stops.{home_of, LeavesWhere, StopStepsAt}, declared.slots.Slots.Slots}
use Rattle.pas_cache.specs.Locals.{local_for, others_than}

-- ---- a slot is given
-- the same slots but for the one that begins at this grain of the page
pub record IsWithoutSlot (slots slots' : Slots) (start : ℕ) : Type 0 where
  pub page : slots'.page ≡ slots.page
  pub heap : slots'.heap ≡ slots.heap
  pub class : slots'.class ≡ slots.class
  pub right : slots'.right ≡ slots.right
  pub starts : (g : ℕ) → is_set slots'.starts g ≡ (not (g == start) && is_set slots.starts g)

-- The lowest slot is given in two steps: a look at the life word of its first grain, and the give with the turn that this shows. The block has
-- the slot's bytes.
pub record GivesSlot (slots slots' : Slots) (block : Block) (steps : List Made) : Type 0 where
  pub start : ℕ
  pub lowest : IsLowestSet slots.starts 0 start
  pub rest : IsWithoutSlot slots slots' start
  pub word : ℕ
  pub answer : ℕ
  pub address : address_of block.name ≡ slots.page * 4096 + start * 16
  pub turn : block.name.turn ≡ turn_of word
  pub room : block.room ≡ class_size slots.class
  pub heap : block.heap ≡ slots.heap
  pub steps_are : steps ≡ made (Give block) answer ∷ made (Look (Word.Life slots.page start)) word ∷ []

-- ---- local allocators go
-- one without a slot is left, where it keeps the right of its page
abbrev pub LeavesSpent : Option Slots → List Made → Type 0
LeavesSpent None steps = steps ≡ []
LeavesSpent (Some slots) steps = IsEmpty slots.starts × LeavesWhere slots.right slots.page (home_of slots) steps

-- it is stopped, by at most 23 steps
pub record StopsOne (slots : Slots) (steps : List Made) : Type 0 where
  pub order : StopStepsAt (home_of slots) slots steps
  pub few : length steps ≤ 23

-- the local allocator of the heap and the class, which has no slot, is taken out, where there is one
pub record IsTakenOut (heap class : ℕ) (locals locals' : List Slots) (steps : List Made) : Type 0 where
  pub left : LeavesSpent (local_for heap class locals) steps
  pub others : locals' ≡ others_than heap class locals
  pub few : length steps ≤ 23

-- the first is stopped where the list is full
abbrev pub StopsFirst : Bool → List Slots → List Slots → List Made → Type 0
StopsFirst full [] locals' steps = (locals' ≡ []) × (steps ≡ [])
StopsFirst true (oldest ∷ rest) locals' steps = (locals' ≡ rest) × StopStepsAt (home_of oldest) oldest steps
StopsFirst false (oldest ∷ rest) locals' steps = (locals' ≡ oldest ∷ rest) × (steps ≡ [])

-- where 32 are there, the one used longest ago is stopped
pub record IsShortened (locals locals' : List Slots) (steps : List Made) : Type 0 where
  pub first : StopsFirst (nat_le 32 (length locals)) locals locals' steps
  pub few : length steps ≤ 23

-- all are stopped, the last one first
abbrev pub StopsAll : List Slots → List Made → Type 0
StopsAll [] steps = steps ≡ []
StopsAll (slots ∷ rest) steps = (piece : List Made) × (before : List Made) × StopStepsAt (home_of slots) slots piece × StopsAll rest before × (steps ≡ piece ++ before)

-- .. by at most 23 steps each
pub record StopsEach (locals : List Slots) (steps : List Made) : Type 0 where
  pub order : StopsAll locals steps
  pub few : length steps ≤ 23 * length locals

-- ---- the log is emptied
-- A look at the epoch, and then the steps for each of these entries in order. Each makes one event, with exactly its name and the epoch that was
-- read; each page of each block that ended is stamped once with it, and no other page. `settled` has what came of each, the newest first.
-- The runs of the large blocks that ended are noted in order behind the others, as far as 64 have room.
-- There are at most three steps for each entry, and fourteen for each page that is stamped.
pub record EmptiesLog (actor : ℕ) (logged : List Entry) (noted noted' : List EndedRun) (steps : List Made) : Type 0 where
  pub epoch : ℕ
  pub settled : List Settled
  pub entries_are : reverse (map (λ s. s.entry) settled) ≡ logged
  pub noted_are : noted' ≡ noted_after noted settled
  pub entries : List Made
  pub order : EntriesSteps settled entries
  pub steps_are : steps ≡ entries ++ (made (Look Word.Epoch) epoch ∷ [])
  pub events : (v : View) → events_by actor v steps ≡ map (shown_for actor epoch) settled
  pub stamps : (v : View) → stamps_by v steps ≡ flat_map (stamps_for epoch) settled
  pub few : length steps ≤ 1 + 3 * length logged + 14 * length (flat_map (stamps_for epoch) settled)

-- before a name is added: a full log is emptied, and another isn't touched
abbrev pub EmptiesFull : Bool → ℕ → List Entry → List Entry → List EndedRun → List EndedRun → List Made → Type 0
EmptiesFull true actor log log' noted noted' steps = EmptiesLog actor log noted noted' steps × (log' ≡ [])
EmptiesFull false actor log log' noted noted' steps = (steps ≡ []) × (log' ≡ log) × (noted' ≡ noted)

-- the entry is logged at the end, after a full log was emptied
pub record LogsEntry (actor : ℕ) (log log' : List Entry) (noted noted' : List EndedRun) (entry : Entry) (steps : List Made) : Type 0 where
  pub kept : List Entry
  pub emptied : EmptiesFull (nat_le 64 (length log)) actor log kept noted noted' steps
  pub log_is : log' ≡ kept ++ entry ∷ []
