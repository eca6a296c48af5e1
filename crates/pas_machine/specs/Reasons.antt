-- Why an event may not come next: eleven reasons, and to which events each applies. They are said apart from what may come next (`Admits`);
-- that the two agree is a law.
use Rattle.std.specs.Prelude.{ℕ, ◌+◌, ◌/◌, ◌%◌, ◌<◌, ◌≤◌, ◌≡◌, ◌≢◌, ◌⊎◌, true, false, List, Option, None, Some}
use Rattle.pas_profile.specs.{declared.{profile.Profile.Profile, directory.Directory.Directory, name.Block.Block, event.Event.Event}, Blocks.address_of}
use Rattle.pas_profile.specs.Blocks.{grain_of, length_of}
use Rattle.pas_bits.specs.Runs.{in_run}
use Rattle.pas_machine.specs.{State.{Live, deed_in, backed_in, live_in, gives_in, epoch_in, touches}, Machine.{IsLive, IsReason}}
use Rattle.pas_machine.specs.declared.fault.Illegal.{Illegal}

-- the order of the reasons
abbrev pub reason_number : Illegal → ℕ
reason_number Illegal.BadPage = 1
reason_number Illegal.BadHeap = 2
reason_number Illegal.DeedTwice = 3
reason_number Illegal.NoDeed = 4
reason_number Illegal.BackedTwice = 5
reason_number Illegal.NotBacked = 6
reason_number Illegal.LivesThere = 7
reason_number Illegal.TooYoung = 8
reason_number Illegal.WrongTurn = 9
reason_number Illegal.NotLive = 10
reason_number Illegal.WrongReason = 11

-- ---- places
-- the page isn't one of the region, whose pages are 1 to P
abbrev pub IsOutside : Profile → ℕ → Type 0
IsOutside f page = (page < 1) ⊎ (f.pages < page)

-- the address is of no page of the region, or no multiple of 16
abbrev pub IsNoPlace : Profile → ℕ → Type 0
IsNoPlace f address = IsOutside f (address / 4096) ⊎ (address % 16 ≢ 0)

-- a grain of the block
abbrev pub IsGrainOf : Block → ℕ → Type 0
IsGrainOf block x = in_run (grain_of block.name) (length_of block) x ≡ true

-- the block isn't of whole grains, or has none
abbrev pub IsBroken : Block → Type 0
IsBroken block = (address_of block.name % 16 ≢ 0) ⊎ (block.room ≡ 0) ⊎ (block.room % 16 ≢ 0)

-- the block isn't of whole grains, has none, or has one that is outside
abbrev pub IsNoRun : Profile → Block → Type 0
IsNoRun f block = IsBroken block ⊎ ((x : ℕ) × IsGrainOf block x × IsOutside f (x / 256))

-- ---- to which events each reason applies, where these events came before
abbrev pub IsBadPage : Profile → Event → Type 0
IsBadPage f (Event.Deed k page d) = IsOutside f page
IsBadPage f (Event.Back k page) = IsOutside f page
IsBadPage f (Event.Unback k page epoch) = IsOutside f page
IsBadPage f (Event.Give k block) = IsNoRun f block
IsBadPage f (Event.End k name epoch) = IsNoPlace f (address_of name)
IsBadPage f (Event.Reject k name why) = IsNoPlace f (address_of name)

abbrev pub IsBadHeap : Profile → Event → Type 0
IsBadHeap f (Event.Deed k page d) = f.heaps ≤ d.heap
IsBadHeap f (Event.Back k page) = ⊥
IsBadHeap f (Event.Unback k page epoch) = ⊥
IsBadHeap f (Event.Give k block) = f.heaps ≤ block.heap
IsBadHeap f (Event.End k name epoch) = ⊥
IsBadHeap f (Event.Reject k name why) = ⊥

abbrev pub IsDeedTwice : List Event → Event → Type 0
IsDeedTwice es (Event.Deed k page d) = deed_in es page ≢ None
IsDeedTwice es (Event.Back k page) = ⊥
IsDeedTwice es (Event.Unback k page epoch) = ⊥
IsDeedTwice es (Event.Give k block) = ⊥
IsDeedTwice es (Event.End k name epoch) = ⊥
IsDeedTwice es (Event.Reject k name why) = ⊥

-- the page has a deed of the heap
abbrev pub HasDeedOf : List Event → ℕ → ℕ → Type 0
HasDeedOf es heap page = (d : Directory) × (deed_in es page ≡ Some d) × (d.heap ≡ heap)

abbrev pub IsNoDeed : List Event → Event → Type 0
IsNoDeed es (Event.Deed k page d) = ⊥
IsNoDeed es (Event.Back k page) = deed_in es page ≡ None
IsNoDeed es (Event.Unback k page epoch) = ⊥
IsNoDeed es (Event.Give k block) = (x : ℕ) × IsGrainOf block x × (HasDeedOf es block.heap (x / 256) → ⊥)
IsNoDeed es (Event.End k name epoch) = ⊥
IsNoDeed es (Event.Reject k name why) = ⊥

abbrev pub IsBackedTwice : List Event → Event → Type 0
IsBackedTwice es (Event.Deed k page d) = ⊥
IsBackedTwice es (Event.Back k page) = backed_in es page ≡ true
IsBackedTwice es (Event.Unback k page epoch) = ⊥
IsBackedTwice es (Event.Give k block) = ⊥
IsBackedTwice es (Event.End k name epoch) = ⊥
IsBackedTwice es (Event.Reject k name why) = ⊥

abbrev pub IsNotBacked : List Event → Event → Type 0
IsNotBacked es (Event.Deed k page d) = ⊥
IsNotBacked es (Event.Back k page) = ⊥
IsNotBacked es (Event.Unback k page epoch) = backed_in es page ≡ false
IsNotBacked es (Event.Give k block) = (x : ℕ) × IsGrainOf block x × (backed_in es (x / 256) ≡ false)
IsNotBacked es (Event.End k name epoch) = ⊥
IsNotBacked es (Event.Reject k name why) = ⊥

-- a live block has the grain
pub record Covers (es : List Event) (x : ℕ) : Type 0 where
  pub address : ℕ
  pub live : Live
  pub lives : live_in es address ≡ Some live
  pub has : in_run (address / 16) (length_of live.block) x ≡ true

abbrev pub IsLivesThere : List Event → Event → Type 0
IsLivesThere es (Event.Deed k page d) = ⊥
IsLivesThere es (Event.Back k page) = ⊥
IsLivesThere es (Event.Unback k page epoch) = (address : ℕ) × (touches (live_in es address) page ≡ true)
IsLivesThere es (Event.Give k block) = (x : ℕ) × IsGrainOf block x × Covers es x
IsLivesThere es (Event.End k name epoch) = ⊥
IsLivesThere es (Event.Reject k name why) = ⊥

abbrev pub IsTooYoung : Profile → List Event → Event → Type 0
IsTooYoung f es (Event.Deed k page d) = ⊥
IsTooYoung f es (Event.Back k page) = ⊥
IsTooYoung f es (Event.Unback k page epoch) = epoch < epoch_in es page + f.age
IsTooYoung f es (Event.Give k block) = ⊥
IsTooYoung f es (Event.End k name epoch) = ⊥
IsTooYoung f es (Event.Reject k name why) = ⊥

abbrev pub IsWrongTurn : List Event → Event → Type 0
IsWrongTurn es (Event.Deed k page d) = ⊥
IsWrongTurn es (Event.Back k page) = ⊥
IsWrongTurn es (Event.Unback k page epoch) = ⊥
IsWrongTurn es (Event.Give k block) = block.name.turn ≢ gives_in es (address_of block.name)
IsWrongTurn es (Event.End k name epoch) = ⊥
IsWrongTurn es (Event.Reject k name why) = ⊥

abbrev pub IsNotLive : List Event → Event → Type 0
IsNotLive es (Event.Deed k page d) = ⊥
IsNotLive es (Event.Back k page) = ⊥
IsNotLive es (Event.Unback k page epoch) = ⊥
IsNotLive es (Event.Give k block) = ⊥
IsNotLive es (Event.End k name epoch) = IsLive es name → ⊥
IsNotLive es (Event.Reject k name why) = ⊥

abbrev pub IsWrongReason : List Event → Event → Type 0
IsWrongReason es (Event.Deed k page d) = ⊥
IsWrongReason es (Event.Back k page) = ⊥
IsWrongReason es (Event.Unback k page epoch) = ⊥
IsWrongReason es (Event.Give k block) = ⊥
IsWrongReason es (Event.End k name epoch) = ⊥
IsWrongReason es (Event.Reject k name why) = IsReason es name why → ⊥

abbrev pub Applies : Profile → List Event → Event → Illegal → Type 0
Applies f es e Illegal.BadPage = IsBadPage f e
Applies f es e Illegal.BadHeap = IsBadHeap f e
Applies f es e Illegal.DeedTwice = IsDeedTwice es e
Applies f es e Illegal.NoDeed = IsNoDeed es e
Applies f es e Illegal.BackedTwice = IsBackedTwice es e
Applies f es e Illegal.NotBacked = IsNotBacked es e
Applies f es e Illegal.LivesThere = IsLivesThere es e
Applies f es e Illegal.TooYoung = IsTooYoung f es e
Applies f es e Illegal.WrongTurn = IsWrongTurn es e
Applies f es e Illegal.NotLive = IsNotLive es e
Applies f es e Illegal.WrongReason = IsWrongReason es e

-- the first reason in their order that applies
pub record IsFirst (f : Profile) (es : List Event) (e : Event) (reason : Illegal) : Type 0 where
  pub applies : Applies f es e reason
  pub others : (other : Illegal) → reason_number other < reason_number reason → Applies f es e other → ⊥

-- what the machine has to say of an event: nothing exactly where no reason applies, or else the first reason
abbrev pub IsVerdict : Profile → List Event → Event → Option Illegal → Type 0
IsVerdict f es e None = (reason : Illegal) → Applies f es e reason → ⊥
IsVerdict f es e (Some reason) = IsFirst f es e reason
