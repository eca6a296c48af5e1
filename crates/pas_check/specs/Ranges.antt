-- Records whose numbers fit their places.
use Rattle.std.specs.Prelude.{◌^◌, ◌<◌, List, [], ◌∷◌}
use Rattle.pas_profile.specs.{Directories.IsKind, Blocks.address_of, declared.{name.{Name.Name, Block.Block}, event.{Event.Event, Why.Why}, entry.Entry.Entry}}
use Rattle.pas_records.specs.declared.record.{Said.Said, Record.Record}

pub record FitsName (name : Name) : Type 0 where
  pub address : address_of name < 2 ^ 32
  pub turn : name.turn < 2 ^ 64

pub record FitsEntry (entry : Entry) : Type 0 where
  pub name : FitsName entry.name
  pub room : entry.room < 2 ^ 32

pub record FitsBlock (block : Block) : Type 0 where
  pub name : FitsName block.name
  pub room : block.room < 2 ^ 32
  pub heap : block.heap < 2 ^ 8

abbrev pub FitsWhy : Why → Type 0
FitsWhy Why.Ended = Unit {0}
FitsWhy Why.NoBlock = Unit {0}
FitsWhy (Why.SizeDiffers room) = room < 2 ^ 32

abbrev pub FitsEvent : Event → Type 0
FitsEvent (Event.Deed k page d) = (k < 2 ^ 8) × (page < 2 ^ 32) × (d.heap < 2 ^ 8) × IsKind d.kind
FitsEvent (Event.Back k page) = (k < 2 ^ 8) × (page < 2 ^ 32)
FitsEvent (Event.Unback k page epoch) = (k < 2 ^ 8) × (page < 2 ^ 32) × (epoch < 2 ^ 64)
FitsEvent (Event.Give k block) = (k < 2 ^ 8) × FitsBlock block
FitsEvent (Event.End k name epoch) = (k < 2 ^ 8) × FitsName name × (epoch < 2 ^ 64)
FitsEvent (Event.Reject k name why) = (k < 2 ^ 8) × FitsName name × FitsWhy why

abbrev pub FitsSaid : Said → Type 0
FitsSaid (Said.NoSpace name) = name < 2 ^ 32
FitsSaid (Said.Held page name) = (page < 2 ^ 32) × (name < 2 ^ 32)
FitsSaid (Said.Outside block) = FitsName block
FitsSaid (Said.Unaligned block) = FitsName block
FitsSaid (Said.Skipped name) = name < 2 ^ 32
FitsSaid (Said.Kept block name) = FitsName block × (name < 2 ^ 32)
FitsSaid (Said.Tick epoch) = epoch < 2 ^ 64
FitsSaid (Said.Pass epoch) = epoch < 2 ^ 64
FitsSaid (Said.Bare page) = page < 2 ^ 32
FitsSaid (Said.Young page stamp) = (page < 2 ^ 32) × (stamp < 2 ^ 64)
FitsSaid (Said.InUse page word value) = (page < 2 ^ 32) × (word < 2 ^ 8) × (value < 2 ^ 64)
FitsSaid (Said.NotOffered page) = page < 2 ^ 32
FitsSaid (Said.Stopped thread) = thread < 2 ^ 8
FitsSaid (Said.Guarded low high name) = (low < 2 ^ 32) × (high < 2 ^ 32) × (name < 2 ^ 32)
FitsSaid (Said.Lowered low high) = (low < 2 ^ 32) × (high < 2 ^ 32)

abbrev pub Fits : Record → Type 0
Fits (Record.Event e) = FitsEvent e
Fits (Record.Said k said) = (k < 2 ^ 8) × FitsSaid said
Fits (Record.Phase n) = n < 2 ^ 32
Fits Record.Close = Unit {0}

abbrev pub EachFits : List Record → Type 0
EachFits [] = Unit {0}
EachFits (r ∷ rs) = Fits r × EachFits rs
