-- The numbers of the reasons why something is refused.
use Rattle.std.specs.Prelude.{ℕ}
use Rattle.pas_profile.specs.declared.event.{Why.Why, NoRoom.NoRoom, FreeFault.FreeFault}

abbrev pub why_number : Why → ℕ
why_number Why.Ended = 1
why_number Why.NoBlock = 2
why_number (Why.SizeDiffers room) = 3

abbrev pub no_room_number : NoRoom → ℕ
no_room_number NoRoom.NoSpace = 1
no_room_number (NoRoom.Held page) = 2

abbrev pub fault_number : FreeFault → ℕ
fault_number FreeFault.Outside = 1
fault_number FreeFault.Unaligned = 2
