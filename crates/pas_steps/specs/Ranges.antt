-- The numbers in a step fit the words that they go into.
use Rattle.std.specs.Prelude.{◌-◌, ◌/◌, ◌^◌, ◌<◌}
use Rattle.pas_profile.specs.{Directories.IsDirectory, Blocks.length_of}
use Rattle.pas_steps.specs.declared.step.Step.{Step, TheVariants.{Look, Deed, Back, Take, Put, Give, End, EndSized, TakeRight, Offer, Park, Unpark, Stamp}}
use Rattle.pas_steps.specs.declared.step.Step.TheVariants.{Hint, Tick, Unback, Unhint}

abbrev pub IsRanged : Step → Type 0
IsRanged (Look word) = Unit {0}
IsRanged (Deed page directory) = IsDirectory directory
IsRanged (Back page) = Unit {0}
IsRanged (Take page word mask) = Unit {0}
IsRanged (Put page word mask) = Unit {0}
IsRanged (Give block) = (block.name.turn < 2 ^ 40) × (length_of block < 2 ^ 23)
IsRanged (End name guess) = (name.turn < 2 ^ 40 - 1) × (guess < 2 ^ 23)
IsRanged (EndSized name room) = (name.turn < 2 ^ 40 - 1) × (room / 16 < 2 ^ 23)
IsRanged (TakeRight page directory) = IsDirectory directory
IsRanged (Offer page directory) = IsDirectory directory
IsRanged (Park page) = Unit {0}
IsRanged (Unpark page) = Unit {0}
IsRanged (Stamp page) = Unit {0}
IsRanged (Hint page) = Unit {0}
IsRanged (Tick raised) = Unit {0}
IsRanged (Unback page) = Unit {0}
IsRanged (Unhint page) = Unit {0}
