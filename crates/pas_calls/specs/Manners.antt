-- The way in which a call replays.
use Rattle.pas_answers.specs.Ways.{Way, InOrder, OnThreads}
use Rattle.pas_telling.specs.declared.manner.Manner.{Manner}

abbrev pub way_of : Manner → Way
way_of Manner.InOrder = InOrder
way_of Manner.OnThreads = OnThreads
