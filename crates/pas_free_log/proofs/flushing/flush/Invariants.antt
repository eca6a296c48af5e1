use Rattle.std.{proofs.Common.{◌≡◌, ℕ, ◌+◌, List, [], ◌∷◌, ◌++◌, take, map, reverse}, specs.List.flat_map}
use Rattle.pas_profile.specs.declared.word.Word.{Word}
use Rattle.pas_steps.specs.{declared.step.{Made.Made, Step.TheVariants.Look}, Views.{View, epoch_of}, Events.events_by, Calls.{nothing, Does, Calls}}
use Rattle.pas_steps.specs.{Kinds.Only, Desks.made, Clear.IsClear}
use Rattle.pas_free_log.specs.{Stamps.stamps_by, Frames.ending, Noted.AreRanges, Flushes.{Settled, shown_for, stamps_for, noted_after, EntriesSteps}}
use Rattle.pas_free_log.proofs.flushing.flush.Given as goal

-- the entries so far were settled
abbrev pub invariant-loop-entry : goal.invariant-loop-entry
invariant-loop-entry g l = let D = g.D.Desk in record {
  epoch : ℕ;
  settled : List Settled;
  entries_are : reverse (map (λ s. s.entry) settled) ≡ take l.entry-index l.entries;
  noted : l.ended.items ≡ noted_after l.fn.ended.items settled;
  ranges : AreRanges l.fn.ended.items → AreRanges l.ended.items;
  entries : List Made;
  order : EntriesSteps settled entries;
  calls : Calls (D.standing l.fn.desk) (D.standing l.desk) IsClear (Does nothing) (entries ++ made (Look Word.Epoch) epoch ∷ []);
  kinds : Only ending entries;
  events : (v : View) → epoch_of v ≡ epoch
      → events_by (D.standing l.fn.desk).seat.actor v entries ≡ map (shown_for (D.standing l.fn.desk).seat.actor epoch) settled;
  stamps : (v : View) → epoch_of v ≡ epoch → stamps_by v entries ≡ flat_map (stamps_for epoch) settled;
  spare : D.spare_of l.desk + l.entry-index ≡ D.spare_of l.fn.desk;
  home : D.home l.desk ≡ D.home l.fn.desk;
}
