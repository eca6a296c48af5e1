use Rattle.std.proofs.{Common.{refl, ◌∙◌}, lemmas.List.drop_more}
use Rattle.pas_profile.specs.declared.entry.Entry.{Entry}
use Rattle.pas_check.proofs.Stretches.{entries_amiss, entries_begin, entries_lack, entries_more}
use Rattle.pas_check.proofs.emptying.take_entries.Goals as goal

abbrev nobody : Entry
nobody = record { name = record { address = record { 0 = 0 }; turn = 0 }; room = 0 }

pub loop-entry-init : goal.loop-entry-init
loop-entry-init c = record { profile = refl; within = c.requires.within; taken = entries_begin c.requires.within }

pub returns-in_default-clause-taken : goal.returns-in_default-clause-taken
returns-in_default-clause-taken c =
    entries_lack (rw (drop_more c.args.log.now c.loop-entry.entry-index nobody c.loop-entry-test.true) at c.loop-entry.invariant.taken)
    c.next_line.ensures.count c.in_default.ensures.none

pub returns-then-not-take_entry-clause-taken : goal.returns-then-not-take_entry-clause-taken
returns-then-not-take_entry-clause-taken c =
    entries_amiss (rw (drop_more c.args.log.now c.loop-entry.entry-index nobody c.loop-entry-test.true) at c.loop-entry.invariant.taken)
    c.next_line.ensures.count c.take_entry.new.machine c.loop-entry.invariant.profile c.in-Some.ensures.some
    c.loop-entry.invariant.within c.if-not-take_entry.ensures.taken

pub loop-entry-preserved : goal.loop-entry-preserved
loop-entry-preserved c = record {
  profile = c.if-not-take_entry.ensures.profile ∙ c.loop-entry.invariant.profile;
  within = c.in-Some.ensures.within;
  taken = entries_more (rw (drop_more c.args.log.now c.loop-entry.entry-index nobody c.loop-entry-test.true) at c.loop-entry.invariant.taken)
      c.next_line.ensures.count c.take_entry.new.machine c.loop-entry.invariant.profile c.in-Some.ensures.some c.in-Some.ensures.within c.if-not-take_entry.ensures.taken;
}
