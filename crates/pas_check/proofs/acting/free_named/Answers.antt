use Rattle.std.proofs.Common.{Some}
use Rattle.pas_check.proofs.Actings.{named_as, refused_freed, unasked_freed}
use Rattle.pas_check.proofs.acting.free_named.Goals as goal

pub returns-in-None-clause-taken : goal.returns-in-None-clause-taken
returns-in-None-clause-taken c = λ f act frees. unasked_freed act c.args.k c.args.name c.args.room frees c.requires.within c.in-None.ensures.meant

pub returns-in-Some-None-clause-taken : goal.returns-in-Some-None-clause-taken
returns-in-Some-None-clause-taken c = λ f act frees.
    refused_freed act c.args.k c.args.name c.args.room frees c.requires.within (rw c.in-Some-None.field-0-is at c.in-Some-None.ensures.meant) c.take_record.ensures.led

pub returns-in-Some-Some-clause-taken : goal.returns-in-Some-Some-clause-taken
returns-in-Some-Some-clause-taken c = λ f act frees.
    c.free_entry.ensures.taken f act
    (named_as act c.args.k c.args.name c.args.room frees (Some (Some c.in-Some-Some.block)) (rw c.in-Some-Some.field-0-is at c.in-Some-Some.ensures.meant))
