use Rattle.std.proofs.Common.{rules, ◌≡◌, ℕ, List, Some, length, ◌∙◌, arith}
use Rattle.pas_io.proofs.{Telling.{all_of_it, has_read_grown, read_out, whole_input}, whole.read_all.Goals.then-loop-taken-test+else-taken-most}
use Rattle.pas_io.proofs.whole.read_all.Goals.{else-loop-taken-test}
use Rattle.pas_io.proofs.whole.read_all.Goals as goal

pub loop-taken-preserved : goal.loop-taken-preserved
loop-taken-preserved g c =
    let size : length c.fill.new.buffer ≡ c.resize.new.self.len = omega arith in
    let full : c.loop-taken.taken ≡ length c.loop-taken.buffer.items = omega arith in
    let grown = λ (told : List ℕ) (is : g.S.Source.rest c.args.source.now ≡ Some told).
    has_read_grown _ _ _ _ _ _ c.next_size.result full (omega arith) (c.deref_mut.ensures.value ∙ c.in-Ok.ensures.items) (c.loop-taken.invariant.told _ is) in
    rw (all_of_it c.fill.new.buffer c.resize.new.self.items c.resize.new.self.len size) (record {
      within = search rules;
      short = search rules;
      told = λ told is. c.in-Ok-fill.ensures.reads told (grown told is);
      all = λ less told is. c.in-Ok-fill.ensures.all (omega arith) told (grown told is);
      reach = λ is all. c.in-Ok-fill.ensures.goes (omega arith) (c.loop-taken.invariant.reach is full);
      ends = λ is less. c.in-Ok-fill.ensures.ends (omega arith) (c.loop-taken.invariant.reach is full);
      count = c.in-Ok-fill.ensures.sound ∙ c.loop-taken.invariant.count;
    })

pub returns-in-Err-clause-takes : goal.returns-in-Err-clause-takes
returns-in-Err-clause-takes g c = λ told is.
    let full : c.loop-taken.taken ≡ length c.loop-taken.buffer.items = omega arith in
    let takes = c.fill.ensures.takes told
    (has_read_grown _ _ _ _ _ _ c.next_size.result full (omega arith) (c.deref_mut.ensures.value ∙ c.in-Ok.ensures.items) (c.loop-taken.invariant.told _ is)) in
    record { number = takes.number; within = (let w = takes.within in search rules); left = takes.left }

pub returns-in-Err-clause-stopped : goal.returns-in-Err-clause-stopped
returns-in-Err-clause-stopped g c = λ fault told is.
    let full : c.loop-taken.taken ≡ length c.loop-taken.buffer.items = omega arith in
    let takes = c.in-Err.ensures.stopped told
    (has_read_grown _ _ _ _ _ _ c.next_size.result full (omega arith) (c.deref_mut.ensures.value ∙ c.in-Ok.ensures.items) (c.loop-taken.invariant.told _ is)) in
    record { number = takes.number; within = (let w = takes.within in search rules); left = takes.left }

pub returns-clause-input : goal.returns-clause-input
returns-clause-input g c = λ told is.
    let read = c.loop-taken.invariant.told told is in
    whole_input told (g.S.Source.rest c.loop-taken.source) c.loop-taken.buffer.items c.truncate.new.self.items c.loop-taken.taken c.args.most c.truncate.ensures.items (omega arith) read
    (c.loop-taken.invariant.all (elim c.loop-taken-test.branch [
      | then-loop-taken-test+else-taken-most w ↦ absurd (omega arith)
      | else-loop-taken-test w ↦ omega arith
    ]) told is)

pub returns-clause-ended : goal.returns-clause-ended
returns-clause-ended g c = λ told is.
    read_out told (g.S.Source.rest c.loop-taken.source) c.loop-taken.buffer.items c.loop-taken.taken (c.loop-taken.invariant.told told is)
    (c.loop-taken.invariant.all (elim c.loop-taken-test.branch [
      | then-loop-taken-test+else-taken-most w ↦ absurd (omega arith)
      | else-loop-taken-test w ↦ omega arith
    ]) told is)
