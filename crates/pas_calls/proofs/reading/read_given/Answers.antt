use Rattle.std.proofs.Common.{rules, arith, ◌≡◌, ◌<◌, ℕ, List, drop, length, take, length-take, ap, refl, sym, subst, ◌∙◌, ◌++◌}
use Rattle.pas_io.proofs.Telling.{all_of_it}
use Rattle.pas_trace.specs.Scripts.{IsScripting}
use Rattle.pas_calls.proofs.TextInPieces.{cut_to, filled_to, given_of, of_each, passed_on, read_nothing, read_over, read_whole, taken_by_failing}
use Rattle.pas_calls.proofs.TextInPieces.{taken_by_filling, too_many}
use Rattle.pas_calls.proofs.reading.read_given.Goals as goal

pub pieces-init : goal.pieces-init
pieces-init g c = search (arith, read_nothing)

pub returns-in-Err-clause-stops : goal.returns-in-Err-clause-stops
returns-in-Err-clause-stops g c is = c.fill.ensures.stops (c.pieces.invariant.reach is)

pub returns-in-Err-clause-takes : goal.returns-in-Err-clause-takes
returns-in-Err-clause-takes g c =
    taken_by_filling c.pieces.invariant.read (c.deref_mut.ensures.value ∙ c.truncate.ensures.items) c.pieces.invariant.few c.fill.ensures.takes

pub returns-in-Err-clause-stopped : goal.returns-in-Err-clause-stopped
returns-in-Err-clause-stopped g c fault =
    taken_by_failing c.pieces.invariant.read (c.deref_mut.ensures.value ∙ c.truncate.ensures.items) c.pieces.invariant.few c.in-Err.ensures.stopped

-- ---- too long a text
pub returns-then-taken-count-gt-MOST_BYTES-clause-given : goal.returns-then-taken-count-gt-MOST_BYTES-clause-given
returns-then-taken-count-gt-MOST_BYTES-clause-given g c =
    let r = cut_to c.pieces.invariant.read (c.deref_mut.ensures.value ∙ c.truncate.ensures.items) c.pieces.invariant.few in
    too_many (filled_to r refl c.in-Ok-fill.ensures.reads) (omega arith)

pub returns-then-taken-count-gt-MOST_BYTES-clause-takes : goal.returns-then-taken-count-gt-MOST_BYTES-clause-takes
returns-then-taken-count-gt-MOST_BYTES-clause-takes g c =
    taken_by_filling c.pieces.invariant.read (c.deref_mut.ensures.value ∙ c.truncate.ensures.items) c.pieces.invariant.few c.fill.ensures.takes

-- ---- the end of a text
pub finish-requires : goal.finish-requires
finish-requires g c =
    search (arith, length-take)

pub returns-then-count-len-clause-given : goal.returns-then-count-len-clause-given
returns-then-count-len-clause-given g c =
    let r = cut_to c.pieces.invariant.read (c.deref_mut.ensures.value ∙ c.truncate.ensures.items) c.pieces.invariant.few in
    let size : length c.fill.new.buffer ≡ c.truncate.new.self.len = search rules in
    let less : c.in-Ok-fill.count < length c.deref_mut.result.now = search rules in
    let whole = c.deref.ensures.value ∙ all_of_it c.fill.new.buffer c.truncate.new.self.items c.truncate.new.self.len size in
    let scripting = subst (λ (t : List ℕ). IsScripting (r.before ++ take c.in-Ok-fill.count t) c.finish.result) whole (c.finish.ensures r.before r.has_taken) in
    let all = read_whole r c.in-Ok-fill.ensures.reads (c.in-Ok-fill.ensures.all less) (omega arith) in
    given_of c.finish.result c.given_by.result all scripting c.given_by.ensures

pub returns-then-count-len-clause-ended : goal.returns-then-count-len-clause-ended
returns-then-count-len-clause-ended g c =
    let r = cut_to c.pieces.invariant.read (c.deref_mut.ensures.value ∙ c.truncate.ensures.items) c.pieces.invariant.few in
    let less : c.in-Ok-fill.count < length c.deref_mut.result.now = search rules in
    of_each c.given_by.result (λ given over. read_over r c.in-Ok-fill.ensures.reads (c.in-Ok-fill.ensures.all less))

pub returns-then-count-len-clause-takes : goal.returns-then-count-len-clause-takes
returns-then-count-len-clause-takes g c =
    taken_by_filling c.pieces.invariant.read (c.deref_mut.ensures.value ∙ c.truncate.ensures.items) c.pieces.invariant.few c.fill.ensures.takes

-- ---- a piece that is full
pub take-next-requires : goal.take-next-requires
take-next-requires g c =
    search arith

pub returns-in_default-let_go-clause-takes : goal.returns-in_default-let_go-clause-takes
returns-in_default-let_go-clause-takes g c =
    taken_by_filling c.pieces.invariant.read (c.deref_mut.ensures.value ∙ c.truncate.ensures.items) c.pieces.invariant.few c.fill.ensures.takes

pub pieces-preserved : goal.pieces-preserved
pieces-preserved g c =
    let r = cut_to c.pieces.invariant.read (c.deref_mut.ensures.value ∙ c.truncate.ensures.items) c.pieces.invariant.few in
    let size : length c.fill.new.buffer ≡ c.truncate.new.self.len = search rules in
    let full : c.in-Ok-fill.count ≡ length c.deref_mut.result.now = search rules in
    let items = c.deref-in-pieces.ensures.value in
    let whole = items ∙ all_of_it c.fill.new.buffer c.truncate.new.self.items c.truncate.new.self.len size in
    let parts = c.in-Ok-let_go.ensures.left ∙ ap length (sym items) in
    record {
      place = c.in-Ok-let_go.ensures.place;
      few = omega arith;
      read = passed_on (filled_to r whole c.in-Ok-fill.ensures.reads) c.take-next.result.1 c.in-Ok-let_go.left (omega arith) c.take-next.ensures parts
          (c.in-Ok-let_go.ensures.front ∙ ap (drop c.take-next.result.1) (sym items));
      reach = λ is. c.in-Ok-fill.ensures.goes full (c.pieces.invariant.reach is);
      count = c.in-Ok-fill.ensures.sound ∙ c.pieces.invariant.count;
    }
