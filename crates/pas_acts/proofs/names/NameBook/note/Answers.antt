use Rattle.std.proofs.Common.{◌<◌, get_or, refl, sym, ◌∙◌, subst, arith, take_all}
use Rattle.pas_acts.proofs.{Common.{Op, Alloc, names_held, Names}, Noting.{asks_same, asks_below, below_at, placed_next, counted, count_small}}
use Rattle.pas_acts.proofs.names.NameBook.note.Goals.{in-Some, in-None}
use Rattle.pas_acts.proofs.names.NameBook.note.Goals as goal

abbrev past : Op
past = record { line = 0; actor = 0; what = Alloc 0 0 0 0 }

pub loop-op-init : goal.loop-op-init
loop-op-init c = record { names = refl; placed = λ k. tt; counts = c.new-counts.ensures }

pub add-place-requires : goal.add-place-requires
add-place-requires c =
    search (arith, count_small)

pub set_place-requires : goal.set_place-requires
set_place-requires c =
    let below = asks_below (names_held c.args.self.now.names) (get_or c.args.ops.now c.loop-op.op-index past).what c.in-Some.name
    (below_at (names_held c.args.self.now.names) c.args.ops.now c.loop-op.op-index past c.requires.below c.loop-op-test.true) c.in-Some.ensures in
    subst (λ (names : Names). c.in-Some.name < names_held names) (sym c.loop-op.invariant.names) below

pub loop-op-preserved : goal.loop-op-preserved
loop-op-preserved c = elim c.match-asked_name.branch [
  | in-Some w ↦
      let sound = c.requires.sound in
      let here = w.add-place.ensures.before ∙ c.loop-op.invariant.counts (get_or c.args.ops.now c.loop-op.op-index past).actor in
      rw (w.self-is, w.counts-is) (record {
        names = w.set_place.ensures.names ∙ c.loop-op.invariant.names;
        placed = λ k. placed_next sound.0 sound.1 c.loop-op.self w.set_place.new.self c.args.ops.now c.loop-op.op-index past w.in-Some.name w.add-place.result sound.2 c.loop-op-test.true w.in-Some.ensures
            w.set_place.ensures.place here k (c.loop-op.invariant.placed k);
        counts = λ k. w.add-place.ensures.one k
            ∙ counted c.args.ops.now c.loop-op.op-index past w.in-Some.name k w.add-place.result _ c.loop-op-test.true w.in-Some.ensures here (c.loop-op.invariant.counts k);
      })
  | in-None w ↦ search (arith, asks_same)
]

pub returns-clause-placed : goal.returns-clause-placed
returns-clause-placed c = search (arith, take_all)
