use Rattle.std.proofs.{Common.{arith, ◌+◌, Some, None, if◌then◌else◌, refl, sym, ap, ◌∙◌, subst}, lemmas.Result.on_ok_weaker}
use Rattle.pas_trace.{specs.{Plans.request_kept, Told.IsOperated, declared.{item.Wish.Wish, names.Owner.Owner, plan.What.What}}, proofs.Telling.named}
use Rattle.pas_trace.proofs.Telling.{renamed, unnamed}
use Rattle.pas_trace.proofs.reader.Reader.operate.Goals as goal

pub returns-in_ok-give-in-Asks : goal.returns-in_ok-give-in-Asks
returns-in_ok-give-in-Asks c =
    let old = c.args.self.now in
    let new = c.count.new.self in
    let a = c.in-Asks in
    let names = c.give.new.self in
    let samples = c.sample-guarded.new.self in
    let kept = c.request_kept-what.ensures ∙ ap (λ guarded. request_kept
    (if guarded then Some (old.header.profile.threads + c.args.thread) else None) a.name a.heap a.size a.align) c.sample-guarded.ensures.guarded in
    on_ok_weaker _ (λ h. subst (λ (w : Wish). IsOperated old new c.args.thread w c.args.cost) (sym a.is)
    (named old (record old { names = names; samples = samples }) new names samples c.args.thread a.name a.heap (Wish.Asks a.name a.heap a.size a.align) c.request_kept-what.result c.args.cost refl refl kept refl
    c.sample-guarded.ensures.sampled c.in_ok-give-in-Asks.ensures h)) c.count.ensures

pub returns-in-Frees : goal.returns-in-Frees
returns-in-Frees c = search (arith, on_ok_weaker, unnamed, c.count-in-Frees.ensures)

pub returns-in-FreesSized : goal.returns-in-FreesSized
returns-in-FreesSized c = search (arith, on_ok_weaker, unnamed, c.room_for-room.ensures, c.count-in-FreesSized.ensures)

pub returns-in-FreesRaw : goal.returns-in-FreesRaw
returns-in-FreesRaw c = search (arith, on_ok_weaker, unnamed, c.count_rare.ensures)

pub returns-in-FreesRawSized : goal.returns-in-FreesRawSized
returns-in-FreesRawSized c = search (arith, on_ok_weaker, unnamed, c.room_for-room-in-FreesRawSized.ensures, c.count_rare-in-FreesRawSized.ensures)

pub returns-in_ok-give-in-Remakes : goal.returns-in_ok-give-in-Remakes
returns-in_ok-give-in-Remakes c =
    let old = c.args.self.now in
    let new = c.count_rare-in-Remakes.new.self in
    let a = c.in-Remakes in
    let home = ap (λ (o : Owner). o.heap) c.owner-heap.ensures in
    on_ok_weaker _ (λ h. subst (λ (w : Wish). IsOperated old new c.args.thread w c.args.cost) (sym a.is)
    (renamed old (record old { names = c.give-in-Remakes.new.self }) new _ _ a.name _ _
    _ _ refl home refl (ap (λ heap. What.Remake a.name a.old heap a.size a.align) home) refl c.in_ok-give-in-Remakes.ensures h)) c.count_rare-in-Remakes.ensures

pub returns-in-Flushes : goal.returns-in-Flushes
returns-in-Flushes c = search (arith, on_ok_weaker, unnamed, c.count_rare-in-Flushes.ensures)

pub returns-in-Stops : goal.returns-in-Stops
returns-in-Stops c = search (arith, on_ok_weaker, unnamed, c.count_rare-in-Stops.ensures)
