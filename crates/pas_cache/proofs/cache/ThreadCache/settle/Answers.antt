use Rattle.std.proofs.{Common.{arith, [], sym, subst, take, refl, take_all}, lemmas.List.{Elements.{All-nil, All-same}, take_more}}
use Rattle.pas_free_log.specs.{Noted.IsRange, declared.noting.EndedRun.EndedRun}
use Rattle.pas_cache.{specs.Calls.SettlesEach, proofs.FlushesAndFrees.{settles_more, blank}}
use Rattle.pas_cache.proofs.cache.ThreadCache.settle.Goals as goal

pub loop-run-init : goal.loop-run-init
loop-run-init g c = refl

pub settle-requires : goal.settle-requires
settle-requires g c =
    search arith

pub loop-run-preserved : goal.loop-run-preserved
loop-run-preserved g c =
    let runs = c.as_slice-run-items.result.now in let i = c.loop-run.run-index in
    subst (λ xs. SettlesEach g.O.Door.settles xs c.args.door.now c.settle.new.self) (sym (take_more runs i blank c.loop-run-test.true))
    (settles_more g.O.Door.settles (take i runs) _ _ c.loop-run.door c.settle.new.self c.loop-run.invariant c.settle.ensures.settles)

pub returns-clause-settles : goal.returns-clause-settles
returns-clause-settles g c = search (arith, take_all)

pub invariant_of-self : goal.invariant_of-self
invariant_of-self g c = assumption (All-same (λ (run : EndedRun). IsRange run.range) _ [] c.clear.ensures (All-nil (λ (run : EndedRun). IsRange run.range)))
