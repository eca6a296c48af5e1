use Rattle.std.proofs.Common.{◌∙◌, ap, arith}
use Rattle.pas_profile.specs.declared.profile.Profile.{Profile}
use Rattle.pas_steps.{specs.Desks.AnyView, proofs.Adding.can_call}
use Rattle.pas_search.{specs.Passing.passed_steps, proofs.ToldVisits.{passes_turn, passes_none, passes_more}}
use Rattle.pas_search.proofs.passing.pass_short.Goals as goal

pub loop-passed-init : goal.loop-passed-init
loop-passed-init g c = search (arith, passes_none, g.S.Serving.rule)

pub loop-passed-preserved : goal.loop-passed-preserved
loop-passed-preserved g c =
    let D = g.D.Desk in let i = c.loop-passed.invariant in let d = c.args.looked.now.directory in let desk = c.loop-passed.desk in let l = c.loop-passed.looked in
    let next = c.pass_by.new.self in let passed = c.in-Some-next_short.passed in let may = c.in-Some-next_short.ensures in let behind = c.pass_by.ensures.next in
    let passes = passes_turn (g.S.Serving.rule c.args.serving.now) D.tells d l.directory i.directory c.requires.directory (g.met.D.Desk.valid desk) c.in-Some.run' c.args.looked.now.next l.next next.next
    c.steps_of-steps.result c.args.looked.now.unfit l.unfit next.unfit passed i.passes may i.can (λ v w stood. g.met.D.Desk.told desk v w may.told.tells_all stood)
    (λ v w stood. g.met.D.Desk.told_part desk v w may.told.tells_all stood) c.in-Some.ensures c.if-not-tell.ensures.took
    (c.steps_of-steps.ensures ∙ ap (λ (f : Profile). passed_steps f.pages l.next passed.block passed.pages) c.profile.ensures) behind i.sized c.pass_by.ensures.unfit in record {
      directory = c.pass_by.ensures.directory ∙ i.directory;
      low = let from = may.from_next behind.bit behind.highest.within behind.highest.set in omega (arith, i.low, from, behind.behind);
      passes = passes;
      can = can_call {C = AnyView} passes.adds c.requires.can (λ v w stood met. tt);
      sized = c.pass_by.ensures.sized;
      home = c.tell.ensures.home ∙ i.home;
    }

pub loop-passed-smaller : goal.loop-passed-smaller
loop-passed-smaller g c =
    let may = c.in-Some-next_short.ensures in let behind = c.pass_by.ensures.next in let most = (g.met.D.Desk.valid c.loop-passed.desk).pages in
    let from = may.from_next behind.bit behind.highest.within behind.highest.set in omega (arith, from, behind.behind, behind.highest.within, may.block.1, most)

pub returns-then-not-tell-clause-passes : goal.returns-then-not-tell-clause-passes
returns-then-not-tell-clause-passes g c =
    let i = c.loop-passed.invariant in let l = c.loop-passed.looked in
    passes_more i.passes (passes_none (g.S.Serving.rule c.args.serving.now) c.args.looked.now.directory l.next l.unfit (g.D.Desk.standing c.loop-passed.desk)
    (g.D.Desk.standing c.tell.new.self) c.if-not-tell.ensures.took)
