use Rattle.std.proofs.{Common.{◌∙◌, ◌∷◌, ◌++◌, [], List, Option, Some, ap, map, sym, subst, IfSome}, lemmas.List.map-append}
use Rattle.pas_shared.{specs.{Passes.IsPassOf, Workers.{HasPass, pass_of, work_of}, declared.pass.SharedPass.SharedPass}, proofs.Pops.{all_more, first_is}}
use Rattle.pas_shared.proofs.Pops.{others_are, first_moves}
use Rattle.pas_shared.proofs.workers.into_passes.Goals as goal

pub loop-worker-preserved : goal.loop-worker-preserved
loop-worker-preserved g c =
    let region = c.args.region.now in
    let inv = c.loop-worker.invariant in
    let is = c.in-Some.ensures.steps.0 in
    let push = c.in_ok-push.ensures.items in
    let passes = c.loop-worker.passes.items in
    let its = subst (λ (o : Option SharedPass). IfSome o (IsPassOf region)) c.unwrap.ensures (first_is (HasPass region) _ _ _ is inv.left).of_region in
    let one = ap (λ (ps : List SharedPass). map Some ps) push ∙ map-append Some passes (c.unwrap.result ∷ [])
    ∙ ap (λ (o : Option SharedPass). map Some passes ++ o ∷ []) (sym c.unwrap.ensures) in
    record {
      left = others_are (HasPass region) _ _ _ is inv.left;
      of_region = all_more (IsPassOf region) _ _ _ push inv.of_region its;
      passes = first_moves pass_of _ _ _ _ _ _ is one inv.passes;
      works = first_moves work_of _ _ _ _ _ _ is c.in_ok-push-2.ensures.items inv.works;
    }
