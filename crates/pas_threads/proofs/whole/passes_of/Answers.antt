use Rattle.std.proofs.Common.{length, ap, ◌∙◌, arith, ◌++◌}
use Rattle.pas_threads.proofs.{Common.{pass_in, passes_in}, StartAndEnd.all_passes}
use Rattle.pas_threads.proofs.whole.passes_of.Goals as goal

pub add_pass-requires : goal.add_pass-requires
add_pass-requires c =
    let r = c.requires.stands in
    omega (arith, ap length c.requires.none, ap (λ o. length (pass_in o)) r.3.scavenger.has.present, r.4)

pub add_passes-requires : goal.add_passes-requires
add_passes-requires c =
    let same = ap (λ ws. length (passes_in ws)) c.deref_mut.ensures.value in
    let all = all_passes c.requires.stands.3 in
    omega (arith, same, ap length c.requires.none, c.add_pass.ensures.many, c.add_pass.ensures.places, all, c.requires.stands.4)

pub returns : goal.returns
returns c =
    let team = c.args.team.now in
    let first = c.add_pass.ensures.added ∙ ap (λ ps. ps ++ pass_in team.scavenger.pass) c.requires.none in
    c.add_passes.ensures ∙ ap (λ ws. c.add_pass.new.passes.items ++ passes_in ws) c.deref_mut.ensures.value
    ∙ ap (λ ps. ps ++ passes_in team.threads.items) first
