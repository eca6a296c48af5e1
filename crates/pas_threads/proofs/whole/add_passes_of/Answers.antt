use Rattle.std.proofs.Common.{◌++◌, ap, ◌∙◌, append_assoc, length-append, arith}
use Rattle.pas_threads.proofs.Common.{pass_in, kept_pass}
use Rattle.pas_threads.proofs.whole.add_passes_of.Goals as goal

pub add_pass-requires : goal.add_pass-requires
add_pass-requires c = omega (arith, c.requires, length-append (pass_in c.args.worker.now.pass) (kept_pass c.args.worker.now.keeper))

pub returns-clause-added : goal.returns-clause-added
returns-clause-added c =
    let w = c.args.worker.now in
    c.add_kept_pass.ensures.added ∙ ap (λ ps. ps ++ kept_pass w.keeper) c.add_pass.ensures.added
    ∙ append_assoc c.args.passes.now.items (pass_in w.pass) (kept_pass w.keeper)
