use Rattle.std.proofs.Common.{sym, ◌∙◌, true≢false, rules}
use Rattle.pas_trials.{specs.Judging.{is_free, IsOffered}, proofs.Kept.{kept_full, full_kept}}
use Rattle.pas_steps.specs.Views.{usable_by_kind}
use Rattle.pas_trials.proofs.judging.is_kept.Goals as goal

pub returns-else-is_offered : goal.returns-else-is_offered
returns-else-is_offered c =
    let state = c.args.state.now in let page = c.args.page in let d = c.args.directory in
    let Free = is_free state page in let Usable = usable_by_kind d.kind in let Offered = IsOffered state page d in (
      λ full. kept_full c.free_grains.result c.usable_grains.result Free Usable Offered c.free_grains.ensures c.usable_grains.ensures (search rules) (c.is_full.ensures.0 full),
      λ kept. c.is_full.ensures.1 (full_kept c.free_grains.result c.usable_grains.result Free Usable Offered c.free_grains.ensures c.usable_grains.ensures
          (search rules) kept (λ offered. true≢false (sym (c.is_offered.ensures.1 offered) ∙ c.if-is_offered.false))),
    )
