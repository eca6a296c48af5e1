use Rattle.std.proofs.Common.{◌≡◌, ◌∷◌, ap, ◌∙◌, subst, arith}
use Rattle.pas_profile.specs.{Directories.number_of, declared.{word.Word.Word, profile.Profile.Profile}}
use Rattle.pas_steps.{specs.{declared.step.{Made.Made, Step.TheVariants.Look}, Frames.IsScan, Desks.{Makes, made}}, proofs.Adding.adds_step}
use Rattle.pas_large.proofs.Refusals.{marked_more}
use Rattle.pas_large.proofs.refusing.mark_offered.Goals as goal

pub loop-block-preserved : goal.loop-block-preserved
loop-block-preserved g c =
    let i = c.loop-block.invariant in let D = g.D.Desk in let d = c.args.looked.now.directory in let block = c.loop-block.block in
    let a = c.look-value.result in let few = (g.met.D.Desk.valid c.args.desk.now).pages in let test = c.loop-block-test.true in
    let pages : c.profile.result.now.pages ≡ (D.standing c.args.desk.now).seat.profile.pages = ap (λ (x : Profile). x.pages) c.profile.ensures in
    let step : Made = made (Look (Word.Eligible (number_of d) block)) a in
    let makes = subst (λ n. Makes (D.standing c.loop-block.desk) (D.standing c.look-value.new.self) (Look (Word.Eligible n block)) a) c.number-number.ensures c.look-value.ensures.makes in
    record {
      steps = step ∷ i.steps;
      adds = adds_step i.adds makes (λ v l stood met. tt);
      scans = (IsScan.LooksEligible (number_of d) block, i.scans);
      few = (omega (arith, i.few));
      marked = marked_more d block a c.loop-block.looked.unfit i.steps (omega (arith, few, pages, test)) i.scans i.marked;
      directory = i.directory;
      home = c.look-value.ensures.home ∙ i.home;
    }
