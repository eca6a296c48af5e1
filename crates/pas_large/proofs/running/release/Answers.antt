use Rattle.std.proofs.Common.{refl, ◌∙◌, subst, arith}
use Rattle.pas_profile.proofs.Codecs.{directory_from_profile}
use Rattle.pas_large.{specs.Claims.Releases, proofs.Claims.{left_none, leave_call, left_more}}
use Rattle.pas_large.proofs.running.release.Goals as goal

pub loop-page-init : goal.loop-page-init
loop-page-init g c = record { so_far = left_none c.args.directory c.args.first; home = refl }

pub put_and_leave-requires-clause-can : goal.put_and_leave-requires-clause-can
put_and_leave-requires-clause-can g c = leave_call c.args.end c.loop-page.invariant.so_far c.loop-page.auto.page c.loop-page-test.true c.requires.can

pub loop-page-preserved : goal.loop-page-preserved
loop-page-preserved g c = let i = c.loop-page.invariant in
    record { so_far = left_more _ (directory_from_profile (g.D.Desk.standing _).seat.profile c.args.directory (g.met.D.Desk.valid c.args.desk.now) c.requires.directory) c.args.first _ c.loop-page.auto.page i.so_far c.put_and_leave.ensures.puts; home = c.put_and_leave.ensures.home ∙ i.home }

pub returns-clause-releases : goal.returns-clause-releases
returns-clause-releases g c = let past = c.loop-page-test.false in let most = c.loop-page.auto.page-end c.requires.span in
    subst (λ p. Releases c.args.directory c.args.first p (g.D.Desk.standing c.args.desk.now) (g.D.Desk.standing c.loop-page.desk)) (omega (arith, past, most)) c.loop-page.invariant.so_far
