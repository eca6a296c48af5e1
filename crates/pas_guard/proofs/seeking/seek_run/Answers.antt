use Rattle.std.proofs.Common.{◌≡◌, ◌+◌, ◌-◌, refl, ◌∙◌, arith}
use Rattle.pas_scan.specs.Runs.{large_directory}
use Rattle.pas_large.proofs.Finds.{may_find}
use Rattle.pas_guard.proofs.Seeks.{sought_none, can_release_looked, seek_ends, seek_more, seek_jump, can_claim, can_release_lost, seek_lost, seek_claimed}
use Rattle.pas_guard.proofs.Seeks.{seek_found, can_slide, seek_slide, anything_goes}
use Rattle.pas_guard.proofs.seeking.seek_run.Goals as goal

pub loop-next-init : goal.loop-next-init
loop-next-init g c = record { so_far = sought_none (large_directory c.args.heap) c.args.pages; home = refl }

pub release-requires-clause-can : goal.release-requires-clause-can
release-requires-clause-can g c = let i = c.loop-next.invariant in can_release_looked i.so_far c.in-None.ensures.found (may_find c.requires.can)

pub returns-in-None-clause-seeks : goal.returns-in-None-clause-seeks
returns-in-None-clause-seeks g c = let i = c.loop-next.invariant in let short = c.if-next-from.true in
    seek_ends i.so_far (may_find c.requires.can) (omega (arith, short)) c.in-None.ensures.found c.release.ensures.releases

pub loop-next-preserved-then-page-next : goal.loop-next-preserved-then-page-next
loop-next-preserved-then-page-next g c = search (arith, seek_more)

pub release-requires-else-page-next-clause-can : goal.release-requires-else-page-next-clause-can
release-requires-else-page-next-clause-can g c = let i = c.loop-next.invariant in can_release_looked i.so_far c.in-Some.ensures.found (may_find c.requires.can)

pub loop-next-preserved-else-page-next : goal.loop-next-preserved-else-page-next
loop-next-preserved-else-page-next g c = let i = c.loop-next.invariant in let short = c.if-next-from.true in record {
  so_far = seek_jump i.so_far (may_find c.requires.can) c.in-Some.page c.if-page-next.false (omega (arith, short)) c.in-Some.ensures.found c.release-else-page-next.ensures.releases;
  home = c.release-else-page-next.ensures.home ∙ c.in-Some.ensures.home ∙ i.home;
}

pub claim_run-requires-clause-can : goal.claim_run-requires-clause-can
claim_run-requires-clause-can g c = let i = c.loop-next.invariant in let within = i.so_far.within.0 in let long = c.if-next-from.false in
    can_claim i.so_far (omega (arith, within, long)) _ _ c.requires.can (g.met.D.Desk.spares c.args.desk.now) (g.met.D.Desk.spares c.loop-next.desk)

pub release-requires-in-Some-claim_run-clause-can : goal.release-requires-in-Some-claim_run-clause-can
release-requires-in-Some-claim_run-clause-can g c = let i = c.loop-next.invariant in let within = i.so_far.within.0 in let long = c.if-next-from.false in
    can_release_lost i.so_far (omega (arith, within, long)) c.in-Some-claim_run.page c.in-Some-claim_run.ensures.claims (may_find c.requires.can)

pub loop-next-preserved-in-Some-claim_run : goal.loop-next-preserved-in-Some-claim_run
loop-next-preserved-in-Some-claim_run g c = let i = c.loop-next.invariant in let within = i.so_far.within.0 in let long = c.if-next-from.false in record {
  so_far = seek_lost i.so_far (omega (arith, within, long)) _ c.in-Some-claim_run.ensures.claims (may_find c.requires.can) c.release-in-Some-claim_run.ensures.releases;
  home = c.release-in-Some-claim_run.ensures.home ∙ c.in-Some-claim_run.ensures.home ∙ i.home;
}

pub are_bare-requires-clause-can : goal.are_bare-requires-clause-can
are_bare-requires-clause-can g c = let i = c.loop-next.invariant in let within = i.so_far.within.0 in let long = c.if-next-from.false in
    anything_goes (seek_claimed i.so_far (omega (arith, within, long)) c.in-None-claim_run.ensures.claims) (may_find c.requires.can)

pub returns-then-are_bare-clause-seeks : goal.returns-then-are_bare-clause-seeks
returns-then-are_bare-clause-seeks g c = let i = c.loop-next.invariant in let within = i.so_far.within.0 in let long = c.if-next-from.false in
    let whole : c.loop-next.next ≡ c.loop-next.from + (c.args.pages + 2) = omega (arith, within, long) in
    seek_found (seek_claimed i.so_far whole c.in-None-claim_run.ensures.claims) (c.loop-next.next - 1) whole (omega (arith, whole)) c.if-are_bare.ensures.looks

pub put_and_leave-requires-clause-can : goal.put_and_leave-requires-clause-can
put_and_leave-requires-clause-can g c = let i = c.loop-next.invariant in let within = i.so_far.within.0 in let long = c.if-next-from.false in
    let whole : c.loop-next.next ≡ c.loop-next.from + (c.args.pages + 2) = omega (arith, within, long) in
    can_slide (seek_claimed i.so_far whole c.in-None-claim_run.ensures.claims) (c.loop-next.next - 1) whole (omega (arith, whole)) c.if-are_bare.ensures.looks (may_find c.requires.can)

pub loop-next-preserved : goal.loop-next-preserved
loop-next-preserved g c = let i = c.loop-next.invariant in let within = i.so_far.within.0 in let long = c.if-next-from.false in
    let whole : c.loop-next.next ≡ c.loop-next.from + (c.args.pages + 2) = omega (arith, within, long) in record {
      so_far = seek_slide (seek_claimed i.so_far whole c.in-None-claim_run.ensures.claims) _ whole (omega (arith, whole)) c.if-are_bare.ensures.looks (may_find c.requires.can) c.put_and_leave.ensures.puts;
      home = c.put_and_leave.ensures.home ∙ c.if-are_bare.ensures.home ∙ c.in-None-claim_run.ensures.home ∙ i.home;
    }
