use Rattle.std.proofs.Common.{refl, ◌∙◌, ◌+◌, ◌-◌, ◌*◌, arith}
use Rattle.pas_cache.{specs.Serves.wanted_for, proofs.Routes.is_large}
use Rattle.pas_trials.proofs.{Borrowed.{may_ask, page_asked}, Going.{fewer, pages_asked}}
use Rattle.pas_trials.proofs.paging.borrow_pages.Goals as goal

pub loop-done-init : goal.loop-done-init
loop-done-init g c = record { log = refl; can = fewer _ (omega arith) c.requires.can }

pub alloc_large-requires-clause-can : goal.alloc_large-requires-clause-can
alloc_large-requires-clause-can g c = may_ask 1 (omega arith) c.loop-done.invariant.can

pub loop-done-preserved : goal.loop-done-preserved
loop-done-preserved g c =
    let asked = c.alloc_large.ensures.allocates.2 16 (omega arith, omega arith, refl) (is_large (g.D.Desk.standing c.loop-done.desk).seat.profile.classes 4096 16 (omega arith)) in
    record {
      log = (pages_asked {wanted = wanted_for (g.D.Desk.standing c.loop-done.desk).seat.profile 0 4096 16} asked).log ∙ c.loop-done.invariant.log;
      can = page_asked (2 * (c.args.blocks - (c.loop-done.done + 1)) + 5) (omega arith) asked c.loop-done.invariant.can (g.met.D.Desk.spares c.loop-done.desk) (g.met.D.Desk.spares c.alloc_large.new.desk);
    }

pub returns : goal.returns
returns g c = record { log = c.loop-done.invariant.log; can = fewer _ (omega arith) c.loop-done.invariant.can }
