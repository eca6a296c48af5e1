use Rattle.std.proofs.Common.{◌≡◌, ◌∙◌, ◌+◌, Some, ap, sym}
use Rattle.pas_threads.proofs.{Common.{BenchHome, MayDoPhase, PairSits}, Benched.{begins, pair_may, pair_did}, workers.perform.Given.Over}
use Rattle.pas_threads.proofs.workers.perform.Goals.{After-bench_desk-desk}
use Rattle.pas_threads.proofs.workers.perform.Goals as goal

-- both sit at the desk, as they sat down on its bench
module _ (g : Over) (c : After-bench_desk-desk g) where
  -- The thread and its keeper sit at their bench.
  sits : PairSits c.bench_desk-desk.result.region.now c.in-Some.pass c.take-2.result c.bench_desk-desk.result.place.bench c.bench_desk-desk.result.place.member
      c.sit_down-bench.result.keeper
  sits = rw (c.bench_desk-desk.ensures.region, c.bench_desk-desk.ensures.bench, c.bench_desk-desk.ensures.member) c.sit_down-bench.ensures.sits

  has_pass : c.args.worker.now.pass ≡ Some c.in-Some.pass
  has_pass = sym c.take.ensures.value ∙ c.in-Some.is

pub work-requires-clause-stands : goal.work-requires-clause-stands
work-requires-clause-stands g c =
    let m = c.requires.may in
    let d = (goal.at.work-requires-clause-stands g c).After-bench_desk-desk in
    (m.profile, m.threads + m.thread, m.later, m.more, m.progress, begins c.bench_desk-desk.result (has_pass g d) c.take-2.ensures.value (sits g d) m)

pub rise-bench-requires : goal.rise-bench-requires
rise-bench-requires g c =
    let m = c.requires.may in
    let d = (goal.at.rise-bench-requires g c).After-bench_desk-desk in
    let desk = c.bench_desk-desk.result in
    let start = begins desk (has_pass g d) c.take-2.ensures.value (sits g d) m in
    let works = c.work.ensures.works m.profile (m.threads + m.thread) m.later m.more m.progress start in
    let here = ap (λ (h : BenchHome). h.region) c.work.ensures.home ∙ c.bench_desk-desk.ensures.region in
    record {
      may = rw (sym here, c.into_parts-bench.ensures.bench, c.into_parts-bench.ensures.member)
          (pair_may desk (has_pass g d) c.take-2.ensures.value (sits g d) m c.work.new.desk _ c.work.new.keeper.keeper works c.work.ensures.home);
    }

pub returns : goal.returns
returns g c = record {
  did = record {
    did = λ f threads k later more p some at.
        let d = (goal.at.returns g c).After-bench_desk-desk in
        let m : MayDoPhase c.args.region.now c.args.book.now c.args.ops.now c.args.worker.now =
        record { profile = f; threads = threads; thread = k; later = later; more = more; progress = p; some = some; stands = at } in
        let desk = c.bench_desk-desk.result in
        let there = c.work.new.keeper.keeper in
        let out = c.rise-bench.result in
        let works = c.work.ensures.works f (threads + k) later more p (begins desk (has_pass g d) c.take-2.ensures.value (sits g d) m) in
        let rose = rw (c.into_parts-bench.ensures.bench, c.into_parts-bench.ensures.member) at c.rise-bench.ensures.rose in
        let did = pair_did desk (has_pass g d) c.take-2.ensures.value (sits g d) m c.work.new.desk _ there works c.work.ensures.home out.0 out.1 out.2 rose in
        record { did = did.0; of = did.1; left = did.2 };
  };
}
