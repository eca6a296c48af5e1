use Rattle.std.proofs.Common.{◌≡◌, ◌≤◌, ◌+◌, ◌++◌, ℕ, List, take, drop, length, slice_index, ap, sym, ◌∙◌, subst, arith, vec_capacity, length-drop}
use Rattle.std.proofs.Common.{length-take-le, take-append-drop}
use Rattle.pas_threads.proofs.Common.{same_Some, bounds_of, plan_actors, SharedPass, names_held, phases_of, region_of, threads_of, keepers_of, plan_valid}
use Rattle.pas_threads.proofs.{Common.{plan_threads, plan_bounds, AreEquipped, IsSupplied, AreKeptBy}, Keepers.have_keepers}
use Rattle.pas_acts.proofs.{PlanFacts.plan_below, Naming.all_higher}
use Rattle.pas_threads.proofs.making.team_for.Goals as goal

-- the passes of the threads, and those of the keepers behind them
cut : (threads keepers : ℕ) (all own kept : List SharedPass) → length all ≡ threads + keepers → own ≡ take threads all → kept ≡ drop threads all
    → (length own ≡ threads) × (length kept ≡ keepers) × (all ≡ own ++ kept)
cut threads keepers all own kept many first last = search (arith, length-take-le, length-drop, take-append-drop)

pub caches_for-requires-clause-few : goal.caches_for-requires-clause-few
caches_for-requires-clause-few c =
    omega (arith, (plan_valid c.requires.plan.1).threads, plan_threads c.args.plan.now)

pub workers_for-requires-clause-bounds : goal.workers_for-requires-clause-bounds
workers_for-requires-clause-bounds c =
    let plan = c.args.plan.now in
    let cut = cut (threads_of plan) (keepers_of plan) c.args.others.items _ _ c.requires.passes c.in-Ok.ensures.items c.in-Ok.ensures.tail in
    omega (arith, ap length c.as_slice-bounds.ensures ∙ plan_bounds c.requires.plan.1, cut.0, cut.1, plan_actors plan)

pub workers_for-requires-clause-books : goal.workers_for-requires-clause-books
workers_for-requires-clause-books c =
    search (arith, cut)

pub bounds-bounds-0 : goal.bounds-bounds-0
bounds-bounds-0 c =
    omega (arith, ap length c.as_slice-bounds.ensures ∙ plan_bounds c.requires.plan.1)

pub returns : goal.returns
returns c =
    let plan = c.args.plan.now in
    let own = c.split_off.new.self.items in
    let kept = c.in-Ok.kept.items in
    let threads = c.in_ok-threads.threads in
    let cut = cut (threads_of plan) (keepers_of plan) c.args.others.items own kept c.requires.passes c.in-Ok.ensures.items c.in-Ok.ensures.tail in
    let many : length own ≡ threads_of plan = cut.0 in
    let size : length kept ≡ keepers_of plan = cut.1 in
    let equipped : AreEquipped (bounds_of plan.bounds) own threads.items = rw c.as_slice-bounds.ensures at c.in_ok-threads.ensures.workers in
    let workers : length threads.items ≡ threads_of plan = equipped.many ∙ many in
    let kept_by = subst (λ bs. AreKeptBy bs (threads_of plan) kept c.in_ok-books.books.items threads.items) c.as_slice-bounds.ensures
    (subst (λ n. AreKeptBy c.as_slice-bounds.result.now n kept c.in_ok-books.books.items threads.items) many c.in_ok-threads.ensures.kept) in
    let capacity : threads_of plan ≤ vec_capacity threads = omega (arith, many, c.in_ok-threads.ensures.places) in
    let hands = c.in-Ok-with_capacity.ensures.capacity in (
      own,
      kept,
      cut.2,
      many,
      record {
        scavenger = subst (λ bs. IsSupplied (region_of plan) c.args.first (slice_index bs 0) c.in_ok-scavenger.scavenger) c.as_slice-bounds.ensures
            (c.in_ok-scavenger.ensures.ready (region_of plan) (same_Some _ _ (sym c.outcomes_from-outcomes.ensures ∙ c.caches_for.ensures.outcomes ∙ c.requires.outcomes)));
        workers = equipped;
        keepers = have_keepers kept c.in_ok-books.books.items c.requires.plan.1 c.total_of-total.ensures.counted kept_by c.in_ok-books.ensures size workers;
        book = record {
          no_name = c.in_ok-book.ensures.empty;
          names = all_higher plan.names_limit (names_held c.in_ok-book.book.names) (phases_of plan) c.in_ok-book.ensures.room (plan_below c.requires.plan.1);
        };
        places = (capacity, omega (arith, hands), c.in_ok-scavenger.ensures.places, c.in-Ok-with_capacity.ensures.items);
      },
    )
