use Rattle.std.proofs.Common.{ℕ, ◌+◌, List, [], Some, length, slice_index, ap, sym, ◌∙◌, subst, arith, All}
use Rattle.pas_replay.proofs.{Common.{length-map, same_Some, Profile, PassStands, PlainPass, no_ranges, plan_bounds, phases_of}, InOrder.passes_count}
use Rattle.pas_replay.proofs.InOrder.{fresh_actor}
use Rattle.pas_acts.{specs.Parts.AreUnused, proofs.PlanFacts.{plan_below, plan_threads}}
use Rattle.pas_answers.specs.Fit.{AllBelow}
use Rattle.pas_replay.proofs.kit.PlainKit.for_course.Goals as goal

pub try_new-requires : goal.try_new-requires
try_new-requires g c =
    let is = c.requires in
    record { bounds = ap (λ bs. length bs) is.same.bounds ∙ plan_bounds is.read ∙ ap (λ (f : Profile). f.threads + 1) (sym (c.region_by-profile.ensures.region is.plan is.same)) }

pub rooms_of-requires-clause-few : goal.rooms_of-requires-clause-few
rooms_of-requires-clause-few g c = c.region_by-profile.ensures.valid.threads

pub rooms_of-requires-clause-left : goal.rooms_of-requires-clause-left
rooms_of-requires-clause-left g c = λ k le. (slice_index c.args.course.now.bounds.now k, c.in_ok-utility.ensures.rooms k le)

pub caches_for-requires-clause-few : goal.caches_for-requires-clause-few
caches_for-requires-clause-few g c = search (arith, plan_threads)

pub caches_for-requires-clause-threads : goal.caches_for-requires-clause-threads
caches_for-requires-clause-threads g c = search (arith, plan_threads)

pub caches_for-requires-clause-left : goal.caches_for-requires-clause-left
caches_for-requires-clause-left g c = search (arith, plan_threads)

pub returns : goal.returns
returns g c text plan read same =
    let profile = c.region_by-profile.result in
    let region = c.region_by-profile.ensures.region plan same in
    let own = ap (λ (f : Profile). f.threads) same.profile in
    let threads = ap (λ (f : Profile). f.threads) region in
    let rooms = c.in_ok-rooms.ensures.rooms in
    let long = ap (λ (ps : List PlainPass). length ps) c.in_ok-region.ensures.passes ∙ passes_count 0 c.in_ok-rooms.rooms.items in
    let placed = ap (λ ps. length ps) c.in_ok-places.ensures.places ∙ length-map c.in_ok-region.passes.items (λ p. Some p) in
    let stand = subst (λ (f : Profile). All (λ (pass : PlainPass). PassStands f pass []) c.in_ok-region.passes.items) region c.in_ok-region.ensures.stand in
    record {
      profile = c.in_ok-region.ensures.profile ∙ region;
      opening = c.in_ok-region.ensures.opening;
      actors = omega (arith, rooms.many, long, placed, threads);
      fresh = λ k less. fresh_actor plan _ (profile.threads + 1) c.in_ok-rooms.rooms.items c.in_ok-region.passes.items c.in_ok-places.places.items rooms
          (λ j lt. c.in_ok-utility.ensures.rooms j (omega (arith, lt)) ∙ ap (λ bs. Some (slice_index bs j)) same.bounds)
          c.in_ok-region.ensures.passes stand c.in_ok-places.ensures.places k (omega (arith, less, threads));
      unused = subst (λ (n : ℕ). AreUnused n c.in_ok-caches.caches.items) own c.in_ok-caches.ensures.caches;
      books = c.in_ok-books_by.ensures plan same;
      places = same_Some _ _ (sym c.outcomes_from.ensures ∙ c.caches_for.ensures.outcomes ∙ c.rooms_of.ensures.outcomes ∙ c.in_ok-utility.ensures.outcomes) ∙ ap (λ (f : Profile). f.pages) region;
      indexes = c.in_ok-indexes.ensures ∙ ap (λ (f : Profile). no_ranges f.heaps) same.profile;
      no_name = c.in_ok-names.ensures.empty;
      names = subst (λ n. AllBelow n (phases_of plan)) (sym (c.in_ok-names.ensures.room ∙ same.names)) (plan_below read);
      none_left = c.in_ok-places.ensures.none;
    }
