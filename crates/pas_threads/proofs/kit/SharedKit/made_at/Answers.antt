use Rattle.std.proofs.Common.{◌+◌, ◌∷◌, Some, length, slice_index, ap, sym, ◌∙◌, subst, arith}
use Rattle.pas_threads.proofs.{Common.{same_Some, Profile, bounds_of, plan_actors, plan_bounds, AreNew}, StartAndEnd.{all_new, first_taken}}
use Rattle.pas_shared.proofs.Opened.{fresh_many}
use Rattle.pas_threads.proofs.kit.SharedKit.made_at.Goals as goal

pub try_new-requires : goal.try_new-requires
try_new-requires c = record {
  bounds = ap length c.as_slice-bounds.ensures ∙ plan_bounds c.requires.plan.1 ∙ ap (λ (f : Profile). f.threads + 1) (sym c.region_of-profile.ensures.region);
}

pub rooms_of-requires-clause-left : goal.rooms_of-requires-clause-left
rooms_of-requires-clause-left c = λ k le. (slice_index c.as_slice-bounds.result.now k, c.in_ok-utility.ensures.rooms k le)

pub try_new_at-requires-clause-actors : goal.try_new_at-requires-clause-actors
try_new_at-requires-clause-actors c =
    let many = (c.move_rooms.ensures _ _ c.in_ok-rooms.ensures.rooms).many in
    let threads = ap (λ (f : Profile). f.threads) c.requires.profile in
    omega (arith, many, c.move_rooms.new.rooms.ok.0, threads, ap (λ (f : Profile). f.threads) c.region_of-profile.ensures.region)

pub try_new_at-requires-clause-empty : goal.try_new_at-requires-clause-empty
try_new_at-requires-clause-empty c = (c.move_rooms.ensures _ _ c.in_ok-rooms.ensures.rooms).empty

pub remove-first-requires : goal.remove-first-requires
remove-first-requires c =
    omega (arith, (c.move_rooms.ensures _ _ c.in_ok-rooms.ensures.rooms).many, fresh_many _ _ _ _ _ c.in_ok-region.ensures.passes, c.in_ok-region.others.ok.0)

pub team_for-requires-clause-passes : goal.team_for-requires-clause-passes
team_for-requires-clause-passes c =
    let many = (c.move_rooms.ensures _ _ c.in_ok-rooms.ensures.rooms).many in
    let same = fresh_many _ _ _ _ _ c.in_ok-region.ensures.passes in
    let region = ap (λ (f : Profile). f.threads) c.region_of-profile.ensures.region in
    omega (arith, many, same, c.in_ok-region.others.ok.0, c.remove-first.ensures.len, c.remove-first.new.self.ok.0, region, plan_actors c.args.plan.now)

pub returns : goal.returns
returns c =
    let region = c.in_ok-region.region in
    let bounds = bounds_of c.args.plan.now.bounds in
    let rooms = c.move_rooms.ensures _ _ c.in_ok-rooms.ensures.rooms in
    let many = rooms.many in
    let fresh = c.in_ok-region.ensures.passes in
    let team = c.in_ok-team.ensures in
    let first = c.remove-first.result in
    record {
      profile = c.in_ok-region.ensures.profile ∙ c.requires.profile;
      first = first;
      others = team.0;
      kept = team.1;
      many = team.3;
      unused = subst (AreNew region bounds) (first_taken c.in_ok-region.others.items c.remove-first.new.self.items first
          (omega (arith, many, fresh_many _ _ _ _ _ fresh)) c.remove-first.ensures.value c.remove-first.ensures.items ∙ ap (λ ps. first ∷ ps) team.2)
          (all_new region bounds c.move_rooms.new.rooms.items c.in_ok-region.others.items fresh
          (λ i d lt. same_Some _ _ (sym (rooms.each i d (omega (arith, lt, many))) ∙ c.in_ok-utility.ensures.rooms i (omega (arith, lt, many)) ∙ ap (λ bs. Some (slice_index bs i)) c.as_slice-bounds.ensures)));
      team = team.4;
      none = c.in-Ok.ensures.items;
      place = omega (arith, c.in-Ok.ensures.capacity, ap (λ (f : Profile). f.threads) c.region_of-profile.ensures.region);
    }
