use Rattle.std.proofs.Common.{arith, ◌∙◌, refl, sym, subst, ap, None}
use Rattle.pas_profile.{specs.{Profiles.IsValid, declared.{directory.{Directory.Directory, Route.Route}, profile.Profile.Profile}}, proofs.Sizes.bitfit_suits}
use Rattle.pas_cache.{specs.{Parts.ServesFrom, Serves.filling_in}, proofs.Routes.{large_size, goes, may_go, pages_asked, bitfit_call, bitfit_room}}
use Rattle.pas_cache.proofs.{Routes.bitfit_allocates, Obtained.obtain_rests, FlushesAndFrees.may_allocate_open, Alone.{routed, roomed, filling_for, home_is}}
use Rattle.pas_cache.proofs.Alone.{allocates, serve_call, formed, rests_after}
use Rattle.pas_cache.proofs.cache.ThreadCache.serve.Goals as goal

pub route-requires-clause-valid : goal.route-requires-clause-valid
route-requires-clause-valid g c = subst IsValid (sym c.profile.ensures) (g.met.D.Desk.valid c.args.desk.now)

pub serve_class-requires-clause-filling : goal.serve_class-requires-clause-filling
serve_class-requires-clause-filling g c =
    search (arith, home_is, filling_for, routed)

pub serve_class-requires-clause-can : goal.serve_class-requires-clause-can
serve_class-requires-clause-can g c =
    search (arith, routed, serve_call, may_allocate_open, may_go)

pub invariant_of-self : goal.invariant_of-self
invariant_of-self g c =
    let σ = g.D.Desk.standing c.args.desk.now in
    let route = routed _ _ _ _ _ _ c.profile.ensures c.route.ensures c.in-Class.is in
    let can = obtain_rests (serve_call (may_allocate_open c.self.view_is (may_go _ c.args.heap _ _ _ _ route c.requires.can))) in
    let rests = rests_after _ g.D.Desk.tells _ _ _ c.serve_class.ensures.serves can in
    record { one_each = rests.apart.one_each; formed = formed _ _ _ rests; ranges = c.self.invariant.ranges }

pub bitfit_room-requires : goal.bitfit_room-requires
bitfit_room-requires g c =
    let f = (g.D.Desk.standing c.args.desk.now).seat.profile in
    (bitfit_suits f.classes _ _ (routed f _ _ _ _ _ c.profile.ensures c.route.ensures c.in-Bitfit.is)).0

pub alloc-requires-clause-room : goal.alloc-requires-clause-room
alloc-requires-clause-room g c =
    search (arith, routed, roomed, bitfit_room)

pub alloc-requires-clause-can : goal.alloc-requires-clause-can
alloc-requires-clause-can g c =
    let σ = g.D.Desk.standing c.args.desk.now in
    let route = routed _ _ _ _ _ _ c.profile.ensures c.route.ensures c.in-Bitfit.is in
    bitfit_call _ (may_go _ c.args.heap _ _ (g.D.Desk.spare_of c.args.desk.now) Route.Bitfit route c.requires.can)

pub alloc_large-requires-clause-size : goal.alloc_large-requires-clause-size
alloc_large-requires-clause-size g c =
    let f = (g.D.Desk.standing c.args.desk.now).seat.profile in
    large_size f.classes _ _ (routed f _ _ _ _ _ c.profile.ensures c.route.ensures c.in-Large.is)

pub alloc_large-requires-clause-can : goal.alloc_large-requires-clause-can
alloc_large-requires-clause-can g c =
    search (arith, routed, pages_asked, may_go)

pub returns-in-Class-clause-allocates : goal.returns-in-Class-clause-allocates
returns-in-Class-clause-allocates g c =
    let f = (g.D.Desk.standing c.args.desk.now).seat.profile in
    let class = c.in-Class.class in
    let route = routed f _ _ _ _ _ c.profile.ensures c.route.ensures c.in-Class.is in
    let home = home_is f _ _ class _ c.kind_for-kind.ensures (c.new.ensures ∙ ap (λ (x : Profile). x.shared) c.profile-in-Class.ensures) in
    rw (← c.self.view_is) (goes _ None route (refl, refl) (allocates c.args.size c.args.align c.args.heap class _ _ _ _ c.requires.admitted route refl
    (subst (λ (d : Directory). ServesFrom (filling_in d class) g.D.Desk.tells c.self.inside.locals.items c.serve_class.new.locals.items
    (g.D.Desk.standing c.args.desk.now) (g.D.Desk.standing c.serve_class.new.desk) c.serve_class.result) home c.serve_class.ensures.serves)))

pub returns-in-Bitfit-clause-allocates : goal.returns-in-Bitfit-clause-allocates
returns-in-Bitfit-clause-allocates g c =
    let f = (g.D.Desk.standing c.args.desk.now).seat.profile in
    let route = routed f _ _ _ _ _ c.profile.ensures c.route.ensures c.in-Bitfit.is in
    goes Route.Bitfit None route (refl, refl) (bitfit_allocates _ _ _ g.D.Desk.tells _ _ route
    (rw (roomed f _ _ _ route c.bitfit_room.ensures) c.alloc.ensures.allocates))

pub returns-in-Large-clause-allocates : goal.returns-in-Large-clause-allocates
returns-in-Large-clause-allocates g c = search (arith, routed, goes)
