use Rattle.pas_cache.proofs.Obtained.{local_of, may_call, stops_place, spare_kept}
use Rattle.pas_cache.proofs.stopping.stop_at.Goals as goal

pub give_up-requires : goal.give_up-requires
give_up-requires g c =
    let e = c.remove-slots.ensures in
    let here = local_of c.requires.place e.value e.items c.requires.can in
    record { page = here.page; directory = here.directory; class = here.class; starts = here.starts; can = may_call c.requires.place e.value e.items c.requires.can }

pub returns-clause-stops : goal.returns-clause-stops
returns-clause-stops g c = let e = c.remove-slots.ensures in stops_place c.requires.place e.value e.items c.requires.can c.give_up.ensures.stops

pub returns-clause-spare : goal.returns-clause-spare
returns-clause-spare g c =
    let e = c.remove-slots.ensures in
    let r = (stops_place c.requires.place e.value e.items c.requires.can c.give_up.ensures.stops).stops in
    spare_kept r.calls.adds c.requires.can r.kinds (λ v l q. g.met.D.Desk.spares c.args.desk.now v l q) (λ v l q. g.met.D.Desk.spares c.give_up.new.desk v l q)
