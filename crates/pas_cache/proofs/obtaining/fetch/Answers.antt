use Rattle.pas_cache.proofs.Obtained.{obtain_after, filling_then, obtains_refilled, search_call}
use Rattle.pas_cache.proofs.obtaining.fetch.Goals as goal

pub refill-requires-clause-filling : goal.refill-requires-clause-filling
refill-requires-clause-filling g c = filling_then c.make_place.ensures.makes c.requires.filling

pub refill-requires-clause-can : goal.refill-requires-clause-can
refill-requires-clause-can g c = search_call _ _ (filling_then c.make_place.ensures.makes c.requires.filling) c.make_place.ensures.none
    (obtain_after _ _ c.make_place.ensures.makes c.make_place.ensures.spare c.requires.can)

pub returns-in-Ok-clause-obtains : goal.returns-in-Ok-clause-obtains
returns-in-Ok-clause-obtains g c = let e = c.make_place.ensures in record {
  fewer = c.make_place.new.locals.items;
  slots = c.in-Ok.slots;
  obtains = obtains_refilled _ g.D.Desk.tells _ _ _ c.requires.filling c.requires.none e.makes e.none e.few c.in-Ok.ensures.refills;
  last = c.push.ensures.items;
}

pub returns-in-Err-clause-obtains : goal.returns-in-Err-clause-obtains
returns-in-Err-clause-obtains g c = let e = c.make_place.ensures in obtains_refilled _ g.D.Desk.tells _ _ _ c.requires.filling c.requires.none e.makes e.none e.few c.in-Err.ensures.refills
