use Rattle.std.proofs.Common.{◌∙◌, ap, arith}
use Rattle.pas_profile.specs.declared.profile.Profile.{Profile}
use Rattle.pas_search.proofs.PagesThatServe.{all_bare, none_bare, deed_room, serve_room, deed_adds, lost_passes, clear_can, deed_can, not_left, served_bare}
use Rattle.pas_search.proofs.bare.search_bare.Goals as goal

pub returns-in_default-clause-found : goal.returns-in_default-clause-found
returns-in_default-clause-found g c = let i = c.loop-from.invariant in none_bare c.args.directory i.passes c.in_default.ensures.found

pub deed-requires-clause-room : goal.deed-requires-clause-room
deed-requires-clause-room g c = let i = c.loop-from.invariant in
    deed_room c.args.directory i.passes c.in-Some.ensures.found c.requires.can (g.met.D.Desk.spares c.args.desk.now) (g.met.D.Desk.spares _)

pub serve-requires-clause-can : goal.serve-requires-clause-can
serve-requires-clause-can g c = let i = c.loop-from.invariant in
    deed_can c.args.directory i.passes c.in-Some.ensures.found c.deed.ensures.makes c.if-deed-eq0.true (clear_can c.requires.can)

pub serve-requires-clause-room : goal.serve-requires-clause-room
serve-requires-clause-room g c = let i = c.loop-from.invariant in let d = c.args.directory in let find = c.in-Some.ensures.found in
    serve_room d i.passes find c.requires.can (g.met.D.Desk.spares c.args.desk.now) (deed_adds d i.passes find c.deed.ensures.makes) (g.met.D.Desk.spares c.deed.new.self)

pub returns-in-None-clause-found : goal.returns-in-None-clause-found
returns-in-None-clause-found g c = let i = c.loop-from.invariant in absurd
    (not_left c.args.directory i.passes c.in-Some.ensures.found c.deed.ensures.makes c.if-deed-eq0.true (clear_can c.requires.can) c.in-None.ensures.serves)

pub returns-in-Some-serve-clause-found : goal.returns-in-Some-serve-clause-found
returns-in-Some-serve-clause-found g c = let i = c.loop-from.invariant in
    served_bare c.args.directory i.passes c.in-Some.ensures.found c.deed.ensures.makes c.if-deed-eq0.true c.in-Some-serve.ensures.serves

pub loop-from-preserved : goal.loop-from-preserved
loop-from-preserved g c =
    let i = c.loop-from.invariant in let d = c.args.directory in let find = c.in-Some.ensures.found in let makes = c.deed.ensures.makes in record {
      low = omega arith;
      passes = lost_passes d i.passes find makes c.if-deed-eq0.false;
      home = c.deed.ensures.home ∙ c.first_without_deed.ensures.home ∙ i.home;
    }

pub returns-clause-found : goal.returns-clause-found
returns-clause-found g c =
    all_bare _ c.loop-from.invariant.passes (let pages = ap (λ (f : Profile). f.pages) c.profile.ensures in omega (arith, pages, c.loop-from-test.false))
