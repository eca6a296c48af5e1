use Rattle.std.proofs.Common.{sym, ◌∙◌, subst}
use Rattle.pas_profile.specs.Profiles.{IsDirectoryOf}
use Rattle.pas_steps.proofs.{Called.next_call, ReadDeeds.directory_is}
use Rattle.pas_free_log.proofs.OneEntry.{page_directory, run_grains, stamped_so, put_so, page_returned}
use Rattle.pas_free_log.proofs.returning.return_page.Goals as goal

pub unreachable-requires : goal.unreachable-requires
unreachable-requires g c =
    let told = page_directory _ _ _ _ (g.met.D.Desk.valid c.args.desk.now) c.requires.run.some c.requires.can c.look.ensures.makes c.read_deed.ensures in
    c.in_default.not-Some told.0 told.1

pub put_run-requires-clause-can : goal.put_run-requires-clause-can
put_run-requires-clause-can g c = λ mask is. let grains = run_grains _ _ mask c.requires.run.within is in
    next_call (stamped_so _ _ _ _ _ c.requires.run.some grains c.look.ensures.makes c.stamp.ensures.makes) c.requires.can (λ v met r. r.1)

pub returned-requires-clause-directory : goal.returned-requires-clause-directory
returned-requires-clause-directory g c =
    let told = page_directory _ _ _ _ (g.met.D.Desk.valid c.args.desk.now) c.requires.run.some c.requires.can c.look.ensures.makes c.read_deed.ensures in
    let is = directory_is (g.D.Desk.standing c.args.desk.now).seat.profile _ _ c.in-Some.directory told c.in-Some.is in
    subst (λ s. IsDirectoryOf s.profile c.in-Some.directory) (sym (c.put_run.ensures.puts.puts.calls.adds.seat_is ∙ c.stamp.ensures.makes.seat_is ∙ c.look.ensures.makes.seat_is)) is.1

pub returned-requires-clause-can : goal.returned-requires-clause-can
returned-requires-clause-can g c =
    let grain = c.args.grain in let grains = c.args.grains in let p = c.put_run.ensures.puts.puts in
    let told = page_directory grain grains _ _ (g.met.D.Desk.valid c.args.desk.now) c.requires.run.some c.requires.can c.look.ensures.makes c.read_deed.ensures in
    let is = directory_is (g.D.Desk.standing c.args.desk.now).seat.profile _ _ c.in-Some.directory told c.in-Some.is in
    next_call (put_so grain grains _ _ _ c.requires.run.some (run_grains grain grains _ c.requires.run.within c.put_run.ensures.puts.is) c.look.ensures.makes c.stamp.ensures.makes p) c.requires.can (λ v met r. r.1.deed ∙ is.0)

pub returns-clause-returns : goal.returns-clause-returns
returns-clause-returns g c =
    let grain = c.args.grain in let grains = c.args.grains in
    let told = page_directory grain grains _ _ (g.met.D.Desk.valid c.args.desk.now) c.requires.run.some c.requires.can c.look.ensures.makes c.read_deed.ensures in
    let is = directory_is (g.D.Desk.standing c.args.desk.now).seat.profile _ _ c.in-Some.directory told c.in-Some.is in
    page_returned grain grains _ _ _ c.requires.run.some (run_grains grain grains _ c.requires.run.within c.put_run.ensures.puts.is) c.look.ensures.makes c.stamp.ensures.makes
    c.in-Some.directory c.requires.run.within is.0 c.put_run.ensures.puts.puts c.returned.ensures.returns
