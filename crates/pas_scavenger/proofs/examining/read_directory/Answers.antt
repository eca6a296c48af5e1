use Rattle.std.proofs.Common.{arith, [], ◌∷◌, subst}
use Rattle.pas_profile.specs.declared.word.Word.{Word}
use Rattle.pas_steps.{specs.{Desks.{AnyView, Adds, made}, declared.step.Step.TheVariants.Look}, proofs.Adding.{adds_none, adds_step}}
use Rattle.pas_steps.proofs.ReadDeeds.{directory_told, directory_is}
use Rattle.pas_scavenger.proofs.examining.read_directory.Goals as goal

pub unreachable-requires : goal.unreachable-requires
unreachable-requires g c =
    search (arith, directory_told)

pub returns-clause-reads : goal.returns-clause-reads
returns-clause-reads g c =
    let D = g.D.Desk in let can = c.requires.can in let agrees = c.look.ensures.makes.agrees can.view _ can.stood tt in let f = (D.standing _).seat.profile in
    let told = directory_told f _ _ (g.met.D.Desk.valid c.args.desk.now) c.read_deed.ensures (agrees.a_deed (agrees.backed can.met)) in
    let is = directory_is f _ _ c.in-Some.directory told c.in-Some.is in
    record {
      of_profile = is.1;
      adds = subst (λ n. Adds (D.standing c.args.desk.now) (D.standing c.look.new.self) AnyView (made (Look (Word.Deed c.args.page)) n ∷ [])) is.0 (adds_step adds_none c.look.ensures.makes (λ v l stood met. tt));
    }
