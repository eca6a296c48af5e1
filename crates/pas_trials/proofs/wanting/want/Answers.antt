use Rattle.std.proofs.Common.{ap, ◌∙◌}
use Rattle.pas_steps.{specs.Desks.{AnyView, Seat}, proofs.Adding.adds_call}
use Rattle.pas_scan.specs.Marks.{is_marked}
use Rattle.pas_trials.proofs.Found.{offered_found, bare_found, verdict_found}
use Rattle.pas_trials.proofs.wanting.want.Goals as goal

pub returns-clause-wants : goal.returns-clause-wants
returns-clause-wants g c =
    let d = c.args.directory in let f = (g.D.Desk.standing c.args.desk.now).seat.profile in
    let ask = c.ask-claimed.ensures.brings in let first = c.first_offered-offered.ensures in let bare = c.first_without_deed-bare.ensures.found in let judges = c.verdict-verdict.ensures.judges in
    let s1 = ask.calls.adds.seat_is in let s2 = first.found.adds.seat_is ∙ s1 in let s3 = bare.adds.seat_is ∙ s2 in
    record {
      asked = ask.steps;
      offers = first.found.steps;
      bares = bare.steps;
      judged = judges.steps;
      adds = adds_call {D = AnyView} (adds_call {D = AnyView} (adds_call {D = AnyView} ask.calls.adds first.found.adds (λ v l stood m. tt)) bare.adds (λ v l stood m. tt)) judges.adds (λ v l stood m. tt);
      claimed = ask.calls.leads;
      offered = offered_found c.first_offered-offered.result f d (ap (λ (s : Seat). s.profile) s1) c.begin-looked.ensures.directory c.begin-looked.ensures.next first.found;
      bare = bare_found f (ap (λ (s : Seat). s.profile) s2) bare;
      marks = c.first_offered-offered.new.looked.unfit;
      none = λ p. ap (λ u. is_marked u p) first.unfit ∙ c.begin-looked.ensures.unfit p;
      verdict = verdict_found f d (ap (λ (s : Seat). s.profile) s3) (first.directory ∙ c.begin-looked.ensures.directory) judges;
    }
