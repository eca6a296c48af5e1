use Rattle.std.proofs.Common.{arith, ◌≡◌, [], ◌∷◌, refl, sym, ap, ◌∙◌, subst}
use Rattle.pas_profile.specs.{Layouts.words_of, declared.profile.Profile.Profile}
use Rattle.pas_steps.{specs.{Agreement.Agrees, Desks.made, Noted.AreNotesOf}, proofs.Noting.notes_next}
use Rattle.pas_shared.{specs.{Ruled.{rows_in, row_with}, Benches.{row_on, first_row, made_by}}, proofs.Benching.{benched_is, one_row, row_stepped, made_next}}
use Rattle.pas_shared.proofs.Benching.{sits_as}
use Rattle.pas_shared.proofs.bench_desk.BenchPlace.make.Goals as goal

pub exchange-answer-requires-clause-place : goal.exchange-answer-requires-clause-place
exchange-answer-requires-clause-place c = let keyed = c.args.region.now.keyed in (c.requires.of, refl, keyed.1 ∙ ap (λ (g : Profile). words_of g.pages g.heaps) (sym keyed.0))

pub exchange-answer-requires-clause-step : goal.exchange-answer-requires-clause-step
exchange-answer-requires-clause-step c =
    search (arith, one_row)

pub exchange-answer-requires-clause-at : goal.exchange-answer-requires-clause-at
exchange-answer-requires-clause-at c =
    search arith

pub invariant_of-self : goal.invariant_of-self
invariant_of-self c =
    search (arith, benched_is, row_stepped, one_row)

pub invariant_of-self-2 : goal.invariant_of-self-2
invariant_of-self-2 c =
    let place = c.args.self.now in
    let k = place.member.actor in
    let m = made c.args.step c.exchange-answer.result in
    let r = row_on place.bench in
    let rows : rows_in c.exchange-answer.new.seat.me.0 ≡ row_with k m r ∷ [] = ap (λ n. rows_in n.0) (row_stepped place.bench.seat.me _ k m _
    (one_row place.bench.seat.me _ place.bench.benched place.one) c.exchange-answer.ensures.step.0) in (
      (place.member.valid, (place.member.within, tt)),
      (
        rows ∙ ap (λ rs. first_row rs ∷ []) (sym rows),
        (
          sits_as _ _ _ (ap first_row rows) (record {
            among_them = place.sits.among_them;
            noted = subst (λ v. AreNotesOf k v c.note.new.self) (sym (made_next r k m)) (notes_next place.member.notes c.note.new.self k c.args.step c.exchange-answer.result (made_by place.bench place.member) place.sits.noted c.note.ensures);
          }),
          tt,
        ),
      ),
    )

pub returns-clause-row : goal.returns-clause-row
returns-clause-row c =
    search (arith, row_stepped, one_row)

pub returns-clause-agrees : goal.returns-clause-agrees
returns-clause-agrees c =
    let known = c.args.region.now.keyed.0 ∙ sym c.requires.profiled in
    subst (λ (g : Profile). Agrees g (made_by c.args.self.now.bench c.args.self.now.member) c.args.step c.exchange-answer.result) known c.exchange-answer.ensures.step.1
