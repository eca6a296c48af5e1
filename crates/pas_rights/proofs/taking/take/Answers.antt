use Rattle.std.proofs.Common.{arith, [], ◌∷◌}
use Rattle.pas_bits.specs.declared.mask.Mask4.{Mask4}
use Rattle.pas_steps.proofs.Adding.{adds_none, adds_call, can_call}
use Rattle.pas_rights.{specs.Words.words, proofs.Puts.{takes_right, takes_get}}
use Rattle.pas_rights.proofs.taking.take.Goals as goal

pub take_word-requires-2-clause-can : goal.take_word-requires-2-clause-can
take_word-requires-2-clause-can g c = search (arith, can_call, adds_call, adds_none, takes_right)

pub take_word-requires-3-clause-can : goal.take_word-requires-3-clause-can
take_word-requires-3-clause-can g c = search (arith, can_call, adds_call, adds_none, takes_right)

pub take_word-requires-4-clause-can : goal.take_word-requires-4-clause-can
take_word-requires-4-clause-can g c = let page = c.args.page in let mask = words c.args.mask.now in let answers = words (record { 0 = c.take_word.result ∷ c.take_word-2.result ∷ c.take_word-3.result ∷ [] }) in
    can_call (adds_call (adds_call (adds_call adds_none c.take_word.ensures.takes (λ v l stood met. met)) c.take_word-2.ensures.takes
    (λ v l stood. takes_right page mask answers 1 v)) c.take_word-3.ensures.takes (λ v l stood. takes_right page mask answers 2 v))
    c.requires.can (λ v l stood. takes_right page mask answers 3 v)

pub returns-clause-takes : goal.returns-clause-takes
returns-clause-takes g c =
    let page = c.args.page in let mask = c.args.mask.now in
    let answers : Mask4 = record { 0 = c.take_word.result ∷ c.take_word-2.result ∷ c.take_word-3.result ∷ c.take_word-4.result ∷ [] } in
    record {
      answers = answers;
      got_is = c.both.ensures;
      calls = record {
        adds = search (arith, adds_call, adds_none, takes_right);
        leads = record { from = λ v met agreed. takes_get page mask answers _ c.both.ensures (g.D.Desk.standing c.args.desk.now).seat.profile v agreed };
      };
    }
