use Rattle.std.proofs.Common.{◌≡◌, ◌∙◌, true, false, refl, arith, subst, length}
use Rattle.pas_threads.proofs.{Common.{is_active, AreDealt, round, Scavenger}, Dealt.picked_many, Performed.{shift_of, own_may, may_scavenge, crew_done, piece}}
use Rattle.pas_threads.proofs.phases.perform_all.{Given.Over, Goals.After-deal}
use Rattle.pas_threads.proofs.phases.perform_all.Goals as goal

-- the workers are dealt into those that have an operation and the others
dealt_by : (g : Over) (c : After-deal g) → AreDealt (is_active c.args.ops.now) c.args.team.threads.items c.deal.new.hands.items c.deal.new.lent.items
dealt_by g c = subst (λ chosen. AreDealt chosen c.args.team.threads.items c.deal.new.hands.items c.deal.new.lent.items) (λ i k. c.requires.awake k i)
    c.deal.ensures.dealt

pub act_with-requires-clause-threads : goal.act_with-requires-clause-threads
act_with-requires-clause-threads g c = λ here lives. own_may c.requires.ready.4 (dealt_by g (goal.at.act_with-requires-clause-threads g c).After-deal)

pub act_with-requires-clause-scavenger : goal.act_with-requires-clause-scavenger
act_with-requires-clause-scavenger g c = λ here lives busy.
    let ready = c.requires.ready.4 in
    record {
      shift = shift_of (round c.requires.ready.0 c.args.team.book c.args.ops.now c.requires.ready.1 c.requires.ready.2 c.requires.ready.3);
      asked = ready.asked;
      progress = c.requires.ready.3;
      sound = ready.sound;
      stands = may_scavenge ready (dealt_by g (goal.at.act_with-requires-clause-scavenger g c).After-deal) _ refl refl refl refl;
    }

pub take_back-requires-clause-sized : goal.take_back-requires-clause-sized
take_back-requires-clause-sized g c =
    search (arith, picked_many)

pub returns : goal.returns
returns g c = record {
  done = λ s later more p ready.
      let dealt = dealt_by g (goal.at.returns g c).After-deal in
      let v = c.args.team.scavenger in
      let scavenger : Scavenger = record { pass = v.pass; outcomes = v.outcomes; out = v.out; lent = c.deal.new.lent; bench = v.bench } in
      let now = c.act_with.new.scavenger in
      let did = λ (on : is_active c.args.ops.now 0 ≡ true). c.act_with.ensures.did (c.get-busy.ensures ∙ c.requires.awake 0 ∙ on) in
      let stayed = λ (off : is_active c.args.ops.now 0 ≡ false). c.act_with.ensures.stayed (c.get-busy.ensures ∙ c.requires.awake 0 ∙ off) in
      let crew = crew_done ready scavenger now (may_scavenge ready dealt scavenger refl refl refl refl) did stayed in
      let new = c.take_back.new.threads.items in
      let hands = c.act_with.new.hands.items in
      let back = subst (λ chosen. AreDealt chosen new hands now.lent.items) (λ i k. c.requires.awake k i) c.take_back.ensures.dealt in
      let size : length new ≡ length c.args.team.threads.items = (omega (arith, c.args.team.threads.ok.0, c.len-count.ensures, c.take_back.ensures.many)) in
      let pieces = piece ready c.deal.new.hands.items hands new scavenger now dealt c.act_with.ensures.threads back size crew in
      record {
        pieces = λ w.
            let p = (pieces w).piece in
            record { piece = record { own = p.own; threads = p.threads; scavenger = p.scavenger; still = p.still }; left = (pieces w).left; crew_left = (pieces w).crew_left };
        many = size;
        none = c.take_back.ensures.none.1;
        book = refl;
        places = (
          omega (arith, ready.places.0, c.deal.ensures.places.0, c.take_back.ensures.places.0),
          omega (arith, ready.places.1, c.deal.ensures.places.1, c.take_back.ensures.places.1, c.act_with.ensures.place),
          omega (arith, ready.places.2, c.deal.ensures.places.2, c.take_back.ensures.places.2, c.act_with.ensures.lent.1),
          c.take_back.ensures.none.0,
        );
      };
}
