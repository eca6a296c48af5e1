use Rattle.std.proofs.Common.{List, [], inl, refl, sym, ap, ◌∙◌, subst}
use Rattle.pas_steps.specs.Lists.{part}
use Rattle.pas_shared.{specs.{Ruled.{HasPart, parts_in, seen_in, view_in}, declared.rule.Part.Part}, proofs.{Ruling.{joins, splits_all}, GivingBack.some_word}}
use Rattle.pas_shared.proofs.GivingBack.{took_last, took_alone, splits_last_as, seen_by_rest}
use Rattle.pas_shared.proofs.pass.ActorSeat.look.Goals as goal

pub split_seat-own-requires : goal.split_seat-own-requires
split_seat-own-requires c = (c.requires.of, some_word c.args.region.now, splits_all _ _ _)

pub join_seat-requires : goal.join_seat-requires
join_seat-requires c = (c.requires.ledger, c.split_seat-own.ensures.3 ∙ c.requires.of, ap (λ m. m.1) c.split_seat-own.ensures.4, some_word c.args.region.now, joins _ _ _ _ _)

pub split_seat-own-requires-2 : goal.split_seat-own-requires-2
split_seat-own-requires-2 c =
    let stand = c.args.self.now in
    let me = c.look.new.self.seat.me in
    let its = ap (λ m. m.0) c.split_seat-own.ensures.4 ∙ ap (λ m. m.0) stand.named in
    let took = took_alone c.args.ledger.now.seat.me c.split_seat-own.result.me c.join_seat.new.seat.me stand.actor
    (view_in stand.seat.me.0) c.args.ledger.now.settled c.requires.nobody its (ap (λ m. m.0) c.join_seat.ensures.2) in
    (c.look.ensures.of, some_word c.args.region.now, splits_last_as _ _ me _ _ [] (took_last me _ [] c.look.new.self.settled (c.look.ensures.actors ∙ took)))

pub join_seat-requires-2 : goal.join_seat-requires-2
join_seat-requires-2 c = (c.split_seat-own.ensures.0 ∙ c.requires.of, c.split_seat-own-2.ensures.3 ∙ c.look.ensures.of, ap (λ m. m.1) c.split_seat-own-2.ensures.4, some_word c.args.region.now, joins _ _ _ _ _)

pub returns-clause-own : goal.returns-clause-own
returns-clause-own c =
    let stand = c.args.self.now in
    let k = stand.actor in
    let v = view_in stand.seat.me.0 in
    let its = ap (λ m. m.0) c.split_seat-own.ensures.4 ∙ ap (λ m. m.0) stand.named in
    let took = took_alone c.args.ledger.now.seat.me c.split_seat-own.result.me c.join_seat.new.seat.me k v c.args.ledger.now.settled c.requires.nobody its (ap (λ m. m.0) c.join_seat.ensures.2) in
    let has : HasPart (parts_in c.join_seat.new.seat.me.0) k v = subst (λ (ps : List Part). HasPart ps k v) (sym took) (inl (refl, refl)) in
    ap (part k) (ap (λ m. seen_in m.0) c.split_seat-own-2.ensures.2 ∙ seen_by_rest c.look.new.self.seat.me.0) ∙ c.look.ensures.all k v has
