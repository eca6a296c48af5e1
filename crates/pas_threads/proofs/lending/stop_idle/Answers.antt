use Rattle.std.proofs.Common.{◌∙◌, length, refl, ap, sym, arith, length-append}
use Rattle.pas_threads.proofs.{Common.{records_in, Member, records_by, number_in}, ByCrew.{stops_begin, stops_go_on, stops_end}}
use Rattle.pas_threads.proofs.lending.stop_idle.Goals as goal

pub loop-index-init : goal.loop-index-init
loop-index-init c = record { far = λ h s p there lent read. stops_begin c.args.epochs there lent; home = refl; member = refl }

pub stop_lent-requires : goal.stop_lent-requires
stop_lent-requires c =
    let r = c.requires.lent in
    let s = r.1 in
    let inv = c.loop-index.invariant in
    let so = inv.far r.0 s r.2 r.3 r.4 r.6 in
    let did = so.done.did in
    let i = c.loop-index.index in
    let lt = c.loop-index-test.true in
    let longer = ap length did.told.added ∙ length-append (records_in c.args.out.now) (records_by 0 did.turns.came.said) in
    record {
      may = (
        r.0,
        s.profile,
        number_in s i,
        s.lends i,
        did.turns.came.reached,
        record { home = inv.home ∙ r.3.home; over = so.done.over },
        did.turns.stand i c.index-lent-index.result lt,
        λ same. s.distinct.threads i (omega (arith, lt, r.4.many)) (sym r.5 ∙ (sym (ap (λ (m : Member). m.actor) inv.member) ∙ same)),
        did.turns.leaves.epoch ∙ r.6,
      );
      room = omega (arith, longer, did.few, did.told.room, c.requires.room, lt);
    }

pub loop-index-preserved : goal.loop-index-preserved
loop-index-preserved c = record {
  far = λ h s p there lent read.
      let inv = c.loop-index.invariant in
      let so = inv.far h s p there lent read in
      let i = c.loop-index.index in
      let d = c.index-lent-index.result in
      let test = c.loop-index-test.true in
      stops_go_on c.args.epochs i d c.stop_lent.new.worker lent.many so test c.loop-index.auto.lent
      (c.stop_lent.ensures.stops h s.profile (number_in s i) (s.lends i) so.done.did.turns.came.reached (record { home = inv.home ∙ there.home; over = so.done.over }) (so.done.did.turns.stand i d test) (so.done.did.turns.leaves.epoch ∙ read));
  home = c.stop_lent.ensures.home ∙ c.loop-index.invariant.home;
  member = c.stop_lent.ensures.member ∙ c.loop-index.invariant.member;
}

pub returns-clause-stops : goal.returns-clause-stops
returns-clause-stops c = λ h s p there lent read. stops_end c.args.epochs c.loop-index.index lent.many c.loop-index-test.false c.loop-index.auto.index-end (c.loop-index.invariant.far h s p there lent read)
