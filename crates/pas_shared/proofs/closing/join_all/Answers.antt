use Rattle.std.proofs.Common.{arith, ◌≡◌, ap, sym, subst, ◌∙◌, append_assoc}
use Rattle.pas_shared.{specs.{Ruled.{joined, seen_in, view_in, IsNoBench}, declared.pass.SharedPass.SharedPass}, proofs.Ruling.{takes_in, seen_still}}
use Rattle.pas_shared.proofs.{Ruling.no_bench_still, Pops.last_is}
use Rattle.pas_shared.proofs.closing.join_all.Goals as goal

-- the last pass, and those before it, are of the table
pub loop-pass-preserved : goal.loop-pass-preserved
loop-pass-preserved c =
    let i = c.loop-pass.invariant in
    let pass = c.in-Some.pass in
    let of_table = last_is (λ (p : SharedPass). p.place.seat.table_id ≡ c.args.words.now.table_id) c.loop-pass.passes.items c.pop.new.self.items pass c.in-Some.ensures.items i.3 in
    let seat = c.loop-pass.seat.me.0 in (
      c.join.ensures.0,
      ap (λ m. m.1) c.join.ensures.1 ∙ i.1,
      subst IsNoBench (sym (ap (λ m. m.0) c.join.ensures.1 ∙ ap (λ m. joined seat m.0) pass.place.named)) (no_bench_still seat pass.place.actor (view_in pass.place.seat.me.0) i.2),
      of_table.0,
      ap (λ m. seen_in m.0) c.join.ensures.1 ∙ ap (λ m. seen_in (joined seat m.0)) pass.place.named ∙ seen_still seat pass.place.actor (view_in pass.place.seat.me.0) ∙ i.4,
      search (arith, append_assoc, takes_in),
    )
