use Rattle.std.proofs.Common.{◌≡◌, ◌≤◌, ℕ, ◌+◌, ◌++◌, ◌∷◌, [], List, length, vec_len, sym, ap, ◌∙◌, subst, arith}
use Rattle.pas_profile.specs.Rooms.{shown, EventRoom}
use Rattle.pas_shared.{specs.{declared.{rule.Roster.TheVariants.Unused, pass.SharedPass.SharedPass}, Passes.AreFresh}, proofs.Opened.{fresh_more, one_done}}
use Rattle.pas_shared.proofs.Pops.{others_are}
use Rattle.pas_shared.proofs.opening.deal.Goals as goal

pub loop-room-preserved : goal.loop-room-preserved
loop-room-preserved c =
    let step = c.in-Some.ensures.steps.0 in
    let inv = c.loop-room.invariant in
    let id = c.args.words.now.table_id in
    let passes = c.loop-room.passes in
    let more = inv.some.0 ++ c.in-Some.room ∷ [] in
    let at : c.len-actor.result ≡ 0 + length passes.items = omega (arith, c.len-actor.ensures, passes.ok.0) in
    let len : vec_len c.push_reserved.new.self ≡ c.len-actor.result + 1 = omega (arith, c.len-actor.ensures, c.push_reserved.ensures) in
    record {
      seat = (c.fresh.ensures.left.0, c.fresh.ensures.left.1 ∙ ap (λ n. (Unused n, [])) (sym len));
      some = (
        more,
        one_done inv.some.0 _ c.in-Some.room _ _ step inv.some.1,
        subst (λ (ps : List SharedPass). AreFresh id c.args.profile 0 more ps) (sym c.push_reserved.ensures.items)
            (fresh_more id c.args.profile 0 c.len-actor.result inv.some.0 passes.items c.in-Some.room c.fresh.result inv.some.2 at c.fresh.ensures.pass),
      );
      empty = others_are (λ (room : EventRoom). shown room ≡ []) _ c.in-Some.room _ step inv.empty;
      left = omega (arith, len, ap length step, inv.left, c.len-actor.ensures);
      reserved = subst (λ (n : ℕ). vec_len c.args.rooms ≤ n) (sym c.push_reserved.ensures.capacity) inv.reserved;
    }
