use Rattle.std.proofs.Common.{◌≡◌, not, true, false, ap, refl, sym, ◌∙◌}
use Rattle.pas_bits.specs.Masks.{is_set}
use Rattle.pas_check.proofs.Actings.{act_taken, chosen_alone, nothing_taken}
use Rattle.pas_check.proofs.checking.stop_unless_awake.Goals as goal

pub returns-then-get-clause-taken : goal.returns-then-get-clause-taken
returns-then-get-clause-taken c =
    let off : not (is_set c.args.awake c.args.thread) ≡ false = ap not (sym c.get.ensures ∙ c.if-get.true) in
    rw (chosen_alone (λ k. not (is_set c.args.awake k)) c.args.thread false off) (nothing_taken refl)

pub returns-clause-taken : goal.returns-clause-taken
returns-clause-taken c =
    let on : not (is_set c.args.awake c.args.thread) ≡ true = ap not (sym c.get.ensures ∙ c.if-get.false) in
    rw (chosen_alone (λ k. not (is_set c.args.awake k)) c.args.thread true on) (act_taken c.stop_idle.ensures.taken)
