-- An operation of a phase whose line doesn't matter.
use Rattle.std.specs.Prelude.{◌≡◌}
use Rattle.pas_bits.specs.declared.mask.Mask4.{Mask4}
use Rattle.pas_trace.specs.{Acts.acts_of_op, Codes.unlined, declared.plan.Op.Op}
use Rattle.pas_acts.specs.Awake.{idle_in}
use Rattle.pas_replay.specs.Sessions.{Session, MayGoOn, GoesOn}

-- the acts of some operation come next that is this one but for its line, in a phase in which these threads are awake
abbrev pub MayPerform : Mask4 → Op → Session → Type 0
MayPerform awake said s = (op : Op) × (unlined op ≡ unlined said) × MayGoOn (λ n. acts_of_op (idle_in awake n) op) s

-- they are done
abbrev pub Performs : Mask4 → Op → Session → Session → Type 0
Performs awake said before after = (op : Op) → unlined op ≡ unlined said → GoesOn (λ n. acts_of_op (idle_in awake n) op) before after
