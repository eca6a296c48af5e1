use Rattle.std.proofs.Common.{◌∙◌, arith, append_assoc}
use Rattle.pas_threads.proofs.TakingTurns.{gathered}
use Rattle.pas_threads.proofs.turns.gather.Goals as goal

pub returns : goal.returns
returns c =
    let own = c.gather_own.ensures in
    let kept = c.gather_kept.ensures in
    record {
      added = simp (kept.added, own.kept, own.added, append_assoc);
      size = kept.room ∙ own.room;
      each = λ i d lt. gathered (own.gathered i d lt) (kept.gathered i d (omega (arith, lt, own.many)));
      many = kept.many ∙ own.many;
    }
