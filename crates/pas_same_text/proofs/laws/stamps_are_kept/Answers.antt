-- Stamps between acts.
use Rattle.std.proofs.Common.{refl}
use Rattle.pas_same_text.proofs.SeatedActs.{stamped_kept, stamps_told}
use Rattle.pas_same_text.proofs.laws.stamps_are_kept.Goals as goal

pub returns-clause-start : goal.returns-clause-start
returns-clause-start c = record { kept = tt; stamped = λ k page. refl }

pub returns-clause-keeps : goal.returns-clause-keeps
returns-clause-keeps c = λ f act. stamped_kept f act

pub returns-clause-told : goal.returns-clause-told
returns-clause-told c = λ f p valid between are. stamps_told f p valid between are
