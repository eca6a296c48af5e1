-- An operation of a thread, with the indexes of the heaps as its door.
use Rattle.std.specs.Prelude.{ℕ, ◌≡◌, List, [], ◌∷◌}
use Rattle.pas_profile.specs.declared.profile.Profile.{Profile}
use Rattle.pas_large.specs.Doors.{Indexes}
use Rattle.pas_trace.specs.{Acts.{Operates, Settles}, declared.plan.Op.Op}
use Rattle.pas_answers.specs.{Answers.{Named, Progress}, Indexes.{indexes_after_all, AllAreNamedBy}}
use Rattle.pas_acts.specs.{Works.Later, AtDesks.{Here, ThreadActs}}

-- Thread k did the operation, and what its cache noted was handed on. The runs that were named are those of the indexes, which hold then what they do after
-- these acts.
pub record ActsByIndexes (f : Profile) (k : ℕ) (op : Op) (indexes indexes' : Indexes) (came : List Named) (old new : Here) (later : Later) (p : Progress) : Type 0 where
  pub did : ThreadActs f k (Operates op ∷ (Settles op.actor ∷ [])) came [] old new later p
  pub named : AllAreNamedBy f indexes (Operates op ∷ (Settles op.actor ∷ [])) p did.reached did.reaches
  pub left : indexes' ≡ indexes_after_all f (Operates op ∷ (Settles op.actor ∷ [])) p did.reached did.reaches indexes
