use Rattle.std.proofs.Common.{arith, ◌≡◌, ◌⊎◌, ℕ, [], None, ap}
use Rattle.pas_profile.specs.declared.profile.Profile.{Profile}
use Rattle.pas_trace.specs.{Acts.Operates, declared.plan.What.{What, TheVariants.{Tick, Pass, Idle, Flush, Stop}}}
use Rattle.pas_check.{specs.{Begins.{begun_what, flushing}, States.Stand}, proofs.Actings.{asks_taken, nothing_begun}}
use Rattle.pas_check.proofs.acting.operate_plain.Goals as goal

-- an operation of the scavenger
chore_begun : (f : Profile) (s : Stand) (k : ℕ) (what : What) → ((e : ℕ) × (what ≡ Tick e)) ⊎ ((what ≡ Pass) ⊎ ((n : ℕ) × (what ≡ Idle n)))
    → begun_what f s k what ≡ s
chore_begun f s k what is = search arith

-- in each case it computes, or is given
flush_begun : (f : Profile) (s : Stand) (k : ℕ) (what : What) → (what ≡ Flush) ⊎ (what ≡ Stop) → begun_what f s k what ≡ flushing s k [] []
flush_begun f s k what is = search arith

pub returns-in-Alloc-clause-taken : goal.returns-in-Alloc-clause-taken
returns-in-Alloc-clause-taken c = λ f.
    asks_taken c.args.op.actor None c.requires.within (λ s stands. ap (λ (w : What). begun_what f s c.args.op.actor w) c.in-Alloc.is)
    (rw c.profile.ensures at c.wanted_for-wanted.ensures.wanted) (c.serve.ensures.taken f)

pub returns-in-Guarded-clause-taken : goal.returns-in-Guarded-clause-taken
returns-in-Guarded-clause-taken c = λ f.
    asks_taken c.args.op.actor None c.requires.within (λ s stands. ap (λ (w : What). begun_what f s c.args.op.actor w) c.in-Guarded.is)
    (rw c.profile-in-Guarded.ensures at c.wanted_for-wanted-in-Guarded.ensures.wanted) (c.serve-in-Guarded.ensures.taken f)

pub returns-in-Free-clause-taken : goal.returns-in-Free-clause-taken
returns-in-Free-clause-taken c = λ f. c.free_named.ensures.taken f (Operates c.args.op) (λ s. ap (λ (w : What). begun_what f s c.args.op.actor w) c.in-Free.is)

pub returns-in-FreeSized-clause-taken : goal.returns-in-FreeSized-clause-taken
returns-in-FreeSized-clause-taken c = λ f. c.free_named-in-FreeSized.ensures.taken f (Operates c.args.op)
    (λ s. ap (λ (w : What). begun_what f s c.args.op.actor w) c.in-FreeSized.is)

pub returns-in-Raw-clause-taken : goal.returns-in-Raw-clause-taken
returns-in-Raw-clause-taken c = λ f. c.free_entry.ensures.taken f (Operates c.args.op)
    (λ s stands. ap (λ (w : What). begun_what f s c.args.op.actor w) c.in-Raw.is)

pub returns-in-RawSized-clause-taken : goal.returns-in-RawSized-clause-taken
returns-in-RawSized-clause-taken c = λ f. c.free_entry-in-RawSized.ensures.taken f (Operates c.args.op)
    (λ s stands. ap (λ (w : What). begun_what f s c.args.op.actor w) c.in-RawSized.is)

pub returns-in-Remake-clause-taken : goal.returns-in-Remake-clause-taken
returns-in-Remake-clause-taken c = λ f. c.remake.ensures.taken f (Operates c.args.op) (λ s. ap (λ (w : What). begun_what f s c.args.op.actor w) c.in-Remake.is)

pub returns-in-Flush-clause-taken : goal.returns-in-Flush-clause-taken
returns-in-Flush-clause-taken c = λ f. c.flush.ensures.taken f (Operates c.args.op) (λ s. flush_begun f s c.args.op.actor c.args.op.what c.in-Flush.is)

pub returns-in-Tick-clause-taken : goal.returns-in-Tick-clause-taken
returns-in-Tick-clause-taken c = λ f.
    nothing_begun c.requires.within (λ s stands. chore_begun f s c.args.op.actor c.args.op.what c.in-Tick.is)
