use Rattle.std.proofs.Common.{◌≡◌, ℕ, ◌+◌, ◌<◌, ◌∙◌, List, ◌∷◌, length, get_or, true, suc, ap, sym, subst, arith}
use Rattle.pas_threads.proofs.{Common.{is_set, Mask4, Ledger, HasBench, HasHeard, Worker}, TakingTurns.heard_still}
use Rattle.pas_threads.proofs.settling.+hear_all.Goals as goal

pub hear_if-requires-clause-bench : goal.hear_if-requires-clause-bench
hear_if-requires-clause-bench t c = λ on.
    let is = c.in-Some.ensures.cases.0 in
    subst (λ ws. HasBench c.args.region.now (get_or ws 0 c.in-Some.worker.now).bench) is
    (c.requires.left 0 (c.args.below + 1) c.in-Some.worker.now (omega (arith, ap length is)) (omega arith) (sym c.get.ensures ∙ on))

pub hear_all-requires : goal.hear_all-requires
hear_all-requires t c =
    let is = c.in-Some.ensures.cases.0 in
    let size = ap length is in (
      omega (arith, c.decreases, size),
      (
        omega (arith, c.requires.few, size),
        (
          c.hear_if.ensures.of,
          λ i k d lt at on. subst (λ ws. HasBench c.args.region.now (get_or ws (suc i) d).bench) is
              (c.requires.left (suc i) k d (omega (arith, lt, size)) (omega (arith, at)) on),
        ),
      ),
    )

-- of the first one and of those behind it
heard_each : (awake : Mask4) (below : ℕ) (ledger : Ledger) (w : Worker) (ws : List Worker) → (is_set awake (below + 1) ≡ true → HasHeard ledger w.bench)
    → ((i k : ℕ) (d : Worker) → i < length ws → k ≡ below + 1 + suc i → is_set awake k ≡ true → HasHeard ledger (get_or ws i d).bench)
    → (i k : ℕ) (d : Worker) → i < length (w ∷ ws) → k ≡ below + suc i → is_set awake k ≡ true → HasHeard ledger (get_or (w ∷ ws) i d).bench
heard_each awake below ledger w ws here later i k d lt at on = search arith

pub returns-clause-heard : goal.returns-clause-heard
returns-clause-heard t c = search (arith, heard_each, heard_still)
