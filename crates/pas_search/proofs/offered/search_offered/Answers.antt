use Rattle.std.proofs.Common.{◌≡◌, ◌∙◌, ◌==◌, ◌||◌, ◌+◌, ap, sym, refl, arith, rules, []}
use Rattle.pas_scan.specs.Marks.{is_marked}
use Rattle.pas_steps.{specs.Desks.AnyView, proofs.Adding.{adds_none, can_call}}
use Rattle.pas_search.{specs.Searches.MaySearch, proofs.{ForBackEnds.room_kept, ToldVisits.{tries_passed, passes_none, still_can}, PagesThatServe.claim_can}}
use Rattle.pas_search.proofs.PagesThatServe.{none_offered, further, claim_adds, claim_quiet, lost_tries, serve_can, found_there, left_tries, TriesPages}
use Rattle.pas_search.proofs.offered.search_offered.Goals as goal

pub loop-looked-init : goal.loop-looked-init
loop-looked-init g c =
    let first = c.requires.next in let D = g.D.Desk in let σ = D.standing c.args.desk.now in let l = c.args.looked.now in let passed = c.pass_short.ensures in
    let start : TriesPages (g.S.Serving.rule c.args.serving.now) l.directory l.next l.unfit σ σ
    = record { steps = []; adds = adds_none; goes = record { searching = search rules; rest = λ p low. c.requires.unfit p; within = omega (arith, first); few = omega arith } } in
    record { low = omega (arith, first, passed.next); directory = passed.directory; tries = tries_passed refl start passed.passes; home = passed.home }

pub returns-in_default-clause-found : goal.returns-in_default-clause-found
returns-in_default-clause-found g c =
    let i = c.loop-looked.invariant in let D = g.D.Desk in let d = c.args.looked.now.directory in
    rw c.first_offered.ensures.unfit (none_offered i.tries i.directory i.low (let pages = ap (λ f. f.pages) c.profile.ensures in omega (arith, pages, c.loop-looked-test.true)) c.in_default.ensures.found)

pub claim-requires-clause-can : goal.claim-requires-clause-can
claim-requires-clause-can g c = let i = c.loop-looked.invariant in claim_can i.tries i.directory c.in-Some.ensures.found c.requires.can

pub serve-requires-clause-can : goal.serve-requires-clause-can
serve-requires-clause-can g c =
    let i = c.loop-looked.invariant in let h = c.claim.ensures.claims in
    serve_can i.tries i.directory c.in-Some.ensures.found h.calls.adds (sym h.got_is ∙ c.if-claim.true) c.requires.can

pub serve-requires-clause-room : goal.serve-requires-clause-room
serve-requires-clause-room g c =
    let i = c.loop-looked.invariant in let d = c.args.looked.now.directory in let h = c.claim.ensures.claims in
    room_kept {C = MaySearch d} (g.S.Serving.rule c.args.serving.now).events (claim_adds i.tries i.directory _ h.calls.adds) c.requires.can
    (claim_quiet i.tries i.directory c.in-Some.ensures.found h.calls.adds) (g.met.D.Desk.spares c.args.desk.now) (g.met.D.Desk.spares c.claim.new.desk) c.requires.room

pub mark_unfit-requires : goal.mark_unfit-requires
mark_unfit-requires g c = let most = (g.met.D.Desk.valid c.loop-looked.desk).pages in omega (arith, most, c.in-Some.ensures.found.outcome.1.of_region.1)

pub returns-in-Some-serve-clause-found : goal.returns-in-Some-serve-clause-found
returns-in-Some-serve-clause-found g c =
    let i = c.loop-looked.invariant in let n = c.first_offered.new.looked in let h = c.claim.ensures.claims in
    found_there i.tries i.directory c.in-Some.ensures.found h.calls.adds (sym h.got_is ∙ c.if-claim.true) n.unfit c.in-Some-serve.ensures.serves

pub pass_short-requires-then-claim-clause-can : goal.pass_short-requires-then-claim-clause-can
pass_short-requires-then-claim-clause-can g c =
    let i = c.loop-looked.invariant in let h = c.claim.ensures.claims in let marked = c.mark_unfit.new.self in let p = c.in-Some.page in
    let left = left_tries i.tries i.directory c.in-Some.ensures.found h.calls.adds (sym h.got_is ∙ c.if-claim.true) (c.mark_unfit.ensures.next ∙ further i.tries i.directory c.in-Some.ensures.found)
    marked.unfit (λ q. c.mark_unfit.ensures.unfit q ∙ ap (λ m. (p == q) || is_marked m q) c.first_offered.ensures.unfit) c.in_default-serve.ensures.serves in
    still_can c.note_unfit.ensures.still (can_call {C = MaySearch c.args.looked.now.directory} {D = AnyView} left.adds c.requires.can (λ v l stood met. tt))

pub loop-looked-preserved-then-claim : goal.loop-looked-preserved-then-claim
loop-looked-preserved-then-claim g c =
    let i = c.loop-looked.invariant in let p = c.in-Some.page in let h = c.claim.ensures.claims in let D = g.D.Desk in let rule = g.S.Serving.rule c.args.serving.now in
    let bit = sym h.got_is ∙ c.if-claim.true in let serves = c.in_default-serve.ensures.serves in let marked = c.mark_unfit.new.self in let passed = c.pass_short-then-claim.ensures in
    let next : marked.next ≡ p + 1 = c.mark_unfit.ensures.next ∙ further i.tries i.directory c.in-Some.ensures.found in
    let directory = c.mark_unfit.ensures.directory ∙ c.first_offered.ensures.directory ∙ i.directory in
    let left = left_tries i.tries i.directory c.in-Some.ensures.found h.calls.adds bit next marked.unfit
    (λ q. c.mark_unfit.ensures.unfit q ∙ ap (λ m. (p == q) || is_marked m q) c.first_offered.ensures.unfit) serves in
    let kept = tries_passed refl left (passes_none rule c.args.looked.now.directory marked.next marked.unfit (D.standing c.serve.new.desk) (D.standing c.note_unfit.new.desk) c.note_unfit.ensures.still) in record {
      low = omega (arith, next, passed.next);
      directory = passed.directory ∙ directory;
      tries = tries_passed directory kept passed.passes;
      home = passed.home ∙ c.note_unfit.ensures.home ∙ c.serve.ensures.home ∙ c.claim.ensures.home ∙ c.first_offered.ensures.home ∙ i.home;
    }

pub loop-looked-preserved : goal.loop-looked-preserved
loop-looked-preserved g c =
    let i = c.loop-looked.invariant in let h = c.claim.ensures.claims in
    let next = further i.tries i.directory c.in-Some.ensures.found in record {
      low = omega (arith, next);
      directory = c.first_offered.ensures.directory ∙ i.directory;
      tries = lost_tries i.tries i.directory c.in-Some.ensures.found h.calls.adds c.first_offered.ensures.unfit (sym h.got_is ∙ c.if-claim.false);
      home = c.claim.ensures.home ∙ c.first_offered.ensures.home ∙ i.home;
    }

-- all pages were looked at
pub returns-clause-found : goal.returns-clause-found
returns-clause-found g c =
    search arith
