use Rattle.std.proofs.Common.{refl, subst, arith}
use Rattle.pas_rights.specs.Claims.{Claims}
use Rattle.pas_scavenger.{specs.Pages.quiet, proofs.Examinations.{bare_page, used_page, can_read, can_claim, asked, asks, page_not_offered, can_take}}
use Rattle.pas_scavenger.proofs.Examinations.{page_taken, asks_sized, same_room}
use Rattle.pas_scavenger.proofs.examining.examine.Goals as goal

pub returns-then-look-eq0-clause-examines : goal.returns-then-look-eq0-clause-examines
returns-then-look-eq0-clause-examines g c = bare_page c.args.page c.args.epoch c.look.result c.look.ensures.makes c.if-look-eq0.true

pub returns-in-Some-clause-examines : goal.returns-in-Some-clause-examines
returns-in-Some-clause-examines g c = used_page _ _ _ c.if-look-eq0.false c.look.ensures.makes c.in-Some.used c.in-Some.ensures.reads

pub read_directory-directory-requires-clause-can : goal.read_directory-directory-requires-clause-can
read_directory-directory-requires-clause-can g c = can_read _ _ _ c.if-look-eq0.false c.look.ensures.makes c.in_default.ensures.reads c.requires.can

pub claim-requires-clause-can : goal.claim-requires-clause-can
claim-requires-clause-can g c =
    can_claim _ _ _ c.if-look-eq0.false c.look.ensures.makes c.in_default.ensures.reads _ c.read_directory-directory.ensures.reads c.requires.can

pub returns-then-not-claim-clause-examines : goal.returns-then-not-claim-clause-examines
returns-then-not-claim-clause-examines g c = let D = g.D.Desk in let d = c.read_directory-directory.result in
    page_not_offered _ _ _ c.if-look-eq0.false c.look.ensures.makes c.in_default.ensures.reads d c.read_directory-directory.ensures.reads
    (subst (λ t. Claims c.args.page d (D.standing c.read_directory-directory.new.desk) (D.standing c.claim.new.desk) t) c.if-not-claim.true c.claim.ensures.claims) _ c.hint.ensures.makes

pub take_page-requires-clause-can : goal.take_page-requires-clause-can
take_page-requires-clause-can g c = let D = g.D.Desk in let d = c.read_directory-directory.result in
    can_take _ _ _ c.if-look-eq0.false c.look.ensures.makes c.in_default.ensures.reads d c.read_directory-directory.ensures.reads
    (subst (λ t. Claims c.args.page d (D.standing c.read_directory-directory.new.desk) (D.standing c.claim.new.desk) t) c.if-not-claim.false c.claim.ensures.claims) c.requires.can

pub take_page-requires-clause-room : goal.take_page-requires-clause-room
take_page-requires-clause-room g c =
    let D = g.D.Desk in let page = c.args.page in let e = c.args.epoch in let b = c.look.result in
    let d = c.read_directory-directory.result in let l = c.in_default.ensures.reads in let r = c.read_directory-directory.ensures.reads in
    let cl = c.claim.ensures.claims in let got = c.claim.result in let some = c.if-look-eq0.false in let first = c.look.ensures.makes in
    let same = same_room quiet refl (D.spare_of c.args.desk.now) (D.spare_of c.claim.new.desk) (asked page e b some first l d r got cl) c.requires.can
    (asks_sized page d got _ (asks page e b some _ l d r got cl)).only (λ v l stood. g.met.D.Desk.spares _ v l stood) (λ v l stood. g.met.D.Desk.spares _ v l stood) in
    omega (arith, same, c.requires.room)

pub returns-clause-examines : goal.returns-clause-examines
returns-clause-examines g c = let D = g.D.Desk in let d = c.read_directory-directory.result in
    page_taken _ _ _ c.if-look-eq0.false c.look.ensures.makes c.in_default.ensures.reads d c.read_directory-directory.ensures.reads
    (subst (λ t. Claims c.args.page d (D.standing c.read_directory-directory.new.desk) (D.standing c.claim.new.desk) t) c.if-not-claim.false c.claim.ensures.claims) c.take_page.ensures.takes
