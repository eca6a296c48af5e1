use Rattle.std.proofs.Common.{◌∙◌, refl, sym}
use Rattle.pas_threads.proofs.CrewSits.{member_leaves}
use Rattle.pas_threads.proofs.lending.let_leave.Goals as goal

pub leave-requires-clause-profile : goal.leave-requires-clause-profile
leave-requires-clause-profile c = (member_leaves c.in-Some.member (sym c.take.ensures.value ∙ c.in-Some.is) c.requires.may).0

pub leave-requires-clause-sits : goal.leave-requires-clause-sits
leave-requires-clause-sits c = (member_leaves c.in-Some.member (sym c.take.ensures.value ∙ c.in-Some.is) c.requires.may).1

pub returns-clause-left : goal.returns-clause-left
returns-clause-left c =
    let is = sym c.take.ensures.value ∙ c.in-Some.is in
    let leaves = member_leaves c.in-Some.member is c.requires.may in
    record {
      may = record { member = c.in-Some.member; present = is; fresh = c.requires.may.fresh; profile = leaves.0; sits = leaves.1 };
      has = record { pass = c.leave.result; present = refl; of = c.leave.ensures.pass };
      is = record { of = c.leave.ensures.pass; seat = c.leave.ensures.seat; view = c.leave.ensures.view };
      rows_are = c.leave.ensures.left;
      but = record { cache = refl; requests = refl; out = refl; keeper = refl };
    }
