use Rattle.std.proofs.Common.{arith, ◌∙◌, refl, sym, subst}
use Rattle.pas_threads.proofs.Common.{same_Some, IsPassOf}
use Rattle.pas_threads.proofs.lending.seat_one.Goals as goal

pub seat-requires-clause-pass : goal.seat-requires-clause-pass
seat-requires-clause-pass c =
    search (arith, same_Some)

pub returns-clause-seated : goal.returns-clause-seated
returns-clause-seated c =
    let has = c.requires.has in
    let is = sym c.take.ensures.value ∙ c.in-Some.is in
    record {
      has = record { pass = c.in-Some.pass; present = is; of = subst (IsPassOf c.args.region.now) (same_Some _ _ (sym has.present ∙ is)) has.of };
      member = c.seat.result;
      present = refl;
      is = c.seat.ensures.member;
      rows_are = c.seat.ensures.rows;
      but = record { cache = refl; requests = refl; out = refl; keeper = refl };
    }
