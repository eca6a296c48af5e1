use Rattle.std.proofs.Common.{[], ap, arith, ◌∙◌}
use Rattle.pas_check.{specs.Calls.after_request, proofs.Actings.{after_none, after_plain, after_some, fits_wanted, served, served_amiss, served_logged}}
use Rattle.pas_check.proofs.acting.serve.Goals as goal

pub returns-in_default-clause-taken : goal.returns-in_default-clause-taken
returns-in_default-clause-taken c = λ f s r stands wants due.
    served_amiss wants stands due (fits_wanted wants c.args.k (omega arith) (omega arith) (omega arith) (omega arith) c.requires.kind)
    c.take_request.new.machine c.in_default.ensures.taken

pub returns-in_default-replaced-clause-taken : goal.returns-in_default-replaced-clause-taken
returns-in_default-replaced-clause-taken c = λ f s r stands wants due.
    served wants stands due (fits_wanted wants c.args.k (omega arith) (omega arith) (omega arith) (omega arith) c.requires.kind)
    c.take_request.new.machine c.set.new.self c.in-Some.found c.in-Some.ensures.profile c.set.ensures.names c.in-Some.ensures.taken
    (λ v. ap (λ o. after_request v c.args.k r o c.in-Some.found []) c.in_default-replaced.is ∙ after_plain v c.args.k r c.in-Some.found)

pub returns-then-is_none-clause-taken : goal.returns-then-is_none-clause-taken
returns-then-is_none-clause-taken c = λ f s r stands wants due.
    served wants stands due (fits_wanted wants c.args.k (omega arith) (omega arith) (omega arith) (omega arith) c.requires.kind)
    c.take_request.new.machine c.set.new.self c.in-Some.found c.in-Some.ensures.profile c.set.ensures.names c.in-Some.ensures.taken
    (after_none c.args.k r c.args.replaced c.in-Some.found c.if-is_none.ensures)

pub returns-clause-taken : goal.returns-clause-taken
returns-clause-taken c = λ f s r stands wants due.
    served_logged wants stands due (fits_wanted wants c.args.k (omega arith) (omega arith) (omega arith) (omega arith) c.requires.kind)
    c.take_request.new.machine c.set.new.self c.in-Some.found c.in-Some.ensures.profile c.set.ensures.names c.in-Some.ensures.taken c.in-Some-replaced.name
    (after_some c.args.k r c.args.replaced c.in-Some-replaced.name c.in-Some.found c.in-Some-replaced.is c.if-is_none.ensures) (c.log_entry.ensures.taken f)
