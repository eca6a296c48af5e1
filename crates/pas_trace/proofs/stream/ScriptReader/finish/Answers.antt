use Rattle.std.proofs.Common.{arith, ◌++◌, List, ℕ, subst, sym}
use Rattle.pas_trace.specs.{Scripts.IsScripting, Streams.AreLinesOf}
use Rattle.pas_trace.proofs.stream.ScriptReader.finish.Goals as goal

pub read_script-requires : goal.read_script-requires
read_script-requires c = omega (arith, c.requires.2)

pub returns-in-Unread : goal.returns-in-Unread
returns-in-Unread c before h =
    subst (λ (t : List ℕ). IsScripting (t ++ c.args.rest.now) c.read_script.result) (sym (subst (AreLinesOf before) c.in-Unread.is h)) c.read_script.ensures

pub script_of-requires : goal.script_of-requires
script_of-requires c = let h = subst (AreLinesOf c.requires.0) c.in-Read.is c.requires.1 in (c.requires.0, rw c.in-Read.is h, c.requires.2)

pub returns-in-Read : goal.returns-in-Read
returns-in-Read c before h = let read = subst (AreLinesOf before) c.in-Read.is h in c.script_of.ensures before (rw c.in-Read.is read)

pub returns-in-Faulty : goal.returns-in-Faulty
returns-in-Faulty c before h = subst (AreLinesOf before) c.in-Faulty.is h c.args.rest.now
