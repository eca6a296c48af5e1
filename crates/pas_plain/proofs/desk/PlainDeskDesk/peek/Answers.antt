use Rattle.std.proofs.Common.{true, subst, sym}
use Rattle.pas_steps.specs.Told.{TellsWord}
use Rattle.pas_plain.{specs.Seats.standing_of, proofs.Desks.tells_word}
use Rattle.pas_plain.proofs.desk.PlainDeskDesk.peek.Goals as goal

pub returns : goal.returns
returns c = subst (TellsWord true (standing_of c.args.self.now) c.args.word) (sym c.word.ensures) (tells_word c.args.self.now c.args.word c.requires)
