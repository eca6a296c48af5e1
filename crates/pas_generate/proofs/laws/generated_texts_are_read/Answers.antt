use Rattle.pas_generate.proofs.Whole.{text-faultless, text-planned, text-read}
use Rattle.pas_generate.proofs.laws.generated_texts_are_read.Goals as goal

pub returns-clause-read : goal.returns-clause-read
returns-clause-read c = text-read

pub returns-clause-faultless : goal.returns-clause-faultless
returns-clause-faultless c = text-faultless

pub returns-clause-planned : goal.returns-clause-planned
returns-clause-planned c = text-planned
