use Rattle.std.proofs.Common.{sym}
use Rattle.pas_profile.specs.declared.word.Word.{Word}
use Rattle.pas_steps.specs.{Views.known_deed, Lists.{part, word_after}}
use Rattle.pas_core.proofs.{Deeds.known_is, Rights.deeds_known, Lives.life_is_known}
use Rattle.pas_core.proofs.knowledge_laws.known_is_true.Goals as goal

pub returns-clause-deed : goal.returns-clause-deed
returns-clause-deed c = λ f l legal k p ne. sym (known_is (known_deed (part k l) p) (word_after l (Word.Deed p)) (deeds_known f l legal k p) ne)

pub returns-clause-life : goal.returns-clause-life
returns-clause-life c = λ f l valid legal k g w h. sym (life_is_known f l valid legal k g w h).1
