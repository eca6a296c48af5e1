-- What the words of a call come to.
use Rattle.std.specs.Prelude.{ℕ, List}
use Rattle.pas_telling.specs.{Words.{IsReplaying, IsChecking, IsGen, IsAccepted}, declared.words.Call.{Call, TheVariants.{Replay, Check, Gen}}}
use Rattle.pas_telling.specs.declared.words.Misread.{Misread, TheVariants.{Usage, Memory}}

-- the words ask for the call
abbrev pub IsCall : List (List ℕ) → Call → Type 0
IsCall words (Replay manner) = IsReplaying manner words
IsCall words Check = IsChecking words
IsCall words (Gen job) = IsGen words job.seed job.ops job.threads job.pages

-- no accepted list; an accepted one, where memory was wanting
abbrev pub IsMisread : List (List ℕ) → Misread → Type 0
IsMisread words Usage = IsAccepted words → ⊥
IsMisread words Memory = IsAccepted words
