use Rattle.std.proofs.Common.{ℕ, ◌<◌, ◌≤◌}
use Rattle.pas_profile.specs.declared.word.Word.{Word}
use Rattle.pas_steps.specs.States.{profile_of, word_in}
use Rattle.pas_report.specs.Counts.{IsDeedWord}
use Rattle.pas_report.proofs.reports.has_deed_words.Given as goal

-- the deed words of the pages before this one are good
abbrev pub invariant-loop-page : goal.invariant-loop-page
invariant-loop-page l = (page : ℕ) → 1 ≤ page → page < l.page → IsDeedWord (profile_of l.state) (word_in l.state (Word.Deed page))
