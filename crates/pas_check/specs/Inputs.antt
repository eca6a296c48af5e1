-- An input of a check: a trace, then a line that is exactly `transcript`, then a transcript.
use Rattle.std.specs.{Prelude.{ℕ, Bool, ◌||◌, if◌then◌else◌, List, [], ◌∷◌, codes, nat_eq}, Cmp.Lexicographic.pointwise, List.concat}
use Rattle.pas_check.specs.Lines.{lines_in}

-- the line is exactly `transcript`; the last line of all may lack its newline
abbrev pub is_mark : List ℕ → Bool
is_mark line = pointwise nat_eq line (codes "transcript\n") || pointwise nat_eq line (codes "transcript")

-- the lines in front of the first such line, or all where there is none; and those behind it
abbrev pub before_mark : List (List ℕ) → List (List ℕ)
before_mark [] = []
before_mark (line ∷ lines) = if is_mark line then [] else line ∷ before_mark lines

abbrev pub after_mark : List (List ℕ) → List (List ℕ)
after_mark [] = []
after_mark (line ∷ lines) = if is_mark line then lines else after_mark lines

-- THE TRACE of an input: what stands in front of the first line that is exactly `transcript`
abbrev pub trace_in : List ℕ → List ℕ
trace_in input = concat (before_mark (lines_in input))

-- THE TRANSCRIPT of an input: what stands behind that line, and nothing where there is none
abbrev pub transcript_in : List ℕ → List ℕ
transcript_in input = concat (after_mark (lines_in input))
