-- Which pages steps stamp, and with which epoch.
use Rattle.std.specs.Prelude.{ℕ, zero, suc, ◌+◌, ◌-◌, ◌/◌, ◌==◌, if◌then◌else◌, List, [], ◌∷◌, ◌++◌, map}
use Rattle.pas_steps.specs.{Views.{View, epoch_of}, declared.step.{Made.Made, Step.{Step, TheVariants.Stamp}}}

-- these stamps and the one that the step, made with this epoch, puts; no other step than a stamp puts one
abbrev pub stamped_by : Step → ℕ → List (ℕ × ℕ) → List (ℕ × ℕ)
stamped_by (Stamp page) epoch stamps = (page, epoch) ∷ stamps
stamped_by step epoch stamps = stamps

-- the pages that these steps stamp, which were made from this view on, each with the epoch of its step; the newest first
abbrev pub stamps_by : View → List Made → List (ℕ × ℕ)
stamps_by v [] = []
stamps_by v (m ∷ ms) = stamped_by m.step (epoch_of (ms ++ v)) (stamps_by v ms)

-- so many pages from the first one on, the last one first
abbrev pub pages_from : ℕ → ℕ → List ℕ
pages_from first zero = []
pages_from first (suc n) = (first + n) ∷ pages_from first n

-- on how many pages the run of n grains from g lies, and on which
abbrev pub page_count : ℕ → ℕ → ℕ
page_count g n = if n == 0 then 0 else (g + n - 1) / 256 - g / 256 + 1

abbrev pub pages_met : ℕ → ℕ → List ℕ
pages_met g n = pages_from (g / 256) (page_count g n)

-- stamps of these pages with one epoch
abbrev pub stamps_with : ℕ → List ℕ → List (ℕ × ℕ)
stamps_with epoch pages = map (λ page. (page, epoch)) pages
