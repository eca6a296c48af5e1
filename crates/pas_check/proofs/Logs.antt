-- Logs that stand one after the other in one list, 64 places for each.
use Rattle.std.proofs.Common.{◌≡◌, ◌≢◌, ℕ, ◌+◌, ◌-◌, ◌*◌, ◌<◌, ◌≤◌, List, [], ◌∷◌, ◌++◌, length, take, drop, get_or, set, inl, inr, ap, ◌∙◌, arith, length-drop}
use Rattle.std.proofs.{Common.{get_or-set_other, get_or-set_same, drop-set-lt, length-take-le}, lemmas.{Bool.cases_lt, List.{drop-set-add, take-set-le}}}
use Rattle.std.proofs.lemmas.List.{take_more_set}
use Rattle.pas_check.specs.Tables.{log_of}
use Rattle.pas_profile.specs.declared.entry.Entry.{Entry}

module _ (entries : List Entry) (counts : List ℕ) (sized : length entries ≡ 64 * length counts) (few : (j : ℕ) → get_or counts j 0 ≤ 64) where
  left_there : (k : ℕ) → k < length counts → 64 ≤ length (drop (64 * k) entries)
  left_there k held = omega (arith, length-drop (64 * k) entries, sized, held)

  -- A thread's log has as many entries as are counted for it.
  pub length_is : (k : ℕ) → k < length counts → length (log_of entries counts k) ≡ get_or counts k 0
  length_is k held = let some = left_there k held in let most = few k in length-take-le (get_or counts k 0) (drop (64 * k) entries) (omega (arith, some, most))

  module _ (k c : ℕ) (entry : Entry) (held : k < length counts) (is : c ≡ get_or counts k 0) (room : c < 64) where
    -- An entry that is set at the end of a log, with its count one more, is the last of that log.
    pub log_added : log_of (set entries (64 * k + c) entry) (set counts k (c + 1)) k ≡ log_of entries counts k ++ entry ∷ []
    log_added = search (arith, left_there, get_or-set_same, drop-set-add, take_more_set)

    log_other : (j : ℕ) → j ≢ k → take (get_or counts j 0) (drop (64 * j) (set entries (64 * k + c) entry)) ≡ take (get_or counts j 0) (drop (64 * j) entries)
    log_other j other = elim (cases_lt j k) [
      | inl before ↦
          let most = few j in
          let e : 64 * k + c ≡ 64 * j + (64 * k + c - 64 * j) = omega (arith, before) in
          ap (λ n. take (get_or counts j 0) (drop (64 * j) (set entries n entry))) e ∙ ap (take (get_or counts j 0)) (drop-set-add (64 * j) entries (64 * k + c - 64 * j) entry)
          ∙ take-set-le (get_or counts j 0) (drop (64 * j) entries) (64 * k + c - 64 * j) entry (omega (arith, most, before))
      | inr from ↦ ap (take (get_or counts j 0)) (drop-set-lt (64 * j) entries (64 * k + c) entry (omega (arith, from, other, room)))
    ]

    -- An entry that is added to one log leaves every other as it was.
    pub logs_kept : (j : ℕ) → j ≢ k → log_of (set entries (64 * k + c) entry) (set counts k (c + 1)) j ≡ log_of entries counts j
    logs_kept j other = ap (λ n. take n (drop (64 * j) (set entries (64 * k + c) entry))) (get_or-set_other counts k j (c + 1) 0 other) ∙ log_other j other

-- A log whose count is 0 is empty.
pub log_cleared : (entries : List Entry) (counts : List ℕ) (k : ℕ) → k < length counts → log_of entries (set counts k 0) k ≡ []
log_cleared entries counts k held = ap (λ n. take n (drop (64 * k) entries)) (get_or-set_same counts k 0 0 held)

-- A log that was cleared leaves every other as it was.
pub clear_kept : (entries : List Entry) (counts : List ℕ) (k j : ℕ) → j ≢ k → log_of entries (set counts k 0) j ≡ log_of entries counts j
clear_kept entries counts k j other = ap (λ n. take n (drop (64 * j) entries)) (get_or-set_other counts k j 0 0 other)
