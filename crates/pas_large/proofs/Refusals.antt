-- The reason of a refusal: the eligible words, and then the verdict.
use Rattle.pas_large.{proofs.Pages.since_more, specs.Refusals.{LastOffered, NotReadHere, IsAccounted, AllAccounted, IsReason, MarksOffered, Refuses}}
use Rattle.std.proofs.Common.{◌≡◌, ◌≢◌, ℕ, ◌+◌, ◌/◌, ◌%◌, ◌<◌, Bool, true, false, List, ◌∷◌, length, inl, inr, ap, sym, ◌∙◌, subst, arith, MatchBool, ◌≤◌, []}
use Rattle.std.proofs.{Common.{◌++◌, append_assoc, true≢false, length-append, ◌*◌, get_or-set_same, get_or-set_other}, Math.ListN.{set, get_or}}
use Rattle.std.proofs.lemmas.Bool.{MatchBool-at_false, cases_lt}
use Rattle.pas_bits.specs.Bits.{has_bit}
use Rattle.pas_profile.specs.{Directories.number_of, declared.{directory.Directory.Directory, word.Word.Word, profile.Profile.Profile, event.NoRoom.NoRoom}}
use Rattle.pas_profile.specs.declared.event.NoRoom.TheVariants.{NoSpace, Held}
use Rattle.pas_steps.specs.{Past.{Once, Always, Since}, Frames.OnlyScans, Desks.{made, Seat, Standing}, declared.step.{Made.Made, Step.TheVariants.Look}}
use Rattle.pas_steps.specs.{Evidence.{ReadsEligible, ZeroHere, OneHere, ParkedHere, ParkedLater, LacksAfter, MissingHere, HeldHere}, Views.{View, has_right}}
use Rattle.pas_steps.{specs.Views.{known_deed, KnowsDeed}, proofs.{Adding.{adds_call, agreed_first}, Past.{once_later, once_earlier, always_map}}}
use Rattle.pas_steps.proofs.{Frames.right_own, Evidence.zero_before}
use Rattle.pas_scan.{specs.{Marks.is_marked, Scan.{AllParked, IsVerdict, Judges, last_block}}, proofs.Reading.{scans_lack, right_scans, place_of, scans_append}}
use Rattle.pas_scan.proofs.LeftPages.{since_earlier}

-- ---- the offered pages are marked: one eligible word more
-- what is marked below a block, and what was read of it
abbrev pub MarkedBelow : Directory → ℕ → List ℕ → List Made → Type 0
MarkedBelow d block marks steps = (p : ℕ) → p / 64 < block → MatchBool (is_marked marks p) (LastOffered d p steps) (Once (ZeroHere d p) steps)

other_word : (d : Directory) (p n j : ℕ) → j ≢ p / 64 → ReadsEligible d p (Look (Word.Eligible n j)) → ⊥
other_word d p n j ne r = ne (search (arith, place_of))

-- A look at the page's own word tells whether it was offered.
newest : (d : Directory) (p block a : ℕ) (steps : List Made) (t : Bool) → block ≡ p / 64 → OnlyScans steps → has_bit a (p % 64) ≡ t
    → MatchBool t (LastOffered d p (made (Look (Word.Eligible (number_of d) block)) a ∷ steps))
    (Once (ZeroHere d p) (made (Look (Word.Eligible (number_of d) block)) a ∷ steps))
newest d p block a steps offered at scans bit = search (arith, scans_lack, ReadsEligible.Looks)

-- After one more eligible word was read, the marks are those of all words so far.
pub marked_more : (d : Directory) (block a : ℕ) (marks : List ℕ) (steps : List Made) → block < length marks → OnlyScans steps → MarkedBelow d block marks steps
    → MarkedBelow d (block + 1) (set marks block a) (made (Look (Word.Eligible (number_of d) block)) a ∷ steps)
marked_more d block a marks steps small scans before p lt = elim (cases_lt (p / 64) block) [
  | inl low ↦
      search (arith, get_or-set_other, other_word)
  | inr high ↦
      let at : block ≡ p / 64 = omega (arith, lt, high) in
      let here = ap (λ n. has_bit n (p % 64)) (sym (get_or-set_same marks block a 0 small)) ∙ ap (λ i. has_bit (get_or (set marks block a) i 0) (p % 64)) at in
      newest d p block a steps (is_marked (set marks block a) p) at scans here
]

-- ---- the reason of a refusal: the eligible words, and then the verdict
-- the last word is that of the page which is held, or the last one there is
last_within : (f : Profile) (room : NoRoom) → ((page : ℕ) → room ≡ Held page → page ≤ f.pages) → last_block f room ≤ f.pages / 64
last_within f room h = search arith

-- ---- a page read as not offered, and its right not had since
missing : (d : Directory) (p : ℕ) (ys xs : List Made) → OnlyScans ys → has_right xs p ≡ false → Once (ZeroHere d p) ys
    → Since (MissingHere d p) (LacksAfter p) (ys ++ xs)
missing d p [] xs scans none h = absurd h
missing d p (m ∷ ys) xs scans none (inl z) = inl (inl (z.0, z.1, right_own p ys xs none ∙ z.2), right_scans (m ∷ ys) xs p scans ∙ none)
missing d p (m ∷ ys) xs scans none (inr h) = inr (right_scans (m ∷ ys) xs p scans ∙ none, missing d p ys xs scans.1 none h)

held_from : (d : Directory) (p : ℕ) (ys xs : List Made) → OnlyScans ys → has_right xs p ≡ false → Since (MissingHere d p) (LacksAfter p) xs
    → Once (ParkedHere false p) ys → Once (HeldHere d p) (ys ++ xs)
held_from d p [] xs scans none since h = absurd h
held_from d p (m ∷ ys) xs scans none since (inl z) =
    inl ((z.0, z.1, right_own p ys xs none ∙ z.2), since_more _ _ _ ys xs (λ k c is more. right_scans (k ∷ c) xs p (is, more) ∙ none) scans.1 since)
held_from d p (m ∷ ys) xs scans none since (inr h) = inr (held_from d p ys xs scans.1 none since h)

module _ (d : Directory) (marks : List ℕ) {σ σ1 σ2 : Standing} (offers : MarksOffered d marks σ σ1) (room : NoRoom) (judges : Judges marks d σ1 σ2 room) where
  abbrev f : Profile
  f = σ.seat.profile

  abbrev ms : List Made
  ms = offers.steps

  abbrev js : List Made
  js = judges.steps

  -- The region's profile is the same after the looks.
  same : σ1.seat.profile ≡ f
  same = ap (λ (s : Seat). s.profile) offers.adds.seat_is

  reads_none : (p : ℕ) → Always (NotReadHere d p) js
  reads_none p = always_map _ (NotReadHere d p) js (λ m before is reads. true≢false (sym is ∙ (grind arith))) judges.kinds

  module _ (before : List Made) (none : (p : ℕ) → has_right before p ≡ false) where
    ms_none : (p : ℕ) → has_right (ms ++ before) p ≡ false
    ms_none p = right_scans ms before p offers.scans ∙ none p

    -- The steps of the call, in their three parts.
    at : (js ++ ms) ++ before ≡ js ++ (ms ++ before)
    at = append_assoc js ms before

    at_view : (v : View) → ((js ++ ms) ++ before) ++ v ≡ js ++ ((ms ++ before) ++ v)
    at_view v = ap (λ s. s ++ v) at ∙ append_assoc js (ms ++ before) v

    -- What was read last of a page is so in the whole call.
    last : (p : ℕ) → LastOffered d p ms → LastOffered d p ((js ++ ms) ++ before)
    last p h = subst (LastOffered d p) (sym at)
        (since_more (OneHere d p) (NotReadHere d p) (NotReadHere d p) js (ms ++ before) (λ m b x all. x) (reads_none p)
        (since_earlier (OneHere d p) _ (OneHere d p) (NotReadHere d p) ms before (λ m b x. (x.0, x.1, right_own p b before (none p) ∙ x.2)) (λ m b x. x) h))

    parked_later : (p : ℕ) → Once (ZeroHere d p) ms → Once (ParkedHere true p) js → Once (ParkedLater d p) ((js ++ ms) ++ before)
    parked_later p zero_read h = subst (Once (ParkedLater d p)) (sym at) (once_earlier _ _ js _
        (λ m b x. ((x.0, x.1, right_own p b _ (ms_none p) ∙ x.2), inl (once_later _ b _ (zero_before d p ms before (none p) zero_read)))) h)

    by_mark : (p : ℕ) (t : Bool) → is_marked marks p ≡ t → MatchBool t (LastOffered d p ms) (Once (ZeroHere d p) ms)
        → (is_marked marks p ≡ false → Once (ParkedHere true p) js) → IsAccounted d p ((js ++ ms) ++ before)
    by_mark p true e h parked = inr (last p h)
    by_mark p false e h parked = inl (inr (parked_later p h (parked e)))

    -- Pages that the verdict read as parked are accounted for in the whole call.
    accounted : (end : ℕ) → end ≤ f.pages + 1 → AllParked f marks d end js → AllAccounted f d end ((js ++ ms) ++ before)
    accounted end le parked v agreed p some lt is = search (arith, by_mark, at_view)

    reason_of : (answer : NoRoom) → IsVerdict f marks d js answer → IsReason f d ((js ++ ms) ++ before) answer
    reason_of NoSpace verdict = accounted (f.pages + 1) (omega arith) verdict
    reason_of (Held page) verdict =
        let here = verdict.0 before in let within = here.of_region.1 in
        record {
          page_of = here.of_region;
          of_directory = λ v agreed. ap (λ s. known_deed s page) (at_view v) ∙ (verdict.0 ((ms ++ before) ++ v)).of_directory;
          held = subst (Once (HeldHere d page)) (sym at) (held_from d page js _ judges.scans (ms_none page)
              (missing d page ms before offers.scans (none page) (MatchBool-at_false _ _ here.unmarked (offers.offered page within))) verdict.1);
          lower = accounted page (omega (arith, within)) verdict.2;
        }

  -- The call refuses with its reason.
  refuses : Refuses d σ σ2 room
  refuses = record {
    steps = js ++ ms;
    adds = adds_call offers.adds judges.adds (λ v l stood met. tt);
    scans = scans_append js ms judges.scans offers.scans;
    few = let n = length-append js ms in let a = subst (λ x. length js ≤ 65 * (last_block x room + 1)) same judges.few in
        let last = last_within f room (λ page e. search arith) in omega (arith, n, a, offers.few, last);
    reason = λ before none. reason_of before none room (subst (λ x. IsVerdict x marks d js room) same judges.verdict);
  }

-- by the directory that the search was begun with
pub refuses_by : {σ σ1 σ2 : Standing} (d e h : Directory) (marks : List ℕ) → e ≡ d → h ≡ e → MarksOffered e marks σ σ1 → (room : NoRoom)
    → Judges marks h σ1 σ2 room → Refuses d σ σ2 room
refuses_by {σ} {σ1} {σ2} d e h marks ed he offers room judges =
    subst (λ x. Refuses x σ σ2 room) ed (refuses e marks offers room (subst (λ x. Judges marks x σ1 σ2 room) he judges))

-- ---- a reason, with steps that stood before and have no right any more
module _ (d : Directory) (xs : List Made) (lacks : (p : ℕ) → has_right xs p ≡ false) where
  accounted_before : (p : ℕ) (ys : List Made) → IsAccounted d p ys → IsAccounted d p (ys ++ xs)
  accounted_before p ys (inl (inl left)) = inl (search (arith, once_earlier, right_own))
  accounted_before p ys (inl (inr later)) = inl (inr (once_earlier (ParkedLater d p) (ParkedLater d p) ys xs (λ m b h. search (arith, right_own, zero_before, once_earlier)) later))
  accounted_before p ys (inr offered) = inr (since_earlier (OneHere d p) _ (OneHere d p) (NotReadHere d p) ys xs (λ m b x. (x.0, x.1, right_own p b xs (lacks p) ∙ x.2)) (λ m b x. x) offered)

  held_at : (p : ℕ) (m : Made) (b : List Made) → HeldHere d p m b → HeldHere d p m (b ++ xs)
  held_at p m b h = search (arith, right_own, since_earlier)

  module _ (f : Profile) (ys : List Made) where
    all_before : (end : ℕ) → AllAccounted f d end ys → AllAccounted f d end (ys ++ xs)
    all_before end all v agreed p some lt knows =
        accounted_before p ys (all (xs ++ v) (agreed_first f v ys xs agreed) p some lt (subst (KnowsDeed p d) (append_assoc ys xs v) knows))

    -- A reason that steps of a refusal show is one behind steps that have no right any more.
    pub reason_before : (why : NoRoom) → IsReason f d ys why → IsReason f d (ys ++ xs) why
    reason_before NoSpace all = all_before (f.pages + 1) all
    reason_before (Held page) is = search (arith, append_assoc, agreed_first, once_earlier, held_at, all_before, is.of_directory)
