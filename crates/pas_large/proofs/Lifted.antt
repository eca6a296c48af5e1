-- The evidence of a scan, where the claim of a run by the door failed before it: what is said of the scan's steps holds of all steps of the call.
use Rattle.std.proofs.Common.{arith, ◌≡◌, ℕ, ◌+◌, ◌<◌, ◌⊎◌, ◌||◌, List, [], ◌∷◌, ◌++◌, inl, inr, true, refl, ap, sym, ◌∙◌, append_assoc, true≢false}
use Rattle.pas_bits.specs.Bits.{has_bit}
use Rattle.pas_profile.{specs.declared.{directory.Directory.Directory, profile.Profile.Profile}, proofs.Codecs.deed_word_of-positive}
use Rattle.pas_steps.specs.{Agreement.Agreed, Calls.{Leads, nothing, Does}, Evidence.{OneHere, NoDeedHere}, Kinds.{Only, kind_of, is_in}, Past.{Once, Always}}
use Rattle.pas_steps.{specs.{Past.Since, Views.{View, KnowsDeed}, declared.step.Made.Made}, proofs.{Adding.{agreed_first, agreed_later}, Calls.does_then}}
use Rattle.pas_steps.proofs.{Calls.still_clear, Frames.right_own, Evidence.unknown, Past.{once_later, once_earlier, once_map, always_both, always_map}}
use Rattle.pas_scan.{specs.Usable.{OfHere, WholeHere, ReadUsable, ParksNotHere, IsFresh}, proofs.LeftPages.{since_earlier, unusable_here, deed_before}}
use Rattle.pas_large.specs.Evidence.{LostHere, BrokenHere, BadHere, HasBad, IsVain, AllUsable, FailsHere, HasFailed, DeedsOf, DeedsRise, IsTakenRun}
use Rattle.pas_large.{specs.{Evidence.LeftOrBroken, Claims.in_span, Finds.{MayFind, FoundRun, FoundNone}, Pages.claiming_old}, proofs.Claims.got_after}
use Rattle.pas_large.proofs.{Finds.DeedOf, Left.{right_at, held_at, kept_at, broken_at}, Pages.{known_of, knew_before, from_first, rise_none, rise_both}}
use Rattle.pas_large.proofs.Pages.{below_none}

-- ---- one page
module _ (d : Directory) (p : ℕ) (xs : List Made) (left : LeftOrBroken d p xs) where
  whole_at : (word : ℕ) → word < 4 → (m : Made) (b : List Made) → WholeHere p word m b → WholeHere p word m (b ++ xs)
  whole_at word w m b h = (h.0, λ i lt. ap (λ t. has_bit m.answer i || t) (held_at d p xs left b word i w lt) ∙ h.1 i lt)

  one_at : (m : Made) (b : List Made) → OneHere d p m b → OneHere d p m (b ++ xs)
  one_at m b h = (h.0, h.1, right_at d p xs left b ∙ h.2)

  usable_at : (b : List Made) → ReadUsable d p b → ReadUsable d p (b ++ xs)
  usable_at b (inl bare) = inl (once_earlier (NoDeedHere p) (NoDeedHere p) b xs (λ m c h. h) bare)
  usable_at b (inr whole) = inr record {
    of = once_earlier (OfHere d p) (OfHere d p) b xs (λ m c h. h) whole.of;
    offered = once_earlier (OneHere d p) (OneHere d p) b xs one_at whole.offered;
    free = λ word lt. once_earlier (WholeHere p word) (WholeHere p word) b xs (whole_at word lt) (whole.free word lt);
  }

  -- the page wasn't parked
  module _ (parks : Always (ParksNotHere p) xs) where
    fresh_at : (b : List Made) → IsFresh d p b → IsFresh d p (b ++ xs)
    fresh_at b (inl none) = inl (always_both (ParksNotHere p) (ParksNotHere p) b xs (λ m c h. h) none parks)
    fresh_at b (inr since) = inr (since_earlier (OneHere d p) (ParksNotHere p) (OneHere d p) (ParksNotHere p) b xs one_at (λ m c h. h) since)

    lost_at : (m : Made) (b : List Made) → LostHere d p m b → LostHere d p m (b ++ xs)
    lost_at m b (inl h) = inl (h.0, h.1, right_at d p xs left b ∙ h.2, fresh_at b h.3)
    lost_at m b (inr h) = inr (h.0, h.1, once_earlier (NoDeedHere p) (NoDeedHere p) b xs (λ m c h. h) h.2, always_both _ _ b xs (λ m c h. h) h.3 left.deeds)

    bad_at : (m : Made) (b : List Made) → BadHere d p m b → BadHere d p m (b ++ xs)
    bad_at m b (inl h) = inl (unusable_here d p xs record { right = left.right; none = left.none; parks = parks; deeds = left.deeds } m b h)
    bad_at m b (inr (inl h)) = inr (inl (lost_at m b h))
    bad_at m b (inr (inr h)) = inr (inr (broken_at d p xs left m b h))

  bad_once : (ys : List Made) → Once (BadHere d p) ys → Once (BadHere d p) (ys ++ xs)
  bad_once ys h = elim left.parks [
    | inl parks ↦ once_earlier (BadHere d p) (BadHere d p) ys xs (bad_at parks) h
    | inr broken ↦ once_later (BadHere d p) ys xs (once_map (BrokenHere p) (BadHere d p) xs (λ m b x. inr (inr x)) broken.1)
  ]

  -- ---- the page was parked, and read again
  once_since : (P Q : Made → List Made → Type 0) (ys : List Made) → Once P ys → Always Q ys → Since P Q ys
  once_since P Q [] h all = h
  once_since P Q (m ∷ ys) (inl h) all = inl h
  once_since P Q (m ∷ ys) (inr h) all = inr (all.0, once_since P Q ys h all.1)

  -- it was read as of the directory, so it isn't read as without a deed
  not_bare : (f : Profile) (v : View) (b : List Made) → Agreed f v (b ++ xs) → Once (OfHere d p) xs → Once (NoDeedHere p) b → ⊥
  not_bare f v b agreed of bare =
      let known : KnowsDeed p d (xs ++ v) = known_of f d p xs v (agreed_later f v b xs agreed) of in
      unknown f (xs ++ v) p b (agreed_first f v b xs agreed) bare (λ none. deed_word_of-positive d (sym known ∙ none))

  lost_again : (f : Profile) (v : View) (m : Made) (b : List Made) → Agreed f v (b ++ xs) → Once (OfHere d p) xs → ReadUsable d p b → LostHere d p m b
      → LostHere d p m (b ++ xs)
  lost_again f v m b agreed of (inl bare) h = absurd (not_bare f v b agreed of bare)
  lost_again f v m b agreed of (inr whole) (inr h) = absurd (not_bare f v b agreed of h.2)
  lost_again f v m b agreed of (inr whole) (inl h) = inl (
    h.0,
    h.1,
    right_at d p xs left b ∙ h.2,
    inr (since_earlier (OneHere d p) (ParksNotHere p) (OneHere d p) (ParksNotHere p) b xs one_at (λ m c h. h) (search (arith, once_since))),
  )

  failed_at : (f : Profile) (v : View) (m : Made) (b : List Made) → Agreed f v (b ++ xs) → ReadUsable d p b → LostHere d p m b ⊎ BrokenHere p m b
      → LostHere d p m (b ++ xs) ⊎ BrokenHere p m (b ++ xs)
  failed_at f v m b agreed usable (inr broken) = inr (broken_at d p xs left m b broken)
  failed_at f v m b agreed usable (inl lost) = elim left.parks [ inl parks ↦ inl (lost_at parks m b lost) | inr broken ↦ inl (lost_again f v m b agreed broken.0 usable lost) ]

-- ---- runs
module _ (d : Directory) (n : ℕ) (xs : List Made) (left : (p : ℕ) → LeftOrBroken d p xs) where
  all_usable : (first : ℕ) (b : List Made) → AllUsable d n first b → AllUsable d n first (b ++ xs)
  all_usable first b usable p here = usable_at d p xs (left p) b (usable p here)

  bad_run : (first : ℕ) (ys : List Made) → HasBad d n first ys → HasBad d n first (ys ++ xs)
  bad_run first ys h = (h.0, h.1, bad_once d h.0 xs (left h.0) ys h.2)

  vain_run : (f : Profile) (ys : List Made) → IsVain f d n ys → IsVain f d n (ys ++ xs)
  vain_run f ys vain = record { deeds = λ p of. deed_before p ys xs (vain.deeds p of); runs = λ first low high. bad_run first ys (vain.runs first low high) }

  once_agreed : (P R : Made → List Made → Type 0) (f : Profile) (v : View) (ys : List Made) → Agreed f v (ys ++ xs)
      → ((m : Made) (b : List Made) → Agreed f v (b ++ xs) → P m b → R m (b ++ xs)) → Once P ys → Once R (ys ++ xs)
  once_agreed P R f v [] agreed lift h = absurd h
  once_agreed P R f v (m ∷ ys) agreed lift (inl h) = inl (lift m ys agreed.1 h)
  once_agreed P R f v (m ∷ ys) agreed lift (inr h) = inr (once_agreed P R f v ys agreed.1 lift h)

  failed_run : (f : Profile) (v : View) (first : ℕ) (ys : List Made) → Agreed f v (ys ++ xs) → HasFailed d n first ys → HasFailed d n first (ys ++ xs)
  failed_run f v first ys agreed h = once_agreed (FailsHere d n first) (FailsHere d n first) f v ys agreed (λ m b agrees fails. let at = fails.1 in
      (all_usable first b fails.0, (at.0, at.1, failed_at d at.0 xs (left at.0) f v m b agrees (fails.0 at.0 at.1) at.2))) h

  taken_run : (first : ℕ) (ys : List Made) → IsTakenRun d n first ys → IsTakenRun d n first (ys ++ xs)
  taken_run first ys taken = record {
    usable = all_usable first ys taken.usable;
    right = λ p here. right_own p ys xs (left p).right ∙ taken.right p here;
    whole = λ p word here lt. since_earlier _ _ _ _ ys xs (λ m b h. (whole_at d p xs (left p) word lt m b h.0, kept_at d p xs (left p) m b h.1)) (kept_at d p xs (left p)) (taken.whole p word here lt);
  }

-- ---- the whole search
-- the actor may find a run again
pub find_again : (f : Profile) (d : Directory) (v : View) (xs : List Made) → MayFind d v → Agreed f v xs → Does nothing v (xs ++ v) → MayFind d (xs ++ v)
find_again f d v xs met agreed does = record { lacks = λ p knows. does.right p ∙ met.lacks p (knew_before f d p xs v agreed knows); clear = still_clear does met.clear }

-- after these steps all is as it was, so those that follow do what they do alone
pub after_still : {f : Profile} {R : View → View → Type 0} (d : Directory) (ys xs : List Made) → ((v u w : View) → Does nothing v u → R u w → R v w)
    → Leads f (MayFind d) (Does nothing) xs → Leads f (MayFind d) R ys → Leads f (MayFind d) R (ys ++ xs)
after_still {f} {R} d ys xs join still leads = record {
  from = λ v met agreed.
      let first = agreed_later f v ys xs agreed in
      let does = still.from v met first in
      rw (append_assoc ys xs v) (join v (xs ++ v) (ys ++ (xs ++ v)) does (leads.from (xs ++ v) (find_again f d v xs met first does) (agreed_first f v ys xs agreed)));
}

module _ (f : Profile) (d : Directory) (n : ℕ) (xs ys : List Made) (old : Only claiming_old xs) (left : (p : ℕ) → LeftOrBroken d p xs)
    (still : Leads f (MayFind d) (Does nothing) xs) where
  deeds_run : (P Q : ℕ → Type 0) → ((s : ℕ) → P s → Q s) → DeedsOf d n P ys → DeedsOf d n Q (ys ++ xs)
  deeds_run P Q more deeds = always_both _ _ ys xs
      (λ m b h p e same z. let its = h p e same z in (its.0, (its.1.0, its.1.1, all_usable d n xs left _ b its.1.2, more _ its.1.3))) deeds
      (always_map _ (DeedOf d n Q) xs (λ m before is p e same z. absurd (true≢false (sym is ∙ ap (λ s. is_in claiming_old (kind_of s)) same))) old)

  rise_run : DeedsRise ys → DeedsRise (ys ++ xs)
  rise_run rise = rise_both 0 ys xs rise (rise_none claiming_old xs refl old) (from_first ys rise) (below_none claiming_old 0 xs refl old)

  -- with a view that the answers agree with
  module _ (v : View) (agreed : Agreed f v (ys ++ xs)) where
    -- The run that a scan found, after a failed claim by the door, is found by all steps of the request.
    pub found_run : (first : ℕ) → FoundRun f d n ys first → FoundRun f d n (ys ++ xs) first
    found_run first found = record {
      of_region = found.of_region;
      got = after_still d ys xs (λ v u w does got. got_after (in_span first (first + n)) d does got) still found.got;
      taken = taken_run d n xs left first ys found.taken;
      lower = λ other some lt. bad_run d n xs left other ys (found.lower other some lt);
      deeds = deeds_run (λ other. (other ≡ first) ⊎ HasFailed d n other ys) (λ other. (other ≡ first) ⊎ HasFailed d n other (ys ++ xs))
          (λ s chosen. elim chosen [ inl same ↦ inl same | inr failed ↦ inr (failed_run d n xs left f v s ys agreed failed) ]) found.deeds;
      rise = rise_run found.rise;
    }

    -- Where a scan found no run, after a failed claim by the door, all steps of the request found none.
    pub found_none : FoundNone f d n ys → FoundNone f d n (ys ++ xs)
    found_none none = record {
      still = after_still d ys xs (λ v u w a b. does_then a b) still none.still;
      vain = vain_run d n xs left f ys none.vain;
      deeds = deeds_run (λ other. HasFailed d n other ys) _ (λ s failed. failed_run d n xs left f v s ys agreed failed) none.deeds;
      rise = rise_run none.rise;
      lacks = λ p. right_own p ys xs (left p).right ∙ none.lacks p;
    }
