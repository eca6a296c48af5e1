-- What the scavenger does on one page whose empty bit was cleared.
use Rattle.std.proofs.Common.{◌≡◌, ℕ, ◌*◌, ◌/◌, ◌%◌, ◌<◌, ◌==◌, nat_lt, Bool, true, false, ◌&&◌, ◌||◌, length, slice_index, slice_set, refl, ap, sym, ◌∙◌}
use Rattle.std.proofs.Common.{arith, inl, inr, get_or-set_same, get_or-set_other, ◌+◌, not, if◌then◌else◌, List, [], ◌∷◌, ◌++◌, Option, None, Some, subst}
use Rattle.std.proofs.Common.{bit_and, ◌≢◌, ◌≤◌, append_assoc, length-append, eq-eqb, ne_eqb, lt-ltb, le-ltb, ltb-true, eqb-true, zero, suc, ◌-◌, reverse, map}
use Rattle.std.proofs.{Common.append-nil, Math.Bool.or-false, lemmas.{List.{reverse-append, length-reverse}, Bool.{cases_eq, cases_lt, cases_Bool, and_from}}}
use Rattle.std.proofs.lemmas.Bool.{and_right}
use Rattle.pas_bits.{specs.{Bits.has_bit, Runs.in_run, Masks.is_set, PageVectors.{HasNoPage, IsLowestPage}, declared.mask.Mask4.Mask4}, proofs.Runs.to_run}
use Rattle.pas_bits.proofs.{Runs.run_of, Words.{none_past, full_bit}}
use Rattle.pas_steps.proofs.{Sets.{same_truth, kept_kept}, Adding.{adds_none, adds_step, adds_under}, Frames.{any_from, events_append}, Bits.all_below-from}
use Rattle.pas_steps.proofs.{Past.once_later, SpareRoom.{Spares, spare_falls}, Nothing.nothing_still, Apart.{holds_same, rights_same, unstamped_same}}
use Rattle.pas_steps.proofs.{Apart.{only_within, only_both, epoch_same, events_same, no_events}, Calls.{opening, owes_over, unexamined_over, returns_are}}
use Rattle.pas_steps.{proofs.{Calls.{does_then, does_idly}, Called.{call_as, call_then, call_knows, next_call, call_none, call_step}}, specs.Calls.Kept}
use Rattle.pas_steps.specs.{Calls.{Gained, now, on_page, Does, Calls, Lost, ClearAfter}, Clear.{IsClear, HasNothing}, Agreement.{Agreed, AgreesEmpty}}
use Rattle.pas_steps.specs.{Allowed.{IsEpochKnown, MayUnback}, Events.events_by, Evidence.ReadsFree, Past.Once, InTurn.{InTurn, numbers_below}, Desks.made}
use Rattle.pas_steps.specs.{Desks.{Standing, Makes, Adds, CanCall}, Kinds.{LookFree, Taking, Only, Kinds, LookDeed, LookBacked, LookStamp, Claiming, Hinting}}
use Rattle.pas_steps.specs.{Kinds.{Unbacking, Unhinting, apart, unstamping, within, Putting, returning, showing, LookEmpty, LookEpoch}, Views.{View, Gets}}
use Rattle.pas_steps.specs.Views.{Stays, held_after, holds, has_right, all_ones, examines, holds_on, holds_all, knows_backed, or_zero, known_epoch, KnowsDeed}
use Rattle.pas_steps.specs.{Views.ReadBacked, declared.step.{Made.Made, Step.TheVariants.{TakeRight, Unhint, Look, Hint}}}
use Rattle.pas_rights.specs.{Words.{full, ones}, Takes.takes, Leaves.{MayLeave, Leaves}, Puts.{masked, PutsMask}, PutsBack.{MayPutAndReturn, given_back}}
use Rattle.pas_rights.specs.{Returns.Returned, Claims.Claims, declared.reading.Used.Used, Looks.{AreUsed, looks_until, IsUsed, ReadsUntilUsed}}
use Rattle.pas_rights.proofs.Orders.{full_set, looks_only, same_page, until_only, until_few, leave_few, return_few, leave_returns, return_returns, ends}
use Rattle.pas_rights.proofs.Puts.{puts_kinds, puts_few, may_return as may_settle, returned_call, takes_only, got_below, takes_hold as grains_held}
use Rattle.pas_rights.proofs.Puts.{takes_few as grains_few}
use Rattle.pas_profile.specs.declared.{directory.Directory.Directory, profile.Profile.Profile, word.Word.Word, event.Outcome.{Outcome, TheVariants.Unbacked}}
use Rattle.pas_profile.specs.{declared.event.{Outcome.TheVariants.{Bare, Young, InUse, NotOffered}, Event.Event}, Directories.deed_word_of, Profiles.IsPage}
use Rattle.pas_profile.specs.Profiles.{vector_words}
use Rattle.pas_scavenger.specs.{Puttings.{IsAt, none, BackSteps, MayPutBack, PutsBack}, Readings.{was_free, takes_until, TakesUntilUsed}, Evidence.UsedByOthers}
use Rattle.pas_scavenger.specs.{Evidence.UnbackedHere, Judgements.{MayJudge, used_at, Judged, JudgesPage}, Pages.{first_looks, AsksSteps, EndsWithout}}
use Rattle.pas_scavenger.specs.Pages.{EndsWith, ExamineSteps, unback_of, quiet, examining, MayTake, TakesPage, TakesSteps, MayExamine, ReadsDirectory}
use Rattle.pas_scavenger.specs.{Pages.ExaminesPage, Passes.{Tried, with_outcome, outcomes_in, pages_set, trying, unbacks_in, IsReady, Tries, TriesPage}}
use Rattle.pas_scavenger.specs.Passes.{WordRead, WordSteps, all_tried, passing, Passes}
use Rattle.pas_utility.specs.Outcomes.{pair}

-- ==== The grains that were taken, as a mask.

-- The full mask has each grain of the four words.
pub all_grains : (g : ℕ) → is_set full g ≡ nat_lt (g / 64) 4
all_grains g = search (arith, cases_lt, full_set, lt-ltb, none_past, le-ltb)

run_below : (word g : ℕ) → in_run 0 (word * 64) g ≡ nat_lt (g / 64) word
run_below word g = same_truth _ _ (λ h. let at = run_of 0 _ g h in lt-ltb _ word (omega (arith, at.1)))
    (λ h. let lt = ltb-true _ word h in to_run 0 _ g (omega arith) (omega (arith, lt)))

-- a run of all grains of the words below this one, and the word
pub grains_before : (run : Mask4) (word value : ℕ) → length run.0 ≡ 4 → word < 4 → ((g : ℕ) → is_set run g ≡ in_run 0 (word * 64) g)
    → (g : ℕ) → has_bit (slice_index (slice_set run.0 word value) (g / 64)) (g % 64) ≡ (nat_lt (g / 64) word || ((word == g / 64) && has_bit value (g % 64)))
grains_before run word value four lt before g =
    search (arith, cases_eq, get_or-set_same, le-ltb, eq-eqb, get_or-set_other, run_below, ne_eqb, or-false)

-- ==== Takes of the grains of a page, and what the actor holds and has on the way through one page.

-- ---- the steps
pub takes_are : (page : ℕ) (used : Option Used) → Only (Taking ∷ []) (takes_until page used)
takes_are page used = grind (arith, takes_only)

-- ---- what is held then
both_order : (x p : Bool) → (x && (p && true)) ≡ (p && x)
both_order x p = grind arith

-- all grains of the words below n are got
below : (page n g : ℕ) → got_below page ones ones n g ≡ ((page == g / 256) && nat_lt (g % 256 / 64) n)
below page n g = search (arith, full_bit, both_order)

-- What is held of a word is what its take got: by each test.
one_take : (s p u b r : Bool) → u ≡ true → held_after (if ((s && p) && u) && b then Gets else Stays) (p && r) ≡ (p && (r || (s && b)))
one_take s p u b r e = grind arith

-- Takes of all grains of the first words of a page hold just those, where nothing was held before.
pub takes_hold : (page n g : ℕ) (v : View) → holds v g ≡ false → holds (takes page ones ones n ++ v) g ≡ ((page == g / 256) && nat_lt (g % 256 / 64) n)
takes_hold page n g v none = grains_held page ones ones n g v ∙ ap (λ t. got_below page ones ones n g || t) none ∙ or-false _ ∙ below page n g

until_holds : (page : ℕ) (used : Option Used) (g : ℕ) (v : View) → holds v g ≡ false
    → holds (takes_until page used ++ v) g ≡ ((page == g / 256) && was_free used (g % 256))
until_holds page used g v none = grind (arith, takes_hold, one_take, full_bit)

-- a take of all grains of a word ends the examination, whatever it read
ends_it : (a : ℕ) → (not (a == all_ones) || not (bit_and a all_ones == 0)) ≡ true
ends_it a = search (arith, cases_Bool, eqb-true)

ended_by : (page : ℕ) (t was : Bool) → t ≡ true → (if (page == page) && t then false else was) ≡ false
ended_by page t was is = ap (λ u. if u && t then false else was) (same_page page) ∙ ap (λ u. if u then false else was) is

takes_examined : (page : ℕ) (used : Option Used) (v : View) → examines (takes_until page used ++ v) page ≡ false
takes_examined page used v = grind (arith, ended_by, ends_it)

-- ---- from one state to the next
at_over : {page : ℕ} {grains grains' : ℕ → Bool} {right right' : Bool} (ks : Kinds) → apart ks unstamping ≡ true → apart ks opening ≡ true
    → apart ks (Unhinting ∷ []) ≡ true → (steps : List Made) (v : View) → Only ks steps
    → IsAt page grains right v → ((g : ℕ) → holds (steps ++ v) g ≡ grains' g) → ((q : ℕ) → has_right (steps ++ v) q ≡ (right' && (page == q)))
    → IsAt page grains' right' (steps ++ v)
at_over ks u o n steps v only at held rights = record {
  held = held;
  rights = rights;
  stamped = λ q. unstamped_same ks u q steps v only ∙ at.stamped q;
  owes = λ q. owes_over ks o q steps v only (at.owes q);
  examined = λ q ne. unexamined_over ks n q steps v only (at.examined q ne);
}

-- looks, hints and unbacks
abbrev pub idle : Kinds
idle = LookFree ∷ LookDeed ∷ LookBacked ∷ LookStamp ∷ Hinting ∷ Unbacking ∷ []

at_idle : {page : ℕ} {grains : ℕ → Bool} {right : Bool} (steps : List Made) (v : View) → Only idle steps → IsAt page grains right v
    → IsAt page grains right (steps ++ v)
at_idle steps v only at = at_over idle refl refl refl _ v only at (λ g. holds_same idle refl g steps v only ∙ at.held g) (λ q. rights_same idle refl q steps v only ∙ at.rights q)

-- A right is had just where it was got here.
got_right : (got here : Bool) → now (if here then (if got then Gained else Kept) else Kept) false ≡ (got && here)
got_right got here = grind arith

at_claim : (page : ℕ) (d : Directory) (a : ℕ) (got : Bool) (v : View)
    → Does (on_page page (if got then Gained else Kept) Kept) v (made (TakeRight page d) a ∷ v) → IsAt page none false v
    → IsAt page none got (made (TakeRight page d) a ∷ v)
at_claim page d a got v does at = at_over (Claiming ∷ []) refl refl refl (made (TakeRight page d) a ∷ []) v (refl, tt) at (λ g. does.held g ∙ at.held g)
    (λ q. does.right q ∙ ap (now (if page == q then (if got then Gained else Kept) else Kept)) (at.rights q) ∙ got_right got (page == q))

abbrev pub got_on : ℕ → Option Used → ℕ → Bool
got_on page used g = (page == g / 256) && was_free used (g % 256)

at_takes : (page : ℕ) (used : Option Used) (v : View) → IsAt page none true v → IsAt page (got_on page used) true (takes_until page used ++ v)
at_takes page used v at = at_over (Taking ∷ []) refl refl refl _ v (takes_are page used) at (λ g. until_holds page used g v (at.held g))
    (λ q. rights_same (Taking ∷ []) refl q _ v (takes_are page used) ∙ at.rights q)

-- ---- at the beginning and at the end
at_unhint : (page a : ℕ) (v : View) → HasNothing v → IsAt page none false (made (Unhint page) a ∷ v)
at_unhint page a v rests = record {
  held = rests.grains;
  rights = rests.rights;
  stamped = λ q. (rests.clear.on q).stamped;
  owes = λ q. let owes = (rests.clear.on q).owes in record { checks = owes.checks; hint = owes.hint };
  examined = λ q ne. ap (λ t. if t && has_bit a (q % 64) then true else examines v q) (ne_eqb page q (λ e. ne (sym e))) ∙ (rests.clear.on q).examined;
}

is_clear : {page : ℕ} {grains : ℕ → Bool} {right : Bool} {v : View} → IsAt page grains right v → examines v page ≡ false → IsClear v
is_clear {page} {v = v} at ended = record {
  on = λ q. record {
    stamped = at.stamped q;
    owes = at.owes q;
    examined = elim (cases_eq q page) [ inl e ↦ ap (examines v) e ∙ ended | inr ne ↦ at.examined q ne ];
  };
}

-- An actor that is at a page with nothing, and examines it no longer, has nothing.
rests : {page : ℕ} {v : View} → IsAt page none false v → examines v page ≡ false → HasNothing v
rests at ended = record { grains = at.held; rights = at.rights; clear = is_clear at ended }

-- the same grains in other words
at_as : {page : ℕ} {grains : ℕ → Bool} (grains' : ℕ → Bool) {right : Bool} {v : View} → IsAt page grains right v → ((g : ℕ) → grains g ≡ grains' g)
    → IsAt page grains' right v
at_as grains' at same = record { held = λ g. at.held g ∙ same g; rights = at.rights; stamped = at.stamped; owes = at.owes; examined = at.examined }

-- ==== Whether a page may be unbacked, and what the judgement of a page leaves.

abbrev pub two_looks : ℕ → ℕ → ℕ → List Made
two_looks page b stamp = made (Look (Word.Stamp page)) stamp ∷ made (Look (Word.Backed page)) b ∷ []

may_unback : (f : Profile) (page epoch b stamp : ℕ) (used : Option Used) (v : View) → used ≡ None → b ≢ 0 → stamp + f.age ≤ epoch → MayJudge page epoch used v
    → Agreed f v (two_looks page b stamp) → MayUnback f (two_looks page b stamp ++ v) page
may_unback f page epoch b stamp used v whole some old met agreed =
    let held = met.held whole in
    let one : (b == 1) ≡ true = eq-eqb b 1 (omega (arith, agreed.1.0.small, some)) in
    let on : holds_on v page ≡ true = any_from 256 (λ i. holds v (page * 256 + i)) 0 (omega arith) (held (page * 256 + 0) (omega arith)) in
    let all : holds_all v page ≡ true = all_below-from 256 (λ i. holds v (page * 256 + i)) (λ k lt. held (page * 256 + k) (omega (arith, lt))) in
    let read : knows_backed (made (Look (Word.Backed page)) b ∷ v) page ≡ true
    = and_from (if page == page then b == 1 else knows_backed v page) _ (ap (λ t. if t then b == 1 else knows_backed v page) (same_page page) ∙ one) on in
    record {
      held = held;
      stamped = met.stamped;
      backed = and_from _ _ read on;
      stamp = stamp;
      known = cc (same_page page);
      read = subst IsEpochKnown (sym met.epoch_is) tt;
      old = subst (λ o. stamp + f.age ≤ or_zero o) (sym met.epoch_is) old;
    }

module _ {σ σ1 σ2 : Standing} (page epoch b stamp : ℕ) (used : Option Used) (backed : Makes σ σ1 (Look (Word.Backed page)) b)
    (stamped : Makes σ1 σ2 (Look (Word.Stamp page)) stamp) where
  -- The looks at the backed word and the stamp are those by which a page is judged.
  pub looked : Adds σ σ2 (MayJudge page epoch used) (two_looks page b stamp)
  looked = adds_step (adds_step adds_none backed (λ v l stood met. tt)) stamped (λ v l stood met. tt)

  -- The age of the region is the same after the looks.
  pub age_is : (f : Profile) → f ≡ σ2.seat.profile → f.age ≡ σ.seat.profile.age
  age_is f is = ap (λ g. g.age) is ∙ ap (λ s. s.profile.age) looked.seat_is

  -- A page whose grains are all held, that is backed and whose stamp is old enough may be unbacked.
  pub allowed : (f : Profile) → f ≡ σ2.seat.profile → used ≡ None → b ≢ 0 → stamp + f.age ≤ epoch → (v : View) (l : _) → σ.stands v l
      → MayJudge page epoch used v → MayUnback σ.seat.profile (two_looks page b stamp ++ v) page
  allowed f is whole some old v l stood met = may_unback _ page epoch b stamp used v whole some (subst (λ a. stamp + a ≤ epoch) (age_is f is) old) met (looked.agreed v l stood met)

-- ==== The steps for one page: their kinds, their number and their event.

-- ---- kinds, and how many they are
-- steps of these kinds, at most so many
pub record Sized (ks : Kinds) (n : ℕ) (steps : List Made) : Type 0 where
  pub only : Only ks steps
  pub few : length steps ≤ n

-- Steps of some kinds, and so many at most.
sized : (ks : Kinds) (n : ℕ) {steps : List Made} → Only ks steps → length steps ≤ n → Sized ks n steps
sized ks n only few = record { only = only; few = few }

sized_both : {ks : Kinds} {m n : ℕ} {ys xs : List Made} → Sized ks m ys → Sized ks n xs → Sized ks (m + n) (ys ++ xs)
sized_both {ks} {ys = ys} {xs = xs} a b = let all = length-append ys xs in let few = a.few in record { only = only_both ks ys xs a.only b.only; few = omega (arith, all, few, b.few) }

sized_as : {ks : Kinds} {m : ℕ} {steps : List Made} (ls : Kinds) → within ks ls ≡ true → Sized ks m steps → Sized ls m steps
sized_as {ks} {steps = steps} ls w a = record { only = only_within ks ls steps w a.only; few = a.few }

sized_at : {ks : Kinds} {n : ℕ} {xs steps : List Made} → steps ≡ xs → Sized ks n xs → Sized ks n steps
sized_at {ks} {n} e a = subst (Sized ks n) (sym e) a

first_sized : (page b : ℕ) (used : Option Used) → AreUsed used → Sized quiet 5 (first_looks page b used)
first_sized page b used are = sized_both {m = 4} {n = 1} (sized_as quiet refl (sized (LookFree ∷ []) 4 (until_only page used) (until_few page used are))) (sized quiet 1 (refl, tt) (omega arith))

-- What is asked of a page takes at most seven quiet steps.
pub asks_sized : (page : ℕ) (d : Directory) (got : Bool) (steps : List Made) → AsksSteps page d got steps → Sized quiet 7 steps
asks_sized page d got steps h = let first = first_sized page h.backed None tt in sized_at h.steps_are (sized quiet 7 (refl, (refl, first.only)) (omega (arith, first.few)))

without_sized : (page : ℕ) (outcome : Outcome) (steps : List Made) → EndsWithout page outcome steps → Sized quiet 8 steps
without_sized page Bare steps h = sized_at h (sized quiet 8 (refl, tt) (omega arith))
without_sized page (InUse w v) steps h = let first = first_sized page h.0 (Some (used_at w v)) h.2 in sized_at h.3 (sized quiet 8 first.only (omega (arith, first.few)))
without_sized page NotOffered steps h = let asked = asks_sized page h.0 false h.2 h.3 in sized_at h.4 (sized quiet 8 (refl, asked.only) (omega (arith, asked.few)))
without_sized page other steps h = absurd h

back_sized : (page : ℕ) (d : Directory) (grains : Mask4) (steps : List Made) → BackSteps page d grains steps → Sized quiet 23 steps
back_sized page d grains steps h = sized_at h.steps_are (sized_both {m = 11} {n = 12}
    (sized_as quiet refl (sized returning 11 (returns_are page h.left (leave_returns page d h.left h.leaves)) (leave_few page d h.left h.leaves)))
    (sized_both {m = 8} {n = 4} (sized_as quiet refl (sized returning 8 (returns_are page h.after (return_returns page d h.after h.returns)) (return_few page d h.after h.returns)))
    (sized_as quiet refl (sized (Putting ∷ []) 4 (puts_kinds page grains 4 h.puts h.order) (puts_few page grains h.puts h.order)))))

takes_few : (page : ℕ) (used : Option Used) → AreUsed used → length (takes_until page used) ≤ 4
takes_few page used are = grind (arith, grains_few)

takes_sized : (page : ℕ) (used : Option Used) → AreUsed used → Sized quiet 4 (takes_until page used)
takes_sized page used are = sized_as quiet refl (sized (Taking ∷ []) 4 (takes_are page used) (takes_few page used are))

judged_sized : (age epoch page : ℕ) (used : Option Used) (outcome : Outcome) (steps : List Made) → Judged age epoch page used outcome steps → Sized idle 3 steps
judged_sized age epoch page used outcome steps h = grind (arith, sized_at, sized)

-- The examination of a page takes at most 37 steps.
pub examine_sized : (age epoch page : ℕ) (outcome : Outcome) (steps : List Made) → ExamineSteps age epoch page outcome steps → Sized examining 37 steps
examine_sized age epoch page outcome steps (inl h) = let w = without_sized page outcome steps h in sized_as examining refl (sized quiet 37 w.only (omega (arith, w.few)))
examine_sized age epoch page outcome steps (inr h) = let t = h.takes in
    sized_at (h.steps_are ∙ ap (λ s. s ++ h.asked) t.steps_are)
    (sized_both {m = 30} {n = 7} (sized_both {m = 23} {n = 7} (sized_as examining refl (back_sized page h.directory t.grains t.back t.puts))
    (sized_both {m = 3} {n = 4} (sized_as examining refl (judged_sized age epoch page t.used outcome t.after t.judged)) (sized_as examining refl (takes_sized page t.used t.are))))
    (sized_as examining refl (asks_sized page h.directory true h.asked h.asks)))

-- ---- the event
judged_event : (k age epoch page : ℕ) (used : Option Used) (outcome : Outcome) (steps rest : List Made) (v : View) → Judged age epoch page used outcome steps
    → Only quiet rest → known_epoch v ≡ Some epoch → events_by k v (steps ++ rest) ≡ unback_of k epoch page outcome
judged_event k age epoch page used (InUse w a) steps rest v h only known = ap (λ s. events_by k v (s ++ rest)) h.1 ∙ no_events quiet refl k v rest only
judged_event k age epoch page used Bare steps rest v h only known = ap (λ s. events_by k v (s ++ rest)) h.1 ∙ no_events quiet refl k v (made (Look (Word.Backed page)) 0 ∷ rest) (refl, only)
judged_event k age epoch page used (Young s) steps rest v h only known = ap (λ s. events_by k v (s ++ rest)) h.4 ∙ no_events quiet refl k v (two_looks page h.0 s ++ rest) (refl, (refl, only))
judged_event k age epoch page used Unbacked steps rest v h only known =
    let looked = two_looks page h.0 h.1 ++ rest in
    cc (epoch_same quiet refl looked v (refl, (refl, only)), known, no_events quiet refl k v looked (refl, (refl, only)))
judged_event k age epoch page used NotOffered steps rest v h only known = absurd h

-- An examination that ends without a backing's end says none: outcome by outcome.
without_none : (k epoch page : ℕ) (outcome : Outcome) (steps : List Made) → EndsWithout page outcome steps → unback_of k epoch page outcome ≡ []
without_none k epoch page other steps h = grind arith

-- the steps of an examination with the right, in order
pub taken_on : (age epoch page : ℕ) (outcome : Outcome) (steps : List Made) (h : EndsWith age epoch page outcome steps)
    → steps ≡ h.takes.back ++ (h.takes.after ++ (takes_until page h.takes.used ++ h.asked))
taken_on age epoch page outcome steps h = search (arith, append_assoc)

-- The examination of a page makes one event where it was unbacked, and none otherwise.
pub examine_event : (k age epoch page : ℕ) (outcome : Outcome) (steps : List Made) (v : View) → ExamineSteps age epoch page outcome steps
    → known_epoch v ≡ Some epoch → events_by k v steps ≡ unback_of k epoch page outcome
examine_event k age epoch page outcome steps v (inl h) known = no_events quiet refl k v _ (without_sized page _ _ h).only ∙ sym (without_none k _ page _ _ h)
examine_event k age epoch page outcome steps v (inr h) known =
    let t = h.takes in let rest = takes_until page t.used ++ h.asked in
    let quiet_rest : Only quiet rest = only_both quiet _ h.asked (takes_sized page t.used t.are).only (asks_sized page h.directory true h.asked h.asks).only in
    ap (events_by k v) (taken_on age epoch page outcome steps h)
    ∙ events_same quiet refl k v t.back (t.after ++ rest) (back_sized page h.directory t.grains t.back t.puts).only
    ∙ judged_event k age epoch page t.used outcome t.after rest v t.judged quiet_rest known

-- ==== All grains are put back, and their page is left.

-- What was had and is lost isn't had.
lost : (t : Bool) → now (if t then Lost else Kept) t ≡ false
lost t = grind arith

may_put : (page : ℕ) (d : Directory) (grains : Mask4) (v : View) → MayPutBack page d grains v → MayPutAndReturn page d grains v
may_put page d grains v met = record { deed = met.deed; puts = record { held = λ g here. met.at.held g ∙ here; stamped = met.at.stamped page } }

module _ {σ σ1 : Standing} (page : ℕ) (d : Directory) (grains : Mask4) (puts : PutsMask page grains σ σ1) where
  -- After its grains were put back, what follows puts may be done.
  pub may_return : CanCall σ (MayPutBack page d grains) → CanCall σ1 (KnowsDeed page d)
  may_return can = may_settle page d grains puts (record { view = can.view; whole = can.whole; stood = can.stood; met = may_put page d grains _ can.met })

  module _ {σ2 : Standing} (ret : Returned page d σ1 σ2) where
    -- the grains are gone, and the deed is known still
    back_call : Calls σ σ2 (MayPutBack page d grains) (λ v w. Does (given_back (masked page grains)) v w × KnowsDeed page d w) (ret.steps ++ puts.steps)
    back_call = call_knows page d (call_as _ (returned_call page d grains puts ret) (may_put page d grains) (λ v w met does. does)) (λ v met. met.deed)

    may_leave : (v : View) → MayPutBack page d grains v
        → Does (given_back (masked page grains)) v ((ret.steps ++ puts.steps) ++ v) × KnowsDeed page d ((ret.steps ++ puts.steps) ++ v)
        → MayLeave page d ((ret.steps ++ puts.steps) ++ v)
    may_leave v met back = record { right = back.0.right page ∙ met.at.rights page ∙ same_page page; deed = back.1 }

    -- After a return the page may be left.
    pub can_leave : CanCall σ (MayPutBack page d grains) → CanCall σ2 (MayLeave page d)
    can_leave can = next_call back_call can may_leave

    -- Grains that were put back, a return and a leave put the page back.
    pub puts_back : {σ3 : Standing} → Leaves page d σ2 σ3 → PutsBack page d grains σ σ3
    puts_back leave = record {
      steps = leave.steps ++ (ret.steps ++ puts.steps);
      calls = call_then (λ v w. HasNothing w) back_call leave.calls may_leave (λ v met back left. record {
        grains = λ g. left.does.held g ∙ back.0.held g ∙ ap (now (if masked page grains g then Lost else Kept)) (met.at.held g) ∙ lost (masked page grains g);
        rights = λ q. left.does.right q ∙ ap (now (if page == q then Lost else Kept)) (back.0.right q ∙ met.at.rights q) ∙ lost (page == q);
        clear = record { on = λ q. subst (λ t. ClearAfter t q v (leave.steps ++ ((ret.steps ++ puts.steps) ++ v))) (kept_kept _) ((does_then back.0 left.does).clear q) ((is_clear met.at met.ended).on q) };
      });
      order = record { puts = puts.steps; order = puts.order; after = ret.steps; returns = ret.order; left = leave.steps; leaves = leave.order; steps_are = refl };
    }

-- ==== One page whose empty bit was cleared, up to its outcome, and what the steps show of it.

-- ---- the calls
-- steps that were added, with what they lead to
call_by : {σ σ1 : Standing} {B C : View → Type 0} {R : View → View → Type 0} {xs : List Made} → Adds σ σ1 C xs → ((v : View) → B v → C v)
    → ((v : View) → B v → Agreed σ.seat.profile v xs → R v (xs ++ v)) → Calls σ σ1 B R xs
call_by adds under from = record { adds = adds_under adds (λ v l stood met. under v met); leads = record { from = from } }

-- these grains were taken, and the page is no longer examined
pub record IsTaken (page epoch : ℕ) (grains : Mask4) (v : View) : Type 0 where
  pub at : IsAt page (masked page grains) true v
  pub ended : examines v page ≡ false
  pub epoch_is : known_epoch v ≡ Some epoch

module _ {σ σ1 : Standing} (page : ℕ) (d : Directory) (epoch : ℕ) (used : Option Used) (grains : Mask4) (got : (g : ℕ) → is_set grains g ≡ was_free used g)
    (t : TakesUntilUsed page σ σ1 used) where
  is_taken : (v : View) → MayTake page d epoch v → IsTaken page epoch grains (takes_until page used ++ v)
  is_taken v met = record {
    at = at_as _ (at_takes page used v met.at) (λ g. ap (λ x. (page == g / 256) && x) (sym (got (g % 256))));
    ended = takes_examined page used v;
    epoch_is = epoch_same (Taking ∷ []) refl _ v (takes_are page used) ∙ met.epoch_is;
  }

  -- Takes up to the first used word hold the grains that were read as free.
  pub took : Calls σ σ1 (MayTake page d epoch) (λ v w. IsTaken page epoch grains w) (takes_until page used)
  took = call_by t.adds (λ v met. met.at.rights page ∙ same_page page) (λ v met agreed. is_taken v met)

  may_judge : (v : View) → IsTaken page epoch grains v → MayJudge page epoch used v
  may_judge v is = search (arith, and_from, eq-eqb, lt-ltb)

  -- After the takes the page may be judged.
  pub can_judge : CanCall σ (MayTake page d epoch) → CanCall σ1 (MayJudge page epoch used)
  can_judge can = next_call took can (λ v met is. may_judge (takes_until page used ++ v) is)

  module _ {σ2 : Standing} {outcome : Outcome} (j : JudgesPage page epoch used σ1 σ2 outcome) where
    only_idle : Only idle j.steps
    only_idle = (judged_sized σ1.seat.profile.age epoch page used outcome j.steps j.judged).only

    judged_call : Calls σ σ2 (MayTake page d epoch) (λ v w. MayPutBack page d grains w) (j.steps ++ takes_until page used)
    judged_call =
        let c : Calls σ1 σ2 (IsTaken page epoch grains) (λ v w. IsAt page (masked page grains) true w × (examines w page ≡ false)) j.steps
        = call_by j.adds may_judge (λ v is agreed. (at_idle j.steps v only_idle is.at, unexamined_over idle refl page j.steps v only_idle is.ended)) in
        let both = call_then (λ v w. IsAt page (masked page grains) true w × (examines w page ≡ false)) took c (λ v met is. is) (λ v met is after. after) in
        call_as _ (call_knows page d both (λ v met. met.deed)) (λ v met. met) (λ v w met h. record { at = h.0.0; ended = h.0.1; deed = h.1 })

    -- After the judgement all that was got may be put back.
    pub can_put : CanCall σ (MayTake page d epoch) → CanCall σ2 (MayPutBack page d grains)
    can_put can = next_call judged_call can (λ v met may. may)

    -- A page that was taken, judged and put back has its outcome.
    pub takes_page : {σ3 : Standing} → PutsBack page d grains σ2 σ3 → TakesPage page d epoch σ σ3 outcome
    takes_page p = record {
      steps = p.steps ++ (j.steps ++ takes_until page used);
      calls = call_then (λ v w. HasNothing w) judged_call p.calls (λ v met may. may) (λ v met may rests. rests);
      order = search arith;
    }

-- A call that leaves nothing behind, by the steps of an examination, is one.
examined : {σ σ' : Standing} (page epoch : ℕ) (outcome : Outcome) (steps : List Made) → Calls σ σ' (MayExamine page epoch) (λ v w. HasNothing w) steps
    → ExamineSteps σ.seat.profile.age epoch page outcome steps → ExaminesPage page epoch σ σ' outcome
examined {σ} page epoch outcome steps calls order = let age = σ.seat.profile.age in record {
  steps = steps;
  calls = calls;
  order = order;
  kinds = (examine_sized age epoch page outcome steps order).only;
  few = (examine_sized age epoch page outcome steps order).few;
  event = λ v known. examine_event σ.seat.actor age epoch page outcome steps v order known;
}

-- Idle steps leave a page that may be examined so.
still : (page epoch : ℕ) (steps : List Made) (v : View) → Only idle steps → MayExamine page epoch v → MayExamine page epoch (steps ++ v)
still page epoch steps v only met = record { at = at_idle steps v only met.at; epoch_is = epoch_same idle refl steps v only ∙ met.epoch_is }

looks_idle : (page : ℕ) (used : Option Used) → Only idle (looks_until page used)
looks_idle page used = only_within (LookFree ∷ []) idle (looks_until page used) refl (until_only page used)

-- ---- the examination ends at a backed word that is 0, and at a free word that isn't all ones
used_ends : (page : ℕ) (used : Used) (v : View) → IsUsed used → examines (looks_until page (Some used) ++ v) page ≡ false
used_ends page used v is = ended_by page _ _ (ap not (ne_eqb used.value all_ones is.some))

-- A page whose backed word reads as 0 is bare.
pub bare_page : {σ σ1 : Standing} (page epoch b : ℕ) → Makes σ σ1 (Look (Word.Backed page)) b → b ≡ 0 → ExaminesPage page epoch σ σ1 Bare
bare_page page epoch b makes none = examined page epoch Bare (made (Look (Word.Backed page)) b ∷ [])
    (call_step (λ v w. HasNothing w) (call_none {R = λ v w. MayExamine page epoch w} (λ v met. met)) makes (λ v met is. tt) (λ v met is agrees. rests
    (at_idle (made (Look (Word.Backed page)) b ∷ []) v (refl, tt) met.at) (ended_by page (b == 0) (examines v page) (eq-eqb b 0 none))))
    (inl (ap (λ n. made (Look (Word.Backed page)) n ∷ []) none))

-- ---- the page is backed
abbrev IsSeen : ℕ → ℕ → View → Type 0
IsSeen page epoch v = MayExamine page epoch v × ReadBacked v page

module _ {σ σ1 : Standing} (page epoch b : ℕ) (some : b ≢ 0) (first : Makes σ σ1 (Look (Word.Backed page)) b) where
  -- The look at the backed word, as a call.
  backed : Calls σ σ1 (MayExamine page epoch) (λ v w. IsSeen page epoch w) (made (Look (Word.Backed page)) b ∷ [])
  backed = call_step (λ v w. IsSeen page epoch w) (call_none {R = λ v w. MayExamine page epoch w} (λ v met. met)) first (λ v met is. tt)
      (λ v met is agrees. (still page epoch (made (Look (Word.Backed page)) b ∷ []) v (refl, tt) met, inl (same_page page, omega (arith, agrees.small, some))))

  -- A page with a word that isn't all ones is in use.
  pub used_page : {σ2 : Standing} (used : Used) → ReadsUntilUsed page σ1 σ2 (Some used) → ExaminesPage page epoch σ σ2 (InUse used.word used.value)
  used_page {σ2} used l =
      let c : Calls σ1 σ2 (IsSeen page epoch) (λ v w. HasNothing w) (looks_until page (Some used))
      = call_by l.adds (λ v met. tt) (λ v is agreed. rests (at_idle (looks_until page (Some used)) v (looks_idle page (Some used)) is.0.at) (used_ends page used v l.are)) in
      examined page epoch _ _ (call_then (λ v w. HasNothing w) backed c (λ v met is. is) (λ v met is r. r)) (inl (b, some, l.are, refl))

  -- each free word is all ones
  module _ {σ2 : Standing} (l : ReadsUntilUsed page σ1 σ2 None) where
    -- The look at the backed word and those at the free words, as one call.
    seen : Calls σ σ2 (MayExamine page epoch) (λ v w. IsSeen page epoch w) (first_looks page b None)
    seen =
        let c : Calls σ1 σ2 (IsSeen page epoch) (λ v w. IsSeen page epoch w) (looks_until page None)
        = call_by l.adds (λ v met. tt) (λ v is agreed. (still page epoch (looks_until page None) v (looks_idle page None) is.0, once_later _ (looks_until page None) v is.1)) in
        call_then (λ v w. IsSeen page epoch w) backed c (λ v met is. is) (λ v met is r. r)

    -- A page whose words are all ones has its deed read next.
    pub can_read : CanCall σ (MayExamine page epoch) → CanCall σ2 (λ v. ReadBacked v page)
    can_read can = next_call seen can (λ v met is. is.1)

    module _ {σ3 : Standing} (d : Directory) (r : ReadsDirectory page σ2 σ3 d) where
      -- With the look at the deed word its directory is known.
      known : Calls σ σ3 (MayExamine page epoch) (λ v w. MayExamine page epoch w
          × KnowsDeed page d w) (made (Look (Word.Deed page)) (deed_word_of d) ∷ first_looks page b None)
      known =
          search (arith, call_by, same_page, call_then, seen)

      -- A page whose directory was read may be claimed.
      pub can_claim : CanCall σ (MayExamine page epoch) → CanCall σ3 (KnowsDeed page d)
      can_claim can = next_call known can (λ v met is. is.1)

      module _ {σ4 : Standing} (got : Bool) (cl : Claims page d σ3 σ4 got) where
        -- The steps of an examination up to the claim.
        pub asking : List Made
        asking = made (TakeRight page d) cl.answer ∷ made (Look (Word.Deed page)) (deed_word_of d) ∷ first_looks page b None

        -- After the claim its actor has the page's right exactly where it was got, and knows its deed.
        pub asked : Calls σ σ4 (MayExamine page epoch) (λ v w. IsAt page none got w × (known_epoch w ≡ Some epoch) × KnowsDeed page d w) asking
        unfolding asking
        asked = call_then (λ v w. IsAt page none got w × (known_epoch w ≡ Some epoch) × KnowsDeed page d w) known (call_knows page d cl.calls (λ v met. met))
            (λ v met is. is.1) (λ v met is r. (at_claim page d cl.answer got _ r.0 is.0.at, is.0.epoch_is, r.1))

        -- The looks and the claim are what is asked of a page.
        pub asks : AsksSteps page d got asking
        unfolding asking
        asks = record { backed = b; some = some; answer = cl.answer; got_is = cl.got_is; steps_are = refl }

      -- A page whose claim failed, and which was hinted again, is not offered.
      pub page_not_offered : {σ4 σ5 : Standing} (cl : Claims page d σ3 σ4 false) (h : ℕ) → Makes σ4 σ5 (Hint page) h → ExaminesPage page epoch σ σ5 NotOffered
      page_not_offered cl h makes = examined page epoch NotOffered (made (Hint page) h ∷ asking false cl)
          (call_step (λ v w. HasNothing w) (asked false cl) makes (λ v met is. tt) (λ v met is agrees. rests (at_idle (made (Hint page) h ∷ []) (asking false cl ++ v) (refl, tt) is.0) (ends page _)))
          (inl (d, h, asking false cl, asks false cl, refl))

      module _ {σ4 : Standing} (cl : Claims page d σ3 σ4 true) where
        may_take : {v : View} → IsAt page none true v × (known_epoch v ≡ Some epoch) × KnowsDeed page d v → MayTake page d epoch v
        may_take is = record { at = is.0; epoch_is = is.1; deed = is.2 }

        -- A page that was claimed may be taken.
        pub can_take : CanCall σ (MayExamine page epoch) → CanCall σ4 (MayTake page d epoch)
        can_take can = next_call (asked true cl) can (λ v met is. may_take is)

        -- A page that was claimed and taken has the outcome of its judgement.
        pub page_taken : {σ5 : Standing} {outcome : Outcome} → TakesPage page d epoch σ4 σ5 outcome → ExaminesPage page epoch σ σ5 outcome
        page_taken {outcome = outcome} t = examined page epoch outcome _ (call_then _ (asked true cl) t.calls (λ v met is. may_take is) (λ v met is r. r))
            (inr record { directory = d; asked = asking _ cl; asks = asks _ cl; after = t.steps; takes = subst (λ s. TakesSteps s.profile.age epoch page d outcome t.steps) (asked true cl).adds.seat_is t.order; steps_are = refl })

looks_hold : (page g : ℕ) (used : Option Used) (v : View) → holds (looks_until page used ++ v) g ≡ holds v g
looks_hold page g used v = holds_same (LookFree ∷ []) refl g (looks_until page used) v (until_only page used)

asks_none : (page : ℕ) (d : Directory) (steps : List Made) → AsksSteps page d true steps → (g : ℕ) → holds steps g ≡ false
asks_none page d steps h g = ap (λ s. holds s g) h.steps_are ∙ looks_hold page g None (made (Look (Word.Backed page)) h.backed ∷ [])

-- A page in use had a word that isn't all ones, while none of its grains was held.
pub used_by_others : (age epoch page word value : ℕ) (steps : List Made) → ExamineSteps age epoch page (InUse word value) steps
    → (value ≢ all_ones) × Once (UsedByOthers page word value) steps
used_by_others age epoch page word value steps (inl h) = let b = made (Look (Word.Backed page)) h.0 ∷ [] in (
  h.2.some,
  rw h.3 (inl (ReadsFree.Looks, refl, λ g at here. holds_same (LookFree ∷ []) refl g _ b (looks_only page ones word))),
)
used_by_others age epoch page word value steps (inr h) =
    let t = h.takes in
    let used : IsUsed (used_at word value) = subst AreUsed t.judged.0 t.are in
    let are = taken_on age epoch page _ steps h ∙ ap (λ s. t.back ++ (s ++ (takes_until page t.used ++ h.asked))) t.judged.1
    ∙ ap (λ u. t.back ++ (takes_until page u ++ h.asked)) t.judged.0 in (
      used.some,
      subst (Once (UsedByOthers page word value)) (sym are) (once_later _ t.back _ (inl (
        ReadsFree.Takes all_ones,
        refl,
        λ g at here. takes_hold page word g h.asked (asks_none page h.directory h.asked h.asks g) ∙ and_right (page == g / 256) (nat_lt (g % 256 / 64) word) (le-ltb _ word (omega (arith, here))),
      ))),
    )

-- A page that was unbacked was held whole, with a stamp that is old enough.
pub unbacked_when_old : (age epoch page : ℕ) (steps : List Made) → ExamineSteps age epoch page Unbacked steps → Once (UnbackedHere age epoch page) steps
unbacked_when_old age epoch page steps (inl h) = absurd h
unbacked_when_old age epoch page steps (inr h) =
    let t = h.takes in let j = t.judged in
    let are = taken_on age epoch page Unbacked steps h ∙ ap (λ s. t.back ++ (s ++ (takes_until page t.used ++ h.asked))) j.6 in
    search (arith, once_later, until_holds, asks_none, and_from, eq-eqb, lt-ltb)

-- ==== Tries of pages, one after the other, and the whole pass.

-- A call of kinds that make no event leaves its room as it was.
pub same_room : {σ σ' : Standing} {B : View → Type 0} {R : View → View → Type 0} {xs : List Made} (ks : Kinds) → apart ks showing ≡ true → (spare spare' : ℕ)
    → Calls σ σ' B R xs → (can : CanCall σ B) → Only ks xs → Spares σ spare → Spares σ' spare' → spare' ≡ spare
same_room {σ} {B = B} {xs = xs} ks w spare spare' c can only old new =
    let e = spare_falls {C = B} spare spare' 0 c.adds can old new (ap (λ (es : List Event). length es) (no_events ks w σ.seat.actor can.view xs only)) in omega (arith, e)

-- ---- outcomes and events of some pages and of more
with_append : (page : ℕ) (o : Option Outcome) (xs ys : List (ℕ × Outcome)) → with_outcome page o (xs ++ ys) ≡ with_outcome page o xs ++ ys
with_append page o xs ys = grind arith

-- The outcomes of two lists of tries are those of both, one after the other.
pub outcomes_append : (xs ys : List Tried) → outcomes_in (xs ++ ys) ≡ outcomes_in xs ++ outcomes_in ys
outcomes_append [] ys = refl
outcomes_append (x ∷ xs) ys = ap (with_outcome x.page x.outcome) (outcomes_append xs ys) ∙ with_append x.page x.outcome (outcomes_in xs) (outcomes_in ys)

unbacks_append : (k epoch : ℕ) (xs ys : List (ℕ × Outcome)) → unbacks_in k epoch (xs ++ ys) ≡ unbacks_in k epoch xs ++ unbacks_in k epoch ys
unbacks_append k epoch [] ys = refl
unbacks_append k epoch (x ∷ xs) ys = ap (λ es. unback_of k epoch x.0 x.1 ++ es) (unbacks_append k epoch xs ys) ∙ sym (append_assoc _ _ (unbacks_in k epoch ys))

-- A page's outcome makes at most one unback.
pub one_unback : (k epoch page : ℕ) (o : Outcome) → length (unback_of k epoch page o) ≤ 1
one_unback k epoch page other = grind arith

few_unbacks : (k epoch page : ℕ) (o : Option Outcome) → length (unbacks_in k epoch (with_outcome page o [])) ≤ 1
few_unbacks k epoch page o = grind (arith, length-append, one_unback)

-- ---- a look that leaves the actor ready
pub looked_first : {σ σ1 : Standing} (epoch block a : ℕ) (before : List (ℕ × Outcome)) → Makes σ σ1 (Look (Word.Empty block)) a
    → Tries epoch [] σ σ1 before before (made (Look (Word.Empty block)) a ∷ [])
looked_first {σ} epoch block a before makes = record {
  calls = call_step (λ v w. IsReady epoch w) (call_none {R = λ v w. IsReady epoch w} (λ v met. met)) makes (λ v met is. tt)
      (λ v met is agrees. record { nothing = nothing_still (does_idly _ (LookEmpty ∷ []) refl (made _ a ∷ []) v (refl, tt) (agrees, tt)) met.nothing; epoch_is = met.epoch_is });
  pairs = refl;
  kinds = (refl, tt);
  events = λ v known. refl;
}

-- ---- tries after tries
pub tries_then : {σ σ1 σ2 : Standing} {epoch : ℕ} {earlier later : List Tried} {before middle after : List (ℕ × Outcome)} {xs ys : List Made}
    → Tries epoch earlier σ σ1 before middle xs → Tries epoch later σ1 σ2 middle after ys → Tries epoch (later ++ earlier) σ σ2 before after (ys ++ xs)
tries_then {σ} {epoch = epoch} {earlier} {later} {before} {middle} {after} {xs} {ys} a b = let k = σ.seat.actor in record {
  calls = call_then (λ v w. IsReady epoch w) a.calls b.calls (λ v met is. is) (λ v met is r. r);
  pairs = b.pairs ∙ ap (λ r. outcomes_in later ++ r) a.pairs ∙ sym (append_assoc _ _ (reverse before)) ∙ ap (λ r. r ++ reverse before) (sym (outcomes_append later earlier));
  kinds = only_both trying ys xs b.kinds a.kinds;
  events = λ v known.
      let there : events_by k (xs ++ v) ys ≡ unbacks_in k epoch (outcomes_in later)
      = subst (λ s. events_by s.actor (xs ++ v) ys ≡ unbacks_in s.actor epoch (outcomes_in later)) a.calls.adds.seat_is (b.events (xs ++ v) (epoch_same trying refl xs v a.kinds ∙ known)) in
      cc (events_append k ys xs v, a.events v known, unbacks_append k epoch (outcomes_in later) (outcomes_in earlier), outcomes_append later earlier);
}

-- Each unback of the tries takes up one event of the room.
pub spare_by : {σ σ' : Standing} {epoch : ℕ} {tried : List Tried} {before after : List (ℕ × Outcome)} {steps : List Made} (spare spare' : ℕ)
    → Tries epoch tried σ σ' before after steps → CanCall σ (IsReady epoch) → Spares σ spare → Spares σ' spare'
    → spare' + length (unbacks_in σ.seat.actor epoch (outcomes_in tried)) ≡ spare
spare_by {σ} {epoch = epoch} {tried} spare spare' t can old new = spare_falls {C = IsReady epoch} spare spare' _ t.calls.adds can old new (ap (λ (es : List Event). length es) (t.events can.view can.met.epoch_is))

-- A try of a page takes up at most one event of the room.
pub spare_page : {σ σ' : Standing} {page epoch : ℕ} {before after : List (ℕ × Outcome)} (spare spare' : ℕ) → TriesPage page epoch σ σ' before after
    → CanCall σ (IsReady epoch) → Spares σ spare → Spares σ' spare' → spare ≤ spare' + 1
spare_page {σ} {page = page} {epoch} spare spare' t can old new = let e = spare_by _ _ t.tries can old new in let few = few_unbacks σ.seat.actor epoch page t.outcome in omega (arith, e, few)

-- A page has one outcome at most.
one_more : (page : ℕ) (o : Option Outcome) → length (with_outcome page o []) ≤ 1
one_more page o = grind arith

-- at most one pair more
pub one_pair : (page : ℕ) (o : Option Outcome) (before after : List (ℕ × Outcome)) → reverse after ≡ with_outcome page o [] ++ reverse before
    → length after ≤ length before + 1
one_pair page o before after pairs = search (arith, length-reverse, length-append, one_more)

-- ---- one page
not_begun : (page a : ℕ) (was : Bool) → has_bit a (page % 64) ≡ false → was ≡ false → (if (page == page) && has_bit a (page % 64) then true else was) ≡ false
not_begun page a was none h = ap (λ t. if t && has_bit a (page % 64) then true else was) (same_page page) ∙ ap (λ t. if t then true else was) none ∙ h

module _ {σ σ1 : Standing} (page epoch a : ℕ) (makes : Makes σ σ1 (Unhint page) a) where
  -- Once its empty bit was cleared the page may be examined.
  unhinted : Calls σ σ1 (IsReady epoch) (λ v w. MayExamine page epoch w) (made (Unhint page) a ∷ [])
  unhinted = call_step (λ v w. MayExamine page epoch w) (call_none {R = λ v w. IsReady epoch w} (λ v met. met)) makes (λ v met is. tt)
      (λ v met is agrees. record { at = at_unhint page a v met.nothing; epoch_is = met.epoch_is })

  -- A page whose hint was taken away may be examined.
  pub can_examine : CanCall σ (IsReady epoch) → CanCall σ1 (MayExamine page epoch)
  can_examine can = next_call unhinted can (λ v met may. may)

  -- A page whose empty bit was 0 isn't tried, and has no outcome.
  pub tries_none : (before : List (ℕ × Outcome)) → has_bit a (page % 64) ≡ false → TriesPage page epoch σ σ1 before before
  tries_none before none = record {
    outcome = None;
    steps = made (Unhint page) a ∷ [];
    order = (a, none, refl);
    tries = record {
      calls = call_step (λ v w. IsReady epoch w) (call_none {R = λ v w. IsReady epoch w} (λ v met. met)) makes (λ v met is. tt)
          (λ v met is agrees. record { nothing = rests (at_unhint page a v met.nothing) (not_begun page a _ none (met.nothing.clear.on page).examined); epoch_is = met.epoch_is });
      pairs = refl;
      kinds = (refl, tt);
      events = λ v known. refl;
    };
    few = omega arith;
  }

  -- A page whose empty bit was set is examined, and its outcome is the last one found.
  pub tries_some : {σ2 : Standing} {outcome : Outcome} (before after : List (ℕ × Outcome)) → has_bit a (page % 64) ≡ true
      → ExaminesPage page epoch σ1 σ2 outcome → after ≡ before ++ pair page outcome ∷ [] → TriesPage page epoch σ σ2 before after
  tries_some {σ2} {outcome} before after set x added =
      let unhint = made (Unhint page) a ∷ [] in
      let c : Calls σ1 σ2 (MayExamine page epoch) (λ v w. IsReady epoch w) x.steps
      = call_by x.calls.adds (λ v may. may) (λ v may agreed. record { nothing = x.calls.leads.from v may agreed; epoch_is = epoch_same examining refl x.steps v x.kinds ∙ may.epoch_is }) in
      record {
        outcome = Some outcome;
        steps = x.steps ++ unhint;
        order = (a, set, x.steps, subst (λ s. ExamineSteps s.profile.age epoch page outcome x.steps) makes.seat_is x.order, refl);
        tries = record {
          calls = call_then (λ v w. IsReady epoch w) unhinted c (λ v met may. may) (λ v met may r. r);
          pairs = ap reverse added ∙ reverse-append before _;
          kinds = only_both trying x.steps unhint (only_within examining trying x.steps refl x.kinds) (refl, tt);
          events = search (arith, events_append);
        };
        few = let n = length-append x.steps unhint in omega (arith, n, x.few);
      }

-- ---- the pages of a word
skip : (number value m n : ℕ) → m ≤ n → ((b : ℕ) → m ≤ b → b < n → has_bit value b ≡ false) → pages_set number value n ≡ pages_set number value m
skip number value m zero le none = let same : zero ≡ m = omega (arith, le) in ap (pages_set number value) same
skip number value m (suc n) le none = elim (cases_eq m (suc n)) [
  | inl e ↦ ap (pages_set number value) (sym e)
  | inr ne ↦
      let below : m ≤ n = omega (arith, le, ne) in
      ap (λ t. if t then (64 * number + n) ∷ pages_set number value n else pages_set number value n) (none n below (omega arith)) ∙ skip number value m n below (λ b low high. none b low (omega (arith, high)))
]

-- a page whose bit is set in an empty word is one of the region
pub hinted_page : (f : Profile) (block value next page : ℕ) → AgreesEmpty f block value → IsLowestPage value block next page → IsPage f page
hinted_page f block value next page agrees is = let here = is.here in let whole : 64 * block + page % 64 ≡ page = omega (arith, here) in
    subst (IsPage f) whole (agrees.page (page % 64) (omega arith) is.set)

-- The pages set in a word up to the lowest found are that page and those before it.
pub next_page : (number value next page : ℕ) → 64 * number ≤ next → IsLowestPage value number next page
    → pages_set number value (page + 1 - 64 * number) ≡ page ∷ pages_set number value (next - 64 * number)
next_page number value next page from is =
    let above = is.above in let here = is.here in
    let at : page + 1 - 64 * number ≡ suc (page % 64) = omega (arith, here) in
    let whole : 64 * number + page % 64 ≡ page = omega (arith, here) in
    ap (pages_set number value) at
    ∙ ap (λ t. if t then (64 * number + page % 64) ∷ pages_set number value (page % 64) else pages_set number value (page % 64)) is.set
    ∙ ap (λ p. p ∷ pages_set number value (page % 64)) whole ∙ ap (λ ps. page ∷ ps) (skip number value _ _ (omega (arith, above, here, from)) (λ b low high.
    let p : (64 * number + b) % 64 ≡ b = omega (arith, high) in
    ap (has_bit value) (sym p) ∙ is.lowest (64 * number + b) (omega (arith, low, from)) (omega (arith, high)) (omega (arith, high, whole))))

-- Where no page is left in a word, all those set in it were tried.
pub last_page : (number value next : ℕ) → 64 * number ≤ next → next ≤ 64 * number + 64 → HasNoPage value number next
    → pages_set number value 64 ≡ pages_set number value (next - 64 * number)
last_page number value next from to none = skip number value _ 64 (omega (arith, to)) (λ b low high.
    let p : (64 * number + b) % 64 ≡ b = omega (arith, high) in
    ap (has_bit value) (sym p) ∙ none (64 * number + b) (omega (arith, low, from)) (omega (arith, high)))

-- no try yet
pub tries_nothing : {σ : Standing} (epoch : ℕ) (found : List (ℕ × Outcome)) → found ≡ [] → Tries epoch [] σ σ [] found []
tries_nothing epoch found none = record { calls = call_none (λ v met. met); pairs = ap reverse none; kinds = tt; events = λ v known. refl }

module _ {σ σ1 : Standing} (epoch : ℕ) (makes : Makes σ σ1 (Look Word.Epoch) epoch) where
  abbrev look : List Made
  look = made (Look Word.Epoch) epoch ∷ []

  read_epoch : Calls σ σ1 HasNothing (λ v w. IsReady epoch w) look
  read_epoch = call_step (λ v w. IsReady epoch w) (call_none {R = λ v w. HasNothing w} (λ v met. met)) makes (λ v met is. tt)
      (λ v met is agrees. record { nothing = nothing_still (does_idly σ.seat.profile (LookEpoch ∷ []) refl look v (refl, tt) (agrees, tt)) met; epoch_is = refl })

  -- After the look at the epoch the tries may begin.
  pub is_ready : CanCall σ HasNothing → CanCall σ1 (IsReady epoch)
  is_ready can = next_call read_epoch can (λ v met is. is)

  -- The look at the epoch leaves the room as it was.
  pub first_room : (spare spare' : ℕ) → CanCall σ HasNothing → Spares σ spare → Spares σ1 spare' → spare' ≡ spare
  first_room spare spare' can old new = let e = spare_falls {C = HasNothing} spare spare' 0 read_epoch.adds can old new refl in omega (arith, e)

  -- The look at the epoch, and the tries of the pages of each word, are the pass.
  pub passed : {σ2 : Standing} (words : List WordRead) (read : List Made) (found : List (ℕ × Outcome))
      → map (λ w. w.number) words ≡ numbers_below (vector_words σ1.seat.profile.pages) → InTurn (WordSteps σ1.seat.profile.age epoch) words read
      → Tries epoch (all_tried words) σ1 σ2 [] found read → length read ≤ vector_words σ1.seat.profile.pages + 38 * length (all_tried words)
      → Passes σ σ2 epoch found
  passed words read found numbers order tries few =
      let k = σ.seat.actor in let same = makes.seat_is in
      let found_are : reverse found ≡ outcomes_in (all_tried words) = tries.pairs ∙ append-nil _ in
      record {
        steps = read ++ look;
        order = record {
          words = words;
          numbers_are = subst (λ s. map (λ w. w.number) words ≡ numbers_below (vector_words s.profile.pages)) same numbers;
          read = read;
          order = subst (λ s. InTurn (WordSteps s.profile.age epoch) words read) same order;
          found_are = found_are;
          steps_are = refl;
          kinds = only_both passing read look (only_within trying passing read refl tries.kinds) (refl, tt);
          events = search (arith, events_append, append-nil);
          few = let n = length-append read look in let most = subst (λ s. length read ≤ vector_words s.profile.pages + 38 * length (all_tried words)) same few in omega (arith, n, most);
        };
        calls = call_then (λ v w. HasNothing w) read_epoch tries.calls (λ v met is. is) (λ v met is r. r.nothing);
      }

-- Each unback of a pass takes up one event of the room.
pub spare_pass : {σ σ' : Standing} {epoch : ℕ} {found : List (ℕ × Outcome)} (spare spare' : ℕ) → Passes σ σ' epoch found → CanCall σ HasNothing → Spares σ spare
    → Spares σ' spare' → spare' + length (unbacks_in σ.seat.actor epoch (reverse found)) ≡ spare
spare_pass {σ} {epoch = epoch} {found} spare spare' p can old new = spare_falls {C = HasNothing} spare spare' _ p.calls.adds can old new (ap (λ (es : List Event). length es) (p.order.events can.view))
