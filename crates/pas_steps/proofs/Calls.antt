-- What a call does, of no step, of one, and of two calls; and of steps by their kinds and their page.
use Rattle.std.proofs.Common.{◌≡◌, ◌≢◌, ℕ, ◌+◌, ◌*◌, ◌/◌, ◌%◌, ◌==◌, Bool, true, false, ◌&&◌, ◌⊎◌, if◌then◌else◌, List, [], ◌∷◌, ◌++◌, inl, refl, ap, sym, ◌∙◌}
use Rattle.std.proofs.{Common.{subst, arith, append_assoc, true≢false, eq-eqb, eqb-true, ne_eqb}, lemmas.Bool.{and_right, cond-false}}
use Rattle.pas_bits.specs.Runs.{in_run, meets_page}
use Rattle.pas_profile.specs.{Lives.live_word, Blocks.grain_of, declared.{name.Name.Name, profile.Profile.Profile}}
use Rattle.pas_steps.specs.{Agreement.{Agrees, Agreed}, Clear.{OwesNothing, IsClearOn, IsClear}, Desks.{Seat, made, AnyView}, Effects.in_mask, Calls.Leads}
use Rattle.pas_steps.specs.Calls.{Fate, Kept, Lost, now, later, Effect, nothing, put, freed, on_page, and_then, ClearAfter, Bears, Does, grain_fate, right_fate}
use Rattle.pas_steps.specs.{Calls.{opens, step_effect}, Views.{View, Stays, Puts, Ends, grain_move, held_after, holds, right_after, has_right, known_deed}}
use Rattle.pas_steps.specs.{Views.{unstamped_after, check_after, owes_check, hint_after, owes_hint, examines}, declared.step.{Made.Made, Step.Step}}
use Rattle.pas_steps.specs.{declared.step.Step.TheVariants.{Put, End}, Frames.{IsReturn, OnlyOn, OnlyReturns, IsOnPage}, Kinds.{Kinds, kind_of, is_in, apart}}
use Rattle.pas_steps.{specs.Kinds.{Only, Unhinting, moving, unbacking, changing, returning, Putting, Ending, Parking}, proofs.Adding.agreed_first}
use Rattle.pas_steps.proofs.{Adding.agreed_later, Flags.{ends_none, ap_if}, Past.always_map, Apart.{in_apart, holds_over, grain_same, holds_same}}
use Rattle.pas_steps.proofs.Frames.{look_hint, right_on, returns_on, backed_with}

-- ---- two calls: the one place where their lists are put together
pub leads_none : {f : Profile} {B : View → Type 0} {R : View → View → Type 0} → ((v : View) → B v → R v v) → Leads f B R []
leads_none r = record { from = λ v met agreed. r v met }

-- What steps lead to, and then others from there, the two lead to together.
pub leads_then : {f : Profile} {B C : View → Type 0} {R S : View → View → Type 0} {ys xs : List Made} (T : View → View → Type 0)
    → Leads f B R xs → Leads f C S ys → ((v w : View) → B v → R v w → C w) → ((v w u : View) → R v w → S w u → T v u) → Leads f B T (ys ++ xs)
leads_then {f} {ys = ys} {xs = xs} T first second meets both = search (arith, agreed_later, append_assoc, agreed_first)

-- What steps lead to is so under a stronger condition and for a weaker end.
pub leads_as : {f : Profile} {B C : View → Type 0} {R S : View → View → Type 0} {xs : List Made} → Leads f B R xs → ((v : View) → C v → B v)
    → ((v w : View) → C v → R v w → S v w) → Leads f C S xs
leads_as {xs = xs} leads under more = record { from = λ v met agreed. more v (xs ++ v) met (leads.from v (under v met) agreed) }

-- at another desk of the same seat
pub leads_at : {s s' : Seat} {B : View → Type 0} {R : View → View → Type 0} {xs : List Made} → s' ≡ s → Leads s'.profile B R xs → Leads s.profile B R xs
leads_at {B = B} {R = R} {xs = xs} same leads = subst (λ t. Leads t.profile B R xs) same leads

-- what may come next
-- ---- effects of two calls
pub does_none : (v : View) → Does nothing v v
does_none v = record { held = λ x. refl; right = λ page. refl; clear = λ page is. is; backed = λ x kept bears. bears }

-- What is kept by both is kept by each.
kept_both : (a b : Fate) → later a b ≡ Kept → (a ≡ Kept) × (b ≡ Kept)
kept_both a s h = grind arith

-- What is clear after both is so by each pair of fates.
clear_later : (a b : Fate) (page : ℕ) (v w u : View) → ClearAfter a page v w → ClearAfter b page w u → ClearAfter (later a b) page v u
clear_later a b page v w u first next = grind arith

-- Two effects one after the other are their effect together.
pub does_then : {d e : Effect} {v w u : View} → Does d v w → Does e w u → Does (and_then d e) v u
does_then {d} {e} {v} {w} {u} a b = search (arith, clear_later, kept_both)

-- ---- one effect in the words of another, for an actor with this view
-- the grain has the same fate, or wasn't held
abbrev pub SameGrain : Fate → Fate → Bool → Type 0
SameGrain a b held = (a ≡ b) ⊎ ((held ≡ false) × (now a false ≡ now b false))

was_kept : (a b : Fate) (held : Bool) → SameGrain a b held → b ≡ Kept → held ≡ true → a ≡ Kept
was_kept a b held e kept h = grind (arith, true≢false)

-- An effect is another one where it does the same to each grain, each right and each page that is clear.
pub does_as : {d : Effect} {v w : View} (e : Effect) → Does d v w → ((x : ℕ) → SameGrain (d.grains x) (e.grains x) (holds v x))
    → ((page : ℕ) → d.rights page ≡ e.rights page)
    → ((page : ℕ) → ClearAfter (d.clears page) page v w → ClearAfter (e.clears page) page v w) → Does e v w
does_as {d} {v} {w} e does grains rights clears = search (arith, was_kept)

-- A thing that was kept first has what becomes of it later.
pub kept_first : (b : Fate) → later Kept b ≡ b
kept_first s = grind arith

-- after a call that did nothing. That a call does nothing afterwards needs no lemma, since `and_then e nothing` computes to e
pub does_after_nothing : {v w u : View} (e : Effect) → Does nothing v w → Does e w u → Does e v u
does_after_nothing {v} {w} {u} e a b = does_as e (does_then a b) (λ x. inl (kept_first (e.grains x))) (λ page. kept_first (e.rights page))
    (λ page. subst (λ t. ClearAfter t page v u) (kept_first (e.clears page)))

-- ---- what follows where nothing is lost
pub still_clear : {v w : View} → Does nothing v w → IsClear v → IsClear w
still_clear does clear = record { on = λ page. does.clear page (clear.on page) }

-- ---- one step
-- What a step does to a right is what its fate says.
pub right_is : (s : Step) (a p : ℕ) (had : Bool) → right_after s a p had ≡ now (right_fate s a p) had
right_is s a p had = grind arith

unstamped_shut : (s : Step) (a p : ℕ) (was : Bool) → opens s a p ≡ false → was ≡ false → unstamped_after s a p was ≡ false
unstamped_shut s a p was shut h = grind (arith, cond-false, ends_none)

check_shut : (s : Step) (a p w deed : ℕ) (right owed : Bool) → opens s a p ≡ false → owed ≡ false → check_after s a p w right deed owed ≡ false
check_shut s a p w deed right owed shut h = grind (arith, ends_none, cond-false, and_right)

hint_shut : (s : Step) (a p : ℕ) (owed : Bool) → opens s a p ≡ false → owed ≡ false → hint_after s a p owed ≡ false
hint_shut s a p owed shut h = grind (arith, look_hint, ends_none, cond-false)

-- Steps of kinds that clear no hint leave a page unexamined that was.
pub unexamined_over : (ks : Kinds) → apart ks (Unhinting ∷ []) ≡ true → (p : ℕ) (steps : List Made) (v : View) → Only ks steps → examines v p ≡ false
    → examines (steps ++ v) p ≡ false
unexamined_over ks w p = holds_over (λ v. examines v p ≡ false) (Unhinting ∷ []) ks (λ m v other h. (grind (arith, look_hint, hint_shut, ends_none, true≢false))) w

clear_shut : (s : Step) (a p : ℕ) (v : View) → opens s a p ≡ false → IsClearOn p v → IsClearOn p (made s a ∷ v)
clear_shut s a p v shut is = search (arith, unstamped_shut, check_shut, hint_shut)

-- ---- steps that open no page
abbrev pub opening : Kinds
opening = Putting ∷ Ending ∷ Parking ∷ Unhinting ∷ []

-- nothing becomes owed on a page
pub owes_over : (ks : Kinds) → apart ks opening ≡ true → (p : ℕ) (steps : List Made) (v : View) → Only ks steps → OwesNothing p v → OwesNothing p (steps ++ v)
owes_over ks w p = holds_over (OwesNothing p) opening ks (λ m v other owes. record {
  checks = λ u lt. check_shut m.step m.answer p u (known_deed v p) (has_right v p) (owes_check v p u) (grind (arith, true≢false)) (owes.checks u lt);
  hint = hint_shut m.step m.answer p (owes_hint v p) (grind (arith, true≢false)) owes.hint;
}) w

-- A page that isn't lost is as clear as it was.
pub clear_step : (t : Bool) (p : ℕ) (v w : View) → (t ≡ false → IsClearOn p v → IsClearOn p w) → ClearAfter (if t then Lost else Kept) p v w
clear_step t p v w shut = grind arith

bears_step : (f : Profile) (s : Step) (a x : ℕ) (v : View) → Agrees f v s a → is_in unbacking (kind_of s) ≡ false → grain_move s a x ≡ Stays → Bears v x
    → Bears (made s a ∷ v) x
bears_step f s a x v agrees keeps stays bears =
    let at : x / 256 * 256 + x % 256 ≡ x = omega arith in
    record {
      held = ap (λ m. held_after m (holds v x)) stays ∙ bears.held;
      backed = backed_with f (x / 256) (x % 256) (made s a ∷ []) v (omega arith) (agrees, tt) ((grind (arith, true≢false)), tt)
          (subst (λ y. grain_move s a y ≡ Stays) (sym at) stays, tt) (subst (λ y. holds v y ≡ true) (sym at) bears.held) bears.backed;
    }

-- any step that ends no page's backing
pub does_step : (f : Profile) (s : Step) (a : ℕ) (v : View) → is_in unbacking (kind_of s) ≡ false → Agrees f v s a → Does (step_effect s a) v (made s a ∷ v)
does_step f s a v keeps agrees = record {
  held = λ x. (grind arith);
  right = λ page. (grind arith);
  clear = λ page. clear_step (opens s a page) page v (made s a ∷ v) (λ shut. clear_shut s a page v shut);
  backed = λ x kept bears. bears_step f s a x v agrees keeps (grind arith) bears;
}

-- ---- steps of kinds that change nothing
does_idle : (f : Profile) (s : Step) (a : ℕ) (v : View) → is_in changing (kind_of s) ≡ false → Agrees f v s a → Does nothing v (made s a ∷ v)
does_idle f s a v h agrees = grind (arith, does_step, true≢false)

-- Steps of kinds that change nothing do nothing.
pub does_idly : (f : Profile) (ks : Kinds) → apart ks changing ≡ true → (steps : List Made) (v : View) → Only ks steps → Agreed f v steps
    → Does nothing v (steps ++ v)
does_idly f ks w [] v only agreed = does_none v
does_idly f ks w (m ∷ more) v only agreed = does_then (does_idly f ks w more v only.1 agreed.1) (does_idle f m.step m.answer (more ++ v) (in_apart ks changing _ w only.0) agreed.0)

-- Steps of kinds that change nothing lead to where nothing was done.
pub leads_idly : (f : Profile) (ks : Kinds) → apart ks changing ≡ true → (steps : List Made) → Only ks steps → Leads f AnyView (Does nothing) steps
leads_idly f ks w steps only = record { from = λ v met agreed. does_idly f ks w steps v only agreed }

-- ---- steps on one page that move no grain: its right, and whether it is clear, are told
bears_over : (f : Profile) (x : ℕ) (ks : Kinds) → apart ks moving ≡ true → apart ks unbacking ≡ true → (steps : List Made) (v : View) → Only ks steps
    → Agreed f v steps → Bears v x → Bears (steps ++ v) x
bears_over f x ks w k [] v only agreed bears = bears
bears_over f x ks w k (m ∷ more) v only agreed bears = bears_step f m.step m.answer x _ agreed.0 (in_apart ks unbacking _ k only.0)
    (grain_same m.step m.answer x (in_apart ks moving _ w only.0)) (bears_over f x ks w k more v only.1 agreed.1 bears)

right_at : (p q : ℕ) (t : Bool) (r : Fate) (v w : View) → (p == q) ≡ t → has_right w p ≡ now r (has_right v p) → (q ≢ p → has_right w q ≡ has_right v q)
    → has_right w q ≡ now (if t then r else Kept) (has_right v q)
right_at p q t r v w e here there = grind (arith, eqb-true, true≢false, eq-eqb)

-- steps on one page open no other
on_opens : (p q : ℕ) (s : Step) (a : ℕ) → IsOnPage p s → q ≢ p → opens s a q ≡ false
on_opens p q s a is ne = grind (arith, ne_eqb)

clear_over : (p q : ℕ) (steps : List Made) (v : View) → OnlyOn p steps → q ≢ p → IsClearOn q v → IsClearOn q (steps ++ v)
clear_over p q [] v on ne is = is
clear_over p q (m ∷ more) v on ne is = clear_shut m.step m.answer q (more ++ v) (on_opens p q m.step m.answer on.0 ne) (clear_over p q more v on.1 ne is)

-- Steps on one page, of kinds that move no grain and unback nothing, do to it what they do to its right and its debts.
pub does_on_page : (f : Profile) (p : ℕ) (r c : Fate) (ks : Kinds) → apart ks moving ≡ true → apart ks unbacking ≡ true → (steps : List Made) (v : View)
    → Only ks steps → OnlyOn p steps → Agreed f v steps → has_right (steps ++ v) p ≡ now r (has_right v p) → ClearAfter c p v (steps ++ v)
    → Does (on_page p r c) v (steps ++ v)
does_on_page f p r c ks w k steps v only on agreed right clear =
    record {
      held = λ x. holds_same ks w x steps v only;
      right = λ q. right_at p q (p == q) r v (steps ++ v) refl right (λ ne. right_on p q steps v on ne);
      clear = λ q. (grind (arith, eqb-true, true≢false, eq-eqb, clear_over p q steps v on));
      backed = λ x kept bears. bears_over f x ks w k steps v only agreed bears;
    }

-- Steps that only return grains to a page are of the returning kinds.
pub returns_are : (p : ℕ) (steps : List Made) → OnlyReturns p steps → Only returning steps
returns_are p steps = always_map (λ m before. IsReturn p m.step) _ steps (λ m before is. (grind arith))

-- steps of a return or a leave
pub does_returns : (f : Profile) (p : ℕ) (r c : Fate) (steps : List Made) (v : View) → OnlyReturns p steps → Agreed f v steps
    → has_right (steps ++ v) p ≡ now r (has_right v p) → ClearAfter c p v (steps ++ v) → Does (on_page p r c) v (steps ++ v)
does_returns f p r c steps v only agreed right clear = does_on_page f p r c returning refl refl _ v (returns_are p _ only) (returns_on p _ only) agreed right clear

-- ---- an end
-- what an end does with this guess, where it read the live word of the name or didn't
abbrev pub end_effect : Bool → ℕ → ℕ → Effect
end_effect ended g n = record { grains = λ x. grain_fate (if ended && in_run g n x then Ends g else Stays); rights = λ page. Kept; clears = λ page. if ended && meets_page g n page then Lost else Kept }

end_does : (f : Profile) (name : Name) (guess a : ℕ) (t : Bool) (v : View) → (a == live_word name.turn guess) ≡ t → Agrees f v (End name guess) a
    → Does (end_effect t (grain_of name) guess) v (made (End name guess) a ∷ v)
end_does f name guess a t v e agrees = subst (λ x. Does (end_effect x (grain_of name) guess) v (made (End name guess) a ∷ v)) e (does_step f (End name guess) a v refl agrees)

-- An end whose answer isn't the live word does nothing.
pub end_fails : (f : Profile) (name : Name) (guess a : ℕ) → a ≢ live_word name.turn guess → Leads f AnyView (Does nothing) (made (End name guess) a ∷ [])
end_fails f name guess a ne = record { from = λ v met agreed. end_does f name guess a false v (ne_eqb a (live_word name.turn guess) ne) agreed.0 }

-- the block's grains, none of which was held before
pub record EndsBlock (g n : ℕ) (v w : View) : Type 0 where
  pub does : Does (end_effect true g n) v w
  pub apart : (x : ℕ) → in_run g n x ≡ true → holds v x ≡ false

-- An end whose answer is the live word ends that block.
pub end_succeeds : (f : Profile) (name : Name) (guess a : ℕ) → a ≡ live_word name.turn guess
    → Leads f AnyView (EndsBlock (grain_of name) guess) (made (End name guess) a ∷ [])
end_succeeds f name guess a live = record { from = λ v met agreed. record { does = end_does f _ _ a _ v (eq-eqb a _ live) agreed.0; apart = agreed.0.apart live } }

-- ---- two calls that leave all as it was
pub nothing_then : {f : Profile} {ys xs : List Made} → Leads f AnyView (Does nothing) xs → Leads f AnyView (Does nothing) ys
    → Leads f AnyView (Does nothing) (ys ++ xs)
nothing_then a b = leads_then (Does nothing) a b (λ v w met d. tt) (λ v w u d e. does_then d e)

-- ---- a put
pub leads_put : (f : Profile) (page word mask a : ℕ) → Leads f AnyView (Does (put (in_mask page word mask) page)) (made (Put page word mask) a ∷ [])
leads_put f page word mask a = record { from = λ v met agreed. does_as _ (does_step f _ a v refl agreed.0) (λ x. inl (ap_if grain_fate _ Puts Stays)) (λ q. refl) (λ q h. h) }

-- ---- an end whose grains were put back leaves all as it was, since none of them was held
-- A block that was ended, and whose grains were given back on each page, leaves nothing changed.
pub ends_back : {v w u : View} (g n : ℕ) (pages : ℕ → Bool) → EndsBlock g n v w → Does (freed (in_run g n) pages) w u
    → ((page : ℕ) → meets_page g n page ≡ true → pages page ≡ true) → Does nothing v u
ends_back {v} {w} {u} g n pages e b covers = does_as nothing (does_then e.does b) (λ x. (grind arith)) (λ page. refl) (λ page. (λ h is. grind (arith, true≢false)))

-- An end after steps that do nothing ends the block from the view before.
pub end_later : {v w u : View} (g n : ℕ) → Does nothing v w → EndsBlock g n w u → EndsBlock g n v u
end_later g n d e = record { does = does_after_nothing (end_effect true g n) d e.does; apart = λ x inside. sym (d.held x) ∙ e.apart x inside }
