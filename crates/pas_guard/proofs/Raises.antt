-- A guard goes up, and the actor fits the book still.
use Rattle.std.proofs.Common.{◌≡◌, ◌≢◌, ℕ, ◌+◌, ◌*◌, ◌/◌, ◌<◌, ◌≤◌, ◌==◌, Bool, true, false, ◌||◌, if◌then◌else◌, List, [], ◌∷◌, ◌++◌, inl, inr, refl, ap, sym}
use Rattle.std.proofs.Common.{◌∙◌, subst, arith, length-append, append_assoc, true≢false, Some, None, eqb-true, eq-eqb, ne_eqb, ◌⊎◌, length, append-nil, remove}
use Rattle.std.proofs.{Common.slice_index_or, lemmas.Bool.{cases_Bool, or_from, or_parts, or_right, Decides.nat_tests}}
use Rattle.pas_profile.specs.{Blocks.address_of, Profiles.IsPage, declared.{directory.Directory.Directory, name.Block.Block, profile.Profile.Profile}}
use Rattle.pas_profile.specs.declared.guard.Guard.{Guard}
use Rattle.pas_scan.specs.Runs.{large_directory}
use Rattle.pas_steps.specs.{Calls.{Calls, Kept, Lost, now, nothing, Does, Leads}, Desks.{Standing, CanCall, Seat, AnyView}, Agreement.Agreed, Kinds.Kinds}
use Rattle.pas_steps.specs.{Kinds.{Backing, Only, is_in, kind_of, returning, LookLife}, declared.step.{Step.TheVariants.{Back, Give}, Made.Made}, Views.View}
use Rattle.pas_steps.{specs.Views.{Stays, grain_move, holds, has_right, known_deed, KnowsDeed}, proofs.{Past.{always_map, always_both}, Called.next_call}}
use Rattle.pas_steps.proofs.{Called.call_none, Calls.{leads_at, does_idly}, Frames.knows_still, SpareRoom.Spares, Apart.{only_within, only_both}}
use Rattle.pas_steps.proofs.Adding.{adds_under, agreed_first, agreed_later, adds_call}
use Rattle.pas_large.proofs.{Gives.run_is, Left.{BacksIn, only_backs, backs_in, only_leaves, backs_few}, Claims.{has_got, room_after, span_in, steady_both}}
use Rattle.pas_large.{proofs.Claims.steady_on, specs.{Claims.{in_span, StaysPut, HasPages}, Finds.{MayFind, FindRoom}, Gives.run_block}}
use Rattle.pas_guard.{proofs.Seeks.steady_kinds, specs.{Books.{is_outer_of, is_outer, AreApart, Each, KnowsGuard, FitsBook, IsGuardOf}, Guards.left_last_first}}
use Rattle.pas_guard.specs.{Guards.{GuardedRun, GuardsRun}, Lowers.{MayLower, lowered, Lowers}, Passing.no_guard, Raises.{BacksNot, RaiseRoom, guard_of}}
use Rattle.pas_guard.specs.{Raises.{Raises, IsRaised}, Seeks.{seeking, HoldsWhole, HasSpan, Seeks}, Sweeps.{is_over, life_look, LooksOver, lowered_record}}
use Rattle.pas_guard.specs.Sweeps.{SweptOne, Swept, sweeping, Sweeps}
use Rattle.pas_rights.specs.{Gives.give_steps, PutsBack.giving_back}
use Rattle.pas_records.specs.declared.record.Record.{Record}

-- ---- books with a guard more
or_false : (t : Bool) → (t || false) ≡ t
or_false t = search arith

outer_more : (gs : List Guard) (guard : Guard) (p : ℕ) → is_outer (gs ++ guard ∷ []) p ≡ (is_outer gs p || is_outer_of guard p)
outer_more [] guard p = or_false (is_outer_of guard p)
outer_more (g ∷ gs) guard p = ap (λ t. is_outer_of g p || t) (outer_more gs guard p) ∙ (search arith)

-- What is so of each guard of a book is so with one more of which it is so.
pub each_more : (P : Guard → Type 0) (gs : List Guard) (guard : Guard) → Each P gs → P guard → Each P (gs ++ guard ∷ [])
each_more P [] guard h last = (last, tt)
each_more P (g ∷ gs) guard h last = (h.0, each_more P gs guard h.1 last)

-- What is so of each guard of a book is so in any weaker form.
each_map : (P Q : Guard → Type 0) (gs : List Guard) → ((g : Guard) → P g → Q g) → Each P gs → Each Q gs
each_map P Q [] f h = tt
each_map P Q (g ∷ gs) f h = (f g h.0, each_map P Q gs f h.1)

-- Guards whose deeds are known are known where no deed is forgotten.
each_known : (v w : View) (gs : List Guard) → ((p : ℕ) (e : Directory) → KnowsDeed p e v → KnowsDeed p e w) → Each (KnowsGuard v) gs
    → Each (KnowsGuard w) gs
each_known v w gs knows = each_map (KnowsGuard v) (KnowsGuard w) gs
    (λ g h. let e = large_directory g.block.heap in record { low = knows g.low e h.low; high = knows g.high e h.high })

-- the new guard has other pages than this one
other_guard : (a b : Guard) → is_outer_of a b.low ≡ false → is_outer_of a b.high ≡ false → (is_outer_of b a.low ≡ false) × (is_outer_of b a.high ≡ false)
other_guard a b low high = search (arith, or_parts, or_from, ne_eqb, true≢false, eq-eqb)

apart_more : (gs : List Guard) (guard : Guard) → AreApart gs → is_outer gs guard.low ≡ false → is_outer gs guard.high ≡ false → AreApart (gs ++ guard ∷ [])
apart_more [] guard apart low high = (refl, refl, tt)
apart_more (g ∷ gs) guard apart low high =
    let x = or_parts (is_outer_of g guard.low) (is_outer gs guard.low) low in let y = or_parts (is_outer_of g guard.high) (is_outer gs guard.high) high in
    let other = other_guard g guard x.0 y.0 in search (arith, outer_more, or_from, (apart_more gs guard apart.2 x.1 y.1))

-- ---- the grains that are held
in_or_outer : (first k p : ℕ) → in_span first (first + (k + 2)) p ≡ true
    → (in_span (first + 1) (first + 1 + k) p || ((first == p) || (first + k + 1 == p))) ≡ true
in_or_outer first k p is = grind (arith, nat_tests)

in_not_outer : (first k p : ℕ) → in_span (first + 1) (first + 1 + k) p ≡ true → ((first == p) || (first + k + 1 == p)) ≡ false
in_not_outer first k p is = grind (arith, nat_tests)

-- of a page of the run
raised_here : (first k p : ℕ) → in_span first (first + (k + 2)) p ≡ true
    → now (if in_span (first + 1) (first + 1 + k) p then Lost else Kept) true ≡ ((first == p) || (first + k + 1 == p))
raised_here first k p is = search (arith, (in_or_outer first k p is), (in_not_outer first k p))

inner_out : (first k p : ℕ) → in_span first (first + (k + 2)) p ≡ false → in_span (first + 1) (first + 1 + k) p ≡ false
inner_out first k p out = grind (arith, nat_tests)

module _ (f : Profile) (heap first k : ℕ) (gs : List Guard) (block : Block) where
  abbrev d : Directory
  d = large_directory heap

  abbrev guard : Guard
  guard = guard_of first k block

  abbrev run : ℕ → Bool
  run = in_span first (first + (k + 2))

  low_in : run first ≡ true
  low_in = span_in first (first + (k + 2)) first (omega arith) (omega arith)

  high_in : run (first + k + 1) ≡ true
  high_in = span_in first (first + (k + 2)) (first + k + 1) (omega arith) (omega arith)

  module _ (v w u : View) (fits : FitsBook f gs v) (span : HasSpan d first (first + (k + 2)) v w) (guarded : GuardedRun d first k block w u) where
    -- no page of the run is an outer one yet
    new_page : (p : ℕ) → run p ≡ true → is_outer gs p ≡ false
    new_page p is = let at : p * 256 / 256 ≡ p = omega arith in ap (is_outer gs) (sym at) ∙ sym (fits.held (p * 256)) ∙ span.got.apart (p * 256) (ap run at ∙ is)

    held_now : (g : ℕ) → holds u g ≡ is_outer (gs ++ guard ∷ []) (g / 256)
    held_now g = search (arith, cases_Bool, raised_here, new_page, inner_out, or_false, nat_tests, outer_more)

    fits_more : 1 ≤ first → first + (k + 2) ≤ f.pages + 1 → heap < f.heaps → 1 ≤ k → block.heap ≡ heap → address_of block.name / 4096 ≡ first + 1
        → ((p : ℕ) (e : Directory) → KnowsDeed p e v → KnowsDeed p e u) → FitsBook f (gs ++ guard ∷ []) u
    fits_more low high of some of_heap at knows = record {
      apart = apart_more gs guard fits.apart (new_page first low_in) (new_page (first + k + 1) high_in);
      of_region = search (arith, each_more);
      knows = search (arith, each_more, each_known, low_in, high_in, guarded.deeds);
      held = held_now;
      rights = λ q. search (arith, cases_Bool);
      clear = record { on = λ q. guarded.does.clear q (span.got.does.clear q (fits.clear.on q)) };
    }

-- ---- the outer pages of the guards that were up
outer_known : (v : View) (gs : List Guard) → Each (KnowsGuard v) gs → (p : ℕ) → is_outer gs p ≡ true → known_deed v p ≢ 0
outer_known v [] knows p is z = true≢false (sym is)
outer_known v (g ∷ gs) knows p is z = let rest = outer_known v gs knows.1 p in grind (arith, rest, cases_Bool, eqb-true)

whole_outer : (f : Profile) (gs : List Guard) (v : View) → FitsBook f gs v → (p : ℕ) → is_outer gs p ≡ true → HoldsWhole p v
whole_outer f gs v fits p is = record { held = λ g at. fits.held g ∙ ap (is_outer gs) at ∙ is; known = outer_known v gs fits.knows p is }

-- they aren't of a run that was got
run_out : (f : Profile) (d : Directory) (gs : List Guard) (first stop : ℕ) (v w : View) → FitsBook f gs v → HasSpan d first stop v w → (p : ℕ)
    → is_outer gs p ≡ true → in_span first stop p ≡ false
run_out f d gs first stop v w fits span p is = elim (cases_Bool (in_span first stop p)) [
  | inl here ↦ (let at : p * 256 / 256 ≡ p = omega arith in absurd (true≢false (sym is ∙ ap (is_outer gs) (sym at) ∙ sym (fits.held (p * 256)) ∙ span.got.apart (p * 256) (ap (in_span first stop) at ∙ here))))
  | inr out ↦ out
]

-- Steps of kinds without a back don't back a page.
pub no_backs : (ks : Kinds) (p : ℕ) (xs : List Made) → is_in ks Backing ≡ false → Only ks xs → BacksNot p xs
no_backs ks p xs none = always_map _ (λ m before. m.step ≡ Back p → ⊥) xs (λ m before is e. true≢false (sym is ∙ ap (λ s. is_in ks (kind_of s)) e ∙ none))

-- Two lists of steps that don't back a page don't back it together.
pub backs_both : (p : ℕ) (ys xs : List Made) → BacksNot p ys → BacksNot p xs → BacksNot p (ys ++ xs)
backs_both p ys xs = always_both (λ m before. m.step ≡ Back p → ⊥) (λ m before. m.step ≡ Back p → ⊥) ys xs (λ m before h. h)

-- what comes after the search leaves each page but the inner ones alone
module _ (d : Directory) (first k word answer : ℕ) (block : Block) (is : block ≡ run_block d (first + 1) k word) (left backs : List Made) where
  give_stays : (g : ℕ) → in_span (first + 1) (first + 1 + k) (g / 256) ≡ false → grain_move (Give block) answer g ≡ Stays
  give_stays g out = search (arith, run_is)

  -- After the search of a raise, no step moves a grain of a page that isn't an inner one.
  pub after_steady : Only returning left → Only (Backing ∷ []) backs → (g : ℕ) → in_span (first + 1) (first + 1 + k) (g / 256) ≡ false
      → StaysPut g (left ++ (give_steps (first + 1) 0 block word answer ++ backs))
  after_steady leaves back g out = steady_both g left _ (steady_kinds returning refl g left leaves) (give_stays g out, (refl, steady_kinds (Backing ∷ []) refl g backs back))

  -- After the search of a raise, no step backs a page that isn't an inner one.
  pub after_unbacked : Only returning left → BacksIn (first + 1) (first + 1 + k) backs → (p : ℕ) → in_span (first + 1) (first + 1 + k) p ≡ false
      → BacksNot p (left ++ (give_steps (first + 1) 0 block word answer ++ backs))
  after_unbacked leaves pages p out = search (arith, backs_both, no_backs, always_map, true≢false, span_in)

-- ---- before the search
pub fits_find : (f : Profile) (d : Directory) (gs : List Guard) (v : View) → FitsBook f gs v → MayFind d v
fits_find f d gs v fits = record { lacks = λ p h. fits.rights p; clear = fits.clear }

-- Who may raise a guard may search for a run of its heap's large pages.
pub can_seek : {σ : Standing} (heap n spare : ℕ) (gs : List Guard) → 1 ≤ n → CanCall σ (RaiseRoom σ.seat.profile gs n spare)
    → CanCall σ (FindRoom σ.seat.profile (large_directory heap) 1 spare)
can_seek {σ} heap n spare gs some can = record { view = can.view; whole = can.whole; stood = can.stood; met = record { may = fits_find _ _ gs _ can.met.fits; room = (omega (arith, can.met.room, some)) } }

-- ---- after it
-- Who did nothing fits the book still.
pub fits_nothing : (f : Profile) (gs : List Guard) (v w : View) → FitsBook f gs v → Does nothing v w
    → ((p : ℕ) (e : Directory) → KnowsDeed p e v → KnowsDeed p e w)
    → FitsBook f gs w
fits_nothing f gs v w fits still knows = search (arith, each_known, still.held, fits.held, still.right, fits.rights, still.clear, fits.clear.on)

-- Where the search found no run, no guard is raised, and the book stays as it is.
pub not_raised : {σ σ1 : Standing} (heap k : ℕ) (gs : List Guard) → Seeks (large_directory heap) k σ σ1 None → Raises heap k gs gs σ σ1 None
not_raised {σ} heap k gs seek =
    let f = σ.seat.profile in let d = large_directory heap in record {
      steps = seek.steps;
      adds = adds_under seek.adds (λ v l stood met. fits_find f d gs v met);
      raise = record {
        searched = seek.steps;
        after = [];
        steps_are = refl;
        fits = record { from = λ v met agreed. fits_nothing f gs v _ met (seek.outcome.still.from v (fits_find f d gs v met) agreed) (λ p e knows. knows_still f e p _ v agreed knows) };
        kinds = seek.kinds;
        rise = seek.rise;
        returns = seek.returns;
        shows = seek.shows;
        few = (omega (arith, seek.few));
        steady = λ v met agreed g is. seek.steady v (fits_find f d gs v met) agreed (g / 256) (whole_outer f gs v met (g / 256) is) g refl;
        unbacked = λ v met agreed p is. no_backs seeking p seek.steps refl seek.kinds;
        outcome = record { found = seek.outcome; nothing = refl; same = refl };
      };
    }

module _ {σ σ1 : Standing} (heap k first : ℕ) (gs : List Guard) (seek : Seeks (large_directory heap) k σ σ1 (Some first)) where
  abbrev f_ : Profile
  f_ = σ.seat.profile

  abbrev d_ : Directory
  d_ = large_directory heap

  -- After the search the actor has the span of the run.
  sought : Calls σ σ1 (FitsBook f_ gs) (HasSpan d_ first (first + (k + 2))) seek.steps
  sought = record { adds = adds_under seek.adds (λ v l stood met. fits_find f_ d_ gs v met); leads = record { from = λ v met agreed. seek.outcome.got.from v (fits_find f_ d_ gs v met) agreed } }

  sought_pages : (v : View) → FitsBook f_ gs v → HasSpan d_ first (first + (k + 2)) v (seek.steps ++ v) → HasPages d_ first (first + (k + 2)) (seek.steps ++ v)
  sought_pages v met span = has_got d_ first (first + (k + 2)) met.clear span.got

  abbrev may_fit : (n spare : ℕ) → CanCall σ (RaiseRoom f_ gs n spare) → CanCall σ (FitsBook f_ gs)
  may_fit n spare can = record { view = can.view; whole = can.whole; stood = can.stood; met = can.met.fits }

  -- After a search that found a run, its pages are in hand, so that it may be guarded.
  pub can_guard : (n spare : ℕ) → CanCall σ (RaiseRoom f_ gs n spare) → CanCall σ1 (HasPages d_ first (first + (k + 2)))
  can_guard n spare can = next_call sought (may_fit n spare can) sought_pages

  -- After a search that found a run there is room for the events of its guard.
  pub room_to_guard : (n spare spare1 : ℕ) → CanCall σ (RaiseRoom f_ gs n spare) → Spares σ spare → Spares σ1 spare1 → n ≤ spare1
  room_to_guard n spare spare1 can law law1 = let room = room_after {spare = spare} {spare' = spare1} n sought.adds (may_fit n _ can) seek.shows can.met.room law law1 in omega (arith, room)

  -- A run that was found and guarded raises a guard, which is the last of the book.
  pub raised : {σ2 : Standing} (block : Block) → 1 ≤ k → heap < f_.heaps → GuardsRun d_ first k block σ1 σ2
      → Raises heap k gs (gs ++ guard_of first k block ∷ []) σ σ2 (Some block)
  raised block some of g =
      let after = g.left ++ (give_steps (first + 1) 0 block g.word g.answer ++ g.backs) in
      let later = leads_at sought.adds.seat_is g.calls.leads in
      let inner = inner_out first k in let left = only_leaves d_ (left_last_first first k) g.left g.left_order in
      let out : (v : View) → FitsBook f_ gs v → Agreed f_ v seek.steps → (p : ℕ) → is_outer gs p ≡ true → in_span first (first + (k + 2)) p ≡ false
      = λ v met agreed p is. run_out f_ d_ gs first (first + (k + 2)) v (seek.steps ++ v) met (sought.leads.from v met agreed) p is in
      record {
        steps = after ++ seek.steps;
        adds = adds_call sought.adds g.calls.adds (λ v l stood met. sought_pages v met (sought.leads.from v met (sought.adds.agreed v l stood met)));
        raise = record {
          searched = seek.steps;
          after = after;
          steps_are = refl;
          fits = record {
            from = λ v met agreed.
                let before = agreed_later f_ v after seek.steps agreed in let next = agreed_first f_ v after seek.steps agreed in
                let span = sought.leads.from v met before in let guarded = later.from (seek.steps ++ v) (sought_pages v met span) next in
                subst (FitsBook f_ (gs ++ guard_of first k block ∷ [])) (sym (append_assoc after seek.steps v))
                (fits_more f_ heap first k gs block v _ _ met span guarded seek.outcome.of_region.0 seek.outcome.of_region.1 of some (ap (λ b. b.heap) g.block_is)
                (ap (λ (b : Block). address_of b.name / 4096) g.block_is ∙ (omega arith))
                (λ p e knows. knows_still f_ e p after (seek.steps ++ v) next (knows_still f_ e p seek.steps v before knows)));
          };
          kinds = seek.kinds;
          rise = seek.rise;
          returns = seek.returns;
          shows = seek.shows;
          steady = λ v met agreed x is. let before = agreed_later f_ v after seek.steps agreed in
              steady_both x after seek.steps (after_steady d_ first k g.word g.answer block g.block_is g.left g.backs left
              (only_backs (first + 1) k g.backs g.back_order) x (inner (x / 256) (out v met before (x / 256) is)))
              (seek.steady v (fits_find f_ d_ gs v met) before (x / 256) (whole_outer f_ gs v met (x / 256) is) x refl);
          unbacked = λ v met agreed p is. let apart = inner p (out v met (agreed_later f_ v after seek.steps agreed) p is) in
              search (arith, backs_both, after_unbacked, backs_in, no_backs);
          few = (let j = length-append after seek.steps in omega (arith, seek.few, j, g.few));
          outcome = record {
            first = first;
            found = seek.outcome;
            backs = g.backs;
            back_order = g.back_order;
            word = g.word;
            answer = g.answer;
            block_is = g.block_is;
            left = g.left;
            left_order = g.left_order;
            after_is = refl;
            raised = refl;
          };
        };
      }

-- A sweep over the guards that are up, one guard more.
-- ---- a list, and the guard at a place of it
at_place : (ks rs : List Guard) (g d : Guard) → slice_index_or (ks ++ g ∷ rs) (length ks) d ≡ g
at_place [] rs g d = refl
at_place (k ∷ ks) rs g d = at_place ks rs g d

taken_out : (ks rs : List Guard) (g : Guard) → remove (ks ++ g ∷ rs) (length ks) ≡ ks ++ rs
taken_out [] rs g = refl
taken_out (k ∷ ks) rs g = ap (λ xs. k ∷ xs) (taken_out ks rs g)

-- ---- a book without it
outer_split : (ks rs : List Guard) (g : Guard) (p : ℕ) → is_outer (ks ++ g ∷ rs) p ≡ (is_outer_of g p || is_outer (ks ++ rs) p)
outer_split [] rs g p = refl
outer_split (k ∷ ks) rs g p = ap (λ t. is_outer_of k p || t) (outer_split ks rs g p) ∙ (search arith)

each_split : (P : Guard → Type 0) (ks rs : List Guard) (g : Guard) → Each P (ks ++ g ∷ rs) → P g × Each P (ks ++ rs)
each_split P [] rs g h = h
each_split P (k ∷ ks) rs g h = let rest = each_split P ks rs g h.1 in (rest.0, (h.0, rest.1))

apart_split : (ks rs : List Guard) (g : Guard) → AreApart (ks ++ g ∷ rs)
    → AreApart (ks ++ rs) × (is_outer (ks ++ rs) g.low ≡ false) × (is_outer (ks ++ rs) g.high ≡ false)
apart_split [] rs g h = (h.2, h.0, h.1)
apart_split (k ∷ ks) rs g h =
    let rest = apart_split ks rs g h.2 in grind (arith, rest, or_parts, outer_split, other_guard, or_from)

-- its pages are those of no other
not_outer : (ks rs : List Guard) (g : Guard) (p : ℕ) → AreApart (ks ++ g ∷ rs) → is_outer_of g p ≡ true → is_outer (ks ++ rs) p ≡ false
not_outer ks rs g p apart is = search (arith, apart_split, cases_Bool, eqb-true)

fits_less : (f : Profile) (ks rs : List Guard) (g : Guard) (v w : View) → FitsBook f (ks ++ g ∷ rs) v → Does (lowered g) v w
    → ((q : ℕ) → has_right w q ≡ has_right v q) → ((p : ℕ) (e : Directory) → KnowsDeed p e v → KnowsDeed p e w) → FitsBook f (ks ++ rs) w
fits_less f ks rs g v w fits does rights knows = record {
  apart = (apart_split ks rs g fits.apart).0;
  of_region = (each_split (IsGuardOf f) ks rs g fits.of_region).1;
  knows = each_known v w (ks ++ rs) knows (each_split (KnowsGuard v) ks rs g fits.knows).1;
  held = λ x. does.held x ∙ ap (now _) (fits.held x ∙ outer_split ks rs g (x / 256)) ∙ (search (arith, (not_outer ks rs g (x / 256) fits.apart)));
  rights = λ q. rights q ∙ fits.rights q;
  clear = record { on = λ q. does.clear q (fits.clear.on q) };
}

may_lower : (f : Profile) (ks rs : List Guard) (g : Guard) (v : View) → FitsBook f (ks ++ g ∷ rs) v → MayLower f g v
may_lower f ks rs g v fits = search (arith, each_split, outer_split)

-- ---- the sweep, a guard more at the end
joined_one : (t : Bool) (k : ℕ) (g : Guard) (first : List Made) (kept after more : List Guard) (said left : List Record) (r : List Record)
    → SweptOne t k g first kept after said left → SweptOne t k g first (kept ++ more) (after ++ more) (said ++ r) (left ++ r)
joined_one t k g first kept after more said left r h = search arith

swept_more : (all : Bool) (k : ℕ) (ps kept : List Guard) (said : List Record) (xs : List Made) (g : Guard) (word : ℕ) (first : List Made) (mine : List Guard)
    (mine_said : List Record)
    → Swept all k ps kept said xs → SweptOne (all || is_over g word) k g first mine [] mine_said []
    → Swept all k (ps ++ g ∷ []) (kept ++ mine) (said ++ mine_said) ((first ++ life_look g word) ++ xs)
swept_more all k [] kept said xs g word first mine mine_said h one = (
  word,
  first,
  [],
  [],
  [],
  subst (λ y. SweptOne (all || is_over g word) k g first y [] (said ++ mine_said) []) (sym (ap (λ y. y ++ mine) h.0))
      (subst (λ y. SweptOne (all || is_over g word) k g first mine [] y []) (sym (ap (λ y. y ++ mine_said) h.1)) one),
  (refl, refl, refl),
  ap (λ y. (first ++ life_look g word) ++ y) h.2 ∙ append-nil (first ++ life_look g word),
)
swept_more all k (p ∷ ps) kept said xs g word first mine mine_said h one =
    let rest = h.2 in let after = h.3 in let more = h.4 in
    search (arith, joined_one, append_assoc, h.1, (swept_more all k ps after more rest g word first mine mine_said h.6 one))

-- ---- what its steps are, and how many
one_kinds : (t : Bool) (k : ℕ) (guard : Guard) (first : List Made) (kept after : List Guard) (said more : List Record)
    → SweptOne t k guard first kept after said more → Only sweeping first
one_kinds true k guard first kept after said more h = let low = h.0 in only_within giving_back sweeping first refl low.kinds
one_kinds false k guard first kept after said more h = subst (Only sweeping) (sym h.0) tt

swept_kinds : (all : Bool) (k : ℕ) (guards kept : List Guard) (said : List Record) (steps : List Made) → Swept all k guards kept said steps
    → Only sweeping steps
swept_kinds all k [] kept said steps h = subst (Only sweeping) (sym h.2) tt
swept_kinds all k (guard ∷ guards) kept said steps h = let rest = swept_kinds all k guards h.3 h.4 h.2 h.6 in grind (arith, rest, only_both, one_kinds)

swept_few : (all : Bool) (k : ℕ) (guards kept : List Guard) (said : List Record) (steps : List Made) → Swept all k guards kept said steps
    → length steps ≤ 25 * length guards
swept_few all k [] kept said steps h = let none = ap (λ (xs : List Made). length xs) h.2 in omega (arith, none)
swept_few all k (guard ∷ guards) kept said steps h =
    let rest = swept_few all k guards h.3 h.4 h.2 h.6 in grind (arith, rest, length-append)

-- The first guards were swept: those that stayed up stand before the others, which come next.
pub record SweptSoFar (all : Bool) (guards now_up : List Guard) (place : ℕ) (said said' : List Record) (desk desk' : Standing) : Type 0 where
  pub done : List Guard
  pub kept : List Guard
  pub rest : List Guard
  pub whole : guards ≡ done ++ rest
  pub up : now_up ≡ kept ++ rest
  pub at : length kept ≡ place
  pub steps : List Made
  pub more : List Record
  pub calls : Calls desk desk' (FitsBook desk.seat.profile guards) (λ v w. FitsBook desk.seat.profile now_up w) steps
  pub swept : Swept all desk.seat.actor done kept more steps
  pub added : said' ≡ said ++ more

-- Before any guard was looked over, none of the book went down.
pub swept_none : {σ : Standing} (all : Bool) (guards : List Guard) (said : List Record) → SweptSoFar all guards guards 0 said said σ σ
swept_none all guards said = record { done = []; kept = []; rest = guards; whole = refl; up = refl; at = refl; steps = []; more = []; calls = call_none (λ v met. met); swept = (refl, refl, refl); added = sym (append-nil _) }

-- all were swept
no_rest : (kept rest : List Guard) → length (kept ++ rest) ≤ length kept → rest ≡ []
no_rest kept [] le = refl
no_rest kept (g ∷ rest) le = absurd (let n = length-append kept (g ∷ rest) in omega (arith, n, le))

-- Once all guards that are up were looked over, the book is swept.
pub swept_all : {σ σ1 : Standing} {all : Bool} {guards up : List Guard} {place : ℕ} {said said' : List Record}
    → SweptSoFar all guards up place said said' σ σ1 → length up ≤ place → Sweeps all guards up said said' σ σ1
swept_all {σ} {all = all} {guards = guards} {up = up} so le =
    let none = no_rest so.kept so.rest (let e = ap (λ (xs : List Guard). length xs) so.up in omega (arith, e, so.at, le)) in
    let done : guards ≡ so.done = so.whole ∙ ap (λ xs. so.done ++ xs) none ∙ append-nil so.done in
    let kept : up ≡ so.kept = so.up ∙ ap (λ xs. so.kept ++ xs) none ∙ append-nil so.kept in
    let swept = subst (λ x. Swept all _ x up so.more so.steps) (sym done) (subst (λ x. Swept all _ so.done x so.more so.steps) (sym kept) so.swept) in record {
      steps = so.steps;
      more = so.more;
      adds = so.calls.adds;
      sweep = record { fits = so.calls.leads; swept = swept; kinds = swept_kinds all _ guards up _ _ swept; few = swept_few all _ guards up so.more _ swept };
      added = so.added;
    }

-- the guard at the place comes next
pub record NextGuard (up kept rest : List Guard) (guard : Guard) : Type 0 where
  pub later : List Guard
  pub rest_is : rest ≡ guard ∷ later

next_guard : (kept rest up : List Guard) (place : ℕ) (d : Guard) → up ≡ kept ++ rest → length kept ≡ place → place < length up
    → NextGuard up kept rest (slice_index_or up place d)
next_guard kept [] up place d is at lt = absurd (let e = ap (λ (xs : List Guard). length xs) (is ∙ append-nil kept) in omega (arith, e, at, lt))
next_guard kept (g ∷ rest) up place d is at lt =
    record { later = rest; rest_is = ap (λ x. x ∷ rest) (sym (ap (λ n. slice_index_or up n d) (sym at) ∙ ap (λ xs. slice_index_or xs (length kept) d) is ∙ at_place kept rest g d)) }

module _ {σ σ1 : Standing} {all : Bool} {guards up : List Guard} {place : ℕ} {said said' : List Record} (so : SweptSoFar all guards up place said said' σ σ1)
    {guard : Guard} {later : List Guard} (rest_is : so.rest ≡ guard ∷ later) where
  abbrev f : Profile
  f = σ.seat.profile

  up_is : up ≡ so.kept ++ guard ∷ later
  up_is = so.up ∙ ap (λ xs. so.kept ++ xs) rest_is

  fits_split : (w : View) → FitsBook f up w → FitsBook f (so.kept ++ guard ∷ later) w
  fits_split w fits = subst (λ xs. FitsBook f xs w) up_is fits

  done_is : guards ≡ (so.done ++ guard ∷ []) ++ later
  done_is = so.whole ∙ ap (λ xs. so.done ++ xs) rest_is ∙ sym (append_assoc so.done (guard ∷ []) later)

  -- its life word was looked at
  module _ {σ2 : Standing} {down : Bool} (look : LooksOver all guard σ1 σ2 down) where
    abbrev ls : List Made
    ls = life_look guard look.word

    -- After the looks the actor fits the book still.
    looked : Calls σ σ2 (FitsBook f guards) (λ v w. FitsBook f up w) (ls ++ so.steps)
    looked = record {
      adds = adds_call so.calls.adds look.adds (λ v l stood met. tt);
      leads = record {
        from = λ v met agreed.
            let before = agreed_later f v ls so.steps agreed in let after = agreed_first f v ls so.steps agreed in
            let fits = so.calls.leads.from v met before in let still = does_idly f (LookLife ∷ []) refl ls (so.steps ++ v) (refl, tt) after in
            subst (λ w. FitsBook f up w) (sym (append_assoc ls so.steps v))
            (fits_nothing f up (so.steps ++ v) (ls ++ (so.steps ++ v)) fits still (λ p e knows. knows_still f e p ls (so.steps ++ v) after knows));
      };
    }

    -- After the look over a guard, it may be lowered.
    pub can_lower_it : CanCall σ (FitsBook f guards) → CanCall σ2 (MayLower σ2.seat.profile guard)
    can_lower_it can = subst (λ (s : Seat). CanCall σ2 (MayLower s.profile guard)) (sym looked.adds.seat_is)
        (next_call looked can (λ v met fits. may_lower f so.kept later guard ((ls ++ so.steps) ++ v) (fits_split ((ls ++ so.steps) ++ v) fits)))

    -- A guard that stays up is looked over, and the sweep goes on with the next one.
    pub it_stays : down ≡ false → SweptSoFar all guards up (place + 1) said said' σ σ2
    it_stays stays =
        let test : (all || is_over guard look.word) ≡ false = sym look.down_is ∙ stays in record {
          done = so.done ++ guard ∷ [];
          kept = so.kept ++ guard ∷ [];
          rest = later;
          whole = done_is;
          up = up_is ∙ sym (append_assoc so.kept (guard ∷ []) later);
          at = let n = length-append so.kept (guard ∷ []) in omega (arith, n, so.at);
          steps = ls ++ so.steps;
          more = so.more ++ [];
          calls = looked;
          swept = swept_more all _ _ so.kept so.more _ guard _ [] (guard ∷ []) [] so.swept (subst (λ t. SweptOne t σ.seat.actor guard [] (guard ∷ []) [] [] []) (sym test) (refl, refl, refl));
          added = so.added ∙ ap (λ xs. said ++ xs) (sym (append-nil so.more));
        }

    -- it is lowered
    module _ {σ3 : Standing} (falls : down ≡ true) (low : Lowers guard σ2 σ3) where
      abbrev ps : List Made
      ps = low.steps

      -- The steps take the guard down.
      lead : Leads f (MayLower f guard) (Does (lowered guard)) ps
      lead = leads_at looked.adds.seat_is (subst (λ (s : Seat). Leads σ2.seat.profile (MayLower s.profile guard) (Does (lowered guard)) ps) looked.adds.seat_is low.calls.leads)

      met_low : (v : View) → FitsBook f up ((ls ++ so.steps) ++ v) → MayLower f guard ((ls ++ so.steps) ++ v)
      met_low v fits = may_lower f so.kept later guard ((ls ++ so.steps) ++ v) (fits_split ((ls ++ so.steps) ++ v) fits)

      -- A guard that was lowered is taken out of the book, and its line is said.
      pub it_goes : {up' : List Guard} {said'' : List Record} → up' ≡ remove up place → said'' ≡ said' ++ lowered_record σ.seat.actor guard ∷ []
          → SweptSoFar all guards up' place said said'' σ σ3
      it_goes {up'} out pushed =
          let test : (all || is_over guard look.word) ≡ true = sym look.down_is ∙ falls in
          let less = out ∙ ap (λ n. remove up n) (sym so.at) ∙ ap (λ xs. remove xs (length so.kept)) up_is ∙ taken_out so.kept later guard in
          let steps = ps ++ (ls ++ so.steps) in record {
            done = so.done ++ guard ∷ [];
            kept = so.kept ++ [];
            rest = later;
            whole = done_is;
            up = less ∙ ap (λ xs. xs ++ later) (sym (append-nil so.kept));
            at = ap length (append-nil so.kept) ∙ so.at;
            steps = (ps ++ ls) ++ so.steps;
            more = so.more ++ lowered_record σ.seat.actor guard ∷ [];
            calls = subst (Calls σ σ3 (FitsBook f guards) (λ v w. FitsBook f up' w)) (sym (append_assoc ps ls so.steps)) (record {
              adds = adds_call looked.adds low.calls.adds (λ v l stood met. subst (λ (s : Seat). MayLower s.profile guard ((ls ++ so.steps) ++ v))
                  (sym looked.adds.seat_is) (met_low v (looked.leads.from v met (looked.adds.agreed v l stood met))));
              leads = record {
                from = λ v met agreed.
                    let before = agreed_later f v ps (ls ++ so.steps) agreed in let after = agreed_first f v ps (ls ++ so.steps) agreed in
                    let fits = looked.leads.from v met before in let does = lead.from ((ls ++ so.steps) ++ v) (met_low v fits) after in
                    subst (FitsBook f up') (sym (append_assoc ps (ls ++ so.steps) v)) (subst (λ xs. FitsBook f xs (ps ++ ((ls ++ so.steps) ++ v))) (sym less)
                    (fits_less f so.kept later guard _ _ (fits_split _ fits) does does.right (λ p e knows. knows_still f e p ps _ after knows)));
              };
            });
            swept = search (arith, swept_more);
            added = pushed ∙ ap (λ xs. xs ++ lowered_record σ.seat.actor guard ∷ []) so.added ∙ append_assoc said so.more _;
          }

-- ---- the guard at the place, as it was read
module _ {σ σ1 : Standing} {all : Bool} {guards up : List Guard} {place : ℕ} {said said' : List Record} (so : SweptSoFar all guards up place said said' σ σ1)
    {guard : Guard} (read : guard ≡ slice_index_or up place no_guard) (lt : place < length up) where
  -- The next guard of the sweep.
  pub next : NextGuard up so.kept so.rest guard
  next = subst (NextGuard up so.kept so.rest) (sym read) (next_guard so.kept so.rest up place no_guard so.up so.at lt)

  -- its block stands in the region
  pub its_page : CanCall σ (FitsBook σ.seat.profile guards) → IsPage σ1.seat.profile (address_of guard.block.name / 4096)
  its_page can =
      let fits = so.calls.leads.from can.view can.met (so.calls.adds.agreed can.view can.whole can.stood can.met) in
      let its = each_split (IsGuardOf σ.seat.profile) so.kept next.later guard (fits_split so next.rest_is (so.steps ++ can.view) fits).of_region in
      subst (λ (s : Seat). IsPage s.profile (address_of guard.block.name / 4096)) (sym so.calls.adds.seat_is) its.0.block

  -- A keeper that fits its book may look over the next guard.
  pub may_look : CanCall σ (FitsBook σ.seat.profile guards) → CanCall σ1 AnyView
  may_look can = record { view = so.steps ++ can.view; whole = _; stood = so.calls.adds.added can.view can.whole can.stood can.met; met = tt }

  -- A guard that was taken out of the book leaves one fewer up.
  pub one_less : {up' : List Guard} → up' ≡ remove up place → length up' + 1 ≡ length up
  one_less out =
      let split = so.up ∙ ap (λ xs. so.kept ++ xs) next.rest_is in
      let less = out ∙ ap (λ n. remove up n) (sym so.at) ∙ ap (λ xs. remove xs (length so.kept)) split ∙ taken_out so.kept next.later guard in
      let a = ap (λ (xs : List Guard). length xs) less in let b = ap (λ (xs : List Guard). length xs) split in let m = length-append so.kept next.later in
      let n = length-append so.kept (guard ∷ next.later) in omega (arith, a, b, m, n)

-- ---- guards that stay up
-- steps of a sweep are on pages of guards that go down
one_steady : (t : Bool) (k : ℕ) (guard : Guard) (first : List Made) (kept after : List Guard) (said more : List Record) (g : ℕ)
    → SweptOne t k guard first kept after said more → is_outer_of guard (g / 256) ≡ false → StaysPut g first
one_steady t k guard first kept after said more g h out = search (arith, or_parts, steady_both, steady_on, true≢false, eq-eqb)

-- the steps of one guard and of those after it
piece_steady : (guard : Guard) (word : ℕ) (first rest steps : List Made) (g : ℕ) → steps ≡ rest ++ (first ++ life_look guard word) → StaysPut g first
    → StaysPut g rest → StaysPut g steps
piece_steady guard word first rest steps g is one more = subst (StaysPut g) (sym is) (steady_both g rest _ more (steady_both g first (life_look guard word) one (refl, tt)))

none_steady : (all : Bool) (k : ℕ) (guards kept : List Guard) (said : List Record) (steps : List Made) (g : ℕ) → Swept all k guards kept said steps
    → is_outer guards (g / 256) ≡ false → StaysPut g steps
none_steady all k [] kept said steps g h out = subst (StaysPut g) (sym h.2) tt
none_steady all k (guard ∷ guards) kept said steps g h out =
    let parts = or_parts (is_outer_of guard (g / 256)) (is_outer guards (g / 256)) out in
    piece_steady guard h.0 h.1 h.2 steps g h.7 (one_steady _ k guard h.1 kept h.3 said h.4 g h.5 parts.0) (none_steady all k guards h.3 h.4 h.2 g h.6 parts.1)

-- those that stay up are of those that were
one_among : (t : Bool) (k : ℕ) (guard : Guard) (first : List Made) (kept after : List Guard) (said more : List Record) (p : ℕ)
    → SweptOne t k guard first kept after said more → is_outer kept p ≡ true → ((t ≡ false) × (is_outer_of guard p ≡ true)) ⊎ (is_outer after p ≡ true)
one_among t k guard first kept after said more p h is = search (arith, cases_Bool)

-- Outer pages of the guards that stay are among those of all.
among : (all : Bool) (k : ℕ) (guards kept : List Guard) (said : List Record) (steps : List Made) (p : ℕ) → Swept all k guards kept said steps
    → is_outer kept p ≡ true → is_outer guards p ≡ true
among all k [] kept said steps p h is = absurd (true≢false (sym is ∙ ap (λ xs. is_outer xs p) h.0))
among all k (guard ∷ guards) kept said steps p h is = elim (one_among (all || is_over guard h.0) k guard h.1 kept h.3 said h.4 p h.5 is) [
  | inl mine ↦ ap (λ t. t || is_outer guards p) mine.1
  | inr after ↦ or_right (is_outer_of guard p) (is_outer guards p) (among all k guards h.3 h.4 h.2 p h.6 after)
]

-- A sweep moves no grain of an outer page of a guard that it leaves up.
pub kept_steady : (all : Bool) (k : ℕ) (guards kept : List Guard) (said : List Record) (steps : List Made) → AreApart guards
    → Swept all k guards kept said steps → (g : ℕ) → is_outer kept (g / 256) ≡ true → StaysPut g steps
kept_steady all k [] kept said steps apart h g is = subst (StaysPut g) (sym h.2) tt
kept_steady all k (guard ∷ guards) kept said steps apart h g is = elim (one_among (all || is_over guard h.0) k guard h.1 kept h.3 said h.4 (g / 256) h.5 is) [
  | inl mine ↦ search (arith, piece_steady, true≢false, none_steady, not_outer)
  | inr after ↦ (let old = among all k guards h.3 h.4 h.2 (g / 256) h.6 after in
      piece_steady guard h.0 h.1 h.2 steps g h.7
      (one_steady (all || is_over guard h.0) k guard h.1 kept h.3 said h.4 g h.5 (search (arith, true≢false, (not_outer [] guards guard (g / 256) apart))))
      (kept_steady all k guards h.3 h.4 h.2 apart.2 h.6 g after))
]

-- The steps of a raise after its search: which they are, and how many back the pages of its block.
module _ {f : Profile} {d : Directory} {k : ℕ} {guards guards' : List Guard} {searched after : List Made} {block : Block}
    (r : IsRaised f d k guards guards' searched after block) where
  -- The steps by which a raise backs pages are backs alone.
  pub raised_backs : Only (Backing ∷ []) r.backs
  raised_backs = only_backs (r.first + 1) k r.backs r.back_order

  -- A raise backs the pages of its block in order.
  pub raised_pages : BacksIn (r.first + 1) (r.first + 1 + k) r.backs
  raised_pages = backs_in (r.first + 1) k r.backs r.back_order

  -- A raise backs at most as many pages as its block has.
  pub raised_few : length r.backs ≤ k
  raised_few = backs_few (r.first + 1) k r.backs r.back_order

  -- A raise leaves the pages of its block by steps that return alone.
  pub raised_leaves : Only returning r.left
  raised_leaves = only_leaves d (left_last_first r.first k) r.left r.left_order
