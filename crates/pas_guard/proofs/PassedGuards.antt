-- Guards that a sweep passes by, by looks that its desk was told.
use Rattle.std.proofs.Common.{◌≡◌, ℕ, zero, suc, ◌+◌, ◌/◌, ◌<◌, ◌≤◌, Bool, false, ◌||◌, List, [], ◌∷◌, ◌++◌, length, refl, ap, sym, ◌∙◌, subst, arith}
use Rattle.std.proofs.Common.{length-append}
use Rattle.pas_profile.specs.{Profiles.{IsPage, IsValid, IsWordOf}, Blocks.address_of, declared.{guard.Guard.Guard, profile.Profile.Profile, word.Word.Word}}
use Rattle.pas_records.specs.declared.record.Record.{Record}
use Rattle.pas_scan.proofs.ToldLooks.{Told, look_told, adds_told}
use Rattle.pas_steps.specs.{Agreement.{Agrees, Agreed}, Told.{StandsLater, StandsStill}, Views.View, Lists.{Whole, Legal, part, word_after}, Desks.Seat}
use Rattle.pas_steps.specs.{Desks.{Standing, AnyView, CanCall, triples}, declared.step.{Made.Made, Step.TheVariants.Look}}
use Rattle.pas_guard.specs.{Books.{Each, FitsBook, IsGuardOf}, Sweeps.{is_over, life_look, life_word_of, LooksOver}, Passing.{guard_at, AreOfRegion}}
use Rattle.pas_guard.{specs.Passing.{KnowsAlive, alive_looks, PassesAlive}, proofs.Raises.{SweptSoFar, it_stays, next}}

-- ---- looks that are told
alive_many : (guards : List Guard) (words : ℕ → ℕ) (from n : ℕ) → length (alive_looks guards words from n) ≡ n
alive_many guards words from zero = refl
alive_many guards words from (suc n) = ap (λ m. suc m) (alive_many guards words from n)

alive_told : (f : Profile) (k : ℕ) (l : Whole) (actor : k ≤ f.threads) (value : Word → ℕ) (guards : List Guard) (from n : ℕ)
    → ((j : ℕ) → from ≤ j → j < from + n → IsPage f (address_of (guard_at guards j).block.name / 4096)) → Told f k l value []
    → Told f k l value (alive_looks guards (λ j. value (life_word_of (guard_at guards j))) from n)
alive_told f k l actor value guards from zero of told = told
alive_told f k l actor value guards from (suc n) of told =
    let page = of (from + n) (omega arith) (omega arith) in
    look_told f k l actor (alive_told f k l actor value guards from n (λ j low high. of j low (omega (arith, high))) told)
    (life_word_of (guard_at guards (from + n))) (record { quiet = λ k e a. refl; blind = λ a e. refl; free = λ e old. refl }) (page.0, page.1, omega arith)

-- Guards whose blocks the desk knows to live are passed by, by looks that it was told.
pub alive_passed : (tells : Bool) (σ σ' : Standing) → IsValid σ.seat.profile → CanCall σ AnyView → (all : Bool) → all ≡ false → (guards : List Guard)
    → AreOfRegion σ guards → (from n : ℕ) → from + n ≤ length guards → KnowsAlive tells σ (guard_at guards from)
    → ((j : ℕ) → from ≤ j → j < from + n → KnowsAlive tells σ (guard_at guards j))
    → ((v : View) (l : Whole) → σ.stands v l → Legal σ.seat.profile l) → ((v : View) (l : Whole) → σ.stands v l → part σ.seat.actor l ≡ v)
    → StandsLater n σ σ' → PassesAlive all guards from σ σ' (from + n)
alive_passed tells σ σ' valid can all none guards of from n within first alive legal own later =
    let f = σ.seat.profile in let k = σ.seat.actor in let value : Word → ℕ = word_after can.whole in
    let words : ℕ → ℕ = λ j. value (life_word_of (guard_at guards j)) in
    let same = λ (v : View) (l : Whole) (stood : σ.stands v l) (w : Word) (at : IsWordOf f w). first.1.one_state v can.view l can.whole stood can.stood w at in
    let told : (v : View) (l : Whole) → σ.stands v l → Told f k l value (alive_looks guards words from n) = λ v l stood.
    alive_told f k l (first.1.actor v l stood) value guards from n (λ j low high. of j (omega (arith, high, within)))
    (record { legal = legal v l stood; words = same v l stood; events = refl; epoch = refl }) in
    record {
      words = words;
      many = n;
      adds = adds_told σ σ' value (alive_looks guards words from n) valid
          (subst (λ m. StandsLater m σ σ') (sym (alive_many guards words from n)) later) own same told;
      at = refl;
      within = within;
      stay = λ j low high. let a = alive j low high in
          ap (λ t. t || is_over (guard_at guards j) (words j)) none ∙ ap (is_over (guard_at guards j)) (a.1.is can.view can.whole can.stood) ∙ a.2;
    }

-- No guard is passed by.
pub passes_no_guard : (all : Bool) (guards : List Guard) (from : ℕ) (σ σ' : Standing) → from ≤ length guards → StandsStill σ σ'
    → PassesAlive all guards from σ σ' from
passes_no_guard all guards from σ σ' within still = record {
  words = λ j. 0;
  many = 0;
  adds = record { seat_is = still.seat_is; added = λ v l stood met. still.stands v l stood; agreed = λ v l stood met. tt };
  at = omega arith;
  within = within;
  stay = λ j low high. absurd (omega (arith, low, high));
}

-- ---- the guards that are up
each_at : (P : Guard → Type 0) (gs : List Guard) (place : ℕ) → place < length gs → Each P gs → P (guard_at gs place)
each_at P [] place lt each = absurd (omega (arith, lt))
each_at P (g ∷ gs) zero lt each = each.0
each_at P (g ∷ gs) (suc place) lt each = each_at P gs place (omega (arith, lt)) each.1

module _ {σ σ1 : Standing} {all : Bool} {guards up : List Guard} {place : ℕ} {said said' : List Record} (so : SweptSoFar all guards up place said said' σ σ1)
  where
    -- A sweep has a place among those that are up, or behind them.
    pub place_within : place ≤ length up
    place_within = let e = ap (λ (xs : List Guard). length xs) so.up in let n = length-append so.kept so.rest in omega (arith, e, n, so.at)

    -- The blocks of those that are up begin in the region.
    pub are_of_region : CanCall σ (FitsBook σ.seat.profile guards) → AreOfRegion σ1 up
    are_of_region can at lt =
        let fits = so.calls.leads.from can.view can.met (so.calls.adds.agreed can.view can.whole can.stood can.met) in
        subst (λ (s : Seat). IsPage s.profile (address_of (guard_at up at).block.name / 4096)) (sym so.calls.adds.seat_is)
        (each_at (IsGuardOf σ.seat.profile) up at lt fits.of_region).block

    -- A keeper that fits its book may look over them.
    pub may_pass : CanCall σ (FitsBook σ.seat.profile guards) → CanCall σ1 AnyView
    may_pass can = record { view = so.steps ++ can.view; whole = _; stood = so.calls.adds.added can.view can.whole can.stood can.met; met = tt }

-- ---- the sweep goes on behind them
-- what stands where a desk stood, with these steps added
abbrev with_steps : Standing → List Made → Standing
with_steps σ steps = record {
  seat = σ.seat;
  stands = λ v l. (w : View) × (m : Whole) × σ.stands w m × (v ≡ steps ++ w) × (l ≡ triples σ.seat.actor steps ++ m);
}

module _ {σ σ1 : Standing} {all : Bool} {guards up : List Guard} {place : ℕ} {said said' : List Record} (so : SweptSoFar all guards up place said said' σ σ1)
    {σ2 : Standing} {last : ℕ} (passes : PassesAlive all up place σ1 σ2 last) where
  abbrev words : ℕ → ℕ
  words = passes.words

  abbrev looks_to : ℕ → List Made
  looks_to n = alive_looks up words place n

  -- one guard more
  look_on : (n : ℕ) → ((v : View) (l : Whole) → σ1.stands v l → Agreed σ1.seat.profile v (looks_to (suc n)))
      → (all || is_over (guard_at up (place + n)) (words (place + n))) ≡ false
      → LooksOver all (guard_at up (place + n)) (with_steps σ1 (looks_to n)) (with_steps σ1 (looks_to (suc n))) false
  look_on n agreed stays = record {
    word = words (place + n);
    adds = record {
      seat_is = refl;
      added = λ v l stood met. (
        stood.0,
        stood.1,
        stood.2,
        ap (λ xs. life_look (guard_at up (place + n)) (words (place + n)) ++ xs) stood.3,
        ap (λ xs. triples σ1.seat.actor (life_look (guard_at up (place + n)) (words (place + n))) ++ xs) stood.4,
      );
      agreed = λ v l stood met. (
        subst (λ x. Agrees σ1.seat.profile x (Look (life_word_of (guard_at up (place + n)))) (words (place + n))) (sym stood.3)
            (agreed stood.0 stood.1 stood.2).0,
        tt,
      );
    };
    down_is = sym stays;
  }

  stays_to : (n : ℕ) → place + n ≤ length up → ((v : View) (l : Whole) → σ1.stands v l → Agreed σ1.seat.profile v (looks_to n))
      → ((j : ℕ) → place ≤ j → j < place + n → (all || is_over (guard_at up j) (words j)) ≡ false)
      → SweptSoFar all guards up (place + n) said said' σ (with_steps σ1 (looks_to n))
  stays_to zero within agreed stay = record {
    done = so.done;
    kept = so.kept;
    rest = so.rest;
    whole = so.whole;
    up = so.up;
    at = omega (arith, so.at);
    steps = so.steps;
    more = so.more;
    calls = record {
      adds = record {
        seat_is = so.calls.adds.seat_is;
        added = λ v l stood met. (so.steps ++ v, triples σ.seat.actor so.steps ++ l, so.calls.adds.added v l stood met, refl, refl);
        agreed = λ v l stood met. so.calls.adds.agreed v l stood met;
      };
      leads = so.calls.leads;
    };
    swept = so.swept;
    added = so.added;
  }
  stays_to (suc n) within agreed stay =
      let before = stays_to n (omega (arith, within)) (λ v l stood. (agreed v l stood).1) (λ j low high. stay j low (omega (arith, high))) in
      let behind : place + suc n ≡ place + n + 1 = omega arith in
      subst (λ m. SweptSoFar all guards up m said said' σ (with_steps σ1 (looks_to (suc n)))) (sym behind)
      (it_stays before (next before refl (omega (arith, within))).rest_is (look_on n agreed (stay (place + n) (omega arith) (omega arith))) refl)

  -- Guards that are passed by stay up, and the sweep goes on behind them.
  pub they_stay : SweptSoFar all guards up last said said' σ σ2
  they_stay =
      let many = passes.many in let at = passes.at in
      let all_looked : SweptSoFar all guards up last said said' σ (with_steps σ1 (looks_to many)) =
      subst (λ m. SweptSoFar all guards up m said said' σ (with_steps σ1 (looks_to many))) at
      (stays_to many (omega (arith, at, passes.within)) (λ v l stood. passes.adds.agreed v l stood tt)
      (λ j low high. passes.stay j low (omega (arith, high, at)))) in record {
        done = all_looked.done;
        kept = all_looked.kept;
        rest = all_looked.rest;
        whole = all_looked.whole;
        up = all_looked.up;
        at = all_looked.at;
        steps = all_looked.steps;
        more = all_looked.more;
        calls = record {
          adds = record {
            seat_is = passes.adds.seat_is ∙ so.calls.adds.seat_is;
            added = λ v l stood met. let s = all_looked.calls.adds.added v l stood met in
                subst (λ w. σ2.stands w (triples σ.seat.actor all_looked.steps ++ l)) (sym s.3)
                (subst (σ2.stands (looks_to many ++ s.0)) (sym s.4) (passes.adds.added s.0 s.1 s.2 tt));
            agreed = all_looked.calls.adds.agreed;
          };
          leads = all_looked.calls.leads;
        };
        swept = all_looked.swept;
        added = all_looked.added;
      }

-- The same of guards that were read from the book.
pub guards_stay : {σ σ1 σ2 : Standing} {all : Bool} {guards up : List Guard} {place last : ℕ} {said said' : List Record}
    → SweptSoFar all guards up place said said' σ σ1 → (read : List Guard) → read ≡ up → PassesAlive all read place σ1 σ2 last
    → SweptSoFar all guards up last said said' σ σ2
guards_stay {σ1 = σ1} {σ2 = σ2} {all = all} {place = place} {last = last} so read is passes =
    they_stay so (subst (λ xs. PassesAlive all xs place σ1 σ2 last) is passes)
