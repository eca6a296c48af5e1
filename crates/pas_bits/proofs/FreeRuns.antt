-- Free runs: those that share a grain are one, so many free grains in a row lie in one, and a mask has the next one.
use Rattle.std.proofs.Common.{◌≡◌, ℕ, zero, suc, ◌+◌, ◌-◌, ◌<◌, ◌≤◌, ◌&&◌, nat_le, not, Bool, true, false, inl, inr, ap, sym, ◌∙◌, subst, arith, true≢false}
use Rattle.std.proofs.{Common.le-leb, lemmas.Bool.{cases_lt, cases_Bool, and_from, and_parts, not-true, lt-leb}}
use Rattle.pas_bits.specs.{declared.mask.Mask4.Mask4, Masks.{is_set, AreClear, IsLowestSet, IsRunEnd}, Runs.{AreFree, IsFreeRun, IsNextRun, HasNoRunFrom}}

-- No grain is both free and not.
clash : {A : Type 0} (is_free : ℕ → Bool) (x : ℕ) → is_free x ≡ true → is_free x ≡ false → A
clash is_free x free used = absurd (true≢false (sym free ∙ used))

-- ---- two runs that share a grain
-- one doesn't begin after the other: the grain below would be of both
begins_by : (is_free : ℕ → Bool) (g n h m x : ℕ) → IsFreeRun is_free g n → IsFreeRun is_free h m → g ≤ x → x < h + m → g ≤ h
begins_by is_free g n h m x run other low high = elim (cases_lt h g) [
  | inl lt ↦ clash is_free (g - 1) (other.free (g - 1) (omega (arith, lt)) (omega (arith, lt, low, high))) (run.before (g - 1) (omega (arith, lt)))
  | inr le ↦ le
]

ends_by : (is_free : ℕ → Bool) (g n m : ℕ) → IsFreeRun is_free g n → IsFreeRun is_free g m → m ≤ n
ends_by is_free g n m run other = search (arith, cases_lt, clash)

pub same_run : (is_free : ℕ → Bool) (g n h m x : ℕ) → IsFreeRun is_free g n → IsFreeRun is_free h m
    → g ≤ x → x < g + n → h ≤ x → x < h + m → (g ≡ h) × (n ≡ m)
same_run is_free g n h m x run other low high low' high' =
    let at : g ≡ h = omega (arith, begins_by is_free g n h m x run other low high', begins_by is_free h m g n x other run low' high) in
    let here = subst (λ k. IsFreeRun is_free k m) (sym at) other in
    (at, omega (arith, ends_by is_free g n m run here, ends_by is_free g m n here run))

-- ---- the run of so many free grains in a row
-- all from the one on and below the other are free
abbrev FreeTo : (ℕ → Bool) → ℕ → ℕ → Type 0
FreeTo is_free from end = (x : ℕ) → from ≤ x → x < end → is_free x ≡ true

record HasBegin (is_free : ℕ → Bool) (g end : ℕ) : Type 0 where
  first : ℕ
  low : first ≤ g
  free : FreeTo is_free first end
  before : (x : ℕ) → x + 1 ≡ first → is_free x ≡ false

first_of : (is_free : ℕ → Bool) (g end : ℕ) → FreeTo is_free g end → HasBegin is_free g end
first_of is_free zero end free = record { first = 0; low = omega arith; free = free; before = λ x e. absurd (omega (arith, e)) }
first_of is_free (suc g) end free = elim (cases_Bool (is_free g)) [
  | inl one ↦
      let rest = first_of is_free g end (λ x from to. elim (cases_lt g x) [
        | inl lt ↦ free x (omega (arith, lt)) to
        | inr le ↦ let same : g ≡ x = omega (arith, from, le) in subst (λ k. is_free k ≡ true) same one
      ]) in
      let low = rest.low in
      record { first = rest.first; low = omega (arith, low); free = rest.free; before = rest.before }
  | inr none ↦ record {
    first = suc g;
    low = omega arith;
    free = free;
    before = λ x e. let same : g ≡ x = omega (arith, e) in subst (λ k. is_free k ≡ false) same none;
  }
]

record HasEnd (is_free : ℕ → Bool) (first at : ℕ) : Type 0 where
  end : ℕ
  high : at ≤ end
  within : end ≤ 256
  free : FreeTo is_free first end
  after : end < 256 → is_free end ≡ false

end_of : (is_free : ℕ → Bool) (left first at : ℕ) → at + left ≡ 256 → FreeTo is_free first at → HasEnd is_free first at
end_of is_free zero first at page free = record {
  end = at;
  high = omega arith;
  within = omega (arith, page);
  free = free;
  after = λ below. absurd (omega (arith, page, below));
}
end_of is_free (suc left) first at page free = elim (cases_Bool (is_free at)) [
  | inl one ↦
      let rest = end_of is_free left first (at + 1) (omega (arith, page)) (λ x from to. elim (cases_lt x at) [
        | inl lt ↦ free x from lt
        | inr ge ↦ let same : at ≡ x = omega (arith, to, ge) in subst (λ k. is_free k ≡ true) same one
      ]) in
      let high = rest.high in
      record { end = rest.end; high = omega (arith, high); within = rest.within; free = rest.free; after = rest.after }
  | inr none ↦ record { end = at; high = omega arith; within = omega (arith, page); free = free; after = λ below. none }
]

-- a free run that has the n grains from g on
pub record LiesInRun (is_free : ℕ → Bool) (g n : ℕ) : Type 0 where
  pub first : ℕ
  pub length : ℕ
  pub run : IsFreeRun is_free first length
  pub low : first ≤ g
  pub high : g + n ≤ first + length

pub lies_in_run : (is_free : ℕ → Bool) (g n : ℕ) → 1 ≤ n → g + n ≤ 256 → AreFree is_free g n → LiesInRun is_free g n
lies_in_run is_free g n some within free =
    let begin = first_of is_free g (g + n) free in
    let stop = end_of is_free (256 - (g + n)) begin.first (g + n) (omega (arith, within)) begin.free in
    let low = begin.low in let high = stop.high in
    let whole : begin.first + (stop.end - begin.first) ≡ stop.end = omega (arith, low, high) in
    record {
      first = begin.first;
      length = stop.end - begin.first;
      run = record {
        some = omega (arith, low, high, some);
        within = let most = stop.within in omega (arith, whole, most);
        free = λ x from to. stop.free x from (omega (arith, whole, to));
        before = begin.before;
        after = λ below. subst (λ k. is_free k ≡ false) (sym whole) (stop.after (omega (arith, whole, below)));
      };
      low = low;
      high = omega (arith, whole, high);
    }

-- ---- the next run of a mask
-- a run begins at each set bit whose next lower one is clear
module _ (mask moved others starts : Mask4) (moved_is : (g : ℕ) → g < 256 → is_set moved g ≡ (nat_le 1 g && is_set mask (g - 1)))
    (others_are : (g : ℕ) → g < 256 → is_set others g ≡ not (is_set moved g))
    (starts_are : (g : ℕ) → is_set starts g ≡ (is_set mask g && is_set others g)) where
  start_at : (g n : ℕ) → IsFreeRun (is_set mask) g n → is_set starts g ≡ true
  start_at g n run =
      search (arith, and_from, cases_lt, le-leb, lt-leb)

  clear_before : (g : ℕ) → g < 256 → is_set starts g ≡ true → (x : ℕ) → x + 1 ≡ g → is_set mask x ≡ false
  clear_before g small start x next =
      let parts = and_parts (is_set mask g) (is_set others g) (sym (starts_are g) ∙ start) in
      ap (is_set mask) (omega (arith, next)) ∙ sym (ap (λ t. t && is_set mask (g - 1)) (le-leb 1 g (omega (arith, next))))
      ∙ sym (moved_is g small) ∙ not-true (is_set moved g) (sym (others_are g small) ∙ parts.1)

  pub no_next : (from : ℕ) → AreClear starts from 256 → HasNoRunFrom (is_set mask) from
  no_next from clear g n above run =
      let some = run.some in let within = run.within in
      clash (is_set starts) g (start_at g n run) (clear g above (omega (arith, some, within)))

  pub next_is : (from first end : ℕ) → IsLowestSet starts from first → IsRunEnd mask first end
      → IsNextRun (is_set mask) from (record { first = first; length = end - first })
  next_is from first end low stop =
      let set = (and_parts (is_set mask first) (is_set others first) (sym (starts_are first) ∙ low.set)).0 in
      let above = stop.above in let most = low.within in
      let longer : first < end = elim (cases_lt first end) [
        | inl lt ↦ lt
        | inr ge ↦
            let same : first ≡ end = omega (arith, ge, above) in
            clash (is_set mask) end (subst (λ k. is_set mask k ≡ true) same set) (stop.clear (omega (arith, same, most)))
      ] in
      let whole : first + (end - first) ≡ end = omega (arith, longer) in
      record {
        above = low.above;
        is_run = record {
          some = omega (arith, longer);
          within = let within = stop.within in omega (arith, whole, within);
          free = λ x from to. stop.set x from (omega (arith, whole, to));
          before = clear_before first low.within low.set;
          after = λ below. subst (λ k. is_set mask k ≡ false) (sym whole) (stop.clear (omega (arith, whole, below)));
        };
        lowest = λ g n from lt run. clash (is_set starts) g (start_at g n run) (low.lowest g from lt);
      }
