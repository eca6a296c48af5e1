-- A ledger's seat, and a pass whose actor it took in.
use Rattle.std.proofs.Common.{◌≡◌, ℕ, ◌<◌, List, [], ◌∷◌, sym, ap, ◌∙◌, subst, arith}
use Rattle.atomic_table.specs.Table.{Me, Splits, Allows}
use Rattle.pas_profile.specs.declared.profile.Profile.{Profile}
use Rattle.pas_steps.specs.Views.{View}
use Rattle.pas_shared.specs.{declared.{rule.{Entry.Entry, Part.Part, Roster.{Roster, TheVariants.Settled}}, region.SharedRegion.SharedRegion}, Ruled.Holds}
use Rattle.pas_shared.{specs.Ruled.{alone, joined, looks_in, parts_in, seen_in, all_but_last, last_alone, AreEarlier, SeesAll}, proofs.Ruling.splits_last}
use Rattle.pas_shared.proofs.Ruling.{looks}

-- there is a first word
pub some_word : (region : SharedRegion) → 0 < region.table.shared.table_id.words
some_word region = omega (arith, region.keyed.1)

-- ---- the seat of a ledger
pub splits_last_as : (f : Profile) (id : ℕ) (me : Me (Unit {0}) Roster) (es : List (List Entry)) (p : Part) (ps : List Part) → me ≡ (Settled es (p ∷ ps), [])
    → Splits (Holds f) id me.0 (all_but_last me.0) (last_alone me.0)
splits_last_as f id me es p ps is = subst (λ (m : Me (Unit {0}) Roster). Splits (Holds f) id m.0 (all_but_last m.0) (last_alone m.0)) (sym is) (splits_last f id es p ps)

-- A look of a ledger sees all steps so far, with those that it saw before as first ones.
pub looks_as : (f : Profile) (slots id i : ℕ) (me : Me (Unit {0}) Roster) (es : List (List Entry)) (ps : List Part) → me ≡ (Settled es ps, [])
    → Allows (Holds f) slots id me i (λ n. n) (λ n after. SeesAll me after)
looks_as f slots id i me es ps is = subst (λ (m : Me (Unit {0}) Roster). Allows (Holds f) slots id m i (λ n. n) (λ n after. SeesAll m after)) (sym is) (looks f slots id i es ps)

-- it took this actor in last
pub took_last : (me : Me (Unit {0}) Roster) (p : Part) (ps : List Part) → me ≡ (Settled (looks_in me.0) (parts_in me.0), []) → parts_in me.0 ≡ p ∷ ps
    → me ≡ (Settled (looks_in me.0) (p ∷ ps), [])
took_last me p ps is last = is ∙ ap (λ (qs : List Part). (Settled (looks_in me.0) qs, [])) last

-- what it saw at the looks before are the first of the steps that it saw at this one
pub saw_each : (me now : Me (Unit {0}) Roster) → SeesAll me now → AreEarlier (looks_in me.0) (seen_in now.0)
saw_each me now sees = subst (λ (m : Me (Unit {0}) Roster). AreEarlier (looks_in me.0) (seen_in m.0)) (sym sees.after_is) sees.earlier

-- it names the one actor that it took in
pub took_alone : (me own now : Me (Unit {0}) Roster) (k : ℕ) (v : View) → me ≡ (Settled (looks_in me.0) (parts_in me.0), []) → parts_in me.0 ≡ []
    → own.0 ≡ alone k v → now.0 ≡ joined me.0 own.0
    → parts_in now.0 ≡ record { actor = k; made = v } ∷ []
took_alone me own now k v is none its new =
    let was : me.0 ≡ Settled (looks_in me.0) [] = ap (λ (m : Me (Unit {0}) Roster). m.0) is ∙ ap (λ (ps : List Part). Settled (looks_in me.0) ps) none in
    ap parts_in new ∙ ap (λ (z : Roster × Roster). parts_in (joined z.0 z.1)) (λ i. (was i, its i))

-- it saw what it saw
pub seen_by_rest : (u : Roster) → seen_in (all_but_last u) ≡ seen_in u
seen_by_rest u = search arith
