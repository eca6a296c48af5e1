-- What a writer of lines wrote, from one moment to another one.
use Rattle.std.{specs.Prelude.{ℕ, ◌≡◌, Bool, true, false, List, [], ◌∷◌, ◌++◌, Option, None, Some}, proofs.Common.{refl, ap, sym, ◌∙◌, subst, append_assoc}}
use Rattle.std.proofs.Common.{append-nil}
use Rattle.pas_io.{specs.Told.{Rose, Writes, WritesFront}, proofs.Telling.writes_more}
use Rattle.pas_records.{specs.{declared.record.Record.Record, Lines.{line_of, lines_of}}, proofs.Pieces.front_longer}

-- Where no write has failed by then, the text was written whole; where one failed between, a first part of the text was; and once one failed, nothing is written.
abbrev pub Wrote : Bool → Bool → Option (List ℕ) → Option (List ℕ) → ℕ → ℕ → List ℕ → Type 0
Wrote false false before after faults faults' text = Writes before after text × (faults' ≡ faults)
Wrote false true before after faults faults' text = WritesFront before after text × Rose faults faults'
Wrote true false before after faults faults' text = ⊥
Wrote true true before after faults faults' text = (after ≡ before) × (faults' ≡ faults)

writes_none : (held : Option (List ℕ)) → Writes held held []
writes_none None = tt
writes_none (Some bytes) = ap Some (sym (append-nil bytes))

-- A first part of a text that follows one that was written is one of both.
pub front_after : (before middle after : Option (List ℕ)) (text more : List ℕ) → Writes before middle text → WritesFront middle after more
    → WritesFront before after (text ++ more)
front_after before middle after text more wrote (front, back, is, part) =
    (text ++ front, back, ap (λ (t : List ℕ). text ++ t) is ∙ sym (append_assoc text front back), writes_more before middle after text front wrote part)

-- Nothing was written.
pub wrote_none : (failed : Bool) (held : Option (List ℕ)) (faults : ℕ) → Wrote failed failed held held faults faults []
wrote_none false held faults = (writes_none held, refl)
wrote_none true held faults = (refl, refl)

-- Two texts, one after the other.
pub wrote_both : (x y z : Bool) (held held' held'' : Option (List ℕ)) (faults faults' faults'' : ℕ) (text more : List ℕ)
    → Wrote x y held held' faults faults' text → Wrote y z held' held'' faults' faults'' more → Wrote x z held held'' faults faults'' (text ++ more)
wrote_both false false false held held' held'' faults faults' faults'' text more one two = (writes_more held held' held'' text more one.0 two.0, two.1 ∙ one.1)
wrote_both false false true held held' held'' faults faults' faults'' text more one two =
    (front_after held held' held'' text more one.0 two.0, subst (λ (n : ℕ). Rose n faults'') one.1 two.1)
wrote_both false true false held held' held'' faults faults' faults'' text more one two = absurd two
wrote_both false true true held held' held'' faults faults' faults'' text more one two =
    (front_longer held held'' text more (text ++ more) refl (subst (λ (h : Option (List ℕ)). WritesFront held h text) (sym two.0) one.0), subst (λ (n : ℕ). Rose faults n) (sym two.1) one.1)
wrote_both true false z held held' held'' faults faults' faults'' text more one two = absurd one
wrote_both true true false held held' held'' faults faults' faults'' text more one two = absurd two
wrote_both true true true held held' held'' faults faults' faults'' text more one two = (two.0 ∙ one.0, two.1 ∙ one.1)

lines_both : (rs more : List Record) → lines_of (rs ++ more) ≡ lines_of rs ++ lines_of more
lines_both [] more = refl
lines_both (r ∷ rs) more = ap (λ (t : List ℕ). line_of r ++ t) (lines_both rs more) ∙ sym (append_assoc (line_of r) (lines_of rs) (lines_of more))

-- .. which are the lines of records
pub wrote_lines : (x y z : Bool) (held held' held'' : Option (List ℕ)) (faults faults' faults'' : ℕ) (first more : List Record)
    → Wrote x y held held' faults faults' (lines_of first) → Wrote y z held' held'' faults' faults'' (lines_of more)
    → Wrote x z held held'' faults faults'' (lines_of (first ++ more))
wrote_lines x y z held held' held'' faults faults' faults'' first more one two =
    subst (Wrote x z held held'' faults faults'') (sym (lines_both first more)) (wrote_both x y z held held' held'' faults faults' faults'' (lines_of first) (lines_of more) one two)
