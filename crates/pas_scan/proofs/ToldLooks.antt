-- Steps that a desk which tells the whole state is told, one after the other: mute ones that are allowed, and looks at words in order.
use Rattle.std.proofs.Common.{◌≡◌, ◌≢◌, ℕ, zero, suc, ◌+◌, ◌-◌, ◌*◌, ◌/◌, ◌%◌, ◌<◌, ◌≤◌, Bool, if◌then◌else◌, List, [], ◌∷◌, ◌++◌, length, Option, None, refl}
use Rattle.std.proofs.{Common.{ap, sym, ◌∙◌, subst, arith, append-nil, false, inl, inr}, lemmas.Bool.cases_lt}
use Rattle.pas_bits.specs.Bits.{has_bit}
use Rattle.pas_profile.specs.{Directories.{number_of, deed_word_of}, Layouts.same_word, Profiles.{IsValid, IsWordOf, IsDirectoryOf}}
use Rattle.pas_profile.{specs.declared.{directory.Directory.Directory, profile.Profile.Profile, word.Word.Word}, proofs.Codecs.number_lt}
use Rattle.pas_core.proofs.Nexts.{legal_next, agreed_steps}
use Rattle.pas_steps.specs.{Allowed.{Allowed, IsStepOf}, Effects.{target, new_value}, Events.{event_of, events_of}, Told.{StandsLater, StandsStill, TellsWord}}
use Rattle.pas_steps.specs.{Views.{View, epoch_after, known_epoch}, Lists.{Whole, Legal, part, word_after}, Desks.{Standing, AnyView, Adds, CanCall, made}}
use Rattle.pas_steps.{specs.{Desks.triples, declared.step.{Made.Made, Step.{Step, TheVariants.Look}}}, proofs.Parts.part_of_own}
use Rattle.pas_scan.{proofs.Reading.looks_count, specs.{Rows.looks_from, Scan.deed_looks, Passed.{KnowsDeeds, KnowsOther, NoneIs, PassesDeeds, KnowsHeld}}}
use Rattle.pas_scan.specs.Passed.{PassesHeld, held_looks}

-- ---- steps that are made one after the other on a list, and change no word in the end
-- After these steps the words of the region are these. They are legal, make no event, and read no epoch.
pub record Told (f : Profile) (k : ℕ) (l : Whole) (value : Word → ℕ) (steps : List Made) : Type 0 where
  pub legal : Legal f (triples k steps ++ l)
  pub words : (w : Word) → IsWordOf f w → word_after (triples k steps ++ l) w ≡ value w
  pub events : events_of k (steps ++ part k l) ≡ events_of k (part k l)
  pub epoch : known_epoch (steps ++ part k l) ≡ known_epoch (part k l)

-- the words after a step that needs no epoch
abbrev pub after : (Word → ℕ) → Step → Word → ℕ
after value s w = if same_word (target s) w then new_value 0 s (value w) else value w

-- a step that makes no event and reads no epoch, and whose new value needs none
pub record IsMute (s : Step) : Type 0 where
  pub quiet : (k e a : ℕ) → event_of k e s a ≡ None
  pub blind : (a : ℕ) (e : Option ℕ) → epoch_after s a e ≡ e
  pub free : (e old : ℕ) → new_value e s old ≡ new_value 0 s old

module _ (f : Profile) (k : ℕ) (l : Whole) (actor : k ≤ f.threads) where
  -- A mute step that is allowed is one told step more.
  pub told_step : {value : Word → ℕ} {steps : List Made} → Told f k l value steps → (s : Step) → IsMute s → IsStepOf f s → IsWordOf f (target s)
      → Allowed f (steps ++ part k l) s → Told f k l (after value s) (made s (value (target s)) ∷ steps)
  told_step {value} {steps} told s mute of at allowed =
      search (arith, legal_next, part_of_own)

  -- Words that are told again, by equal values.
  pub told_as : {value same : Word → ℕ} {steps : List Made} → Told f k l value steps → ((w : Word) → IsWordOf f w → value w ≡ same w) → Told f k l same steps
  told_as told are = record { legal = told.legal; words = λ w of. told.words w of ∙ are w of; events = told.events; epoch = told.epoch }

  same_if : (t : Bool) (n : ℕ) → (if t then n else n) ≡ n
  same_if t n = grind arith

  -- A look changes no word.
  pub look_told : {value : Word → ℕ} {steps : List Made} → Told f k l value steps → (word : Word) → IsMute (Look word) → IsWordOf f word
      → Told f k l value (made (Look word) (value word) ∷ steps)
  look_told {value} told word mute of = told_as (told_step told (Look word) mute of of tt) (λ w of'. same_if (same_word word w) (value w))

-- ---- looks at words in order
-- the values of so many words from this place on
abbrev pub values_from : (Word → ℕ) → (ℕ → Word) → ℕ → ℕ → List ℕ
values_from value word from zero = []
values_from value word from (suc n) = value (word (from + n)) ∷ values_from value word from n

pub values_many : (value : Word → ℕ) (word : ℕ → Word) (from n : ℕ) → length (values_from value word from n) ≡ n
values_many value word from zero = refl
values_many value word from (suc n) = ap (λ m. suc m) (values_many value word from n)

-- Looks at words of the region in order are told.
pub looks_told : (f : Profile) (k : ℕ) (l : Whole) (actor : k ≤ f.threads) (value : Word → ℕ) (word : ℕ → Word) (from n : ℕ) (steps : List Made)
    → ((j : ℕ) → IsMute (Look (word j))) → ((j : ℕ) → from ≤ j → j < from + n → IsWordOf f (word j)) → Told f k l value steps
    → Told f k l value (looks_from word from (values_from value word from n) ++ steps)
looks_told f k l actor value word from zero steps mute of told = told
looks_told f k l actor value word from (suc n) steps mute of told =
    let before = looks_told f k l actor value word from n steps mute (λ j low high. of j low (omega (arith, high))) told in
    let more = look_told f k l actor before (word (from + n)) (mute (from + n)) (of (from + n) (omega arith) (omega arith)) in
    rw (values_many value word from n) more

-- ---- pages that are passed by
-- Where no page of some has this deed word, none of the answers is it.
none_is : (value : Word → ℕ) (deed from n : ℕ) → ((p : ℕ) → from ≤ p → p < from + n → value (Word.Deed p) ≢ deed)
    → NoneIs deed (values_from value (λ p. Word.Deed p) from n)
none_is value deed from zero others = tt
none_is value deed from (suc n) others =
    (others (from + n) (omega arith) (omega arith), none_is value deed from n (λ p low high. others p low (omega (arith, high))))

-- Steps that are told at each list for which a desk stood are added to it.
pub adds_told : (σ σ' : Standing) (value : Word → ℕ) (steps : List Made) → IsValid σ.seat.profile → StandsLater (length steps) σ σ'
    → ((v : View) (l : Whole) → σ.stands v l → part σ.seat.actor l ≡ v)
    → ((v : View) (l : Whole) → σ.stands v l → (w : Word) → IsWordOf σ.seat.profile w → word_after l w ≡ value w)
    → ((v : View) (l : Whole) → σ.stands v l → Told σ.seat.profile σ.seat.actor l value steps) → Adds σ σ' AnyView steps
adds_told σ σ' value steps valid later own same told = search (arith, agreed_steps)

-- Pages whose deed words the desk knows as others are passed by, by looks that it was told.
pub passes_told : (tells : Bool) (σ σ' : Standing) → IsValid σ.seat.profile → CanCall σ AnyView → (deed from end n : ℕ) → 1 ≤ from → from + n ≤ end
    → end ≤ σ.seat.profile.pages + 1 → KnowsOther tells σ deed from → ((p : ℕ) → from ≤ p → p < from + n → KnowsOther tells σ deed p)
    → ((v : View) (l : Whole) → σ.stands v l → Legal σ.seat.profile l) → ((v : View) (l : Whole) → σ.stands v l → part σ.seat.actor l ≡ v)
    → StandsLater n σ σ' → PassesDeeds deed from end σ σ' (from + n)
passes_told tells σ σ' valid can deed from end n some within last first others legal own later =
    let f = σ.seat.profile in let k = σ.seat.actor in let value : Word → ℕ = word_after can.whole in let word : ℕ → Word = λ p. Word.Deed p in
    let answers : List ℕ = values_from value word from n in let steps : List Made = deed_looks from answers in let many = values_many value word from n in
    let same = λ (v : View) (l : Whole) (stood : σ.stands v l) (w : Word) (of : IsWordOf f w). first.1.one_state v can.view l can.whole stood can.stood w of in
    let told : (v : View) (l : Whole) → σ.stands v l → Told f k l value steps = λ v l stood. subst (λ xs. Told f k l value xs) (append-nil steps)
    (looks_told f k l (first.1.actor v l stood) value word from n [] (λ j. record { quiet = λ k e a. refl; blind = λ a e. refl; free = λ e old. refl })
    (λ j low high. (omega (arith, some, low), omega (arith, high, within, last)))
    (record { legal = legal v l stood; words = same v l stood; events = refl; epoch = refl })) in
    record {
      steps = steps;
      adds = adds_told σ σ' value steps valid (subst (λ m. StandsLater m σ σ') (sym (looks_count word from n steps answers refl many)) later) own same told;
      answers = answers;
      order = refl;
      at = ap (λ m. from + m) many;
      few = omega (arith, many, within);
      others = none_is value deed from n (λ p low high. let o = others p low high in λ e. o.2 (sym (o.1.is can.view can.whole can.stood) ∙ e));
    }

-- No page is passed by.
pub passes_no_deeds : (deed from end : ℕ) (σ σ' : Standing) → StandsStill σ σ' → PassesDeeds deed from end σ σ' from
passes_no_deeds deed from end σ σ' still = record {
  steps = [];
  adds = record { seat_is = still.seat_is; added = λ v l stood met. still.stands v l stood; agreed = λ v l stood met. tt };
  answers = [];
  order = refl;
  at = omega arith;
  few = omega arith;
  others = tt;
}

-- ---- pages of a directory that aren't offered
-- A look at an eligible word or a deed word is mute.
mute_looks : (number j page : ℕ) → IsMute (Look (Word.Eligible number j)) × IsMute (Look (Word.Deed page))
mute_looks number j page = search arith

-- Pages of one block that aren't offered are known, as far as their deed words are.
pub held_in_block : (tells : Bool) (σ : Standing) (d : Directory) (offered from page stop other : ℕ)
    → ((p : ℕ) → from ≤ p → p < page → KnowsHeld tells σ d p) → TellsWord tells σ (Word.Eligible (number_of d) (page / 64)) offered
    → stop ≤ 64 * (page / 64) + 64 → ((p : ℕ) → page ≤ p → p < stop → has_bit offered (p % 64) ≡ false) → KnowsDeeds tells σ (deed_word_of d) page stop other
    → (p : ℕ) → from ≤ p → p < other → KnowsHeld tells σ d p
held_in_block tells σ d offered from page stop other before told block none deeds p low high = elim (cases_lt p page) [
  | inl lt ↦ before p low lt
  | inr ge ↦
      let under : p < stop = let le = deeds.within in omega (arith, high, le) in let same : page / 64 ≡ p / 64 = omega (arith, ge, under, block) in record {
        offered = offered;
        deed_told = deeds.of p ge high;
        offered_told = subst (λ b. TellsWord tells σ (Word.Eligible (number_of d) b) offered) same told;
        not_offered = none p ge under;
      }
]

-- Looks at their deed words and eligible words are told.
held_told : (f : Profile) (k : ℕ) (l : Whole) (actor : k ≤ f.threads) (value : Word → ℕ) (d : Directory) (from n : ℕ) → number_of d < 23 * f.heaps → 1 ≤ from
    → from + n ≤ f.pages + 1 → Told f k l value []
    → Told f k l value (held_looks d (λ p. value (Word.Deed p)) (λ p. value (Word.Eligible (number_of d) (p / 64))) from n)
held_told f k l actor value d from zero number some within told = told
held_told f k l actor value d from (suc n) number some within told =
    let page : ℕ = from + n in let mute = mute_looks (number_of d) (page / 64) page in
    let before = held_told f k l actor value d from n number some (omega (arith, within)) told in
    look_told f k l actor (look_told f k l actor before (Word.Deed page) mute.1 (omega (arith, some), omega (arith, within)))
    (Word.Eligible (number_of d) (page / 64)) mute.0 (number, omega (arith, within))

-- There are two for each page.
pub held_many : (d : Directory) (deeds offered : ℕ → ℕ) (from n : ℕ) → length (held_looks d deeds offered from n) ≡ 2 * n
held_many d deeds offered from zero = omega arith
held_many d deeds offered from (suc n) = omega (arith, held_many d deeds offered from n)

-- Pages that the desk knows as of the directory and not offered are passed by, by looks that it was told.
pub held_passed : (tells : Bool) (σ σ' : Standing) → IsValid σ.seat.profile → CanCall σ AnyView → (d : Directory) → IsDirectoryOf σ.seat.profile d
    → (from end n : ℕ) → 1 ≤ from → from + n ≤ end → end ≤ σ.seat.profile.pages + 1 → KnowsHeld tells σ d from
    → ((p : ℕ) → from ≤ p → p < from + n → KnowsHeld tells σ d p)
    → ((v : View) (l : Whole) → σ.stands v l → Legal σ.seat.profile l) → ((v : View) (l : Whole) → σ.stands v l → part σ.seat.actor l ≡ v)
    → StandsLater (2 * n) σ σ' → PassesHeld d from end σ σ' (from + n)
held_passed tells σ σ' valid can d of from end n some within last first held legal own later =
    let f = σ.seat.profile in let k = σ.seat.actor in let value : Word → ℕ = word_after can.whole in
    let deeds : ℕ → ℕ = λ p. value (Word.Deed p) in let offered : ℕ → ℕ = λ p. value (Word.Eligible (number_of d) (p / 64)) in
    let same = λ (v : View) (l : Whole) (stood : σ.stands v l) (w : Word) (at : IsWordOf f w).
    first.deed_told.one_state v can.view l can.whole stood can.stood w at in
    let told : (v : View) (l : Whole) → σ.stands v l → Told f k l value (held_looks d deeds offered from n) = λ v l stood.
    held_told f k l (first.deed_told.actor v l stood) value d from n (number_lt d f.heaps of.heap of.kind) some (omega (arith, within, last))
    (record { legal = legal v l stood; words = same v l stood; events = refl; epoch = refl }) in
    record {
      deeds = deeds;
      offered = offered;
      many = n;
      adds = adds_told σ σ' value (held_looks d deeds offered from n) valid (subst (λ m. StandsLater m σ σ') (sym (held_many d deeds offered from n)) later) own same told;
      at = refl;
      few = omega (arith, within);
      of = λ p low high. (held p low high).deed_told.is can.view can.whole can.stood;
      held = λ p low high. ap (λ m. has_bit m (p % 64)) ((held p low high).offered_told.is can.view can.whole can.stood) ∙ (held p low high).not_offered;
    }

-- No page is passed by.
pub passes_none_held : (d : Directory) (from end : ℕ) (σ σ' : Standing) → StandsStill σ σ' → PassesHeld d from end σ σ' from
passes_none_held d from end σ σ' still = record {
  deeds = λ p. 0;
  offered = λ p. 0;
  many = 0;
  adds = record { seat_is = still.seat_is; added = λ v l stood met. still.stands v l stood; agreed = λ v l stood met. tt };
  at = omega arith;
  few = omega arith;
  of = λ p low high. absurd (omega (arith, low, high));
  held = λ p low high. absurd (omega (arith, low, high));
}
