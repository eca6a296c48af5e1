-- The words of a region: that the numbers of a step fit them, that the word of a step is one of them, and what they are after one was written.
use Rattle.std.proofs.Common.{ℕ, ◌+◌, ◌*◌, ◌/◌, ◌^◌, ◌<◌, ◌≤◌, arith, ◌%◌, ◌≡◌, Bool, true, false, if◌then◌else◌, List, length, sym, slice_index, slice_set}
use Rattle.std.proofs.Common.{get_or-set_same, get_or-set_other, ◌==◌, [], ◌∷◌, get_or, set, take, Option, None, refl, ap, ◌∙◌, subst, inl, inr, eqb-true}
use Rattle.std.proofs.{Common.{length-append, length-set, length-take-le, take_at, take-take, get_or-take}, lemmas.Bool.{eqb-false, cases_eq}}
use Rattle.std.proofs.lemmas.List.{take-append-le, get_or_at, get_or_append_left}
use Rattle.pas_profile.specs.{Profiles.{IsValid, vector_words, IsWordOf, IsWordIn}, declared.{profile.Profile.Profile, word.Word.Word}, Layouts.index_of}
use Rattle.pas_profile.{specs.Layouts.{words_of, same_word}, proofs.{Codecs.number_lt, Places.{same_word-true, index_lt, other_place}}}
use Rattle.pas_steps.specs.{Allowed.{IsStepOf, Allowed}, Ranges.IsRanged, Effects.{target, new_value}, States.{profile_of, word_in}, Views.{View, epoch_after}}
use Rattle.pas_steps.specs.{Views.{known_epoch, or_zero, epoch_of}, declared.{step.Step.Step, state.State.State}, Lists.{Triple, Whole, part, word_after}}
use Rattle.pas_steps.specs.{Lists.{IsNext, Legal}, Runs.{in_order, CanRun, IsOpening, IsAfter, IsStepped}}

-- ==== The numbers in a step of a region fit the words that they go into.

-- A length of at most the grains of a region is below 2^23.
pub guess_fits : (guess pages : ℕ) → pages ≤ 16384 → guess ≤ 256 * pages → guess < 2 ^ 23
guess_fits guess pages few high = omega arith

heap_fits : (heap heaps : ℕ) → heaps ≤ 32 → heap < heaps → heap < 32
heap_fits heap heaps few low = omega arith

-- the numbers of a step of a valid profile fit
pub is_ranged : (f : Profile) (s : Step) → IsValid f → IsStepOf f s → IsRanged s
is_ranged f s valid of = grind (arith, heap_fits, guess_fits)

-- ==== The word of a step of a region is one of the region.

given_page : (first room pages : ℕ) → 4096 ≤ first → first + room ≤ 4096 * (pages + 1) → 0 < room
    → (1 ≤ first / 16 / 256) × (first / 16 / 256 ≤ pages) × (first / 16 % 256 < 256)
given_page first room pages low high some = (omega arith, omega arith, omega arith)

ended_page : (first pages : ℕ) → 1 ≤ first / 4096 → first / 4096 ≤ pages → (1 ≤ first / 16 / 256) × (first / 16 / 256 ≤ pages) × (first / 16 % 256 < 256)
ended_page first pages low high = (omega arith, omega arith, omega arith)

-- a page vector has a bit for each page
vector_has : (page pages : ℕ) → page ≤ pages → page / 64 < vector_words pages
vector_has page pages low = omega arith

-- only a block of no bytes may begin past the last page, and it isn't given
pub target_of_region : (f : Profile) (v : View) (s : Step) → IsStepOf f s → Allowed f v s → IsWordOf f (target s)
target_of_region f v s of allowed = search (arith, given_page, ended_page, number_lt, vector_has)

-- ==== The words of a state after a write of one.

-- a word's value after the write of another one's
pub place_written : (pages heaps : ℕ) (words : List ℕ) (x w : Word) (n : ℕ) → length words ≡ words_of pages heaps → IsWordIn pages heaps x
    → IsWordIn pages heaps w
    → (same : Bool) → same_word x w ≡ same
    → slice_index (slice_set words (index_of pages x) n) (index_of pages w) ≡ (if same then n else slice_index words (index_of pages w))
place_written pages heaps words x w n sized hx hw true e = search (arith, index_lt, same_word-true, get_or-set_same)
place_written pages heaps words x w n sized hx hw false e =
    get_or-set_other words (index_of pages x) (index_of pages w) n 0 (λ same. other_place pages heaps x w hx hw e (sym same))

-- A state is stepped along a list as the list's words are.
-- ---- lists in order
abbrev Steps : Type 0
Steps = List (ℕ × Step)

abbrev made_by : Triple → ℕ × Step
made_by t = (t.actor, t.made.step)

-- the step at this place of the order, and the list before it
pub record IsStepAt (f : Profile) (steps : Steps) (i : ℕ) (x : ℕ × Step) : Type 0 where
  pub before : Whole
  pub legal : Legal f before
  pub steps_are : in_order before ≡ take i steps
  pub triple : Triple
  pub next : IsNext f before triple
  pub made : made_by triple ≡ x

length_next : (l : Whole) (t : Triple) → length (in_order (t ∷ l)) ≡ length (in_order l) + 1
length_next l t = length-append (in_order l) (made_by t ∷ []) ∙ omega arith

step_in : (f : Profile) (l : Whole) (i : ℕ) (d : ℕ × Step) → Legal f l → i < length (in_order l) → IsStepAt f (in_order l) i (get_or (in_order l) i d)
step_in f [] i d legal lt = absurd (omega (arith, lt))
step_in f (t ∷ l) i d legal lt = elim (cases_eq i (length (in_order l))) [
  | inl e ↦ search (arith, take_at, get_or_at)
  | inr ne ↦
      let less : i < length (in_order l) = omega (arith, lt, ne, length_next l t) in
      let found : IsStepAt f (in_order l) i (get_or (in_order l) i d) = step_in f l i d legal.1 less in
      record {
        before = found.before;
        legal = found.legal;
        steps_are = found.steps_are ∙ sym (take-append-le i (in_order l) (made_by t ∷ []) (omega (arith, less)));
        triple = found.triple;
        next = found.next;
        made = found.made ∙ sym (get_or_append_left (in_order l) (made_by t ∷ []) d i less);
      }
]

-- Each step of a list that can be run is one at its place.
pub step_at : (f : Profile) (steps : Steps) (i : ℕ) (d : ℕ × Step) → CanRun f steps → i < length steps → IsStepAt f steps i (get_or steps i d)
step_at f steps i d can lt = rw can.steps_are at (step_in f can.whole i d can.legal (subst (λ (xs : Steps). i < length xs) (sym can.steps_are) lt))

-- what the step may rely on
pub at_actor : (f : Profile) (steps : Steps) (i : ℕ) (x : ℕ × Step) → IsValid f → IsStepAt f steps i x → x.0 < 17
at_actor f steps i x valid at =
    search arith

-- The numbers of a step of such a list fit their places.
pub at_ranged : (f : Profile) (steps : Steps) (i : ℕ) (x : ℕ × Step) → IsValid f → IsStepAt f steps i x → IsRanged x.1
at_ranged f steps i x valid at = subst (λ (y : ℕ × Step). IsRanged y.1) at.made (is_ranged f at.triple.made.step valid at.next.of_region)

-- The word of a step of such a list is one of the region.
pub at_word : (f : Profile) (steps : Steps) (i : ℕ) (x : ℕ × Step) → IsStepAt f steps i x → IsWordOf f (target x.1)
at_word f steps i x at = subst (λ (y : ℕ × Step). IsWordOf f (target y.1)) at.made (target_of_region f (part at.triple.actor at.before) at.triple.made.step at.next.of_region at.next.allowed)

-- ---- the loop
-- after the first i steps the words are those of the list so far, and of each actor the epoch is kept
pub record IsSoFar (f : Profile) (steps : Steps) (i : ℕ) (state : State) (epochs : List (Option ℕ)) : Type 0 where
  pub profile : profile_of state ≡ f
  pub words : IsAfter f (take i steps) state
  pub actors : length epochs ≡ 17
  pub epochs_are : (l : Whole) → Legal f l → in_order l ≡ take i steps → (k : ℕ) → k < 17 → get_or epochs k None ≡ known_epoch (part k l)

not_empty : (l : Whole) (t : Triple) → in_order (t ∷ l) ≡ [] → ⊥
not_empty l t h = let more = length_next l t in let none : length (in_order (t ∷ l)) ≡ 0 = ap length h in absurd (omega (arith, more, none))

first_words : (state : State) → IsOpening state → IsAfter (profile_of state) [] state
first_words state opening [] legal is w of = opening w of
first_words state opening (t ∷ l) legal is w of = absurd (not_empty l t is)

first_epochs : (f : Profile) (epochs : List (Option ℕ)) → ((k : ℕ) → k < 17 → get_or epochs k None ≡ None) → (l : Whole) → Legal f l → in_order l ≡ [] → (k : ℕ)
    → k < 17 → get_or epochs k None ≡ known_epoch (part k l)
first_epochs f epochs none [] legal is k small = none k small
first_epochs f epochs none (t ∷ l) legal is k small = absurd (not_empty l t is)

-- Before any step a state stands at the opening, with no epoch known.
pub so_far_first : (steps : Steps) (state : State) (epochs : List (Option ℕ)) → IsOpening state → length epochs ≡ 17
    → ((k : ℕ) → k < 17 → get_or epochs k None ≡ None) → IsSoFar (profile_of state) steps 0 state epochs
so_far_first steps state epochs opening actors none = record { profile = refl; words = first_words state opening; actors = actors; epochs_are = first_epochs _ _ none }

-- the list up to a step is the list before it, and the step
record IsSplit (steps : Steps) (i : ℕ) (d : ℕ × Step) (l : Whole) (t : Triple) : Type 0 where
  before : in_order l ≡ take i steps
  made : made_by t ≡ get_or steps i d

-- A list that is the first steps in order is cut before the newest one.
split : (steps : Steps) (i : ℕ) (d : ℕ × Step) (l : Whole) (t : Triple) → i < length steps → in_order (t ∷ l) ≡ take (i + 1) steps → IsSplit steps i d l t
split steps i d l t lt is =
    let taken : length (take (i + 1) steps) ≡ i + 1 = length-take-le (i + 1) steps (omega (arith, lt)) in
    let long : length (in_order l) ≡ i = omega (arith, length_next l t, taken, ap length is) in
    record {
      before = sym (take_at (in_order l) (made_by t ∷ []) i long) ∙ ap (take i) is ∙ take-take i (i + 1) steps (omega arith);
      made = sym (get_or_at (in_order l) (made_by t) [] d i long) ∙ ap (λ (xs : Steps). get_or xs i d) is ∙ get_or-take (i + 1) steps i d (omega arith);
    }

-- the words after the step
value_next : (old new : State) (l : Whole) (t : Triple) (e : ℕ) (w : Word) → e ≡ epoch_of (part t.actor l)
    → word_in old (target t.made.step) ≡ word_after l (target t.made.step) → word_in old w ≡ word_after l w
    → (same : Bool) → same_word (target t.made.step) w ≡ same
    → (if same then new_value e t.made.step (word_in old (target t.made.step)) else word_in old w)
    ≡ (if same then new_value (epoch_of (part t.actor l)) t.made.step (word_after l w) else word_after l w)
value_next old new l t e w epoch target_is is true same = cc (same_word-true (target t.made.step) w same)
value_next old new l t e w epoch target_is is false same = is

-- the epochs after the step
epoch_next : (l : Whole) (t : Triple) (epochs : List (Option ℕ)) (new : Option ℕ) (k : ℕ) → t.actor < length epochs
    → get_or epochs k None ≡ known_epoch (part k l)
    → new ≡ epoch_after t.made.step t.made.answer (known_epoch (part t.actor l)) → (same : Bool) → (t.actor == k) ≡ same
    → get_or (set epochs t.actor new) k None ≡ known_epoch (if same then t.made ∷ part k l else part k l)
epoch_next l t epochs new k small is new_is true same =
    let e : t.actor ≡ k = eqb-true t.actor k same in
    cc (get_or-set_same epochs t.actor new None small)
epoch_next l t epochs new k small is new_is false same = get_or-set_other epochs t.actor k new None (λ e. eqb-false t.actor k same (sym e)) ∙ is

-- what the step of the loop did, told of the step that the list has there
record IsStep (f : Profile) (old new : State) (epochs : List (Option ℕ)) (known : Option ℕ) (x : ℕ × Step) : Type 0 where
  of_region : IsWordOf f (target x.1)
  actor : x.0 < 17
  known_is : get_or epochs x.0 None ≡ known
  stepped : IsStepped old new (or_zero known) x.1

next_words : (f : Profile) (steps : Steps) (i : ℕ) (d : ℕ × Step) (old new : State) (epochs : List (Option ℕ)) (known : Option ℕ) → i < length steps
    → IsSoFar f steps i old epochs
    → IsStep f old new epochs known (get_or steps i d) → IsAfter f (take (i + 1) steps) new
next_words f steps i d old new epochs known lt far did [] legal is w of =
    let none : 0 ≡ length (take (i + 1) steps) = ap length is in
    absurd (omega (arith, length-take-le (i + 1) steps (omega (arith, lt)), none))
next_words f steps i d old new epochs known lt far did (t ∷ l) legal is w of =
    search (arith, split, value_next)

next_epochs : (f : Profile) (steps : Steps) (i : ℕ) (d : ℕ × Step) (old new : State) (epochs : List (Option ℕ)) (known : Option ℕ) → i < length steps
    → IsSoFar f steps i old epochs
    → IsStep f old new epochs known (get_or steps i d) → (l : Whole) → Legal f l → in_order l ≡ take (i + 1) steps → (k : ℕ) → k < 17
    → get_or (set epochs (get_or steps i d).0 (epoch_after (get_or steps i d).1 (word_in old (target (get_or steps i d).1)) known)) k None
    ≡ known_epoch (part k l)
next_epochs f steps i d old new epochs known lt far did [] legal is k small =
    let none : 0 ≡ length (take (i + 1) steps) = ap length is in
    absurd (omega (arith, length-take-le (i + 1) steps (omega (arith, lt)), none))
next_epochs f steps i d old new epochs known lt far did (t ∷ l) legal is k small =
    search (arith, split, epoch_next)

-- After one step more a state has the words of the list so far, and the epochs that are known.
pub so_far_next : (f : Profile) (steps : Steps) (i : ℕ) (d : ℕ × Step) (old new : State) (epochs : List (Option ℕ)) (known told : Option ℕ) → IsValid f
    → CanRun f steps → i < length steps → IsSoFar f steps i old epochs
    → get_or epochs (get_or steps i d).0 None ≡ known → IsStepped old new (or_zero known) (get_or steps i d).1
    → told ≡ epoch_after (get_or steps i d).1 (word_in old (target (get_or steps i d).1)) known
    → IsSoFar f steps (i + 1) new (set epochs (get_or steps i d).0 told)
so_far_next f steps i d old new epochs known told valid can lt far known_is stepped told_is =
    let at : IsStepAt f steps i (get_or steps i d) = step_at f steps i d can lt in
    let did : IsStep f old new _ _ (get_or _ i d) = record { of_region = at_word f _ i _ at; actor = at_actor f _ i _ valid at; known_is = known_is; stepped = stepped } in
    record {
      profile = stepped.profile ∙ far.profile;
      words = next_words f steps i d old new epochs known lt far did;
      actors = length-set epochs (get_or steps i d).0 told ∙ far.actors;
      epochs_are = λ l legal is k small. ap (λ o. get_or (set epochs (get_or steps i d).0 o) k None) told_is ∙ next_epochs f _ i d old new _ known lt far did l legal is k small;
    }

-- ---- the end
pub so_far_last : (f : Profile) (steps : Steps) (i : ℕ) (state : State) (epochs : List (Option ℕ)) → IsSoFar f steps i state epochs → take i steps ≡ steps
    → IsAfter f steps state
so_far_last f steps i state epochs far all = subst (λ (xs : Steps). IsAfter f xs state) all far.words
