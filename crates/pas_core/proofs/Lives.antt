-- Life words: the blocks that live, those that were given, and their turns.
use Rattle.std.proofs.Common.{◌≡◌, ◌≢◌, ℕ, ◌+◌, ◌-◌, ◌*◌, ◌/◌, ◌%◌, ◌^◌, ◌<◌, ◌≤◌, ◌==◌, Bool, true, false, ◌&&◌, if◌then◌else◌, List, [], ◌∷◌, Option, Some}
use Rattle.std.proofs.Common.{None, refl, ap, sym, ◌∙◌, subst, arith, inl, inr, ◌++◌, length, zero, suc, eqb-true, eq-eqb, le-leb, w64}
use Rattle.std.proofs.lemmas.Bool.{false≢true, cases_eq, and_parts, cond_both, eqb-false, and_from, false_from_ne_true, cases_Bool, Decides.nat_tests}
use Rattle.std.{proofs.lemmas.{Option.{same_Some, none-some}, Nat.{and_le_l, or_lt}}, specs.Int.bit_not}
use Rattle.pas_profile.specs.{Layouts.same_word, Lives.{live_word, is_live, turn_of}, Profiles.{IsValid, IsDirectoryOf}, Blocks.{address_of, grain_of}}
use Rattle.pas_profile.specs.{Blocks.length_of, Directories.deed_word_of, declared.{profile.Profile.Profile, name.{Block.Block, Name.Name}, event.Event.Event}}
use Rattle.pas_profile.{specs.declared.{event.Why.Why, directory.Directory.Directory, word.Word.Word}, proofs.Codecs.kind_number_lt}
use Rattle.pas_bits.{specs.{Runs.{in_run, meets_page}, PageVectors.page_mask}, proofs.{Runs.{first_of_run, IsMet, met}, PageVectors.page_mask_lt}}
use Rattle.pas_machine.specs.{State.{Live, live_in, gives_in, ends_in, touches, epoch_in}, Machine.{Admits, Run}, Totals.sum_below}
use Rattle.pas_steps.specs.{Effects.{life_word_at, target, new_value}, Allowed.{Allowed, IsStepOf, HoldsOn}, Views.{View, Move, Stays, Ends, grain_move}}
use Rattle.pas_steps.specs.Views.{held_after, holds, epoch_of, life_after, known_life, given_after, given_count, holds_all, stamp_after, known_stamp}
use Rattle.pas_steps.specs.{Views.{unstamped_after, is_unstamped, ends_on}, Events.{event_of, with_event}, Lists.{Whole, word_after, part, visible, IsNext}}
use Rattle.pas_steps.specs.{Lists.{Legal, Triple}, declared.step.Step.{Step, TheVariants.{Back, Give, End, Take, TakeRight, Unpark, Stamp, Tick, Unhint}}}
use Rattle.pas_steps.{specs.Desks.made, proofs.{Parts.each_part, Bits.all_below-at, Flags.{stays_set, was_set}}}
use Rattle.pas_core.specs.{Good.{Place, Held, is_held_by, IsPlacedOnce, IsLifeOf, IsLifeOfLive, IsBare}, Given.WasGiven, Stamps.{EachEnd, IsStampedOr}}
use Rattle.pas_core.{specs.Stamps.AllKeepToEnds, proofs.Grains.{life_same, give_short, is_held_by-true, covers_live, some_grain, step_fits, placed_once}}
use Rattle.pas_core.proofs.{Grains.one_holder, Deeds.{event_if, end_event_cases, looked, next_value}}

-- ==== The life words are those of the machine, and what actors know of them is true.

-- a test told in another way
as_test : {A : Type 0} (y x : Bool) (P : A → Type 0) (new old : A) → y ≡ x → P (if x then new else old) → P (if y then new else old)
as_test y x P new old e h = subst (λ t. P (if t then new else old)) (sym e) h

-- ---- a grain that stays where it is keeps its life word
abbrev pub is_still : Move → Bool
is_still Stays = true
is_still s = false

-- the word of a step on the grain's life word
pub word_is : (l : Whole) (a c g : ℕ) → a ≡ word_after l (life_word_at c) → (c == g) ≡ true → a ≡ word_after l (life_word_at g)
word_is l a c g is x = is ∙ ap (λ b. word_after l (life_word_at b)) (eqb-true c g x)

-- ---- what is known of a life word
-- of an own step
own_life : (m : Move) (looks held : Bool) (a word word' : ℕ) (known : Option ℕ) (w : ℕ) → (is_still m ≡ true → word' ≡ word) → (looks ≡ true → a ≡ word)
    → ((w : ℕ) → known ≡ Some w → (held ≡ true) × (w ≡ word))
    → life_after m looks held a known ≡ Some w → (held_after m held ≡ true) × (w ≡ word')
own_life s looks held a word word' known w rests is old h = grind (arith, same_Some)

-- of another's step: it moves no grain that this actor holds
same_holder : (j k : ℕ) (o : Place) → o ≡ Held j → o ≡ Held k → (j == k) ≡ true
same_holder j k o f h = ap (is_held_by k) (sym f) ∙ ap (is_held_by k) h ∙ eq-eqb k k refl

-- what a view knows of a life word is the word, and the grain is held
abbrev pub TellsLife : View → ℕ → ℕ → Type 0
TellsLife v g word = (w : ℕ) → known_life v g ≡ Some w → (holds v g ≡ true) × (w ≡ word)

-- the life word of a grain that a step doesn't move
rests_at : (f : Profile) (t : Triple) (l : Whole) (g : ℕ) → Legal f (t ∷ l) → is_still (grain_move t.made.step t.made.answer g) ≡ true
    → word_after (t ∷ l) (life_word_at g) ≡ word_after l (life_word_at g)
rests_at f t l g legal = λ still. search (arith, as_test, life_same, some_grain, false≢true, eqb-true, first_of_run)

-- What a view knows of a life word is the word, and its actor holds the grain.
pub life_is_known : (f : Profile) (l : Whole) → IsValid f → Legal f l → (k g : ℕ) → TellsLife (part k l) g (word_after l (life_word_at g))
life_is_known f l valid legal k g = each_part f (λ l k v. TellsLife v g (word_after l (life_word_at g))) (λ k w h. cc)
    (λ t l legal before w. own_life _ _ _ _ _ _ _ w (rests_at f t l g legal) (λ h. grind (arith, and_parts, eqb-true, false≢true)) before)
    (λ t l k legal other before w h.
    let o = before w h in
    let at : IsPlacedOnce l g = placed_once f l valid legal.1 g in
    let fits = step_fits f l _ _ _ g at valid legal.0.of_region legal.0.allowed legal.0.answer_is in
    (o.0, o.1 ∙ sym (rests_at f t l g legal (grind (arith, false≢true, same_holder))))) l legal k

-- ---- life words of the machine
-- the block that a live word tells of
pub block_of_word : (f : Profile) (g word : ℕ) (live : Option Live) (gives ends t n : ℕ) → IsLifeOf f g word live gives ends → t < 2 ^ 40 → word ≡ live_word t n
    → (b : Live) × (live ≡ Some b) × (b.block.name.turn ≡ t) × (ends ≡ t)
block_of_word f g word live gives ends t n h small is = grind arith

-- the turn of a life word is the number of blocks that ended there
pub turn_is : (f : Profile) (g word : ℕ) (live : Option Live) (gives ends : ℕ) → IsLifeOf f g word live gives ends → turn_of word ≡ ends
turn_is f g word live gives ends h = grind arith

-- The life word of a grain where a block lives is a live one.
pub live_is_live : (f : Profile) (g word : ℕ) (b : Live) (gives ends : ℕ) → IsLifeOfLive f g word b gives ends → is_live word ≡ true
live_is_live f g word b gives ends h = let big : 2 ^ 63 ≤ word = omega (arith, h.word_is) in le-leb (2 ^ 63) word big

-- the grain of an address
address_same : (address g : ℕ) → address % 16 ≡ 0 → (address == 16 * g) ≡ (address / 16 == g)
address_same address g aligned = grind (arith, nat_tests, aligned)

-- the machine's life of a grain
abbrev LifeIn : Profile → ℕ → ℕ → List Event → ℕ → Type 0
LifeIn f g word es address = IsLifeOf f g word (live_in es address) (gives_in es address) (ends_in es address)

end_life : (x z y : Bool) (f : Profile) (g k ep a word guess : ℕ) (name : Name) (w : Why) (es : List Event) (address : ℕ) → (address_of name == address) ≡ x
    → (x ≡ true → a ≡ word) → (a == live_word name.turn guess) ≡ z → name.turn < 2 ^ 40 - 1
    → LifeIn f g word es address
    → LifeIn f g (if x then (if word == live_word name.turn guess then name.turn + 1 else word) else word)
    (with_event (if z then Some (Event.End k name ep) else (if y then None else Some (Event.Reject k name w))) es) address
end_life x z y f g k ep a word guess name w es address xe is ze small h = grind (arith, eqb-true, eq-eqb, cond_both)

life_step : (f : Profile) (l : Whole) (k e : ℕ) (s : Step) (a g : ℕ) → IsValid f → IsStepOf f s → Allowed f (part k l) s → a ≡ word_after l (target s)
    → (holds (part k l) g ≡ true → live_in (visible l) (16 * g) ≡ None) → TellsLife (part k l) g (word_after l (life_word_at g))
    → LifeIn f g (word_after l (life_word_at g)) (visible l) (16 * g)
    → LifeIn f g (if same_word (target s) (life_word_at g) then new_value e s (word_after l (life_word_at g)) else word_after l (life_word_at g))
    (with_event (event_of k e s a) (visible l)) (16 * g)
life_step f l k e s a g valid of allowed is dead tells h = search (arith, event_if, address_same, eqb-true, first_of_run, some_grain, turn_is, as_test, life_same, give_short, end_life)

-- no live block has a grain that an actor holds
pub no_block : (f : Profile) (l : Whole) (k a x : ℕ) (b : Live) (gives ends : ℕ) → IsPlacedOnce l x → holds (part k l) x ≡ true
    → IsLifeOfLive f a (word_after l (life_word_at a)) b gives ends → in_run a (length_of b.block) x ≡ true → ⊥
no_block f l k a x b gives ends at holds life run = search (arith, is_held_by-true, false≢true, covers_live)

-- Where an actor holds a grain, no block lives that begins there.
pub dead_while_held : (f : Profile) (l : Whole) (k g : ℕ) (live : Option Live) (gives ends : ℕ) → IsPlacedOnce l g → holds (part k l) g ≡ true
    → IsLifeOf f g (word_after l (life_word_at g)) live gives ends → live ≡ None
dead_while_held f l k g live gives ends at holds life = grind (arith, no_block, first_of_run)

-- after every legal list each life word tells of the block that the machine has at its grain
pub life_of : (f : Profile) (l : Whole) → IsValid f → Legal f l → (g : ℕ)
    → IsLifeOf f g (word_after l (life_word_at g)) (live_in (visible l) (16 * g)) (gives_in (visible l) (16 * g)) (ends_in (visible l) (16 * g))
life_of f [] valid legal g = record { word_is = refl; gives_are = refl; few = omega arith }
life_of f (t ∷ l) valid legal g =
    let next : IsNext f l t = legal.0 in
    let before : IsLifeOf f g (word_after l (life_word_at g)) (live_in (visible l) (16 * g)) (gives_in (visible l) (16 * g)) (ends_in (visible l) (16 * g)) = life_of f l valid legal.1 g in
    life_step f l _ _ _ _ g valid next.of_region next.allowed next.answer_is
    (λ held. dead_while_held f l _ g _ _ _ (placed_once f l valid legal.1 g) held before) (life_is_known f l valid legal.1 _ g) before

-- ---- addresses that are no grain's
abbrev BareIn : List Event → ℕ → Type 0
BareIn es address = IsBare address (live_in es address) (gives_in es address) (ends_in es address)

bare_step : (f : Profile) (v : View) (k e : ℕ) (s : Step) (a : ℕ) (es : List Event) (address : ℕ) → IsStepOf f s → Allowed f v s → address % 16 ≢ 0
    → BareIn es address → BareIn (with_event (event_of k e s a) es) address
bare_step f v k e s a es address of allowed un h = search (arith, event_if, false≢true, nat_tests, end_event_cases)

-- No block ever began at an address that isn't a multiple of 16.
pub bare_of : (f : Profile) (l : Whole) → Legal f l → (address : ℕ) → address % 16 ≢ 0
    → IsBare address (live_in (visible l) address) (gives_in (visible l) address) (ends_in (visible l) address)
bare_of f [] legal address un = record { no_block = refl; no_give = refl; no_end = refl }
bare_of f (t ∷ l) legal address un = search (arith, bare_step, bare_of f l legal.1 address un)

-- no block lives at an address that is no multiple of 16
pub live_is_aligned : (f : Profile) (l : Whole) → Legal f l → (address : ℕ) (b : Live) → live_in (visible l) address ≡ Some b → address % 16 ≡ 0
live_is_aligned f l legal address b is = search (arith, cases_eq, none-some, bare_of)

-- a live block has its own address, which is that of a grain
pub live_of : (f : Profile) (l : Whole) → IsValid f → Legal f l → (address : ℕ) (b : Live) → live_in (visible l) address ≡ Some b
    → IsLifeOfLive f (address / 16) (word_after l (life_word_at (address / 16))) b (gives_in (visible l) address) (ends_in (visible l) address)
live_of f l valid legal address b is =
    let e : 16 * (address / 16) ≡ address = omega (arith, live_is_aligned f l legal address b is) in
    let one : IsLifeOf f (address / 16) (word_after l (life_word_at (address / 16))) (live_in (visible l) address) (gives_in (visible l) address) (ends_in (visible l) address)
    = subst (λ x. IsLifeOf f (address / 16) (word_after l (life_word_at (address / 16))) (live_in (visible l) x) (gives_in (visible l) x) (ends_in (visible l) x)) e (life_of f l valid legal _) in
    subst (λ v. IsLifeOf f (address / 16) (word_after l (life_word_at (address / 16))) v (gives_in (visible l) address) (ends_in (visible l) address)) is one

-- the life word at an address
pub life_at : (f : Profile) (l : Whole) → IsValid f → Legal f l → (address : ℕ) → address % 16 ≡ 0
    → IsLifeOf f (address / 16) (word_after l (life_word_at (address / 16))) (live_in (visible l) address) (gives_in (visible l) address)
    (ends_in (visible l) address)
life_at f l valid legal address aligned =
    let e : 16 * (address / 16) ≡ address = omega (arith, aligned) in
    subst (λ x. IsLifeOf f (address / 16) (word_after l (life_word_at (address / 16))) (live_in (visible l) x) (gives_in (visible l) x) (ends_in (visible l) x)) e (life_of f l valid legal _)

-- ==== What callers need of the blocks that were given: names keep their blocks, and there are no more gives than events.

-- ---- a block that was given stays so
-- A block that was given stays so by one event more.
pub one_more : (f : Profile) (e : Event) (es : List Event) (block : Block) → Admits f es e → WasGiven es block → WasGiven (e ∷ es) block
one_more f s es block admits given = grind (arith, cond_both, same_Some, eqb-true)

-- a block that was given stays so, whatever comes after it
pub given_kept : (f : Profile) (more es : List Event) (block : Block) → Run f (more ++ es) → WasGiven es block → WasGiven (more ++ es) block
given_kept f [] es block run given = given
given_kept f (e ∷ more) es block run given = one_more f e (more ++ es) block run.0 (given_kept f more es block run.1 given)

-- the block of a give was given
pub new_block : (f : Profile) (k : ℕ) (block : Block) (es : List Event) → Admits f es (Event.Give k block) → WasGiven (Event.Give k block ∷ es) block
new_block f k block es admits = search (arith, eq-eqb, same_Some)

-- ---- no more gives than events
-- how many blocks these events gave, at whatever address
abbrev pub gives_counted : Event → ℕ → ℕ
gives_counted (Event.Give k block) n = n + 1
gives_counted s n = n

abbrev pub count_gives : List Event → ℕ
count_gives [] = 0
count_gives (e ∷ es) = gives_counted e (count_gives es)

-- the gives at one address are some of all
pub gives_few : (es : List Event) (address : ℕ) → gives_in es address ≤ count_gives es
gives_few [] address = omega arith
gives_few (Event.Give k block ∷ es) address = search (arith, cond_both, gives_few es address)
gives_few (e ∷ es) address = gives_few es address

counts_few : (es : List Event) → count_gives es ≤ length es
counts_few [] = omega arith
counts_few (e ∷ es) = let rest : gives_counted e (count_gives es) ≤ (length es) + 1 = grind (arith, counts_few es) in omega (arith, rest)

-- no address was given more often than there are events
pub turns_few : (es : List Event) (address : ℕ) → gives_in es address ≤ length es
turns_few es address = let some = gives_few es address in let few = counts_few es in omega (arith, some, few)

-- ==== Turns are small: each actor gives at most 2 ^ 32 blocks.

-- ---- an actor gives at most 2 ^ 32 blocks
pub given_small : (f : Profile) (l : Whole) → Legal f l → (k : ℕ) → given_count (part k l) ≤ 2 ^ 32
given_small f = each_part f (λ l k v. given_count v ≤ 2 ^ 32) (λ k. omega arith) (λ t l legal before. (grind arith)) (λ t l k legal other before. before)

-- ---- all gives are the sum of those of the actors
sum_grows : (n : ℕ) (v w : ℕ → ℕ) → ((k : ℕ) → v k ≤ w k) → sum_below n v ≤ sum_below n w
sum_grows zero v w h = omega arith
sum_grows (suc n) v w h = omega (arith, sum_grows n v w h, h n)

rises_last : (t : Bool) (n j c : ℕ) (v w : ℕ → ℕ) → (j == n) ≡ t → ((k : ℕ) → v k ≤ w k) → v j + c ≤ w j → j < suc n
    → (j < n → sum_below n v + c ≤ sum_below n w) → sum_below n v + v n + c ≤ sum_below n w + w n
rises_last t n j c v w e grows here low rest = grind (arith, eqb-true, sum_grows, eqb-false)

-- more at one number makes the sum that much greater
sum_rises : (n j c : ℕ) (v w : ℕ → ℕ) → ((k : ℕ) → v k ≤ w k) → v j + c ≤ w j → j < n → sum_below n v + c ≤ sum_below n w
sum_rises zero j c v w grows here low = absurd (omega (arith, low))
sum_rises (suc n) j c v w grows here low = rises_last (j == n) n j c v w refl grows here low (λ other. sum_rises n j c v w grows here other)

pub sum_small : (n : ℕ) (v : ℕ → ℕ) → ((k : ℕ) → v k ≤ 2 ^ 32) → sum_below n v ≤ n * 2 ^ 32
sum_small zero v h = omega arith
sum_small (suc n) v h = omega (arith, sum_small n v h, h n)

-- the visible gives are at most those of all actors
pub all_gives : (f : Profile) (l : Whole) → Legal f l → count_gives (visible l) ≤ sum_below (f.threads + 1) (λ k. given_count (part k l))
all_gives f [] legal = omega arith
all_gives f (t ∷ l) legal =
    let actor : t.actor < f.threads + 1 = omega (arith, legal.0.actor) in
    let is : count_gives (visible (t ∷ l)) ≡ given_after t.made.step (count_gives (visible l)) = (grind (arith, event_if, end_event_cases)) in
    let rises : sum_below (f.threads + 1) (λ k. given_count (part k l)) + given_after t.made.step 0 ≤ sum_below (f.threads + 1) (λ k. given_count (part k (t ∷ l)))
    = sum_rises (f.threads + 1) _ _ (λ k. given_count (part k l)) (λ k. given_count (part k (t ∷ l))) (λ k. search (arith, cond_both))
    (search (arith, eq-eqb)) actor in
    grind (arith, all_gives f l legal.1, is, rises)

-- ---- turns
-- ==== Epochs, stamps, and the ends that stamps tell of.

-- ==== The epoch only grows, every word fits 64 bits, and epochs and stamps are below 2 ^ 40.

-- ---- the epoch
-- the epoch that a view knows is at most the epoch
pub epoch_known : (f : Profile) (l : Whole) → Legal f l → (k : ℕ) → epoch_of (part k l) ≤ word_after l Word.Epoch
epoch_known f = each_part f (λ l k v. epoch_of v ≤ word_after l Word.Epoch) (λ k. omega arith)
    (λ t l legal before. (grind arith))
    (λ t l k legal other before. grind (arith, before, looked))

-- ---- every word is below 2 ^ 64
deed_small : (f : Profile) (d : Directory) → IsValid f → IsDirectoryOf f d → deed_word_of d < 2 ^ 64
deed_small f d valid of = omega (arith, kind_number_lt d.kind of.kind, of.heap, valid.heaps)

value_small : (f : Profile) (e : ℕ) (s : Step) (old : ℕ) → IsValid f → IsStepOf f s → e < 2 ^ 64 → old < 2 ^ 64 → new_value e s old < 2 ^ 64
value_small f e (Back q) old valid of he h = or_lt 64 old 1 h (omega arith)
value_small f e (Take q w mask) old valid of he h = omega (arith, and_le_l old (bit_not w64 mask))
value_small f e (TakeRight q directory) old valid of he h = omega (arith, and_le_l old (bit_not w64 (page_mask q)))
value_small f e (Unpark q) old valid of he h = omega (arith, and_le_l old (bit_not w64 (page_mask q)))
value_small f e (Tick raised) old valid of he h = omega (arith, of, h)
value_small f e (Unhint q) old valid of he h = omega (arith, and_le_l old (bit_not w64 (page_mask q)))
value_small f e s old valid of he h = search (arith, cond_both, deed_small, or_lt, give_short, page_mask_lt)

-- every word fits 64 bits
pub words_fit : (f : Profile) (l : Whole) → IsValid f → Legal f l → (word : Word) → word_after l word < 2 ^ 64
words_fit f [] valid legal word = grind arith
words_fit f (t ∷ l) valid legal word =
    search (arith, epoch_known, cond_both, value_small, words_fit f l valid legal.1 Word.Epoch, words_fit f l valid legal.1 word)

-- ---- the epoch and the stamps are below 2 ^ 40
-- the epoch is below 2 ^ 40
pub epoch_small : (f : Profile) (l : Whole) → Legal f l → word_after l Word.Epoch < 2 ^ 40
epoch_small f [] legal = omega arith
epoch_small f (t ∷ l) legal = search (arith, looked, epoch_small f l legal.1)

-- a stamp is an epoch that an actor read, so it is below 2 ^ 40 too
pub stamp_small : (f : Profile) (l : Whole) → Legal f l → (p : ℕ) → word_after l (Word.Stamp p) < 2 ^ 40
stamp_small f [] legal p = omega arith
stamp_small f (t ∷ l) legal p = search (arith, epoch_known, looked, cond_both, epoch_small, stamp_small f l legal.1 p)

-- ==== The block that an end finds.

-- ---- the block that an end found
pub record IsFound (f : Profile) (l : Whole) (name : Name) (guess : ℕ) : Type 0 where
  pub block : Live
  pub address_is : address_of block.block.name ≡ 16 * grain_of name
  pub lives : live_in (visible l) (address_of name) ≡ Some block
  pub grains_are : length_of block.block ≡ guess
  pub first : 256 ≤ grain_of name
  pub last : grain_of name + guess ≤ 256 * (f.pages + 1)

-- An end that is answered by the live word of its turn and length finds that block.
pub end_finds : (f : Profile) (l : Whole) → IsValid f → Legal f l → (name : Name) (guess a : ℕ) → IsStepOf f (End name guess)
    → a ≡ word_after l (life_word_at (grain_of name)) → a ≡ live_word name.turn guess → IsFound f l name guess
end_finds f l valid legal name guess a of is hit = grind (arith, life_at f l valid legal _ of.1)

-- ==== The stamps: what is known of them is true, and the epoch of each end on a page is at most the page's stamp, or the page is unstamped for the
-- actor that made the end.

-- ---- stamps that are known
abbrev pub stamps : Step → ℕ → Bool
stamps (Stamp q) p = q == p
stamps s p = false

-- whoever stamps a page holds a grain of it
stamps_held : (f : Profile) (v : View) (s : Step) (p : ℕ) → Allowed f v s → stamps s p ≡ true → HoldsOn v p
stamps_held f v s p allowed h = grind (arith, eqb-true, false≢true)

-- while a stamp is known each grain of the page is held
known_all : (v : View) (p s : ℕ) → known_stamp v p ≡ Some s → holds_all v p ≡ true
known_all [] p s h = cc
known_all (m ∷ v) p s h = (let it : ((holds_all (m ∷ v) p) ≡ true) × ((stamp_after m.step m.answer p (known_stamp v p)) ≡ Some s) = grind arith in it).0

all_held : (v : View) (p g : ℕ) → holds_all v p ≡ true → g / 256 ≡ p → holds v g ≡ true
all_held v p g all e =
    let is : p * 256 + g % 256 ≡ g = omega (arith, e) in
    subst (λ x. holds v x ≡ true) is (all_below-at 256 _ (λ b. holds v (p * 256 + b)) all (omega arith))

-- a stamp that a view knows is the page's
pub stamp_known : (f : Profile) (l : Whole) → IsValid f → Legal f l → (k p s : ℕ) → known_stamp (part k l) p ≡ Some s → word_after l (Word.Stamp p) ≡ s
stamp_known f l valid legal k p = each_part f (λ l k v. (s : ℕ) → known_stamp v p ≡ Some s → word_after l (Word.Stamp p) ≡ s) (λ k s told. cc)
    (λ t l legal before s h. (grind (arith, looked, eqb-true)))
    (λ t l k legal other before s h. (grind (arith, looked, false_from_ne_true, stamps_held, false≢true, one_holder, all_held, known_all _ p s h)) ∙ before s h) l legal k

-- ---- an actor holds a grain of each page that is unstamped for it
pub moved_held : (t held : Bool) (m : Move) → (t ≡ true → held_after m held ≡ true) → held ≡ true → held_after (if t then m else Stays) held ≡ true
moved_held t held m new h = cond_both t m Stays (λ x. held_after x held ≡ true) new (λ other. h)

-- after an end: a page of the block has a grain of it, and another page is as it was
end_keeps : (v : View) (name : Name) (guess a p : ℕ) → 1 ≤ guess → (is_unstamped v p ≡ true → HoldsOn v p) → (z : Bool) → (a == live_word name.turn guess) ≡ z
    → (y : Bool) → meets_page (grain_of name) guess p ≡ y
    → (if z && y then true else is_unstamped v p) ≡ true → HoldsOn (made (End name guess) a ∷ v) p
end_keeps v name guess a p some before true ze true ye h =
    let at : IsMet (grain_of name) guess p = met _ guess p some ye in
    (at.grain, at.of_page, ap (λ t. held_after (if t then Ends (grain_of name) else Stays) (holds v at.grain)) (and_from _ _ ze at.of_run))
end_keeps v name guess a p some before z ze y ye h = search (arith, moved_held)

keeps_held : (f : Profile) (v : View) (s : Step) (a p : ℕ) → IsStepOf f s → Allowed f v s → (is_unstamped v p ≡ true → HoldsOn v p)
    → unstamped_after s a p (is_unstamped v p) ≡ true → HoldsOn (made s a ∷ v) p
keeps_held f v (Stamp q) a p of allowed before h = let was = before (was_set (q == p) (is_unstamped v p) h) in (was.0, was.1, was.2)
keeps_held f v s a p of allowed before h = search (arith, moved_held, false≢true, false_from_ne_true, and_parts, eqb-true, end_keeps)

-- an actor holds a grain of each page that is unstamped for it
pub unstamped_is_held : (f : Profile) (l : Whole) → Legal f l → (k p : ℕ) → is_unstamped (part k l) p ≡ true → HoldsOn (part k l) p
unstamped_is_held f l legal k p = each_part f (λ l k v. is_unstamped v p ≡ true → HoldsOn v p) (λ k h. absurd (false≢true h))
    (λ t l legal before. keeps_held f (part t.actor l) _ _ p legal.0.of_region legal.0.allowed before) (λ t l k legal other before. before) l legal k

-- ---- the epoch of each end on a page
ends_map : (P Q : ℕ → ℕ → Type 0) (es : List Event) (p : ℕ) → ((k e : ℕ) → P k e → Q k e) → EachEnd P es p → EachEnd Q es p
ends_map P Q [] p f h = tt
ends_map P Q (e ∷ es) p f h = ((grind arith), ends_map P Q es p f h.1)

-- a block that ends touches a page just where its run meets it
end_touches : (f : Profile) (l : Whole) → IsValid f → Legal f l → (name : Name) (guess a p : ℕ) → IsStepOf f (End name guess)
    → a ≡ word_after l (life_word_at (grain_of name)) → (a == live_word name.turn guess) ≡ true
    → touches (live_in (visible l) (address_of name)) p ≡ true → ends_on (End name guess) a p ≡ true
end_touches f l valid legal name guess a p of is hit on =
    let at : IsFound f l name guess = end_finds f l valid legal name guess a of is (eqb-true a _ hit) in
    let first : address_of at.block.block.name / 16 ≡ grain_of name = omega (arith, at.address_is) in
    let meets : meets_page (grain_of name) guess p ≡ true = ap (λ g. meets_page g guess p) (sym first)
    ∙ ap (λ n. meets_page (address_of at.block.block.name / 16) n p) (sym at.grains_are) ∙ ap (λ o. touches o p) (sym at.lives) ∙ on in
    and_from _ _ hit meets

-- the ends so far and the one that the step may make
ends_step : (f : Profile) (l : Whole) → IsValid f → Legal f l → (P : ℕ → ℕ → Type 0) (k e : ℕ) (s : Step) (a p : ℕ) → IsStepOf f s → a ≡ word_after l (target s)
    → (ends_on s a p ≡ true → P k e) → EachEnd P (visible l) p
    → EachEnd P (with_event (event_of k e s a) (visible l)) p
ends_step f l valid legal P k e s a p of is new h = grind (arith, event_if, end_event_cases, end_touches)

-- no step lowers a stamp
stamp_next : (e : ℕ) (s : Step) (p old : ℕ) → old ≤ next_value e s (Word.Stamp p) old
stamp_next e s p old = grind (arith, looked, cond_both)

-- the epoch of each end on a page is at most the page's stamp, or the page is unstamped for its actor, which knows an epoch as great
pub ends_stamped : (f : Profile) (l : Whole) → IsValid f → Legal f l → (p : ℕ) → EachEnd (IsStampedOr l p) (visible l) p
ends_stamped f [] valid legal p = tt
ends_stamped f (t ∷ l) valid legal p =
    search (arith, ends_step, eq-eqb, ends_map, stamp_next, epoch_known, cond_both, eqb-true, stays_set, (ends_stamped f l valid legal.1 p))

-- ---- the machine's epoch of a page
ends_bound : (es : List Event) (p n : ℕ) → EachEnd (λ k e. e ≤ n) es p → epoch_in es p ≤ n
ends_bound [] p n h = omega arith
ends_bound (Event.End k name e ∷ es) p n h = search (arith, cond_both, ends_bound es p n h.1)
ends_bound (e ∷ es) p n h = ends_bound es p n h.1

-- where an actor holds each grain of a page that isn't unstamped for it, the stamp is at least the epoch of each end on the page
pub ends_before : (f : Profile) (l : Whole) → IsValid f → Legal f l → (k p : ℕ) → ((g : ℕ) → g / 256 ≡ p → holds (part k l) g ≡ true)
    → is_unstamped (part k l) p ≡ false → epoch_in (visible l) p ≤ word_after l (Word.Stamp p)
ends_before f l valid legal k p held stamped = ends_bound _ p _ (ends_map _ (λ j e. e ≤ word_after l (Word.Stamp p)) _ p (λ j n late. elim late [
  | inl le ↦ le
  | inr un ↦
      let on : HoldsOn (part j l) p = unstamped_is_held f l legal j p un.0 in
      let own : j ≡ k = eqb-true j k (one_holder f l valid legal j k on.0 on.2 (held on.0 on.1)) in
      absurd (false≢true (sym stamped ∙ ap (λ i. is_unstamped (part i l) p) (sym own) ∙ un.0))
]) (ends_stamped f l valid legal p))

-- ==== Where actors learn no epoch between an end and its stamps, and stamp only what they ended on, the stamp of a page is the greatest epoch of an end
-- on it, once no page is unstamped.

-- ---- the machine's epoch of a page only grows
-- a block that an end ended touches each page that its run meets
touched_by_end : (f : Profile) (l : Whole) → IsValid f → Legal f l → (name : Name) (guess a p : ℕ) → IsStepOf f (End name guess)
    → a ≡ word_after l (life_word_at (grain_of name)) → (a == live_word name.turn guess) ≡ true → meets_page (grain_of name) guess p ≡ true
    → touches (live_in (visible l) (address_of name)) p ≡ true
touched_by_end f l valid legal name guess a p of is hit meets =
    let at : IsFound f l name guess = end_finds f l valid legal name guess a of is (eqb-true a _ hit) in
    let first : address_of at.block.block.name / 16 ≡ grain_of name = omega (arith, at.address_is) in
    ap (λ o. touches o p) at.lives ∙ ap (λ n. meets_page (address_of at.block.block.name / 16) n p) at.grains_are ∙ ap (λ g. meets_page g guess p) first ∙ meets

-- ---- steps
-- ---- the induction
-- the stamp is the epoch of some end, and so is what an actor knows while the page is unstamped for it
record IsExact (l : Whole) (p : ℕ) : Type 0 where
  stamp : word_after l (Word.Stamp p) ≤ epoch_in (visible l) p
  late : (k : ℕ) → is_unstamped (part k l) p ≡ true → epoch_of (part k l) ≤ epoch_in (visible l) p

-- After every legal list the stamp of each page is exact.
exact : (f : Profile) (l : Whole) → IsValid f → Legal f l → AllKeepToEnds l → (p : ℕ) → IsExact l p
exact f [] valid legal keeps p = record { stamp = omega arith; late = λ k h. absurd (false≢true h) }
exact f (t ∷ l) valid legal keeps p =
    let next : IsNext f l t = legal.0 in
    let before : IsExact l p = exact f l valid legal.1 keeps.1 p in
    let s = t.made.step in
    let a = t.made.answer in
    let e : ℕ = epoch_of (part t.actor l) in
    let more : epoch_in (visible l) p ≤ epoch_in (visible (t ∷ l)) p = (grind (arith, cond_both)) in
    let own : is_unstamped (t.made ∷ part t.actor l) p ≡ true → epoch_of (t.made ∷ part t.actor l) ≤ epoch_in (visible (t ∷ l)) p =
    search (arith, false≢true, was_set, and_parts, cond_both, touched_by_end) in
    search (arith, cases_Bool, eqb-true, looked, cond_both, before.late)

-- the stamp of a page is the greatest epoch of an end on it, once the page is unstamped for nobody
pub stamps_are_ends : (f : Profile) (l : Whole) → IsValid f → Legal f l → AllKeepToEnds l → (p : ℕ) → ((k : ℕ) → is_unstamped (part k l) p ≡ false)
    → word_after l (Word.Stamp p) ≡ epoch_in (visible l) p
stamps_are_ends f l valid legal keeps p settled =
    let at : IsExact l p = exact f l valid legal keeps p in
    let least : epoch_in (visible l) p ≤ word_after l (Word.Stamp p) = ends_bound _ p _
    (ends_map _ (λ j e. e ≤ word_after l (Word.Stamp p)) _ p (λ j n late. search arith) (ends_stamped f l valid legal p)) in
    omega (arith, at.stamp, least)
