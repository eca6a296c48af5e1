-- The machine behind a legal list: its visible events are a run, the words are those of the machine, each grain is in one place in the machine's words,
-- and in some list a page is unbacked.
use Rattle.std.proofs.Common.{◌≡◌, ◌≢◌, ℕ, ◌+◌, ◌-◌, ◌*◌, ◌/◌, ◌%◌, ◌^◌, ◌<◌, ◌==◌, Bool, true, false, ◌&&◌, if◌then◌else◌, List, [], ◌∷◌, Option, Some, None}
use Rattle.std.proofs.{Common.{refl, ap, sym, ◌∙◌, arith, inl, inr, max, eqb-true, eq-eqb, leb-true}, lemmas.Bool.{false≢true, eqb-false, and_parts, and_from}}
use Rattle.std.proofs.lemmas.{Bool.{cond_both, false_from_ne_true, cases_eq, Decides.nat_tests}, Nat.Bits.bit_at_ones}
use Rattle.pas_profile.specs.{Directories.deed_word_of, Profiles.{IsValid, IsPage, IsDirectoryOf}, Blocks.{address_of, grain_of, length_of}, Lives.live_word}
use Rattle.pas_profile.specs.{Lives.{is_live, turn_of, grains_of}, declared.{profile.Profile.Profile, directory.{Directory.Directory, Kind.TheVariants.Large}}}
use Rattle.pas_profile.{specs.declared.{name.{Block.Block, Name.Name}, word.Word.Word, event.{Event.Event, Why.Why}}, proofs.Codecs.kind_number_lt}
use Rattle.pas_bits.{specs.{Runs.{in_run, meets_page}, Bits.has_bit}, proofs.Runs.{run_of, first_of_run, IsMet, met}}
use Rattle.pas_machine.specs.{State.{Live, deed_in, live_in, gives_in, ends_in, touches}, Machine.{IsPlace, Bears, IsClear, MayGive, IsReason, Admits, Run}}
use Rattle.pas_machine.{specs.Laws.{AreBorne, AreApart}, proofs.LiveBlocks.{all_borne, live_apart}}
use Rattle.pas_steps.specs.{Effects.{life_word_at, target, free_word_at, in_mask}, Views.{holds, epoch_of, known_deed, View, Gets, Stays, held_after, holds_on}}
use Rattle.pas_steps.specs.{Views.{holds_all, known_stamp, all_ones}, Events.{event_of, with_event, reason_of}, Desks.{made, triple, triples}, Allowed.Allowed}
use Rattle.pas_steps.specs.{Allowed.{IsStepOf, IsBlockOf, KnowsBearing, MayUnback}, Lists.{Whole, word_after, part, visible, Legal, IsNext}}
use Rattle.pas_steps.specs.declared.step.{Step.{Step, TheVariants.{Deed, Back, Give, End, EndSized, Unback, Look, Take, Tick}}, Made.Made}
use Rattle.pas_steps.proofs.{Frames.any_from, Bits.all_below-from}
use Rattle.pas_core.specs.Good.{word_of_deed, word_of_backed, IsLifeOf, IsLifeOfLive, AgreesWithWords, Place, IsFree, Held, Covered, is_free, is_held_by}
use Rattle.pas_core.{specs.Good.{is_covered_by, covers, IsPlacedOnce, IsInOnePlace}, proofs.{Grains.{some_grain, placed_once, covers_live}, Rights.deeds_known}}
use Rattle.pas_core.proofs.{Rights.backed_known, Lives.{stamp_known, ends_before, moved_held, life_is_known, block_of_word, turn_is, live_is_live, no_block}}
use Rattle.pas_core.proofs.{Lives.{dead_while_held, life_of, life_at, bare_of, live_of, live_is_aligned}, Deeds.{known_is, deed_of, backed_of, directory_is_of}}
use Rattle.pas_core.proofs.Deeds.{is_backed}

-- ==== The visible events of every legal list are a run of the machine.

-- the machine that the visible events reach agrees with the words
pub agrees : (f : Profile) (l : Whole) → IsValid f → Legal f l → AgreesWithWords f l
agrees f l valid legal = record { deed = deed_of f l legal; backed = backed_of f l legal; life = life_of f l valid legal; bare = bare_of f l legal }

-- ---- grains of a run
-- ---- deeds and backed pages that are known are the machine's
pub one_backed : (b : Bool) → 1 ≡ word_of_backed b → b ≡ true
one_backed b h = grind arith

some_deed : (o : Option Directory) → word_of_deed o ≢ 0 → o ≢ None
some_deed o ne h = ne (ap word_of_deed h)

-- the machine's directory, from a deed word that is known
record HasDeed (f : Profile) (o : Option Directory) (heap : ℕ) : Type 0 where
  directory : Directory
  deed : o ≡ Some directory
  of_heap : directory.heap ≡ heap

deed_from : (f : Profile) (o : Option Directory) (d : Directory) → ((d' : Directory) → o ≡ Some d' → IsDirectoryOf f d') → IsDirectoryOf f d
    → deed_word_of d ≡ word_of_deed o → HasDeed f o d.heap
deed_from f o d of is_of h = grind (arith, kind_number_lt)

-- A page that an actor knows to bear a heap's blocks bears them in the events.
bearing : (f : Profile) (l : Whole) → IsValid f → Legal f l → (k heap p : ℕ) → IsPage f p → KnowsBearing f (part k l) heap p → Bears f (visible l) heap p
bearing f l valid legal k heap p page knows =
    let some : known_deed (part k l) p ≢ 0 = λ z. absurd (omega (arith, sym knows.deed ∙ z)) in
    let word : known_deed (part k l) p ≡ word_after l (Word.Deed p) = known_is _ _ (deeds_known f l legal k p) some in
    let has : HasDeed f (deed_in (visible l) p) knows.directory.heap =
    deed_from f _ knows.directory (directory_is_of f l legal p) knows.of_profile (sym knows.deed ∙ word ∙ deed_of f l legal p) in
    record {
      exists = page;
      directory = has.directory;
      deed = has.deed;
      of_heap = has.of_heap ∙ knows.of_heap;
      backed = one_backed _ (sym (backed_known f l valid legal k p knows.backed) ∙ backed_of f l legal p);
    }

-- no block lives where an actor holds the grains
clear : (f : Profile) (l : Whole) → IsValid f → Legal f l → (k g n : ℕ) → ((x : ℕ) → in_run g n x ≡ true → holds (part k l) x ≡ true) → IsClear (visible l) g n
clear f l valid legal k g n held address b live x run = false_from_ne_true _ (λ here.
    no_block f l k (address / 16) x b (gives_in (visible l) address) (ends_in (visible l) address) (placed_once f l valid legal x) (held x here) (live_of f l valid legal address b live) run)

give_turn : (f : Profile) (g word : ℕ) (live : Option Live) (gives ends : ℕ) → IsLifeOf f g word live gives ends → live ≡ None → turn_of word ≡ gives
give_turn f g word live gives ends h none = search (arith, turn_is)

-- ---- events of steps
-- such an end is refused by its true reason
refused : (f : Profile) (g word a : ℕ) (name : Name) (es : List Event) → a ≡ word
    → IsLifeOf f g word (live_in es (address_of name)) (gives_in es (address_of name)) (ends_in es (address_of name))
    → (is_live a && (turn_of a == name.turn)) ≡ false → IsReason es name (reason_of name a)
refused f g word a name es is life none = search (arith, turn_is, nat_tests, false≢true, and_from, live_is_live, eq-eqb)

end_admits : (f : Profile) (z y : Bool) (k ep g a word guess : ℕ) (name : Name) (es : List Event) → Run f es → IsPlace f (address_of name) → a ≡ word
    → name.turn < 2 ^ 40 - 1
    → IsLifeOf f g word (live_in es (address_of name)) (gives_in es (address_of name)) (ends_in es (address_of name)) → (a == live_word name.turn guess) ≡ z
    → (is_live a && (turn_of a == name.turn)) ≡ y
    → Run f (with_event (if z then Some (Event.End k name ep) else (if y then None else Some (Event.Reject k name (reason_of name a)))) es)
end_admits f z y k ep g a word guess name es run of is small life ze ye = grind (arith, block_of_word, eqb-true, refused)

sized_admits : (f : Profile) (z y : Bool) (k ep g a word room : ℕ) (name : Name) (es : List Event) → Run f es → IsPlace f (address_of name) → a ≡ word
    → name.turn < 2 ^ 40 - 1
    → IsLifeOf f g word (live_in es (address_of name)) (gives_in es (address_of name)) (ends_in es (address_of name))
    → (a == live_word name.turn (room / 16)) ≡ z → (is_live a && (turn_of a == name.turn)) ≡ y
    → Run f (with_event (if z then Some (Event.End k name ep) else Some (Event.Reject k name (if y then Why.SizeDiffers room else reason_of name a))) es)
sized_admits f z y k ep g a word room name es run of is small life ze ye = search (arith, end_admits, and_parts, nat_tests, turn_is, eqb-false, eqb-true, refused)

give_admits : (f : Profile) (l : Whole) → IsValid f → Legal f l → (k : ℕ) (block : Block) → IsBlockOf f block → Allowed f (part k l) (Give block)
    → MayGive f (visible l) block
give_admits f l valid legal k block of allowed =
    let g : ℕ = grain_of block.name in
    let life : IsLifeOf f (grain_of block.name) (word_after l (life_word_at (grain_of block.name))) (live_in (visible l) (address_of block.name))
    (gives_in (visible l) (address_of block.name)) (ends_in (visible l) (address_of block.name))
    = life_at f l valid legal _ allowed.aligned in
    record {
      aligned = allowed.aligned;
      whole = allowed.whole;
      some = allowed.some;
      bears = λ x here. bearing f l valid legal k block.heap _ (search (arith, run_of)) (allowed.bears x here);
      clear = clear f l valid legal k (grain_of block.name) (length_of block) allowed.held;
      turn = allowed.turn_is ∙ ap turn_of (life_is_known f l valid legal k _ allowed.word allowed.known).1 ∙ give_turn f _ _ _ _ _ life
          (dead_while_held f l k _ _ _ _ (placed_once f l valid legal _)
          (allowed.held (grain_of block.name) (first_of_run _ _ (some_grain block.room allowed.whole allowed.some))) life);
    }

-- no live block touches a page each of whose grains an actor holds
untouched_if : (f : Profile) (l : Whole) → IsValid f → Legal f l → (k page address : ℕ) → ((g : ℕ) → g / 256 ≡ page → holds (part k l) g ≡ true)
    → (live : Option Live) → live_in (visible l) address ≡ live → touches live page ≡ false
untouched_if f l valid legal k page address held None is = refl
untouched_if f l valid legal k page address held (Some b) is = false_from_ne_true _ (λ h.
    let life : IsLifeOfLive f (address / 16) (word_after l (life_word_at (address / 16))) b (gives_in (visible l) address) (ends_in (visible l) address) = live_of f l valid legal address b is in
    let first : address_of b.block.name / 16 ≡ address / 16 = omega (arith, life.address) in
    let at : IsMet (address / 16) (length_of b.block) page = met _ _ page life.some (ap (λ g. meets_page g (length_of b.block) page) (sym first) ∙ h) in
    no_block f l k (address / 16) at.grain b (gives_in (visible l) address) (ends_in (visible l) address) (placed_once f l valid legal at.grain) (held at.grain at.of_page) life at.of_run)

-- a page that may be unbacked: its last end is old enough, since its stamp is
unback_admits : (f : Profile) (l : Whole) → IsValid f → Legal f l → (k page : ℕ) → IsPage f page → MayUnback f (part k l) page
    → Admits f (visible l) (Event.Unback k page (epoch_of (part k l)))
unback_admits f l valid legal k page of may =
    let stamp : word_after l (Word.Stamp page) ≡ may.stamp = stamp_known f l valid legal k page may.stamp may.known in
    let old = may.old in (
      of,
      one_backed _ (sym (backed_known f l valid legal k page may.backed) ∙ backed_of f l legal page),
      (λ address. untouched_if f l valid legal k page address may.held _ refl),
      omega (arith, ends_before f l valid legal k page may.held may.stamped, stamp, old),
    )

-- The event of a step that is allowed may come next.
admits : (f : Profile) (l : Whole) → IsValid f → Legal f l → (k : ℕ) (s : Step) (a : ℕ) → IsStepOf f s → Allowed f (part k l) s → a ≡ word_after l (target s)
    → Run f (visible l) → Run f (with_event (event_of k (epoch_of (part k l)) s a) (visible l))
admits f l valid legal k (Deed q d) a of allowed is run = search (arith, cond_both, eqb-true, deed_of)
admits f l valid legal k (Back q) a of allowed is run = search (arith, cond_both, some_deed, known_is, deeds_known, deed_of, is_backed, backed_of)
admits f l valid legal k (Give block) a of allowed is run = (give_admits f l valid legal k block of allowed, run)
admits f l valid legal k (End name guess) a of allowed is run =
    end_admits f _ _ k _ _ a _ guess name _ run (of.0, of.1) is of.2 (life_at f l valid legal _ of.1) refl refl
admits f l valid legal k (EndSized name room) a of allowed is run =
    sized_admits f _ _ k _ _ a _ room name _ run (of.0.0, of.0.1) is of.0.2 (life_at f l valid legal _ of.0.1) refl refl
admits f l valid legal k (Unback q) a of allowed is run = (unback_admits f l valid legal k q of allowed, run)
admits f l valid legal k s a of allowed is run = run

-- the visible events of every legal list are a run of the machine
pub runs : (f : Profile) (l : Whole) → IsValid f → Legal f l → Run f (visible l)
runs f [] valid legal = tt
runs f (t ∷ l) valid legal = let rest = runs f l valid legal.1 in grind (arith, rest, admits)

-- ==== Where a grain is, in the machine's words.

-- the block that a live word tells of
record LivesAt (l : Whole) (a : ℕ) : Type 0 where
  block : Live
  lives : live_in (visible l) (16 * a) ≡ Some block

in_place : (f : Profile) (l : Whole) (g : ℕ) → Legal f l → (o : Place) → has_bit (word_after l (free_word_at g)) (g % 64) ≡ is_free o
    → ((k : ℕ) → holds (part k l) g ≡ is_held_by k o)
    → ((address : ℕ) (b : Live) → live_in (visible l) address ≡ Some b → in_run (address / 16) (length_of b.block) g ≡ is_covered_by (address / 16) o)
    → ((a : ℕ) → o ≡ Covered a → LivesAt l a) → IsInOnePlace l g
in_place f l g legal IsFree free held parts lives = search (arith, false≢true)
in_place f l g legal (Held k) free held parts lives = inr (inl (record { actor = k; not_free = free; holder = held; no_block = λ address b is here. false≢true (sym (parts address b is) ∙ here) }))
in_place f l g legal (Covered a) free held parts lives =
    let found : LivesAt l a = lives a refl in
    let own : 16 * a / 16 ≡ a = omega arith in
    inr (inr (search (arith, eq-eqb, eqb-true, live_is_aligned)))

-- after every legal list each grain is free, or held by one actor, or part of one live block
pub in_one_place : (f : Profile) (l : Whole) → IsValid f → Legal f l → (g : ℕ) → IsInOnePlace l g
in_one_place f l valid legal g =
    let at : IsPlacedOnce l g = placed_once f l valid legal g in
    in_place f l g legal at.place at.free at.held (λ address b is. search (arith, live_of, covers_live)) (λ a is.
    let covering : covers (word_after l (life_word_at a)) a g ≡ true = at.covered a ∙ ap (is_covered_by a) is ∙ eq-eqb a a refl in
    let live = and_parts (is_live (word_after l (life_word_at a))) (in_run a (grains_of (word_after l (life_word_at a))) g) covering in
    (grind (arith, leb-true, life_of f l valid legal a)))

-- the laws of the machine's runs, for every legal list
pub lists_borne : (f : Profile) (l : Whole) → IsValid f → Legal f l → AreBorne f (visible l)
lists_borne f l valid legal = all_borne f (visible l) (runs f l valid legal)

-- The live blocks that a legal list shows have no grain in common.
pub lists_apart : (f : Profile) (l : Whole) → IsValid f → Legal f l → AreApart (visible l)
lists_apart f l valid legal = live_apart f (visible l) (runs f l valid legal)

-- ==== A page can be unbacked: some legal list of every valid profile has an unback.

-- ---- the actor makes the deed of page 1, takes all its grains, backs it, reads its stamp, and raises the epoch
abbrev large : Directory
large = record { heap = 0; kind = Large }

abbrev taken : List Made
taken = made (Take 1 3 all_ones) all_ones ∷ made (Take 1 2 all_ones) all_ones ∷ made (Take 1 1 all_ones) all_ones ∷ made (Take 1 0 all_ones) all_ones ∷ made (Deed 1 large) 0 ∷ []

abbrev backed : List Made
backed = made (Back 1) 0 ∷ taken

abbrev looked : List Made
looked = made (Look (Word.Stamp 1)) 0 ∷ backed

abbrev ticked : ℕ → List Made
ticked age = made (Tick age) 0 ∷ looked

-- ---- it holds all grains then
in_ones : (w g : ℕ) → g / 256 ≡ 1 → g / 64 % 4 ≡ w → (in_mask 1 w all_ones g && has_bit all_ones (g % 64)) ≡ true
in_ones w g page word =
    let bit : has_bit all_ones (g % 64) ≡ true = ap (λ x. x == 1) (bit_at_ones 64 _ (omega arith)) in
    let place : ((w == g / 64 % 4) && (1 == g / 256)) ≡ true = and_from _ _ (eq-eqb w _ (sym word)) (eq-eqb 1 _ (sym page)) in
    and_from _ _ (and_from _ _ place bit) bit

abbrev gets : ℕ → ℕ → Bool
gets w g = in_mask 1 w all_ones g && has_bit all_ones (g % 64)

abbrev held_to : ℕ → ℕ → Bool → Bool
held_to w g held = held_after (if gets w g then Gets else Stays) held

all_taken : (g : ℕ) → g / 256 ≡ 1 → held_to 3 g (held_to 2 g (held_to 1 g (held_to 0 g false))) ≡ true
all_taken g page = search (arith, cases_eq, moved_held, in_ones)

holds_one : (v : View) → ((g : ℕ) → g / 256 ≡ 1 → holds v g ≡ true) → holds_on v 1 ≡ true
holds_one v h = any_from 256 (λ b. holds v (1 * 256 + b)) 0 (omega arith) (h 256 refl)

holds_each : (v : View) → ((g : ℕ) → g / 256 ≡ 1 → holds v g ≡ true) → holds_all v 1 ≡ true
holds_each v h = all_below-from 256 (λ b. holds v (1 * 256 + b)) (λ i lt. h (1 * 256 + i) (omega (arith, lt)))

stamp_is_known : (age : ℕ) → known_stamp (ticked age) 1 ≡ Some 0
stamp_is_known age = cc (holds_each (ticked age) all_taken, holds_each looked all_taken)

-- ---- the list
pub can_unback : (f : Profile) → IsValid f → (l : Whole) × Legal f l × (more : List Event) × (visible l ≡ Event.Unback 0 1 f.age ∷ more)
can_unback f valid =
    let pages = valid.some_page in let heaps = valid.some_heap in let age = valid.age in
    let deed : IsNext f (triples 0 ([])) (triple 0 (made (Deed 1 large) 0)) = record { actor = omega arith; of_region = ((omega arith, omega (arith, pages)), record { heap = omega (arith, heaps); kind = tt; class = tt }); allowed = tt; answer_is = refl } in
    let first : IsNext f (triples 0 (made (Deed 1 large) 0 ∷ [])) (triple 0 (made (Take 1 0 all_ones) all_ones)) = record { actor = omega arith; of_region = ((omega arith, omega (arith, pages)), omega arith, omega arith); allowed = refl; answer_is = refl } in
    let second : IsNext f (triples 0 (made (Take 1 0 all_ones) all_ones ∷ made (Deed 1 large) 0 ∷ [])) (triple 0 (made (Take 1 1 all_ones) all_ones)) = record { actor = omega arith; of_region = ((omega arith, omega (arith, pages)), omega arith, omega arith); allowed = refl; answer_is = refl } in
    let third : IsNext f (triples 0 (made (Take 1 1 all_ones) all_ones ∷ made (Take 1 0 all_ones) all_ones ∷ made (Deed 1 large) 0 ∷ [])) (triple 0 (made (Take 1 2 all_ones) all_ones)) = record { actor = omega arith; of_region = ((omega arith, omega (arith, pages)), omega arith, omega arith); allowed = refl; answer_is = refl } in
    let fourth : IsNext f (triples 0 (made (Take 1 2 all_ones) all_ones ∷ made (Take 1 1 all_ones) all_ones ∷ made (Take 1 0 all_ones) all_ones ∷ made (Deed 1 large) 0 ∷ [])) (triple 0 (made (Take 1 3 all_ones) all_ones)) = record { actor = omega arith; of_region = ((omega arith, omega (arith, pages)), omega arith, omega arith); allowed = refl; answer_is = refl } in
    let back : IsNext f (triples 0 (taken)) (triple 0 (made (Back 1) 0)) = record { actor = omega arith; of_region = (omega arith, omega (arith, pages)); allowed = ((256, refl, all_taken 256 refl), λ z. absurd (omega (arith, z))); answer_is = refl } in
    let look : IsNext f (triples 0 (backed)) (triple 0 (made (Look (Word.Stamp 1)) 0)) = record { actor = omega arith; of_region = (omega arith, omega (arith, pages)); allowed = tt; answer_is = refl } in
    let tick : IsNext f (triples 0 (looked)) (triple 0 (made (Tick f.age) 0)) = record { actor = omega arith; of_region = omega (arith, age); allowed = tt; answer_is = refl } in
    let unback : IsNext f (triples 0 (ticked f.age)) (triple 0 (made (Unback 1) 1)) = record { actor = omega arith; of_region = (omega arith, omega (arith, pages)); allowed = search (arith, all_taken, holds_one, and_from, stamp_is_known); answer_is = refl } in
    let same : max 0 f.age ≡ f.age = omega arith in (
      triples 0 (made (Unback 1) 1 ∷ ticked f.age),
      (unback, (tick, (look, (back, (fourth, (third, (second, (first, (deed, tt))))))))),
      Event.Back 0 1 ∷ Event.Deed 0 1 large ∷ [],
      ap (λ e. Event.Unback 0 1 e ∷ Event.Back 0 1 ∷ Event.Deed 0 1 large ∷ []) same,
    )
