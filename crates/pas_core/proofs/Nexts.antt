-- The answer of each legal step agrees with its actor's view, since what an actor read once is so for good.
use Rattle.std.proofs.Common.{ℕ, ◌==◌, List, [], ◌∷◌, ◌≡◌, ◌≢◌, ◌+◌, ◌*◌, ◌/◌, ◌<◌, ◌≤◌, Bool, true, false, ◌&&◌, Some, refl, ap, sym, ◌∙◌, subst, arith, ◌^◌}
use Rattle.std.proofs.Common.{if◌then◌else◌, Option, None, ◌%◌, eqb-true, leb-true, length-set, ◌++◌, slice_index, slice_set, eq-eqb, ne_eqb}
use Rattle.std.proofs.lemmas.{Bool.{cond_both, false≢true, and_parts, and_from, false_from_ne_true}, Option.same_Some}
use Rattle.pas_profile.specs.declared.{profile.Profile.Profile, directory.Directory.Directory, name.{Name.Name, Block.Block}, word.Word.Word, event.Event.Event}
use Rattle.pas_profile.specs.{Profiles.{IsValid, IsWordOf}, Blocks.{address_of, grain_of, length_of}, Layouts.{index_of, same_word}, Lives.{live_word, is_live}}
use Rattle.pas_profile.{specs.Lives.{turn_of, grains_of}, proofs.Codecs.{deed_word_of-positive, is_live-live_word, grains_of-live_word}}
use Rattle.pas_profile.proofs.Places.{same_word-true}
use Rattle.pas_steps.specs.{Past.Once, Allowed.{IsStepOf, Allowed}, Events.with_event, Desks.{made, triple, triples}, Effects.{life_word_at, target}}
use Rattle.pas_steps.specs.{Effects.{free_word_at, new_value}, Lists.{Triple, Whole, part, Legal, word_after, visible, IsNext}, declared.step.Made.Made}
use Rattle.pas_steps.specs.{declared.step.Step.{Step, TheVariants.{End, EndSized, Look, Back, Unback, Deed, Stamp}}, Views.{ends_on, EndedOn, EndedOnBoth}}
use Rattle.pas_steps.specs.{Views.{epoch_of, IsLiveRead, ReadLive, reads_backed, ReadBacked, holds, View}, Agreement.{heap_recorded, AgreesFree, AgreesLife}}
use Rattle.pas_steps.{specs.Agreement.{AgreesEnd, AgreesParked, AgreesEmpty, AgreesEligible, AgreesEpoch, AgreesStamp, Agrees, Agreed}, proofs.Flags.was_set}
use Rattle.pas_steps.proofs.{Running.{guess_fits, place_written}, Parts.{part_of_own, part_of_others}}
use Rattle.pas_bits.{specs.{Runs.{in_run, meets_page}, Bits.has_bit}, proofs.Runs.{IsMet, met, first_of_run}}
use Rattle.pas_machine.specs.{State.{Live, live_in, deed_in, backed_in, gives_in, ends_in}, Machine.{Bears, Run}}
use Rattle.pas_core.specs.{Good.{word_of_deed, IsLifeOf, is_free, is_covered_by, covers, IsPlacedOnce}, Given.WasGiven, WordLists.AreWordsAfter}
use Rattle.pas_core.{specs.Orders.{IsOneOrder, with_step, ExtendsOnePart}, proofs.Deeds.{deed_kept, known_is, deed_words, deed_of, directory_is_of, backed_of}}
use Rattle.pas_core.proofs.Lives.{IsFound, end_finds, epoch_known, epoch_small, stamp_small, stamp_known, word_is, life_of, life_is_known, live_is_live}
use Rattle.pas_core.proofs.{Lives.{one_more, turn_is, gives_few, given_small, sum_small, all_gives}, MachineRuns.{lists_borne, runs, one_backed}}
use Rattle.pas_core.proofs.{Grains.{is_held_by-true, placed_once}, Rights.{deeds_known, backed_small, backed_known, right_not_offered, right_not_parked}}
use Rattle.pas_core.proofs.Rights.{offered_is_known, offered_page, parked_page, hinted_page, free_known}

-- ==== What a step of an actor told once is so for good, where every later step keeps it.

-- what holds before a step that tells it, and is kept by each step, holds after every list whose part has such a step
since_once : (f : Profile) (k : ℕ) (P : Made → List Made → Type 0) (Q : Whole → Type 0)
    → ((t : Triple) (l : Whole) → Legal f (t ∷ l) → P t.made (part k l) → Q l) → ((t : Triple) (l : Whole) → Legal f (t ∷ l) → Q l → Q (t ∷ l))
    → (l : Whole) → Legal f l → Once P (part k l) → Q l
since_once f k P Q told kept [] legal h = absurd h
since_once f k P Q told kept (t ∷ l) legal h = search (arith, cond_both, since_once f k P Q told kept l legal.1)

-- ==== The pages of a block that an actor ended: they have deeds, all of one heap, and lie in the region.

-- ---- where it lay
-- ---- the deeds of its pages
-- the page has a deed of the heap
record IsOfHeap (l : Whole) (page heap : ℕ) : Type 0 where
  a_deed : word_after l (Word.Deed page) ≢ 0
  heap_is : heap_recorded (word_after l (Word.Deed page)) ≡ heap

borne_heap : (f : Profile) (l : Whole) → IsValid f → Legal f l → (heap page : ℕ) → Bears f (visible l) heap page → IsOfHeap l page heap
borne_heap f l valid legal heap page bears = search (arith, deed_of, deed_word_of-positive, directory_is_of)

-- the pages of a live block of so many grains have deeds of its heap
live_heap : (f : Profile) (l : Whole) → IsValid f → Legal f l → (address guess page : ℕ) (b : Live) → live_in (visible l) address ≡ Some b
    → length_of b.block ≡ guess → 0 < guess → meets_page (address / 16) guess page ≡ true → IsOfHeap l page b.block.heap
live_heap f l valid legal address guess page b lives n some meets =
    let at : IsMet (address / 16) guess page = met _ guess page some meets in
    let here : in_run (address / 16) (length_of b.block) at.grain ≡ true = ap (λ m. in_run (address / 16) m at.grain) n ∙ at.of_run in
    subst (λ p. IsOfHeap l p b.block.heap) at.of_page (borne_heap f l valid legal b.block.heap (at.grain / 256) (lists_borne f l valid legal address b lives at.grain here))

-- the heap of a block that ended, for each page of its run
record HasEnded (l : Whole) (s : Step) (a : ℕ) : Type 0 where
  heap : ℕ
  pages : (page : ℕ) → ends_on s a page ≡ true → IsOfHeap l page heap

end_pages : (f : Profile) (l : Whole) → IsValid f → Legal f l → (name : Name) (guess a : ℕ) → IsStepOf f (End name guess)
    → a ≡ word_after l (life_word_at (grain_of name)) → (t : Bool) → (a == live_word name.turn guess) ≡ t → HasEnded l (End name guess) a
end_pages f l valid legal name guess a of is true e =
    let at : IsFound f l name guess = end_finds f l valid legal name guess a of is (eqb-true a _ e) in
    record {
      heap = at.block.block.heap;
      pages = λ page h. live_heap f l valid legal _ guess page at.block at.lives at.grains_are (omega (arith, of.3)) (and_parts (a == live_word name.turn guess) (meets_page (grain_of name) guess page) h).1;
    }
end_pages f l valid legal name guess a of is false e =
    record { heap = 0; pages = λ page' h. absurd (false≢true (sym (ap (λ b. b && meets_page (grain_of name) guess page') e) ∙ h)) }

has_ended : (f : Profile) (l : Whole) → IsValid f → Legal f l → (s : Step) (a : ℕ) → IsStepOf f s → a ≡ word_after l (target s) → HasEnded l s a
has_ended f l valid legal (End name guess) a of is = end_pages f l valid legal name guess a of is (a == live_word name.turn guess) refl
has_ended f l valid legal (EndSized name room) a of is =
    let at : HasEnded l (End name (room / 16)) a = end_pages f l valid legal name _ a of.0 is _ refl in
    record { heap = at.heap; pages = at.pages }
has_ended f l valid legal s a of is = record { heap = 0; pages = λ page' h. absurd (false≢true (sym (refl) ∙ h)) }

-- a page of a block that an actor once ended has a deed
ended_has_deed : (f : Profile) (l : Whole) → IsValid f → Legal f l → (k page : ℕ) → EndedOn (part k l) page → word_after l (Word.Deed page) ≢ 0
ended_has_deed f l valid legal k page =
    since_once f k (λ m before. ends_on m.step m.answer page ≡ true) (λ l. word_after l (Word.Deed page) ≢ 0)
    (λ t l legal h.
    let next : IsNext f l t = legal.0 in
    let at : HasEnded l t.made.step t.made.answer = has_ended f l valid legal.1 _ _ next.of_region next.answer_is in
    (at.pages page h).a_deed)
    (λ t l legal ne. λ z. ne (sym (deed_kept l t page ne) ∙ z)) l legal

-- both pages have deeds of one heap
record AreOfOne (l : Whole) (page other : ℕ) : Type 0 where
  a_deed : word_after l (Word.Deed page) ≢ 0
  other_deed : word_after l (Word.Deed other) ≢ 0
  heaps_are : heap_recorded (word_after l (Word.Deed page)) ≡ heap_recorded (word_after l (Word.Deed other))

-- two pages of one block that an actor once ended have deeds of one heap
ended_has_heap : (f : Profile) (l : Whole) → IsValid f → Legal f l → (k page other : ℕ) → EndedOnBoth (part k l) page other
    → heap_recorded (word_after l (Word.Deed page)) ≡ heap_recorded (word_after l (Word.Deed other))
ended_has_heap f l valid legal k page other h =
    let both : AreOfOne l page other = since_once f k (λ m before. (ends_on m.step m.answer page ≡ true) × (ends_on m.step m.answer other ≡ true)) (λ l. AreOfOne l page other)
    (λ t l legal h.
    let next : IsNext f l t = legal.0 in
    let at : HasEnded l t.made.step t.made.answer = has_ended f l valid legal.1 _ _ next.of_region next.answer_is in
    let p : IsOfHeap l page at.heap = at.pages page h.0 in
    let q : IsOfHeap l other at.heap = at.pages other h.1 in
    record { a_deed = p.a_deed; other_deed = q.a_deed; heaps_are = p.heap_is ∙ sym q.heap_is })
    (λ t l legal one. (search (arith, deed_kept))) l legal h in
    both.heaps_are

-- ==== What an actor read once of a page or a block is so for good: a page that was backed has a deed, and a block that lived has its length.

-- ---- a backed page has a deed
deed_more : (x : Bool) (d : Directory) (old : Option Directory) → old ≢ None → (if x then Some d else old) ≢ None
deed_more x d old h = grind arith

backed_deed : (f : Profile) (es : List Event) → Run f es → (p : ℕ) → backed_in es p ≡ true → deed_in es p ≢ None
backed_deed f [] run p h = absurd (false≢true h)
backed_deed f (Event.Deed k q d ∷ es) run p h = deed_more (q == p) d (deed_in es p) (backed_deed f es run.1 p h)
backed_deed f (Event.Back k q ∷ es) run p h = grind (arith, eqb-true, run.0.1, (backed_deed f es run.1 p))
backed_deed f (Event.Unback k q e ∷ es) run p h = backed_deed f es run.1 p (was_set (q == p) (backed_in es p) h)
backed_deed f (e ∷ es) run p h = backed_deed f es run.1 p h

some_deed : (o : Option Directory) → o ≢ None → word_of_deed o ≢ 0
some_deed o h = grind (arith, deed_word_of-positive)

-- ---- a page that was read as backed
-- a page that an actor once read as backed has a deed
read_backed : (f : Profile) (l : Whole) → IsValid f → Legal f l → (k p : ℕ) → ReadBacked (part k l) p → word_after l (Word.Deed p) ≢ 0
read_backed f l valid legal k p =
    since_once f k (λ m before. (reads_backed m.step p ≡ true) × (m.answer ≡ 1)) (λ l. word_after l (Word.Deed p) ≢ 0)
    (λ t l legal h. let next : IsNext f l t = legal.0 in (search (arith, some_deed, backed_deed, runs, one_backed, backed_of, deed_of)))
    (λ t l legal ne. λ z. ne (sym (deed_kept l t p ne) ∙ z)) l legal

-- ---- a block that was read as live
-- a block of so many grains was given at the grain, with this turn
record WasThere (l : Whole) (g turn grains : ℕ) : Type 0 where
  block : Block
  address : address_of block.name ≡ 16 * g
  turn_is : block.name.turn ≡ turn
  grains_are : length_of block ≡ grains
  given : WasGiven (visible l) block

-- The word that is there fits the block that the events show as live.
there : (f : Profile) (l : Whole) (g word turn grains gives ends : ℕ) (live : Option Live) → live_in (visible l) (16 * g) ≡ live
    → gives_in (visible l) (16 * g) ≡ gives → IsLifeOf f g word live gives ends
    → is_live word ≡ true → turn_of word ≡ turn → grains_of word ≡ grains → WasThere l g turn grains
there f l g word turn grains gives ends live is gave life alive t n = search (arith, leb-true, same_Some)

event_kept : (f : Profile) (o : Option Event) (es : List Event) (block : Block) → Run f (with_event o es) → WasGiven es block → WasGiven (with_event o es) block
event_kept f o es block run given = grind (arith, one_more)

was_there : (f : Profile) (l : Whole) → IsValid f → Legal f l → (k g turn grains : ℕ) → ReadLive (part k l) g turn grains → WasThere l g turn grains
was_there f l valid legal k g turn grains =
    since_once f k (λ m before. IsLiveRead m g turn grains) (λ l. WasThere l g turn grains)
    (λ t l legal read.
    let next : IsNext f l t = legal.0 in
    let word : t.made.answer ≡ word_after l (life_word_at g) = grind (arith, and_parts, eqb-true, word_is, false≢true) in
    there f l g (word_after l (life_word_at g)) turn grains (gives_in (visible l) (16 * g)) (ends_in (visible l) (16 * g)) (live_in (visible l) (16 * g)) refl refl (life_of f l valid legal.1 g)
    (ap is_live (sym word) ∙ read.live) (ap turn_of (sym word) ∙ read.turn_is) (ap grains_of (sym word) ∙ read.grains_are))
    (λ t l legal was. record {
      block = was.block;
      address = was.address;
      turn_is = was.turn_is;
      grains_are = was.grains_are;
      given = event_kept f _ _ was.block (runs f (t ∷ l) valid legal) was.given;
    }) l legal

-- ==== The answer of each legal step agrees with its actor's view.

-- ---- where a grain is that is held
-- ---- deed words, free words and backed words
word_at : (l : Whole) (page word a g : ℕ) → a ≡ word_after l (Word.Free page word) → g / 256 ≡ page → g / 64 % 4 ≡ word → a ≡ word_after l (free_word_at g)
word_at l page word a g is p w = is ∙ ap (λ x. word_after l (Word.Free x word)) (sym p) ∙ ap (λ x. word_after l (Word.Free (g / 256) x)) (sym w)

free_agrees : (f : Profile) (l : Whole) → IsValid f → Legal f l → (k page word a : ℕ) → a ≡ word_after l (Word.Free page word)
    → AgreesFree (part k l) page word a
free_agrees f l valid legal k page word a is = record {
  free = λ g p w h. ap (λ n. has_bit n (g % 64)) (word_at l page word a g is p w) ∙ free_known f l legal k g h;
  held = λ g p w h.
      let at : IsPlacedOnce l g = placed_once f l valid legal g in
      ap (λ n. has_bit n (g % 64)) (word_at l page word a g is p w) ∙ at.free ∙ ap is_free (is_held_by-true k at.place (sym (at.held k) ∙ h));
}

-- ---- life words
word_length : (f : Profile) (l : Whole) → IsValid f → Legal f l → (g : ℕ) → is_live (word_after l (life_word_at g)) ≡ true
    → (1 ≤ grains_of (word_after l (life_word_at g))) × (grains_of (word_after l (life_word_at g)) ≤ 256 * f.pages)
word_length f l valid legal g = λ h. grind (arith, leb-true, life_of f l valid legal g)

-- no grain of a live block is held
covered_is_free : (f : Profile) (l : Whole) → IsValid f → Legal f l → (k g x : ℕ) → is_live (word_after l (life_word_at g)) ≡ true
    → in_run g (grains_of (word_after l (life_word_at g))) x ≡ true → holds (part k l) x ≡ false
covered_is_free f l valid legal k g x live inside = false_from_ne_true _ (λ h.
    let at : IsPlacedOnce l x = placed_once f l valid legal x in
    let covered : covers (word_after l (life_word_at g)) g x ≡ true = and_from _ _ live inside in
    false≢true (sym (at.covered g ∙ ap (is_covered_by g) (is_held_by-true k at.place (sym (at.held k) ∙ h))) ∙ covered))

-- a life word is that of a live block, or the turn alone
live_codec : (f : Profile) (g word : ℕ) (live : Option Live) (gives ends : ℕ) → IsLifeOf f g word live gives ends → is_live word ≡ true
    → word ≡ live_word (turn_of word) (grains_of word)
live_codec f g word live gives ends life h = grind (arith, leb-true)

turn_codec : (f : Profile) (g word : ℕ) (live : Option Live) (gives ends : ℕ) → IsLifeOf f g word live gives ends → is_live word ≡ false → word ≡ turn_of word
turn_codec f g word live gives ends life h = grind (arith, false≢true, live_is_live)

life_agrees : (f : Profile) (l : Whole) → IsValid f → Legal f l → (k g a : ℕ) → a ≡ word_after l (life_word_at g) → AgreesLife f (part k l) g a
life_agrees f l valid legal k g a is = subst (AgreesLife f (part k l) g) (sym is) record {
  known = λ w h. sym (life_is_known f l valid legal k g w h).1;
  held = λ h. search (arith, false_from_ne_true, first_of_run, word_length, false≢true, covered_is_free);
  turn = let life : IsLifeOf f g (word_after l (life_word_at g)) (live_in (visible l) (16 * g)) (gives_in (visible l) (16 * g)) (ends_in (visible l) (16 * g)) =
      life_of f l valid legal g in
      -- the turn of each life word is small
      let ends : ends_in (visible l) (16 * g) ≤ gives_in (visible l) (16 * g) = (grind arith) in
      grind (
        arith,
        turn_is f g (word_after l (life_word_at g)) (live_in (visible l) (16 * g)) (gives_in (visible l) (16 * g))
            (ends_in (visible l) (16 * g)) life,
        ends,
        sum_small,
        given_small,
        all_gives,
        gives_few,
      );
  length = word_length f l valid legal g;
  live = live_codec f g _ _ _ _ (life_of f l valid legal g);
  turn_alone = turn_codec f g _ _ _ _ (life_of f l valid legal g);
  again = λ grains alive read. let was : WasThere l g (turn_of (word_after l (life_word_at g))) grains = was_there f l valid legal k g _ grains read in
      (grind (arith, leb-true, life_of f l valid legal g)) ∙ was.grains_are;
}

-- ---- the life word of an end
end_agrees : (f : Profile) (l : Whole) → IsValid f → Legal f l → (k : ℕ) (name : Name) (guess a : ℕ) → IsStepOf f (End name guess)
    → a ≡ word_after l (life_word_at (grain_of name)) → AgreesEnd f (part k l) name guess a
end_agrees f l valid legal k name guess a of is = record {
  life = life_agrees f l valid legal k _ a is;
  within = λ hit. let at : IsFound f l name guess = end_finds f l valid legal name guess a of is hit in (at.first, at.last);
  apart = λ live x inside. let turn : name.turn < 2 ^ 40 = omega (arith, of.2) in
      let word : live_word name.turn guess ≡ word_after l (life_word_at (grain_of name)) = sym live ∙ is in
      let n : guess ≡ grains_of (word_after l (life_word_at (grain_of name))) =
      sym (grains_of-live_word name.turn guess turn (guess_fits guess f.pages valid.pages of.4)) ∙ ap grains_of word in
      covered_is_free f l valid legal k _ x (ap is_live (sym word) ∙ is_live-live_word name.turn guess) (ap (λ m. in_run (grain_of name) m x) (sym n) ∙ inside);
}

-- ---- page vectors
parked_agrees : (f : Profile) (l : Whole) → Legal f l → (k j a : ℕ) → a ≡ word_after l (Word.Parked j) → AgreesParked f (part k l) j a
parked_agrees f l legal k j a is = record {
  page = λ b small set. parked_page f l legal _ (sym (search arith) ∙ set);
  right = λ b small has. (search arith) ∙ right_not_parked f l legal k _ has;
}

empty_agrees : (f : Profile) (l : Whole) → Legal f l → (j a : ℕ) → a ≡ word_after l (Word.Empty j) → AgreesEmpty f j a
empty_agrees f l legal j a is = record { page = λ b small set. hinted_page f l legal (64 * j + b) (sym (search arith) ∙ set) }

eligible_agrees : (f : Profile) (l : Whole) → Legal f l → (k n j a : ℕ) → a ≡ word_after l (Word.Eligible n j) → AgreesEligible f (part k l) n j a
eligible_agrees f l legal k n j a is = record {
  page = λ b small set. offered_page f l legal n _ (sym (search arith) ∙ set);
  right = λ b small has. (search arith) ∙ right_not_offered f l legal k n _ has;
  known = λ b small set ne. offered_is_known f l legal k n _ (sym (search arith) ∙ set) ne;
}

-- ---- by kinds
epoch_agrees : (f : Profile) (l : Whole) → Legal f l → (k a : ℕ) → a ≡ word_after l Word.Epoch → AgreesEpoch (part k l) a
epoch_agrees f l legal k a is = record { newer = omega (arith, is, epoch_known f l legal k); small = omega (arith, is, epoch_small f l legal) }

stamp_agrees : (f : Profile) (l : Whole) → IsValid f → Legal f l → (k page a : ℕ) → a ≡ word_after l (Word.Stamp page) → AgreesStamp (part k l) page a
stamp_agrees f l valid legal k page a is = search (arith, stamp_small, stamp_known)

-- what an actor reads at a word of the profile agrees with its view
answer_agrees_at : (f : Profile) (l : Whole) → IsValid f → Legal f l → (k : ℕ) (s : Step) (a : ℕ) → IsStepOf f s → a ≡ word_after l (target s)
    → Agrees f (part k l) s a
answer_agrees_at f l valid legal k (Look (Word.Life q g)) a of is = life_agrees f l valid legal k (q * 256 + g) a (is ∙ (search arith))
answer_agrees_at f l valid legal k (End name guess) a of is = end_agrees f l valid legal k name guess a of is
answer_agrees_at f l valid legal k (EndSized name room) a of is = end_agrees f l valid legal k name (room / 16) a of.0 is
answer_agrees_at f l valid legal k s a of is =
    search (
      arith,
      free_agrees,
      life_agrees,
      deed_words,
      known_is,
      deeds_known,
      read_backed,
      ended_has_deed,
      ended_has_heap,
      backed_small,
      backed_known,
      stamp_agrees,
      parked_agrees,
      empty_agrees,
      eligible_agrees,
      epoch_agrees,
    )

-- the answer of the next legal step agrees with its actor's view
pub answer_agrees : (f : Profile) (l : Whole) → IsValid f → Legal f l → (t : Triple) → IsNext f l t → Agrees f (part t.actor l) t.made.step t.made.answer
answer_agrees f l valid legal t next = answer_agrees_at f l valid legal t.actor t.made.step t.made.answer next.of_region next.answer_is

-- ==== One step more.

-- ==== The next step of an actor, for desks: a step that a view allows may come next with its word's value as the answer.

-- so that the list with it is legal again
pub legal_next : (f : Profile) (l : Whole) (k : ℕ) (v : View) (s : Step) (a : ℕ) → Legal f l → k ≤ f.threads → part k l ≡ v → IsStepOf f s → Allowed f v s
    → a ≡ word_after l (target s) → Legal f (triple k (made s a) ∷ l)
legal_next f l k v s a legal actor part_is of allowed is = ((search arith), legal)

-- and the answer agrees with the view
pub agrees_next : (f : Profile) (l : Whole) (k : ℕ) (v : View) (s : Step) (a : ℕ) → IsValid f → Legal f l → part k l ≡ v → IsStepOf f s
    → a ≡ word_after l (target s) → Agrees f v s a
agrees_next f l k v s a valid legal part_is of is = subst (λ x. Agrees f x s a) part_is (answer_agrees_at f l valid legal k s a of is)

-- of steps that one actor made one after the other each does
pub agreed_steps : (f : Profile) (k : ℕ) (l : Whole) (xs : List Made) → IsValid f → Legal f (triples k xs ++ l) → Agreed f (part k l) xs
agreed_steps f k l [] valid legal = tt
agreed_steps f k l (m ∷ xs) valid legal = (agrees_next f _ k _ _ _ valid legal.1 (part_of_own k xs l) legal.0.of_region legal.0.answer_is, agreed_steps f k l xs valid legal.1)

-- ==== The words in a row after one more step.

value_next : (f : Profile) (words : List ℕ) (l : Whole) (w : Word) (e k : ℕ) (s : Step) (n : ℕ) → n ≡ slice_index words (index_of f.pages (target s))
    → slice_index words (index_of f.pages w) ≡ word_after l w → e ≡ epoch_of (part k l) → (same : Bool) → same_word (target s) w ≡ same
    → (if same then new_value e s n else slice_index words (index_of f.pages w))
    ≡ (if same then new_value (epoch_of (part k l)) s (word_after l w) else word_after l w)
value_next f words l w e k s n is ends ep same h = grind (arith, same_word-true)

-- the place of the step's word has its new value, for an actor that knows this epoch
pub words_next : (f : Profile) (words : List ℕ) (l : Whole) (e k : ℕ) (s : Step) (n : ℕ) → AreWordsAfter f words l → IsWordOf f (target s)
    → n ≡ slice_index words (index_of f.pages (target s)) → e ≡ epoch_of (part k l)
    → AreWordsAfter f (slice_set words (index_of f.pages (target s)) (new_value e s n)) (triple k (made s n) ∷ l)
words_next f words l e k s n are of is ep = search (arith, length-set, place_written, value_next)

-- ==== One more step of one actor extends its own list, and that of no other.

-- One legal step more extends just the part of its actor.
pub extends_one_part : (f : Profile) (l : Whole) (k : ℕ) (m : Made) → Legal f l → IsNext f l (triple k m) → ExtendsOnePart f l k m
extends_one_part f l k m legal next = search (arith, part_of_own, part_of_others)

-- the own list of the actor that made the step, and those of the others
pub with_step_own : (k : ℕ) (m : Made) (own : ℕ → View) → with_step k m own k ≡ m ∷ own k
with_step_own k m own = ap (λ (b : Bool). if b then m ∷ own k else own k) (eq-eqb k k refl)

-- One step more of an actor leaves the own list of every other one as it was.
pub with_step_others : (j k : ℕ) (m : Made) (own : ℕ → View) → j ≢ k → with_step k m own j ≡ own j
with_step_others j k m own ne = ap (λ (b : Bool). if b then m ∷ own j else own j) (ne_eqb j k ne)

-- the list with the step is one order of the own lists with the step
pub one_order_next : (l : Whole) (own : ℕ → View) (k : ℕ) (m : Made) → IsOneOrder l own → IsOneOrder (triple k m ∷ l) (with_step k m own)
one_order_next l own k m order j = search (arith, part_of_own, with_step_own, eqb-true, false≢true, eq-eqb, part_of_others, with_step_others)
