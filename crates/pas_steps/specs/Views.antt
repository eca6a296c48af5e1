-- What an actor holds, has and knows. All of it follows from the list of the actor's own steps with their answers, the NEWEST FIRST:
-- for each thing one table says what a step does to it, a kind of step a line, and the thing is the table applied step by step.
use Rattle.std.specs.Prelude.{ℕ, zero, suc, ◌+◌, ◌-◌, ◌*◌, ◌/◌, ◌%◌, ◌^◌, ◌≡◌, ◌==◌, max, bit_and, Bool, true, false, not, ◌&&◌, ◌||◌, if◌then◌else◌, List, []}
use Rattle.std.specs.Prelude.{◌∷◌, Option, None, Some}
use Rattle.pas_profile.specs.{Classes.is_usable, Lives.{is_live, turn_of, grains_of}, Blocks.{grain_of, length_of}, declared.directory.Directory.Directory}
use Rattle.pas_profile.specs.{declared.{directory.Kind.Kind, word.Word.Word}, Directories.{deed_word_of, deed_word_numbered, directory_read, number_of}}
use Rattle.pas_bits.specs.{Bits.has_bit, Runs.{in_run, meets_page}}
use Rattle.pas_steps.specs.{Effects.{in_mask, succeeds}, Past.Once, declared.step.Step.{Step, TheVariants.{Look, Deed, Back, Take, Put, Give, End, EndSized}}}
use Rattle.pas_steps.specs.declared.step.{Step.TheVariants.{TakeRight, Offer, Park, Unpark, Stamp, Hint, Tick, Unback, Unhint}, Made.Made}

abbrev pub View : Type 0
View = List Made

-- ---- grains: which the actor holds
pub data Move : Type 0 where
  Stays : Move
  Gets : Move  -- from the free ones to the actor
  Puts : Move  -- from the actor to the free ones
  Gives : ℕ → Move  -- from the actor to the live block whose first grain this is
  Ends : ℕ → Move  -- from that block to the actor

-- how a step with this answer moves a grain
abbrev pub grain_move : Step → ℕ → ℕ → Move
grain_move (Look word) a g = Stays
grain_move (Deed page directory) a g = Stays
grain_move (Back page) a g = Stays
grain_move (Take page word mask) a g = if in_mask page word mask g && has_bit a (g % 64) then Gets else Stays
grain_move (Put page word mask) a g = if in_mask page word mask g then Puts else Stays
grain_move (Give block) a g = if in_run (grain_of block.name) (length_of block) g then Gives (grain_of block.name) else Stays
grain_move (End name guess) a g = if succeeds name guess a && in_run (grain_of name) guess g then Ends (grain_of name) else Stays
grain_move (EndSized name room) a g = if succeeds name (room / 16) a && in_run (grain_of name) (room / 16) g then Ends (grain_of name) else Stays
grain_move (TakeRight page directory) a g = Stays
grain_move (Offer page directory) a g = Stays
grain_move (Park page) a g = Stays
grain_move (Unpark page) a g = Stays
grain_move (Stamp page) a g = Stays
grain_move (Hint page) a g = Stays
grain_move (Tick raised) a g = Stays
grain_move (Unback page) a g = Stays
grain_move (Unhint page) a g = Stays

abbrev pub held_after : Move → Bool → Bool
held_after Stays h = h
held_after Gets h = true
held_after Puts h = false
held_after (Gives b) h = false
held_after (Ends b) h = true

abbrev pub holds : View → ℕ → Bool
holds [] g = false
holds (m ∷ v) g = held_after (grain_move m.step m.answer g) (holds v g)

-- some number below n passes the test
unfoldable pub any_below : ℕ → (ℕ → Bool) → Bool
any_below zero p = false
any_below (suc n) p = p n || any_below n p

-- the actor holds a grain of the page
abbrev pub holds_on : View → ℕ → Bool
holds_on v page = any_below 256 (λ b. holds v (page * 256 + b))

-- every number below n passes the test
unfoldable pub all_below : ℕ → (ℕ → Bool) → Bool
all_below zero p = true
all_below (suc n) p = p n && all_below n p

-- the actor holds each of its grains
abbrev pub holds_all : View → ℕ → Bool
holds_all v page = all_below 256 (λ b. holds v (page * 256 + b))

-- ---- rights: the actor alone may take grains from the page's free words
pub data Way : Type 0 where
  Rests : Way
  ByDeed : Way  -- to the actor, which made the page's deed
  FromOffer : ℕ → Way  -- from the eligible vector of the directory of this number to the actor
  FromParked : Way  -- from the parked vector to the actor
  ToOffer : ℕ → Way  -- from the actor to that vector
  ToParked : Way

-- how a step with this answer moves the right of a page
abbrev pub way : Step → ℕ → ℕ → Way
way (Look word) a page = Rests
way (Deed q directory) a page = if (q == page) && (a == 0) then ByDeed else Rests
way (Back q) a page = Rests
way (Take q word mask) a page = Rests
way (Put q word mask) a page = Rests
way (Give block) a page = Rests
way (End name guess) a page = Rests
way (EndSized name room) a page = Rests
way (TakeRight q directory) a page = if (q == page) && has_bit a (page % 64) then FromOffer (number_of directory) else Rests
way (Offer q directory) a page = if q == page then ToOffer (number_of directory) else Rests
way (Park q) a page = if q == page then ToParked else Rests
way (Unpark q) a page = if (q == page) && has_bit a (page % 64) then FromParked else Rests
way (Stamp q) a page = Rests
way (Hint q) a page = Rests
way (Tick raised) a page = Rests
way (Unback q) a page = Rests
way (Unhint q) a page = Rests

abbrev pub had_after : Way → Bool → Bool
had_after Rests had = had
had_after ByDeed had = true
had_after (FromOffer number) had = true
had_after FromParked had = true
had_after (ToOffer number) had = false
had_after ToParked had = false

abbrev pub right_after : Step → ℕ → ℕ → Bool → Bool
right_after step a page had = had_after (way step a page) had

abbrev pub has_right : View → ℕ → Bool
has_right [] page = false
has_right (m ∷ v) page = right_after m.step m.answer page (has_right v page)

-- ---- deeds: the deed word that is known of the page, 0 where none is: from the deed word, or from a set bit of an eligible word, which
-- tells the directory, whether that word was looked at or read by a claim or an offer. It is known for good
abbrev pub deed_after_look : Word → ℕ → ℕ → ℕ → ℕ
deed_after_look Word.Epoch a page known = known
deed_after_look (Word.Free q w) a page known = known
deed_after_look (Word.Life q g) a page known = known
deed_after_look (Word.Deed q) a page known = if q == page then a else known
deed_after_look (Word.Backed q) a page known = known
deed_after_look (Word.Stamp q) a page known = known
deed_after_look (Word.Parked j) a page known = known
deed_after_look (Word.Empty j) a page known = known
deed_after_look (Word.Eligible d j) a page known = if (j == page / 64) && has_bit a (page % 64) then deed_word_numbered d else known

abbrev pub deed_after : Step → ℕ → ℕ → ℕ → ℕ
deed_after (Look word) a page known = deed_after_look word a page known
deed_after (Deed q directory) a page known = if q == page then (if a == 0 then deed_word_of directory else a) else known
deed_after (Back q) a page known = known
deed_after (Take q word mask) a page known = known
deed_after (Put q word mask) a page known = known
deed_after (Give block) a page known = known
deed_after (End name guess) a page known = known
deed_after (EndSized name room) a page known = known
deed_after (TakeRight q directory) a page known = deed_after_look (Word.Eligible (number_of directory) (q / 64)) a page known
deed_after (Offer q directory) a page known = deed_after_look (Word.Eligible (number_of directory) (q / 64)) a page known
deed_after (Park q) a page known = known
deed_after (Unpark q) a page known = known
deed_after (Stamp q) a page known = known
deed_after (Hint q) a page known = known
deed_after (Tick raised) a page known = known
deed_after (Unback q) a page known = known
deed_after (Unhint q) a page known = known

abbrev pub known_deed : View → ℕ → ℕ
known_deed [] page = 0
known_deed (m ∷ v) page = deed_after m.step m.answer page (known_deed v page)

-- the page is known to be of the directory
abbrev pub KnowsDeed : ℕ → Directory → View → Type 0
KnowsDeed page directory v = known_deed v page ≡ deed_word_of directory

-- ---- free grains: known as free from a look at the free word while the actor has the right, or from its own deed that succeeded,
-- until the actor takes the grain or the right goes
abbrev pub free_after_look : Word → ℕ → ℕ → Bool → Bool → Bool
free_after_look Word.Epoch a g right known = known
free_after_look (Word.Free q w) a g right known = if (w == g / 64 % 4) && (q == g / 256) && right && has_bit a (g % 64) then true else known
free_after_look (Word.Life q h) a g right known = known
free_after_look (Word.Deed q) a g right known = known
free_after_look (Word.Backed q) a g right known = known
free_after_look (Word.Stamp q) a g right known = known
free_after_look (Word.Parked j) a g right known = known
free_after_look (Word.Empty j) a g right known = known
free_after_look (Word.Eligible d j) a g right known = known

abbrev pub free_after : Step → ℕ → ℕ → Bool → Bool → Bool
free_after (Look word) a g right known = free_after_look word a g right known
free_after (Deed q directory) a g right known = if (q == g / 256) && (a == 0) then true else known
free_after (Back q) a g right known = known
free_after (Take q word mask) a g right known = if in_mask q word mask g then false else known
free_after (Put q word mask) a g right known = known
free_after (Give block) a g right known = known
free_after (End name guess) a g right known = known
free_after (EndSized name room) a g right known = known
free_after (TakeRight q directory) a g right known = known
free_after (Offer q directory) a g right known = if q == g / 256 then false else known
free_after (Park q) a g right known = if q == g / 256 then false else known
free_after (Unpark q) a g right known = known
free_after (Stamp q) a g right known = known
free_after (Hint q) a g right known = known
free_after (Tick raised) a g right known = known
free_after (Unback q) a g right known = known
free_after (Unhint q) a g right known = known

abbrev pub known_free : View → ℕ → Bool
known_free [] g = false
known_free (m ∷ v) g = free_after m.step m.answer g (has_right v (g / 256)) (known_free v g)

-- ---- backed pages: known while the actor holds a grain of the page
abbrev pub backed_after_look : Word → ℕ → ℕ → Bool → Bool
backed_after_look Word.Epoch a page known = known
backed_after_look (Word.Free q w) a page known = known
backed_after_look (Word.Life q g) a page known = known
backed_after_look (Word.Deed q) a page known = known
backed_after_look (Word.Backed q) a page known = if q == page then a == 1 else known
backed_after_look (Word.Stamp q) a page known = known
backed_after_look (Word.Parked j) a page known = known
backed_after_look (Word.Empty j) a page known = known
backed_after_look (Word.Eligible d j) a page known = known

abbrev pub backed_after : Step → ℕ → ℕ → Bool → Bool
backed_after (Look word) a page known = backed_after_look word a page known
backed_after (Deed q directory) a page known = known
backed_after (Back q) a page known = if q == page then true else known
backed_after (Take q word mask) a page known = known
backed_after (Put q word mask) a page known = known
backed_after (Give block) a page known = known
backed_after (End name guess) a page known = known
backed_after (EndSized name room) a page known = known
backed_after (TakeRight q directory) a page known = known
backed_after (Offer q directory) a page known = known
backed_after (Park q) a page known = known
backed_after (Unpark q) a page known = known
backed_after (Stamp q) a page known = known
backed_after (Hint q) a page known = known
backed_after (Tick raised) a page known = known
backed_after (Unback q) a page known = if q == page then false else known
backed_after (Unhint q) a page known = known

abbrev pub knows_backed : View → ℕ → Bool
knows_backed [] page = false
knows_backed (m ∷ v) page = backed_after m.step m.answer page (knows_backed v page) && holds_on (m ∷ v) page

-- ---- life words: known from a look while the actor holds the grain, until the grain moves
abbrev pub looks_at_life : Step → ℕ → Bool
looks_at_life (Look Word.Epoch) g = false
looks_at_life (Look (Word.Free q w)) g = false
looks_at_life (Look (Word.Life q h)) g = (h == g % 256) && (q == g / 256)
looks_at_life (Look (Word.Deed q)) g = false
looks_at_life (Look (Word.Backed q)) g = false
looks_at_life (Look (Word.Stamp q)) g = false
looks_at_life (Look (Word.Parked j)) g = false
looks_at_life (Look (Word.Empty j)) g = false
looks_at_life (Look (Word.Eligible d j)) g = false
looks_at_life (Deed q directory) g = false
looks_at_life (Back q) g = false
looks_at_life (Take q word mask) g = false
looks_at_life (Put q word mask) g = false
looks_at_life (Give block) g = false
looks_at_life (End name guess) g = false
looks_at_life (EndSized name room) g = false
looks_at_life (TakeRight q directory) g = false
looks_at_life (Offer q directory) g = false
looks_at_life (Park q) g = false
looks_at_life (Unpark q) g = false
looks_at_life (Stamp q) g = false
looks_at_life (Hint q) g = false
looks_at_life (Tick raised) g = false
looks_at_life (Unback q) g = false
looks_at_life (Unhint q) g = false

abbrev pub life_after : Move → Bool → Bool → ℕ → Option ℕ → Option ℕ
life_after Stays looks held a known = if looks && held then Some a else known
life_after Gets looks held a known = None
life_after Puts looks held a known = None
life_after (Gives b) looks held a known = None
life_after (Ends b) looks held a known = None

abbrev pub known_life : View → ℕ → Option ℕ
known_life [] g = None
known_life (m ∷ v) g = life_after (grain_move m.step m.answer g) (looks_at_life m.step g) (holds v g) m.answer (known_life v g)

-- ---- the newest epoch that the actor read
abbrev pub epoch_after_look : Word → ℕ → Option ℕ → Option ℕ
epoch_after_look Word.Epoch a known = Some a
epoch_after_look (Word.Free q w) a known = known
epoch_after_look (Word.Life q g) a known = known
epoch_after_look (Word.Deed q) a known = known
epoch_after_look (Word.Backed q) a known = known
epoch_after_look (Word.Stamp q) a known = known
epoch_after_look (Word.Parked j) a known = known
epoch_after_look (Word.Empty j) a known = known
epoch_after_look (Word.Eligible d j) a known = known

abbrev pub epoch_after : Step → ℕ → Option ℕ → Option ℕ
epoch_after (Look word) a known = epoch_after_look word a known
epoch_after (Deed q directory) a known = known
epoch_after (Back q) a known = known
epoch_after (Take q word mask) a known = known
epoch_after (Put q word mask) a known = known
epoch_after (Give block) a known = known
epoch_after (End name guess) a known = known
epoch_after (EndSized name room) a known = known
epoch_after (TakeRight q directory) a known = known
epoch_after (Offer q directory) a known = known
epoch_after (Park q) a known = known
epoch_after (Unpark q) a known = known
epoch_after (Stamp q) a known = known
epoch_after (Hint q) a known = known
epoch_after (Tick raised) a known = Some (max a raised)
epoch_after (Unback q) a known = known
epoch_after (Unhint q) a known = known

abbrev pub known_epoch : View → Option ℕ
known_epoch [] = None
known_epoch (m ∷ v) = epoch_after m.step m.answer (known_epoch v)

-- the epoch that its steps use: 0 where it read none
abbrev pub or_zero : Option ℕ → ℕ
or_zero None = 0
or_zero (Some e) = e

abbrev pub epoch_of : View → ℕ
epoch_of v = or_zero (known_epoch v)

-- ---- stamps: known from a look at the page's stamp while the actor holds all 256 grains of the page, until one of them goes. An own stamp
-- ends the knowledge
abbrev pub stamp_after_look : Word → ℕ → ℕ → Option ℕ → Option ℕ
stamp_after_look Word.Epoch a page known = known
stamp_after_look (Word.Free q w) a page known = known
stamp_after_look (Word.Life q g) a page known = known
stamp_after_look (Word.Deed q) a page known = known
stamp_after_look (Word.Backed q) a page known = known
stamp_after_look (Word.Stamp q) a page known = if q == page then Some a else known
stamp_after_look (Word.Parked j) a page known = known
stamp_after_look (Word.Empty j) a page known = known
stamp_after_look (Word.Eligible d j) a page known = known

abbrev pub stamp_after : Step → ℕ → ℕ → Option ℕ → Option ℕ
stamp_after (Look word) a page known = stamp_after_look word a page known
stamp_after (Deed q directory) a page known = known
stamp_after (Back q) a page known = known
stamp_after (Take q word mask) a page known = known
stamp_after (Put q word mask) a page known = known
stamp_after (Give block) a page known = known
stamp_after (End name guess) a page known = known
stamp_after (EndSized name room) a page known = known
stamp_after (TakeRight q directory) a page known = known
stamp_after (Offer q directory) a page known = known
stamp_after (Park q) a page known = known
stamp_after (Unpark q) a page known = known
stamp_after (Stamp q) a page known = if q == page then None else known
stamp_after (Hint q) a page known = known
stamp_after (Tick raised) a page known = known
stamp_after (Unback q) a page known = known
stamp_after (Unhint q) a page known = known

abbrev pub known_stamp : View → ℕ → Option ℕ
known_stamp [] page = None
known_stamp (m ∷ v) page = if holds_all (m ∷ v) page then stamp_after m.step m.answer page (known_stamp v page) else None

-- ---- unstamped pages: the actor ended a block on the page, and didn't stamp the page since
abbrev pub unstamped_after : Step → ℕ → ℕ → Bool → Bool
unstamped_after (Look word) a page was = was
unstamped_after (Deed q directory) a page was = was
unstamped_after (Back q) a page was = was
unstamped_after (Take q word mask) a page was = was
unstamped_after (Put q word mask) a page was = was
unstamped_after (Give block) a page was = was
unstamped_after (End name guess) a page was = if succeeds name guess a && meets_page (grain_of name) guess page then true else was
unstamped_after (EndSized name room) a page was = if succeeds name (room / 16) a && meets_page (grain_of name) (room / 16) page then true else was
unstamped_after (TakeRight q directory) a page was = was
unstamped_after (Offer q directory) a page was = was
unstamped_after (Park q) a page was = was
unstamped_after (Unpark q) a page was = was
unstamped_after (Stamp q) a page was = if q == page then false else was
unstamped_after (Hint q) a page was = was
unstamped_after (Tick raised) a page was = was
unstamped_after (Unback q) a page was = was
unstamped_after (Unhint q) a page was = was

abbrev pub is_unstamped : View → ℕ → Bool
is_unstamped [] page = false
is_unstamped (m ∷ v) page = unstamped_after m.step m.answer page (is_unstamped v page)

-- ---- what was read once, however long ago
-- the step reads the life word of the grain
abbrev pub reads_life : Step → ℕ → Bool
reads_life (Look word) g = looks_at_life (Look word) g
reads_life (Deed q directory) g = false
reads_life (Back q) g = false
reads_life (Take q word mask) g = false
reads_life (Put q word mask) g = false
reads_life (Give block) g = grain_of block.name == g
reads_life (End name guess) g = grain_of name == g
reads_life (EndSized name room) g = grain_of name == g
reads_life (TakeRight q directory) g = false
reads_life (Offer q directory) g = false
reads_life (Park q) g = false
reads_life (Unpark q) g = false
reads_life (Stamp q) g = false
reads_life (Hint q) g = false
reads_life (Tick raised) g = false
reads_life (Unback q) g = false
reads_life (Unhint q) g = false

-- the step read that a block of so many grains lives at the grain, with this turn
pub record IsLiveRead (m : Made) (g turn grains : ℕ) : Type 0 where
  pub reads : reads_life m.step g ≡ true
  pub live : is_live m.answer ≡ true
  pub turn_is : turn_of m.answer ≡ turn
  pub grains_are : grains_of m.answer ≡ grains

-- the actor once read that a block of so many grains lives at the grain, with this turn
abbrev pub ReadLive : View → ℕ → ℕ → ℕ → Type 0
ReadLive v g turn grains = Once (λ m before. IsLiveRead m g turn grains) v

-- the word is the backed word of the page
abbrev pub is_backed_word : Word → ℕ → Bool
is_backed_word Word.Epoch page = false
is_backed_word (Word.Free q w) page = false
is_backed_word (Word.Life q g) page = false
is_backed_word (Word.Deed q) page = false
is_backed_word (Word.Backed q) page = q == page
is_backed_word (Word.Stamp q) page = false
is_backed_word (Word.Parked j) page = false
is_backed_word (Word.Empty j) page = false
is_backed_word (Word.Eligible d j) page = false

-- the step reads the backed word of the page
abbrev pub reads_backed : Step → ℕ → Bool
reads_backed (Look word) page = is_backed_word word page
reads_backed (Deed q directory) page = false
reads_backed (Back q) page = q == page
reads_backed (Take q word mask) page = false
reads_backed (Put q word mask) page = false
reads_backed (Give block) page = false
reads_backed (End name guess) page = false
reads_backed (EndSized name room) page = false
reads_backed (TakeRight q directory) page = false
reads_backed (Offer q directory) page = false
reads_backed (Park q) page = false
reads_backed (Unpark q) page = false
reads_backed (Stamp q) page = false
reads_backed (Hint q) page = false
reads_backed (Tick raised) page = false
reads_backed (Unback q) page = q == page
reads_backed (Unhint q) page = false

-- the actor once read that the page is backed
abbrev pub ReadBacked : View → ℕ → Type 0
ReadBacked v page = Once (λ m before. (reads_backed m.step page ≡ true) × (m.answer ≡ 1)) v

-- ---- blocks that the actor ended
-- the step, with this answer, ended a block that had a grain of the page
abbrev pub ends_on : Step → ℕ → ℕ → Bool
ends_on (Look word) a page = false
ends_on (Deed q directory) a page = false
ends_on (Back q) a page = false
ends_on (Take q word mask) a page = false
ends_on (Put q word mask) a page = false
ends_on (Give block) a page = false
ends_on (End name guess) a page = succeeds name guess a && meets_page (grain_of name) guess page
ends_on (EndSized name room) a page = succeeds name (room / 16) a && meets_page (grain_of name) (room / 16) page
ends_on (TakeRight q directory) a page = false
ends_on (Offer q directory) a page = false
ends_on (Park q) a page = false
ends_on (Unpark q) a page = false
ends_on (Stamp q) a page = false
ends_on (Hint q) a page = false
ends_on (Tick raised) a page = false
ends_on (Unback q) a page = false
ends_on (Unhint q) a page = false

-- the actor once ended a block that had a grain of the page
abbrev pub EndedOn : View → ℕ → Type 0
EndedOn v page = Once (λ m before. ends_on m.step m.answer page ≡ true) v

-- the actor once ended one block that had grains of both pages
abbrev pub EndedOnBoth : View → ℕ → ℕ → Type 0
EndedOnBoth v page other = Once (λ m before. (ends_on m.step m.answer page ≡ true) × (ends_on m.step m.answer other ≡ true)) v

-- ---- how many blocks the actor gave
abbrev pub given_after : Step → ℕ → ℕ
given_after (Look word) n = n
given_after (Deed q directory) n = n
given_after (Back q) n = n
given_after (Take q word mask) n = n
given_after (Put q word mask) n = n
given_after (Give block) n = n + 1
given_after (End name guess) n = n
given_after (EndSized name room) n = n
given_after (TakeRight q directory) n = n
given_after (Offer q directory) n = n
given_after (Park q) n = n
given_after (Unpark q) n = n
given_after (Stamp q) n = n
given_after (Hint q) n = n
given_after (Tick raised) n = n
given_after (Unback q) n = n
given_after (Unhint q) n = n

abbrev pub given_count : View → ℕ
given_count [] = 0
given_count (m ∷ v) = given_after m.step (given_count v)

-- ---- owed checks: a page was parked, or grains were put back without its right, so a look at this free word is owed, lest a free grain
-- be left on a page that nobody offers. A free word without a usable bit ends the debt, where the deed is known
-- the grains of a page that blocks of its directory may cover: those of the slots for a class, all of them otherwise
abbrev pub usable_by_kind : Kind → ℕ → Bool
usable_by_kind (Kind.Class class) grain = is_usable class grain
usable_by_kind Kind.Bitfit grain = true
usable_by_kind Kind.Shared grain = true
usable_by_kind Kind.Large grain = true

abbrev pub usable_by : Option Directory → ℕ → Bool
usable_by None grain = true
usable_by (Some d) grain = usable_by_kind d.kind grain

-- no usable grain of this free word is free, on a page with this deed word
abbrev pub no_usable : ℕ → ℕ → ℕ → Bool
no_usable deed word a = all_below 64 (λ b. not (has_bit a b && usable_by (directory_read deed) (64 * word + b)))

abbrev pub check_after_look : Word → ℕ → ℕ → ℕ → ℕ → Bool → Bool
check_after_look Word.Epoch a page word deed owed = owed
check_after_look (Word.Free q w) a page word deed owed = if (w == word) && (q == page) && not (deed == 0) && no_usable deed word a then false else owed
check_after_look (Word.Life q g) a page word deed owed = owed
check_after_look (Word.Deed q) a page word deed owed = owed
check_after_look (Word.Backed q) a page word deed owed = owed
check_after_look (Word.Stamp q) a page word deed owed = owed
check_after_look (Word.Parked j) a page word deed owed = owed
check_after_look (Word.Empty j) a page word deed owed = owed
check_after_look (Word.Eligible d j) a page word deed owed = owed

abbrev pub check_after : Step → ℕ → ℕ → ℕ → Bool → ℕ → Bool → Bool
check_after (Look w) a page word right deed owed = check_after_look w a page word deed owed
check_after (Deed q directory) a page word right deed owed = owed
check_after (Back q) a page word right deed owed = owed
check_after (Take q w mask) a page word right deed owed = owed
check_after (Put q w mask) a page word right deed owed = if (w == word) && (q == page) && not right then true else owed
check_after (Give block) a page word right deed owed = owed
check_after (End name guess) a page word right deed owed = owed
check_after (EndSized name room) a page word right deed owed = owed
check_after (TakeRight q directory) a page word right deed owed = owed
check_after (Offer q directory) a page word right deed owed = if q == page then false else owed
check_after (Park q) a page word right deed owed = if q == page then true else owed
check_after (Unpark q) a page word right deed owed = if q == page then false else owed
check_after (Stamp q) a page word right deed owed = owed
check_after (Hint q) a page word right deed owed = owed
check_after (Tick raised) a page word right deed owed = owed
check_after (Unback q) a page word right deed owed = owed
check_after (Unhint q) a page word right deed owed = owed

abbrev pub owes_check : View → ℕ → ℕ → Bool
owes_check [] page word = false
owes_check (m ∷ v) page word = check_after m.step m.answer page word (has_right v page) (known_deed v page) (owes_check v page word)

-- ---- owed hints: grains were put back, so the page may be empty, and its hint is owed. A free word that isn't all ones, and a backed word
-- that is 0, end the debt, and so does the hint itself
abbrev pub all_ones : ℕ
all_ones = 2 ^ 64 - 1

abbrev pub hint_after_look : Word → ℕ → ℕ → Bool → Bool
hint_after_look Word.Epoch a page owed = owed
hint_after_look (Word.Free q w) a page owed = if (q == page) && not (a == all_ones) then false else owed
hint_after_look (Word.Life q g) a page owed = owed
hint_after_look (Word.Deed q) a page owed = owed
hint_after_look (Word.Backed q) a page owed = if (q == page) && (a == 0) then false else owed
hint_after_look (Word.Stamp q) a page owed = owed
hint_after_look (Word.Parked j) a page owed = owed
hint_after_look (Word.Empty j) a page owed = owed
hint_after_look (Word.Eligible d j) a page owed = owed

abbrev pub hint_after : Step → ℕ → ℕ → Bool → Bool
hint_after (Look w) a page owed = hint_after_look w a page owed
hint_after (Deed q directory) a page owed = owed
hint_after (Back q) a page owed = owed
hint_after (Take q w mask) a page owed = if (q == page) && (not (a == all_ones) || not (bit_and a mask == 0)) then false else owed
hint_after (Put q w mask) a page owed = if q == page then true else owed
hint_after (Give block) a page owed = owed
hint_after (End name guess) a page owed = owed
hint_after (EndSized name room) a page owed = owed
hint_after (TakeRight q directory) a page owed = owed
hint_after (Offer q directory) a page owed = owed
hint_after (Park q) a page owed = owed
hint_after (Unpark q) a page owed = owed
hint_after (Stamp q) a page owed = owed
hint_after (Hint q) a page owed = if q == page then false else owed
hint_after (Tick raised) a page owed = owed
hint_after (Unback q) a page owed = owed
hint_after (Unhint q) a page owed = owed

abbrev pub owes_hint : View → ℕ → Bool
owes_hint [] page = false
owes_hint (m ∷ v) page = hint_after m.step m.answer page (owes_hint v page)

-- ---- examined pages: the actor cleared the page's empty bit, so it is the one that looks whether the page is empty. A free word that isn't all
-- ones, and a backed word that is 0, end the examination, and so does a hint
abbrev pub examined_after : Step → ℕ → ℕ → Bool → Bool
examined_after (Look word) a page was = hint_after_look word a page was
examined_after (Deed q directory) a page was = was
examined_after (Back q) a page was = was
examined_after (Take q word mask) a page was = hint_after (Take q word mask) a page was
examined_after (Put q word mask) a page was = was
examined_after (Give block) a page was = was
examined_after (End name guess) a page was = was
examined_after (EndSized name room) a page was = was
examined_after (TakeRight q directory) a page was = was
examined_after (Offer q directory) a page was = was
examined_after (Park q) a page was = was
examined_after (Unpark q) a page was = was
examined_after (Stamp q) a page was = was
examined_after (Hint q) a page was = if q == page then false else was
examined_after (Tick raised) a page was = was
examined_after (Unback q) a page was = was
examined_after (Unhint q) a page was = if (q == page) && has_bit a (page % 64) then true else was

abbrev pub examines : View → ℕ → Bool
examines [] page = false
examines (m ∷ v) page = examined_after m.step m.answer page (examines v page)
