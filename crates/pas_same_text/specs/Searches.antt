-- THE SEARCH of a small request, and what comes of a request: a block is given, or the request is refused.
use Rattle.std.specs.{Prelude.{ℕ, ◌+◌, ◌*◌, Bool, true, false, ◌&&◌, if◌then◌else◌, List, [], ◌∷◌, Option, None, Some, Result, Ok, Err}, List.find}
use Rattle.pas_profile.specs.declared.{directory.Directory.Directory, event.{Event.Event, NoRoom.NoRoom}, name.{Block.Block, Name.Name}}
use Rattle.pas_profile.specs.declared.profile.Profile.{Profile}
use Rattle.pas_machine.specs.State.{backed_in, gives_in}
use Rattle.pas_records.specs.declared.record.Record.{Record}
use Rattle.pas_answers.specs.Answers.{said_of_room}
use Rattle.pas_same_text.specs.{State.{World, shows, says, names_it}, Pages.{page_numbers, is_unowned, is_of, is_kept, is_offered}}

-- the list has a number
abbrev pub some_of : List ℕ → Bool
some_of [] = false
some_of (n ∷ ns) = true

-- ---- the search
-- a refusal: a page of the directory is kept, the lowest such one, or the directory has no page with room
abbrev pub refusal_by : Option ℕ → NoRoom
refusal_by None = NoRoom.NoSpace
refusal_by (Some page) = NoRoom.Held page

-- .. of a request of this directory
abbrev pub refusal : Profile → World → Directory → NoRoom
refusal f w d = refusal_by (find (λ p. is_of w d p && is_kept w p) (page_numbers f))

-- the page that was found, else another answer
abbrev pub page_or : Option ℕ → Result ℕ NoRoom → Result ℕ NoRoom
page_or (Some page) other = Ok page
page_or None other = other

-- THE PAGE that serves: the lowest offered one on which something fits; where there is none, the lowest that nobody has. `fits` says where on a page the
-- request would have its grains: nothing where it doesn't fit
abbrev pub searched : Profile → World → Directory → (ℕ → List ℕ) → Result ℕ NoRoom
searched f w d fits = page_or (find (λ p. is_offered w d p && some_of (fits p)) (page_numbers f)) (page_or (find (is_unowned w) (page_numbers f)) (Err (refusal f w d)))

-- ---- a page is made ready: it gets a deed where it has none, and memory where it has none
abbrev pub deeds : ℕ → Directory → ℕ → World → World
deeds k d page w = if is_unowned w page then shows (Event.Deed k page d) w else w

abbrev pub backs : ℕ → ℕ → World → World
backs k page w = if backed_in w.events page then w else shows (Event.Back k page) w

abbrev pub readies : ℕ → Directory → ℕ → World → World
readies k d page w = backs k page (deeds k d page w)

-- ---- what comes of a request of thread k under a name
-- a block at this grain of the page, whose turn is the number of blocks that were given at its address before
abbrev pub address_on : ℕ → ℕ → ℕ
address_on page grain = 4096 * page + 16 * grain

abbrev pub name_at : World → ℕ → Name
name_at w address = record { address = record { 0 = address }; turn = gives_in w.events address }

abbrev pub gives_block : ℕ → ℕ → Block → World → World
gives_block k name block w = names_it name (Some block) (shows (Event.Give k block) w)

abbrev pub gives : ℕ → ℕ → ℕ → ℕ → ℕ → World → World
gives k name heap address room w = gives_block k name (record { name = name_at w address; room = room; heap = heap }) w

-- or a line that says why there is none, and the name stands for nothing
abbrev pub refuses : ℕ → ℕ → NoRoom → World → World
refuses k name why w = names_it name None (says (Record.Said k (said_of_room name why)) w)
