-- REQUESTS OF A CLASS, which a thread's cache serves.
use Rattle.std.specs.Prelude.{ℕ, zero, suc, ◌+◌, ◌==◌, nat_le, Bool, true, false, not, ◌&&◌, if◌then◌else◌, List, [], ◌∷◌, ◌++◌, length, Option, None, Some}
use Rattle.std.specs.{Prelude.{Result, Ok, Err}, List.{find, filter}}
use Rattle.pas_profile.specs.{Classes.{class_size, class_grains, slots_of}, Requests.{class_home, is_shared}, declared.event.NoRoom.NoRoom}
use Rattle.pas_profile.specs.declared.profile.Profile.{Profile}
use Rattle.pas_same_text.specs.{State.{Local, World, locals_of, set_locals}, Pages.{are_free, minds}, Searches.{some_of, searched, readies, address_on, gives}}
use Rattle.pas_same_text.specs.Searches.{refuses}

-- ---- the slots that are taken of a page
-- n numbers, each by the step above the one before
abbrev pub spaced : ℕ → ℕ → ℕ → List ℕ
spaced from step zero = []
spaced from step (suc n) = from ∷ spaced (from + step) step n

-- the class's slots on the page that are free, by their first grains
abbrev pub free_slots : World → ℕ → ℕ → List ℕ
free_slots w class page = filter (λ s. are_free w page s (class_grains class)) (spaced 0 (class_grains class) (slots_of class))

-- those at the head of the list that follow each other, from this place on, n at most
abbrev pub row_from : ℕ → ℕ → ℕ → List ℕ → List ℕ
row_from next step zero slots = []
row_from next step (suc n) [] = []
row_from next step (suc n) (s ∷ slots) = if s == next then s ∷ row_from (next + step) step n slots else []

-- the first slot, and those that follow it without a break: four at most
abbrev pub first_row : ℕ → List ℕ → List ℕ
first_row step [] = []
first_row step (s ∷ slots) = row_from s step 4 (s ∷ slots)

-- of a page of its own a class gets all free slots; of one that classes share, the first few
abbrev pub slots_for : Bool → World → ℕ → ℕ → List ℕ
slots_for false w class page = free_slots w class page
slots_for true w class page = first_row (class_grains class) (free_slots w class page)

-- ---- local allocators of thread k
-- it is that of this heap and class
abbrev pub is_for : ℕ → ℕ → Local → Bool
is_for heap class l = (l.heap == heap) && (l.class == class)

-- those but the one of this heap and class
abbrev pub others : ℕ → ℕ → List Local → List Local
others heap class locals = filter (λ l. not (is_for heap class l)) locals

-- one goes: what it cached comes back to its page, which it keeps no longer
abbrev pub gives_up : ℕ → Local → World → World
gives_up k l w = minds l.page (set_locals k (others l.heap l.class (locals_of w k)) w)

-- a cache has room for 32: where there are as many, the one used longest ago goes
abbrev pub gives_up_first : ℕ → List Local → World → World
gives_up_first k [] w = w
gives_up_first k (l ∷ ls) w = if nat_le 32 (length (l ∷ ls)) then gives_up k l w else w

-- ---- a request
-- the lowest of these slots of the page is given, the others are cached, and their local allocator is the one used last
abbrev pub gives_first : ℕ → ℕ → Local → List ℕ → World → World
gives_first k name l [] w = w
gives_first k name l (s ∷ rest) w = gives k name l.heap (address_on l.page s) (class_size l.class) (set_locals k (others l.heap l.class (locals_of w k) ++ record l { slots = rest } ∷ []) w)

-- a local allocator with the slots that are taken of the page
abbrev pub local_on : Profile → World → ℕ → ℕ → ℕ → Local
local_on f w heap class page = record { page = page; heap = heap; class = class; slots = slots_for (is_shared f heap) w class page; keeps = not (is_shared f heap) }

-- the slots of the page that was found are taken, or the request is refused
abbrev pub takes_page : Profile → ℕ → ℕ → ℕ → ℕ → Result ℕ NoRoom → World → World
takes_page f k name heap class (Ok page) w = let l = local_on f w heap class page in gives_first k name l l.slots (readies k (class_home f heap class) page w)
takes_page f k name heap class (Err why) w = refuses k name why w

-- the request is served by a page that is searched for
abbrev pub fetches : Profile → ℕ → ℕ → ℕ → ℕ → World → World
fetches f k name heap class w = takes_page f k name heap class (searched f w (class_home f heap class) (slots_for (is_shared f heap) w class)) w

-- .. of this thread
abbrev pub makes_place : ℕ → World → World
makes_place k w = gives_up_first k (locals_of w k) w

-- A REQUEST OF A CLASS: the thread's local allocator of this heap and class gives its lowest slot. Where it has none left, it goes. Where there is none, there
-- is place for one in the cache first, and then a page is searched for.
abbrev pub serves_class_by : Profile → ℕ → ℕ → ℕ → ℕ → Option Local → World → World
serves_class_by f k name heap class None w = fetches f k name heap class (makes_place k w)
serves_class_by f k name heap class (Some l) w = if some_of l.slots then gives_first k name l l.slots w else fetches f k name heap class (gives_up k l w)

abbrev pub serves_class : Profile → ℕ → ℕ → ℕ → ℕ → World → World
serves_class f k name heap class w = serves_class_by f k name heap class (find (is_for heap class) (locals_of w k)) w
