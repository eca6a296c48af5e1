-- What an operation adds to the records.
use Rattle.std.proofs.Common.{[], ◌≡◌, ℕ, ◌+◌, ◌<◌, ◌≤◌, ◌++◌, List, ◌∷◌, length, drop, Option, Some, None, ap, sym, ◌∙◌, subst, arith, length-append}
use Rattle.std.proofs.{Common.{append_assoc, append-nil, map, reverse, ◌*◌, ◌/◌, ◌%◌, Bool, true, false, refl, true≢false, ◌-◌, ◌^◌}, Math.Seq.drop-append_seam}
use Rattle.std.proofs.Math.Nat.{zero-mod}
use Rattle.pas_answers.proofs.Common.{length-reverse, length-map, same_Some, AllByRecursion, Event, Block, Directory, Route, Profile, Guard, address_of}
use Rattle.pas_answers.proofs.Common.{grain_of, length_of, IsAlignment, all_both, all_map, Made, Step, View, events_by, Whole, Agreed, Calls, Standing, triples}
use Rattle.pas_answers.proofs.Common.{CanCall, Only, returning, kind_of, is_in, events_append, agreed_first, agreed_later, call_then, next_call, Spares}
use Rattle.pas_answers.proofs.Common.{spare_falls, unknown_no_more, What, Request, cost_of_size, large_cost, Cached, AtRest, Wanted, wanted_for, pages_of}
use Rattle.pas_answers.proofs.Common.{is_large, pages_asked, records_of, said_by, wanted_by, IsGiven, PerformsMeant, IsBlockOf, MayStand, said_of_guard}
use Rattle.pas_answers.proofs.Common.{raised_backs, raised_leaves, seeking, RaiseSteps, IsRaised, sweeping, SweptOne, Swept, large_directory, give_steps}
use Rattle.pas_answers.{proofs.Common.{records_in, room_of, Record, Said}, specs.{Calls.{MayAnswer, AnswersMeant}, Guarding.TryEnds, Keeping.owed_by_keeper}}
use Rattle.pas_answers.specs.Keeping.{MayTry, cost_of_try, TriesRequest, LowersAll}
use Rattle.pas_steps.specs.{Desks.{Seat, Adds}, Unknown.unknown_pages, declared.step.Step.TheVariants.Deed, Events.events_of, Noted.ShowsRest}
use Rattle.pas_steps.proofs.{Frames.{events_split, knows_still}, Noting.rest_more, Apart.{no_events, events_same}, Events.{ComesOf, comes_of, each_event}}
use Rattle.pas_steps.proofs.Past.{always_pair}
use Rattle.pas_cache.{specs.Serves.{IsDeedOf, IsPreparing}, proofs.Routes.{backs_only, deed_prepares}}
use Rattle.pas_guard.{proofs.Raises.{fits_find, raised_few}, specs.{Raises.{RaiseRoom, Raises}, Sweeps.Sweeps, Books.{FitsBook, guards_in, size_of_book}}}
use Rattle.pas_guard.specs.declared.book.GuardBook.{GuardBook}
use Rattle.pas_records.specs.Rooms.{Records}
use Rattle.pas_large.{proofs.{Finds.{of_directory, MadeOf}, Claims.{in_parts, span_in}, Gives.{run_is, back_events}}, specs.Claims.in_span}
use Rattle.pas_bits.specs.Runs.{in_run}
use Rattle.pas_bitfit.proofs.Aligned.{stands_aligned}

-- ---- what the desk shows
-- the events shown are those of each view, of which n were forgotten
abbrev pub IsShown : ℕ → Standing → List Event → Type 0
IsShown n σ shown = (v : View) (l : Whole) → σ.stands v l → ShowsRest n shown (events_of σ.seat.actor v)

-- What a desk answers to be shown is shown by it.
pub is_shown : (σ : Standing) {m n : ℕ} {told shown : List Event} → told ≡ shown → m ≡ n → IsShown m σ shown → IsShown n σ told
is_shown σ {m} {n} {told} {shown} is same shows v l stood = search arith

shown_more : {σ σ' : Standing} {C : View → Type 0} {steps : List Made} {n : ℕ} → Adds σ σ' C steps → (old new : List Event) → IsShown n σ old → IsShown n σ' new
    → (v : View) (l : Whole) → σ.stands v l → C v → new ≡ old ++ reverse (events_by σ.seat.actor v steps)
shown_more {σ} {σ'} {C} {steps} {n} adds old new before after v l stood met = search (arith, rest_more, events_split)

-- the events of a call are those from the place on where the earlier ones ended
shown_new : {σ σ' : Standing} {C : View → Type 0} {steps : List Made} {n : ℕ} → Adds σ σ' C steps → (old new : List Event) → IsShown n σ old
    → IsShown n σ' new
    → (v : View) (l : Whole) → σ.stands v l → C v → drop (length old) new ≡ reverse (events_by σ.seat.actor v steps)
shown_new {σ} {σ'} {C} {steps} {n} adds old new before after v l stood met =
    ap (drop (length old)) (shown_more adds old new before after v l stood met) ∙ drop-append_seam old (reverse (events_by σ.seat.actor v steps))

-- After a call a desk has shown no fewer events than before it.
pub shown_longer : {σ σ' : Standing} {C : View → Type 0} {steps : List Made} {n : ℕ} → Adds σ σ' C steps → (old new : List Event) → IsShown n σ old
    → IsShown n σ' new
    → CanCall σ C → length old ≤ length new
shown_longer {σ} {σ'} {C} {steps} {n} adds old new before after can =
    let n = ap (λ (es : List Event). length es) (shown_more adds old new before after can.view can.whole can.stood can.met) ∙ length-append old (reverse (events_by σ.seat.actor can.view steps)) in
    omega (arith, n)

-- ---- what an operation asks
pub can_rest : {σ : Standing} (c : Cached) (what : What) (spare : ℕ) (out : Records) → CanCall σ (MayAnswer σ.seat.profile c what spare out)
    → CanCall σ (AtRest σ.seat.profile c)
can_rest {σ} c what spare out can = record { view = can.view; whole = can.whole; stood = can.stood; met = can.met.may.rest }

-- ---- the records
-- there is room for the events, and for what is said besides
pub records_fit : {σ σ' said c' n : _} (what : What) (meant came : Option Block) (c : Cached) (spare : ℕ) (out : Records) (old new : List Event)
    → (can : CanCall σ (MayAnswer σ.seat.profile c what spare out))
    → PerformsMeant what meant came c c' σ σ' said → IsShown n σ old → IsShown n σ' new
    → length (records_in out) + length (drop (length old) new) + length (said_by σ.seat.actor said) ≤ room_of out
unfolding can_rest
records_fit {σ} {σ'} {said} {c'} {n} what meant came c spare out old new can performs before after =
    let rest = can_rest c what spare out can in
    let events = ap (λ (es : List Event). length es) (shown_new performs.calls.adds old new before after can.view can.whole can.stood rest.met) ∙ length-reverse (events_by σ.seat.actor can.view performs.steps) in
    omega (arith, events, performs.few can.view can.met.may.rest (performs.calls.adds.agreed can.view can.whole can.stood can.met.may.rest), can.met.records)

-- .. and room for what is said then
pub said_fits : {said : Option Said} (k : ℕ) (out pushed : Records) (events : List Event) (message : Said) → said ≡ Some message
    → length (records_in out) + length events + length (said_by k said) ≤ room_of out
    → records_in pushed ≡ records_in out ++ map Record.Event events → room_of pushed ≡ room_of out → length (records_in pushed) < room_of pushed
said_fits {said} k out pushed events message is fits added same = search (arith, length, length-append, map, length-map)

-- nothing is said besides, or this
pub nothing_said : {said : Option Said} (k : ℕ) (rs out : List Record) → said ≡ None → out ≡ rs → out ≡ rs ++ said_by k said
nothing_said k rs out is added = rw is (added ∙ sym (append-nil rs))

-- What was said is what was to be said.
pub this_said : {said : Option Said} (k actor : ℕ) (rs pushed out : List Record) (message : Said) → said ≡ Some message → actor ≡ k → pushed ≡ rs
    → out ≡ pushed ++ Record.Said actor message ∷ [] → out ≡ rs ++ said_by k said
this_said k actor rs pushed out message is own added last = rw (is, ← own, ← added) last

-- An operation that was performed, and whose events and what is said came to the records, is answered.
pub answers : {σ σ' : Standing} {said : Option Said} {n : ℕ} (Named : Option ℕ → Type 0) (what : What) (meant came : Option Block) (c c' : Cached)
    (out out' : Records) (old new : List Event) (performs : PerformsMeant what meant came c c' σ σ' said)
    → Named performs.found → IsShown n σ old → IsShown n σ' new
    → records_in out' ≡ (records_in out ++ map Record.Event (drop (length old) new)) ++ said_by σ.seat.actor said → room_of out' ≡ room_of out
    → (did : AnswersMeant what meant came c c' out out' σ σ') × Named did.performs.found
answers {σ} {said = said} Named what meant came c c' out out' old new performs named before after added room = (
  record {
    said = said;
    performs = performs;
    pushed = λ v l stood rest. added
        ∙ ap (λ es. (records_in out ++ map Record.Event es) ++ said_by σ.seat.actor said) (shown_new performs.calls.adds old new before after v l stood rest)
        ∙ append_assoc (records_in out) (records_of (events_by σ.seat.actor v performs.steps)) (said_by σ.seat.actor said);
    room = room;
  },
  named,
)

-- ==== What a keeper's two calls come to for a request that it tries, and at the close.

-- ---- a sweep
one_count : (t : Bool) (k : ℕ) (guard : Guard) (first : List Made) (kept after : List Guard) (said more : List Record)
    → SweptOne t k guard first kept after said more → length said + length kept ≡ length more + length after + 1
one_count t k guard first kept after said more h = search (arith, length)

-- each guard stays up, or is said to be lowered
pub swept_count : (all : Bool) (k : ℕ) (guards kept : List Guard) (said : List Record) (steps : List Made) → Swept all k guards kept said steps
    → length said + length kept ≡ length guards
swept_count all k [] kept said steps h = let kept_is = ap (λ (gs : List Guard). length gs) h.0 in let said_is = ap (λ (rs : List Record). length rs) h.1 in omega (arith, kept_is, said_is)
swept_count all k (guard ∷ guards) kept said steps h = let rest = swept_count all k guards h.3 h.4 h.2 h.6 in search (arith, rest, one_count)

-- .. and none where all are to go
all_gone : (k : ℕ) (guards kept : List Guard) (said : List Record) (steps : List Made) → Swept true k guards kept said steps → kept ≡ []
all_gone k [] kept said steps h = h.0
all_gone k (guard ∷ guards) kept said steps h = h.5.1 ∙ all_gone k guards h.3 h.4 h.2 h.6

sweep_call : {σ σ' : Standing} {all : Bool} {guards guards' : List Guard} {said said' : List Record} → (s : Sweeps all guards guards' said said' σ σ')
    → Calls σ σ' (FitsBook σ.seat.profile guards) (λ v w. FitsBook σ.seat.profile guards' w) s.steps
sweep_call s = record { adds = s.adds; leads = s.sweep.fits }

sweep_silent : {σ σ' all guards guards' said said' : _} → (s : Sweeps all guards guards' said said' σ σ') → (k : ℕ) (v : View) → events_by k v s.steps ≡ []
sweep_silent s k v = no_events sweeping refl k v s.steps s.sweep.kinds

-- A sweep leaves no more guards up than before.
pub fewer_up : {σ σ' all guards guards' said said' : _} → Sweeps all guards guards' said said' σ σ' → length guards' ≤ length guards
fewer_up {σ} {all = all} {guards = guards} {guards' = guards'} s = let count = swept_count all σ.seat.actor guards guards' s.more s.steps s.sweep.swept in omega (arith, count)

-- ---- the close
pub lowers_all : {σ σ' book book' out out' : _} → Sweeps true (guards_in book) (guards_in book') (records_in out) (records_in out') σ σ'
    → room_of out' ≡ room_of out → size_of_book book' ≡ size_of_book book → LowersAll book book' out out' σ σ'
lowers_all {σ} {book = book} {book' = book'} s room size =
    search (arith, all_gone, sweep_call, swept_count)

-- ---- what a raise made
deed_sought : (d : Directory) (k : ℕ) (s : Step) (a : ℕ) (e : Event) → is_in seeking (kind_of s) ≡ true
    → ((p : ℕ) (x : Directory) → s ≡ Deed p x → a ≡ 0 → x ≡ d) → ComesOf k s a e → IsDeedOf d e
deed_sought d k s a (Event.Deed j p x) is made comes = subst (λ y. IsDeedOf d (Event.Deed j p y)) (sym (made p x comes.step.0 comes.step.1)) (IsDeedOf.Deeds j p)
deed_sought d k s a e is made comes = absurd (true≢false (sym is ∙ ap (is_in seeking) comes.kind))

deeds_sought : (d : Directory) (steps : List Made) → Only seeking steps → MadeOf d steps → (k : ℕ) (v : View)
    → AllByRecursion (IsDeedOf d) (events_by k v steps)
deeds_sought d steps kinds deeds k v = each_event (IsDeedOf d) (λ m before. (is_in seeking (kind_of m.step) ≡ true) × ((p : ℕ) (x : Directory) → m.step ≡ Deed p x → m.answer ≡ 0 → x ≡ d)) k v
    (λ m before epoch e h is. deed_sought d k m.step m.answer e h.0 h.1 (comes_of k epoch m.step m.answer e is)) steps
    (always_pair (λ m before. is_in seeking (kind_of m.step) ≡ true) (λ m before. (p : ℕ) (x : Directory) → m.step ≡ Deed p x → m.answer ≡ 0 → x ≡ d) steps kinds deeds)

-- how many events it makes at most, beside deeds that weren't known
abbrev cost_of_raise : ℕ → Option Block → ℕ
cost_of_raise n None = 0
cost_of_raise n (Some block) = n + 1

-- the guards are those before it, and one more where it gave a block
abbrev more_guards : Option Block → ℕ
more_guards None = 0
more_guards (Some block) = 1

module _ (f : Profile) (heap n : ℕ) (guards guards' : List Guard) (steps : List Made) where
  abbrev d : Directory
  d = large_directory heap

  abbrev Raised : Option Block → Type 0
  Raised answer = RaiseSteps f heap n guards guards' answer steps

  -- ---- where it gave none
  none_is : (is : Raised None) → steps ≡ is.searched
  none_is is = is.steps_are ∙ ap (λ (xs : List Made). xs ++ is.searched) is.outcome.nothing

  none_ends : Raised None → (k : ℕ) (v : View) → FitsBook f guards v → Agreed f v steps → AllByRecursion (IsDeedOf d) (events_by k v steps)
  none_ends is k v fits agreed = search (arith, fits_find, none_is, deeds_sought, of_directory)

  -- ---- where it gave a block
  module _ (block : Block) (is : Raised (Some block)) where
    abbrev up : IsRaised f d n guards guards' is.searched is.after block
    up = is.outcome

    -- those steps of the give and of the backs before it
    abbrev given : List Made
    given = give_steps (up.first + 1) 0 block up.word up.answer ++ up.backs

    some_is : steps ≡ up.left ++ (given ++ is.searched)
    some_is = is.steps_are ∙ ap (λ (xs : List Made). xs ++ is.searched) up.after_is ∙ append_assoc up.left given is.searched

    events_are : (k : ℕ) (v : View) → events_by k v steps ≡ Event.Give k block ∷ (events_by k (is.searched ++ v) up.backs ++ events_by k v is.searched)
    events_are k v = ap (events_by k v) some_is ∙ events_same returning refl k v up.left (given ++ is.searched) (raised_leaves up)
        ∙ ap (λ (es : List Event). Event.Give k block ∷ es) (events_append k up.backs is.searched v)

    turn_small : (v : View) → Agreed f v steps → block.name.turn < 2 ^ 37
    turn_small v agreed =
        let all = agreed_later f v up.left (given ++ is.searched) (subst (Agreed f v) some_is agreed) in
        omega (arith, ap (λ (b : Block). b.name.turn) up.block_is, (agreed_first f v given is.searched all).1.0.turn)

    page_is : address_of block.name ≡ (up.first + 1) * 4096
    page_is = ap (λ (b : Block). address_of b.name) up.block_is

    block_of_region : (v : View) → heap < f.heaps → 1 ≤ n → n ≤ f.pages → Agreed f v steps → IsBlockOf f block
    block_of_region v of some within agreed = search (arith, turn_small, page_is)

    some_ends : (k align : ℕ) (v : View) → FitsBook f guards v → Agreed f v steps → address_of block.name % align ≡ 0
        → IsGiven k (record { directory = d; route = Route.Large; room = n * 4096; align = align }) v steps block
    some_ends k align v fits agreed aligned =
        record {
          of_heap = ap (λ (b : Block). b.heap) up.block_is;
          room = ap (λ (b : Block). b.room) up.block_is;
          placed = omega (arith, page_is);
          aligned = aligned;
          of_directory = λ g inside.
              let all = subst (Agreed f v) is.steps_are agreed in
              let span = up.found.got.from v (fits_find f d guards v fits) (agreed_later f v is.after is.searched all) in
              let page : in_span (up.first + 1) (up.first + 1 + n) (g / 256) ≡ true = sym (run_is d (up.first + 1) n up.word g) ∙ ap (λ (b : Block). in_run (grain_of b.name) (length_of b) g) (sym up.block_is) ∙ inside in
              let at = in_parts (up.first + 1) (up.first + 1 + n) (g / 256) page in
              let before = span.got.deeds (g / 256) (span_in up.first (up.first + (n + 2)) (g / 256) (omega (arith, at.0)) (omega (arith, at.1))) in
              rw (is.steps_are, append_assoc) (knows_still f d (g / 256) is.after (is.searched ++ v) (agreed_first f v is.after is.searched all) before);
          before = events_by k (is.searched ++ v) up.backs ++ events_by k v is.searched;
          events = events_are k v;
          prepared = all_both (IsPreparing d) (events_by k (is.searched ++ v) up.backs) (events_by k v is.searched)
              (backs_only d up.backs (raised_backs up) k (is.searched ++ v)) (all_map (IsDeedOf d) (IsPreparing d) (events_by k v is.searched) (deed_prepares d)
              (deeds_sought d is.searched is.kinds (of_directory d (n + 2) _ is.searched
              (up.found.deeds v (fits_find f d guards v fits) (agreed_later f v is.after is.searched (subst (Agreed f v) is.steps_are agreed)))) k v));
        }

    stands_so : (align : ℕ) → IsAlignment align → address_of block.name % align ≡ 0
    stands_so align alignment = ap (λ (a : ℕ). a % align) page_is ∙ ap (λ a. a % align) (omega arith) ∙ stands_aligned (up.first + 1) 0 align alignment (zero-mod (align / 16))

  -- ---- how many events
  raise_few : (answer : Option Block) → Raised answer → (k : ℕ) (v : View) → Agreed f v steps
      → length (events_by k v steps) + unknown_pages f (steps ++ v) ≤ cost_of_raise n answer + unknown_pages f v
  raise_few None is k v agreed = search (arith, none_is)
  raise_few (Some block) is k v agreed =
      let all = subst (Agreed f v) is.steps_are agreed in
      let stays = unknown_no_more f is.after (is.searched ++ v) (agreed_first f v is.after is.searched all) in
      let left = ap (λ (xs : List Made). unknown_pages f (xs ++ v)) is.steps_are ∙ ap (λ (w : View). unknown_pages f w) (append_assoc is.after is.searched v) in
      let events = ap (λ (es : List Event). length es) (events_are block is k v) in
      let both = length-append (events_by k (is.searched ++ v) is.outcome.backs) (events_by k v is.searched) in
      let backs = back_events k (is.searched ++ v) is.outcome.backs in
      omega (arith, is.shows k v (agreed_later f v is.after is.searched all), stays, left, events, both, backs, raised_few is.outcome)

-- ---- what is asked for
-- a request for whole pages, by how many
pages_wanted : (f : Profile) (heap size align n : ℕ) → n ≡ (size + 4096 - 1) / 4096 → 2048 < size
    → record { directory = large_directory heap; route = Route.Large; room = n * 4096; align = align } ≡ wanted_for f heap size align
pages_wanted f heap size align n is large = search (arith, is_large)

count_wanted : (f : Profile) (r : Request) (n : ℕ) → n ≡ (r.size + 4096 - 1) / 4096 → 2048 < r.size → n ≡ pages_of (wanted_by f r)
count_wanted f r n is large = is ∙ sym (pages_asked f r.size r.align (is_large f.classes r.size r.align large))

-- its cost
cost_wanted : (size n : ℕ) → n ≡ (size + 4096 - 1) / 4096 → 2048 < size → n + 1 ≡ cost_of_size size
cost_wanted size n is large = let cost = large_cost size large in omega (arith, is, cost)

ends_by : (f : Profile) (k n : ℕ) (r : Request) (guards guards' : List Guard) (steps : List Made) (v : View) (answer : Option Block)
    → n ≡ (r.size + 4096 - 1) / 4096 → 2048 < r.size → IsAlignment r.align → RaiseSteps f r.heap n guards guards' answer steps
    → FitsBook f guards v → Agreed f v steps → TryEnds f k r v steps answer
ends_by f k n r guards guards' steps v None is large alignment raise fits agreed = subst (λ (w : Wanted). AllByRecursion (IsDeedOf w.directory)
    (events_by k v steps)) (pages_wanted f r.heap r.size r.align n is large) (none_ends f r.heap n guards guards' steps raise k v fits agreed)
ends_by f k n r guards guards' steps v (Some block) is large alignment raise fits agreed =
    subst (λ (w : Wanted). IsGiven k w v steps block) (pages_wanted f r.heap r.size r.align n is large)
    (some_ends f r.heap n guards guards' steps block raise k r.align v fits agreed (stands_so f r.heap n guards guards' steps block raise r.align alignment))

-- ---- what may come after the sweep
pub can_sweep : {σ book size spare out : _} → CanCall σ (MayTry σ.seat.profile book size spare out) → CanCall σ (FitsBook σ.seat.profile (guards_in book))
can_sweep can = record { view = can.view; whole = can.whole; stood = can.stood; met = can.met.fits }

module _ {σ σ1 : Standing} {said said' : List Record} {guards1 : List Guard} (book : GuardBook) (size spare spare1 : ℕ) (out : Records)
    (can : CanCall σ (MayTry σ.seat.profile book size spare out)) (s : Sweeps false (guards_in book) guards1 said said' σ σ1) where
  abbrev fit : CanCall σ (FitsBook σ.seat.profile (guards_in book))
  fit = record { view = can.view; whole = can.whole; stood = can.stood; met = can.met.fits }

  -- After its sweep a keeper may raise a guard, with room for its events.
  pub can_raise : (n : ℕ) → n ≡ (size + 4096 - 1) / 4096 → 2048 < size → Spares σ spare → Spares σ1 spare1
      → CanCall σ1 (RaiseRoom σ1.seat.profile guards1 (n + 1) spare1)
  can_raise n is large law law1 =
      let agreed = s.adds.agreed can.view can.whole can.stood can.met.fits in
      let none = ap (λ (es : List Event). length es) (sweep_silent s σ.seat.actor can.view) in
      let left = spare_falls {C = FitsBook σ.seat.profile (guards_in book)} spare spare1 0 s.adds fit law law1 none in
      let unknown = unknown_no_more σ.seat.profile s.steps can.view agreed in
      let cost = cost_wanted size n is large in
      record {
        view = s.steps ++ can.view;
        whole = triples σ.seat.actor s.steps ++ can.whole;
        stood = s.adds.added can.view can.whole can.stood can.met.fits;
        met = rw s.adds.seat_is (record { fits = s.sweep.fits.from can.view can.met.fits agreed; room = omega (arith, left, unknown, can.met.room, cost) });
      }

-- ---- what both calls come to
module _ {σ σ1 σ2 : Standing} (r : Request) (book book1 book2 : GuardBook) (out out1 : Records) (answer : Option Block) (n : ℕ)
    (is : n ≡ (r.size + 4096 - 1) / 4096) (large : 2048 < r.size)
    (s : Sweeps false (guards_in book) (guards_in book1) (records_in out) (records_in out1) σ σ1)
    (u : Raises r.heap n (guards_in book1) (guards_in book2) σ1 σ2 answer) where
  abbrev guards1 : List Guard
  guards1 = guards_in book1

  abbrev guards2 : List Guard
  guards2 = guards_in book2

  abbrev f : Profile
  f = σ.seat.profile

  abbrev k : ℕ
  k = σ.seat.actor

  abbrev steps : List Made
  steps = u.steps ++ s.steps

  raise_so : RaiseSteps f r.heap n guards1 guards2 answer u.steps
  raise_so = subst (λ (x : Seat). RaiseSteps x.profile r.heap n guards1 guards2 answer u.steps) s.adds.seat_is u.raise

  both_call : Calls σ σ2 (FitsBook f (guards_in book)) (λ v w. FitsBook f guards2 w) steps
  both_call = call_then (λ v w. FitsBook f guards2 w) (sweep_call s) (subst (λ (x : Seat). Calls σ1 σ2 (FitsBook x.profile guards1)
      (λ v w. FitsBook x.profile guards2 w) u.steps) s.adds.seat_is
      (record { adds = u.adds; leads = u.raise.fits })) (λ v met here. here) (λ v met here later. later)

  -- after the sweep
  fits_then : (v : View) → FitsBook f (guards_in book) v → Agreed f v s.steps → FitsBook f guards1 (s.steps ++ v)
  fits_then v met agreed = s.sweep.fits.from v met agreed

  events_then : (v : View) → events_by k v steps ≡ events_by k (s.steps ++ v) u.steps
  events_then v = events_append k u.steps s.steps v ∙ ap (λ (es : List Event). events_by k (s.steps ++ v) u.steps ++ es) (sweep_silent s k v) ∙ append-nil (events_by k (s.steps ++ v) u.steps)

  -- the events and the deeds that aren't known then
  few_then : (v : View) → Agreed f v steps
      → length (events_by k (s.steps ++ v) u.steps) + unknown_pages f (steps ++ v) ≤ cost_of_raise n answer + unknown_pages f v
  few_then v agreed =
      let few = raise_few f r.heap n guards1 guards2 u.steps answer raise_so k (s.steps ++ v) (agreed_first f v u.steps s.steps agreed) in
      let left = ap (λ (w : View). unknown_pages f w) (append_assoc u.steps s.steps v) in
      omega (arith, few, unknown_no_more f s.steps v (agreed_later f v u.steps s.steps agreed), left)

  most_cost : (a : Option Block) → cost_of_raise n a ≤ cost_of_size r.size
  most_cost a = search (arith, cost_wanted)

  -- what is said
  abbrev told : View → List Record
  told v = s.more ++ (records_of (events_by k (s.steps ++ v) u.steps) ++ said_of_guard k r.name (pages_of (wanted_by f r)) answer)

  one_told : (a : Option Block) (m : ℕ) → length (said_of_guard k r.name m a) + more_guards a + cost_of_raise n a ≤ cost_of_try r.size a
  one_told a m = search (arith, cost_wanted)

  -- The records of a try and what its keeper owes afterwards are paid for.
  paid : (v : View) → Agreed f v steps
      → length (told v) + owed_by_keeper f guards2 (steps ++ v) ≤ cost_of_try r.size answer + owed_by_keeper f (guards_in book) v
  paid v agreed = search (arith, swept_count, length, raise_so, length-append, length-map, reverse, length-reverse, few_then, one_told)

  -- ---- the next calls
  -- After a raise a desk has shown no fewer events than before it.
  pub more_shown : {gone : ℕ} (old new : List Event) → IsShown gone σ1 old → IsShown gone σ2 new → CanCall σ (FitsBook f (guards_in book))
      → length old ≤ length new
  more_shown {gone} old new before after can = shown_longer u.adds old new before after
      (next_call (sweep_call s) can (λ v met here. subst (λ (x : Seat). FitsBook x.profile guards1 (s.steps ++ v)) (sym s.adds.seat_is) here))

  -- the events that are shown more are those of the raise
  shown_of : {gone : ℕ} (old new : List Event) → IsShown gone σ1 old → IsShown gone σ2 new → (v : View) (l : Whole) → σ.stands v l
      → FitsBook f (guards_in book) v
      → drop (length old) new ≡ reverse (events_by k (s.steps ++ v) u.steps)
  shown_of {gone} old new before after v l stood met =
      let here = fits_then v met (s.adds.agreed v l stood met) in
      shown_new u.adds old new before after (s.steps ++ v) (triples k s.steps ++ l) (s.adds.added v l stood met) (subst (λ (x : Seat). FitsBook x.profile guards1 (s.steps ++ v)) (sym s.adds.seat_is) here)
      ∙ ap (λ (x : Seat). reverse (events_by x.actor (s.steps ++ v) u.steps)) s.adds.seat_is

  both_agreed : (v : View) (l : Whole) → σ.stands v l → FitsBook f (guards_in book) v → Agreed f v steps
  both_agreed v l stood met = both_call.adds.agreed v l stood met

  -- there is room for what is said
  pub told_fits : {gone : ℕ} (spare : ℕ) (old new : List Event) → IsShown gone σ1 old → IsShown gone σ2 new → CanCall σ (MayTry f book r.size spare out)
      → length (records_in out1) + length (drop (length old) new) + 1 ≤ room_of out
  told_fits {gone} spare old new before after can =
      let v = can.view in
      let es = events_by k (s.steps ++ v) u.steps in
      let shown = ap (λ (xs : List Event). length xs) (shown_of old new before after v can.whole can.stood can.met.fits) ∙ length-reverse es in
      let few = few_then v (both_agreed v can.whole can.stood can.met.fits) in
      let count = swept_count false k (guards_in book) guards1 s.more s.steps s.sweep.swept in
      omega (arith, shown, few, most_cost answer, count, ap (λ (rs : List Record). length rs) s.added ∙ length-append (records_in out) s.more, can.met.records)

  -- ---- the answer
  -- the block that was given may be freed
  stands_by : (a : Option Block) (v : View) → r.heap < f.heaps → r.size ≤ f.pages * 4096 → RaiseSteps f r.heap n guards1 guards2 a u.steps → Agreed f v u.steps
      → MayStand f a
  stands_by None v of within raise agreed = λ block same. absurd (let bad : None ≡ Some block = same in cc)
  stands_by (Some block) v of within raise agreed = λ b same.
      subst (IsBlockOf f) (same_Some _ _ same) (block_of_region f r.heap n guards1 guards2 u.steps block raise v of (omega (arith, is, large)) (omega (arith, is, within)) agreed)

  -- The block of a raise may stand for its name in the region.
  pub given_stands : r.heap < f.heaps → r.size ≤ f.pages * 4096 → CanCall σ (FitsBook f (guards_in book)) → MayStand f answer
  given_stands of within can = stands_by answer (s.steps ++ can.view) of within raise_so (agreed_first f can.view u.steps s.steps (both_agreed can.view can.whole can.stood can.met))

  -- what is said of the guard that went up, if any
  pub said_some : (block : Block) (actor : ℕ) (message : Said) → actor ≡ σ2.seat.actor
      → message ≡ Said.Guarded (address_of block.name / 4096 - 1) (address_of block.name / 4096 + n) r.name
      → Record.Said actor message ∷ [] ≡ said_of_guard k r.name (pages_of (wanted_by f r)) (Some block)
  said_some block actor message actor_is message_is = search (arith, count_wanted)

  -- Where a raise gave no block, nothing more is said of a guard.
  pub said_none : (rs : List Record) → answer ≡ None → rs ≡ rs ++ said_of_guard k r.name (pages_of (wanted_by f r)) answer
  said_none rs none = sym (ap (λ (a : Option Block). rs ++ said_of_guard k r.name (pages_of (wanted_by f r)) a) none ∙ append-nil rs)

  -- A sweep and a raise after it, with what is said of both, are a keeper's try of a request.
  pub tries : {gone : ℕ} (out2 out3 : Records) (old new : List Event) → IsAlignment r.align → IsShown gone σ1 old → IsShown gone σ2 new
      → records_in out2 ≡ records_in out1 ++ map Record.Event (drop (length old) new)
      → records_in out3 ≡ records_in out2 ++ said_of_guard k r.name (pages_of (wanted_by f r)) answer → room_of out3 ≡ room_of out
      → size_of_book book2 ≡ size_of_book book → TriesRequest r book book2 out out3 σ σ2 answer
  tries {gone} out2 out3 old new alignment before after events last room size = record {
    steps = steps;
    calls = both_call;
    short = search (arith, count_wanted, raise_so, length-append);
    few = λ v met agreed. search (arith, events_then, few_then, most_cost);
    tried = λ v l stood met.
        let agreed = both_agreed v l stood met in
        let first = agreed_later f v u.steps s.steps agreed in
        let shown = shown_of old new before after v l stood met in
        let raise = subst (λ (m : ℕ). RaiseSteps f r.heap m guards1 guards2 answer u.steps) (count_wanted f r n is large) raise_so in
        let ends = ends_by f k n r guards1 guards2 u.steps (s.steps ++ v) answer is large alignment raise_so (fits_then v met first)
        (agreed_first f v u.steps s.steps agreed) in
        (told v, search arith, search (arith, shown, append_assoc), paid v agreed);
    room = room;
    size = size;
  }
