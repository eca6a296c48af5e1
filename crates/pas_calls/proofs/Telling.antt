-- What a check knows of a replay: lines that lead it on, logs, guards in books; and the lines of a log that is emptied, by a flush or a stop.
use Rattle.std.proofs.Common.{◌≡◌, ℕ, List, [], ◌∷◌, ◌++◌, inl, inr, refl, ap, sym, subst, append_assoc, arith, Bool, true, false, if◌then◌else◌, ◌∙◌, map}
use Rattle.std.proofs.Common.{reverse, eq-eqb, ne_eqb, ◌==◌, nat_lt, not, ◌≢◌, ◌%◌, ◌&&◌, ◌||◌, eqb-true, append-nil, ◌/◌, Option, Some, None}
use Rattle.std.proofs.lemmas.{List.{Elements.{filter-append, All-filter, All-from_recursion, recursion_from_All}, map-append, reverse-append}, Bool.cases_eq}
use Rattle.std.{proofs.lemmas.{Bool.{eqb-false, false≢true, cond_both}, Option.{none-some, same_Some}}, specs.List.{AllByRecursion, filter}}
use Rattle.pas_profile.specs.declared.{profile.Profile.Profile, event.Event.Event, word.Word.Word, name.Name.Name, entry.Entry.Entry, guard.Raised.Raised}
use Rattle.pas_profile.specs.{declared.{guard.Guard.Guard, directory.{Directory.Directory, Route.Route}}, Guards.{guards_of, raised_by}, Blocks.address_of}
use Rattle.pas_profile.specs.{Blocks.grain_of, Directories.{deed_word_of, IsKind}, Lives.live_word, Profiles.IsValid, Entries.is_sized, Requests.is_shared}
use Rattle.pas_profile.{specs.Requests.{kind_of_route, route_in}, proofs.{Lists.all_both, Sizes.{class_known, class_suits}, Codecs.deed_word_of-positive}}
use Rattle.pas_profile.proofs.Codecs.{same_from_deed_word}
use Rattle.pas_check.specs.{Accepted.{IsDone, IsWhole}, Calls.Differs, Takes.{Takes, TakesDue, MayRefuse, IsEventOf, directory_of}, Begins.after_task}
use Rattle.pas_check.specs.{Begins.{flushing, past_outcomes, ready, ready_with, goes_down, entries_due}, States.{Due, Examines, Stand, Task, with_due, with_at}}
use Rattle.pas_check.{specs.States.Frees, proofs.{ActsOfPlans.begun_alike, Leads.{at_first, by_none}, OneNext.{end_is, reject_is}, Ticks.epoch_kept}}
use Rattle.pas_steps.specs.{Desks.{triples, made}, Events.{event_of, events_by, with_event}, Views.{epoch_of, KnowsDeed}, InTurn.InTurn, Effects.life_word_at}
use Rattle.pas_steps.specs.{Lists.{Whole, part, visible, Legal, word_after}, declared.step.{Made.Made, Step.{Step, TheVariants.{Look, Stamp, EndSized}}}}
use Rattle.pas_steps.{specs.Kinds.{Kinds, Only, Putting, is_in, kind_of, returning}, proofs.{Frames.{with_append, events_append}, Parts.part_of_own}}
use Rattle.pas_steps.proofs.{Apart.{only_both, only_within}, Calls.returns_are, Adding.triples_append}
use Rattle.pas_cache.specs.{Caches.Cached, Changes.EmptiesLog, Kinds.releasing}
use Rattle.pas_answers.{specs.Answers.{Caches, records_of, with_cache, Books, with_book, Progress, IsStopped}, proofs.Consequences.{tidy_piece, Tidy}}
use Rattle.pas_answers.proofs.{Consequences.stop_tidy, Reached.{Each, legal_part, of_front}}
use Rattle.pas_free_log.specs.{Endings.{reason_for, EndSteps, Tries, TriesBy, last_step}, declared.ending.Outcome.{Outcome, TheVariants.{Ended, Refused}}}
use Rattle.pas_free_log.specs.{declared.noting.EndedRun.EndedRun, Flushes.{AfterEnd, EntrySteps, Settled, EntriesSteps, event_for, shown_for}, Frames.freeing}
use Rattle.pas_free_log.specs.{Returns.{PageSteps, count_on, first_on}, Stamps.{page_count, pages_from}}
use Rattle.pas_machine.specs.{State.{ends_in, Live, gives_in, live_in, deed_in}, Machine.{HasOtherRoom, Admits, Run}}
use Rattle.pas_trace.specs.{Named.Named, declared.item.Request.Request}
use Rattle.pas_rights.proofs.{Orders.return_returns, Puts.puts_kinds}
use Rattle.pas_core.{specs.Good.{IsLifeOf, IsLifeOfLive, word_of_deed}, proofs.{Lives.{block_of_word, life_at}, OneActor.legal_earlier, MachineRuns.runs}}
use Rattle.pas_core.proofs.{Deeds.{deed_of, directory_is_of, known_is}, Rights.deeds_known}
use Rattle.pas_records.{specs.{Lines.{line_of, line_of_event}, declared.record.Record.Record}, proofs.Showable.AreOfRegion}

-- ---- Lines that lead a check from one state to another
-- where thread k's log is being emptied, and has these entries afterwards, when this is due
abbrev pub emptying : Stand → ℕ → List Entry → List Due → List Task → Stand
emptying s k log more ts = record (flushing s k log more) { left = ts }

-- The lines lead from one state to the other: whatever is whole from there on is whole with them from here on.
pub record LeadsOn (f : Profile) (s : Stand) (lines : List (List ℕ)) (t : Stand) : Type 0 where
  pub on : (more : List (List ℕ)) → IsWhole f t more → IsWhole f s (lines ++ more)

module _ {f : Profile} {s : Stand} where
  -- The same state is led on to without a line.
  pub on_same : {t : Stand} → s ≡ t → LeadsOn f s [] t
  on_same same = record { on = λ more whole. subst (λ (u : Stand). IsWhole f u more) (sym same) whole }

  -- A line that may come leads on to what stands after it.
  pub on_line : {t : Stand} {line : List ℕ} → Takes f s line t → LeadsOn f s (line ∷ []) t
  on_line {t = t} takes = record { on = λ more whole. (whole.0, (t, takes, whole.1), whole.2) }

  -- Lines that lead on one after the other lead on together.
  pub on_both : {t u : Stand} {xs ys : List (List ℕ)} → LeadsOn f s xs t → LeadsOn f t ys u → LeadsOn f s (xs ++ ys) u
  on_both {xs = xs} {ys = ys} a b = record { on = λ more whole. subst (IsWhole f s) (sym (append_assoc xs ys more)) (a.on (ys ++ more) (b.on more whole)) }

  -- Lines lead on by whatever names they and the state have.
  pub on_as : {t u : Stand} {xs ys : List (List ℕ)} → ys ≡ xs → u ≡ t → LeadsOn f s xs t → LeadsOn f s ys u
  on_as {u = u} {xs = xs} lines same a = subst (λ (ls : List (List ℕ)). LeadsOn f s ls u) (sym lines) (subst (λ (x : Stand). LeadsOn f s xs x) (sym same) a)

  -- Where nothing is due, that is what is led on to.
  pub on_done : {t : Stand} {lines : List (List ℕ)} → t.due ≡ [] → LeadsOn f s lines t → LeadsOn f s lines (with_due t [])
  on_done {t = t} due led = on_as refl (ap (with_due t) (sym due)) led

  -- a task is begun without a line
  pub on_task : {t : Task} {ts : List Task} → s.due ≡ [] → s.left ≡ t ∷ ts → LeadsOn f s [] (after_task f s t ts)
  on_task {t = t} {ts = ts} due left =
      record { on = λ more. ((by_none f s s (after_task f s t ts) [] (begun_alike f s t ts due left) (at_first f s)).whole more).1 }

-- no more outcomes of a pass come
module _ (f : Profile) (s : Stand) (last : ℕ) (due : s.due ≡ Examines last ∷ []) where
  past_ready : ready f s ≡ ready f (with_due s [])
  past_ready = ap (λ (ds : List Due). ready_with f s (past_outcomes ds)) due

  -- Where outcomes of a pass alone are due, the check goes on without a line.
  pub on_past : LeadsOn f s [] (with_due s [])
  on_past = record { on = past }
    where
      -- the first thing due,
      first : (next : Stand) (line : List ℕ) → Takes f (with_due s []) line next → Takes f s line next
      first next line (inl none) = absurd none
      first next line (inr takes) = inr (subst (λ (u : Stand). TakesDue f u u.due line next) (sym past_ready) takes)

      -- What is whole with nothing due is whole.
      past : (more : List (List ℕ)) → IsWhole f (with_due s []) more → IsWhole f s more
      past [] whole = (s, refl, subst (λ (u : Stand). u.due ≡ []) (sym past_ready) (subst (IsDone f) whole.1 whole.2))
      past (line ∷ more) whole = (whole.0, (whole.1.0, first whole.1.0 line whole.1.1, whole.1.2), whole.2)

-- ---- The events and the records of a piece, and tables by thread after it
-- the visible events after a piece
pub visible_piece : (k : ℕ) (steps : List Made) (l : Whole) → visible (triples k steps ++ l) ≡ events_by k (part k l) steps ++ visible l
visible_piece k [] l = refl
visible_piece k (m ∷ ms) l =
    ap (λ v. with_event (event_of k (epoch_of v) m.step m.answer) (visible (triples k ms ++ l))) (part_of_own k ms l)
    ∙ ap (with_event (event_of k (epoch_of (ms ++ part k l)) m.step m.answer)) (visible_piece k ms l)
    ∙ with_append (event_of k (epoch_of (ms ++ part k l)) m.step m.answer) (events_by k (part k l) ms) (visible l)

-- .. over the events that a check knows before it
pub shown_is : (s : Stand) (k : ℕ) (steps : List Made) (l : Whole) → s.events ≡ visible l → (es : List Event) → events_by k (part k l) steps ≡ es
    → visible (triples k steps ++ l) ≡ es ++ s.events
shown_is s k steps l events es is = visible_piece k steps l ∙ ap (λ xs. xs ++ visible l) is ∙ ap (λ xs. es ++ xs) (sym events)

-- the lines of records
abbrev pub lines_by : List Record → List (List ℕ)
lines_by rs = map line_of rs

-- The lines of two lists of records are those of both, one after the other.
pub lines_both : (xs ys : List Record) → lines_by (xs ++ ys) ≡ lines_by xs ++ lines_by ys
lines_both xs ys = map-append line_of xs ys

-- one event more
pub lines_more : (e : Event) (es : List Event) → lines_by (records_of (e ∷ es)) ≡ lines_by (records_of es) ++ line_of_event e ∷ []
lines_more e es = cc (reverse-append (e ∷ []) es, map-append Record.Event (reverse es) (e ∷ []), lines_both (records_of es) (Record.Event e ∷ []))

-- ---- tables by thread, of which that of one thread became another
pub table_at : {A B : Type 0} (T : Cached → A) (g : B → A) (t : Bool) (c d : Cached) (b e : B) → T c ≡ g b → T d ≡ g e
    → T (if t then c else d) ≡ g (if t then b else e)
table_at T g t c d b e new old = search arith

-- A table by thread of what a changed cache has as before is the same.
pub table_same : {A : Type 0} (T : Cached → A) (caches : Caches) (k : ℕ) (c : Cached) → T c ≡ T (caches k) → (j : ℕ)
    → T (with_cache caches k c j) ≡ T (caches j)
table_same T caches k c same j = search (arith, cases_eq, eq-eqb, ne_eqb)

pub own_at : {A : Type 0} (table : ℕ → A) (k : ℕ) (x : A) → with_at table k x k ≡ x
own_at table k x = ap (λ (t : Bool). if t then x else table k) (eq-eqb k k refl)

-- in each case it computes, or is given
twice : {A : Type 0} (t : Bool) (x y z : A) → (if t then y else (if t then x else z)) ≡ (if t then y else z)
twice t x y z = search arith

-- Of two changes of one place the later one stands.
pub put_twice : {A : Type 0} (table : ℕ → A) (k : ℕ) (x y : A) → with_at (with_at table k x) k y ≡ with_at table k y
put_twice table k x y = λ i j. twice (j == k) x y (table j) i

-- ---- why an entry may be refused
-- the reason that a life word tells is one that the entry may have
reason_may : (entry : Entry) (read : ℕ) → MayRefuse entry (reason_for entry read)
reason_may entry read = search (arith, eqb-false)

-- ---- The guards that are up, as a check keeps them, in one list, and as the keepers' books do; and which of them a sweep lowers
-- the block has ended, or all guards are to go down
abbrev pub is_down : List Event → Bool → Guard → Bool
is_down es all guard = all || nat_lt guard.block.name.turn (ends_in es (address_of guard.block.name))

abbrev pub going : List Event → Bool → List Guard → List Guard
going es all guards = filter (is_down es all) guards

abbrev pub staying : List Event → Bool → List Guard → List Guard
staying es all guards = filter (λ guard. not (is_down es all guard)) guards

-- ---- filters, one after the other
module _ (p t : Raised → Bool) where
  -- in each case it computes, or is given
  both_tests : (xs : List Raised) → filter (λ x. p x && t x) xs ≡ filter t (filter p xs)
  both_tests [] = refl
  both_tests (x ∷ xs) = let rest = both_tests xs in grind (arith, rest)

  rest_tests : (xs : List Raised) → filter p (filter (λ x. not (p x && t x)) xs) ≡ filter (λ x. not (t x)) (filter p xs)
  rest_tests [] = refl
  rest_tests (x ∷ xs) = let rest = rest_tests xs in grind (arith, rest)

  other_tests : (q : Raised → Bool) → ((x : Raised) → q x ≡ true → p x ≡ false) → (xs : List Raised)
      → filter q (filter (λ x. not (p x && t x)) xs) ≡ filter q xs
  other_tests q apart [] = refl
  other_tests q apart (x ∷ xs) = let rest = other_tests q apart xs in let here = apart x in grind (arith, rest, here)

mapped_filter : (g : Guard → Raised) (t : Raised → Bool) (xs : List Guard) → filter t (map g xs) ≡ map g (filter (λ x. t (g x)) xs)
mapped_filter g t [] = refl
mapped_filter g t (x ∷ xs) = let rest = mapped_filter g t xs in grind (arith, rest)

-- ---- a sweep of one keeper
module _ (es : List Event) (keeper : ℕ) (all : Bool) (guards : List Raised) (book : List Guard) (told : guards_of keeper guards ≡ map (raised_by keeper) book)
  where
    -- those that go down are those of his book
    pub going_told : filter (goes_down es keeper all) guards ≡ map (raised_by keeper) (going es all book)
    going_told =
        simp (both_tests, told, mapped_filter)

    staying_told : guards_of keeper (filter (λ guard. not (goes_down es keeper all guard)) guards) ≡ map (raised_by keeper) (staying es all book)
    staying_told =
        simp (rest_tests, told, mapped_filter)

-- those of the others stay
others_told : (es : List Event) (keeper j : ℕ) (all : Bool) (guards : List Raised) → j ≢ keeper
    → guards_of j (filter (λ guard. not (goes_down es keeper all guard)) guards) ≡ guards_of j guards
others_told es keeper j all guards other =
    other_tests (λ r. r.keeper == keeper) (λ r. all || nat_lt r.guard.block.name.turn (ends_in es (address_of r.guard.block.name))) (λ r. r.keeper == j)
    (λ guard his. ne_eqb guard.keeper keeper (λ same. other (sym (eqb-true guard.keeper j his) ∙ same))) guards

-- .. so the books are told after it
book_if : (books : Books) (keeper : ℕ) (book : List Guard) (guards : List Raised) (j : ℕ) → (j ≡ keeper → guards_of j guards ≡ map (raised_by j) book)
    → (j ≢ keeper → guards_of j guards ≡ map (raised_by j) (books j))
    → guards_of j guards ≡ map (raised_by j) (with_book books keeper book j)
book_if books keeper book guards j his others = search (arith, cases_eq, eq-eqb, ne_eqb)

swept_books : (books : Books) (es : List Event) (keeper : ℕ) (all : Bool) (guards : List Raised) → ((j : ℕ) → guards_of j guards ≡ map (raised_by j) (books j))
    → (j : ℕ)
    → guards_of j (filter (λ guard. not (goes_down es keeper all guard)) guards) ≡ map (raised_by j) (with_book books keeper (staying es all (books keeper)) j)
swept_books books es keeper all guards told j = search (arith, book_if, staying_told, others_told)

-- ---- a guard goes up
raised_books : (books : Books) (keeper : ℕ) (guard : Guard) (guards : List Raised) → ((j : ℕ) → guards_of j guards ≡ map (raised_by j) (books j)) → (j : ℕ)
    → guards_of j (guards ++ raised_by keeper guard ∷ []) ≡ map (raised_by j) (with_book books keeper (books keeper ++ guard ∷ []) j)
raised_books books keeper guard guards told j = book_if books keeper (books keeper ++ guard ∷ []) (guards ++ raised_by keeper guard ∷ []) j
    (λ e.
    filter-append (λ (x : Raised). x.keeper == j) guards (raised_by keeper guard ∷ [])
    ∙ ap (λ (t : Bool). guards_of j guards ++ (if t then raised_by keeper guard ∷ [] else [])) (eq-eqb keeper j (sym e))
    ∙ (λ i. told j i ++ raised_by (sym e i) guard ∷ []) ∙ ap (λ k. map (raised_by j) (books k) ++ raised_by j guard ∷ []) e ∙ sym (map-append (raised_by j) (books keeper) (guard ∷ [])))
    (λ ne.
    cc (filter-append (λ (x : Raised). x.keeper == j) guards (raised_by keeper guard ∷ []), ne_eqb keeper j (λ e. ne (sym e)), append-nil (guards_of j guards), told j))

-- ---- what is known of the books: the guards that are up are theirs, and their blocks stand at grains
abbrev IsAligned : Guard → Type 0
IsAligned guard = address_of guard.block.name % 16 ≡ 0

abbrev pub AreAligned : List Guard → Type 0
AreAligned book = AllByRecursion IsAligned book

pub record AreBooked (books : Books) (guards : List Raised) : Type 0 where
  pub told : (j : ℕ) → guards_of j guards ≡ map (raised_by j) (books j)
  pub aligned : (j : ℕ) → AreAligned (books j)

-- Guards that are booked in some list are booked in the same list.
pub booked_as : (books : Books) (guards now : List Raised) → now ≡ guards → AreBooked books guards → AreBooked books now
booked_as books guards now same booked = subst (AreBooked books) (sym same) booked

aligned_if : (books : Books) (keeper : ℕ) (book : List Guard) → ((j : ℕ) → AreAligned (books j)) → AreAligned book → (j : ℕ)
    → AreAligned (with_book books keeper book j)
aligned_if books keeper book are new j = search (arith, cases_eq, eq-eqb, ne_eqb)

-- After a sweep the guards that stay up are those of the keepers' books.
pub booked_sweep : (books : Books) (es : List Event) (keeper : ℕ) (all : Bool) (guards : List Raised) (book : List Guard) → book ≡ staying es all (books keeper)
    → AreBooked books guards
    → AreBooked (with_book books keeper book) (filter (λ guard. not (goes_down es keeper all guard)) guards)
booked_sweep books es keeper all guards book is booked =
    subst (λ (b : List Guard). AreBooked (with_book books keeper b) (filter (λ guard. not (goes_down es keeper all guard)) guards)) (sym is)
    record {
      told = swept_books books es keeper all guards booked.told;
      aligned = aligned_if books keeper (staying es all (books keeper)) booked.aligned (recursion_from_All IsAligned (staying es all (books keeper))
          (All-filter (λ guard. not (is_down es all guard)) IsAligned (books keeper) (All-from_recursion IsAligned (books keeper) (booked.aligned keeper))));
    }

-- After a raise the new guard is the last one up, and in its keeper's book.
pub booked_raise : (books : Books) (keeper : ℕ) (guard : Guard) (guards : List Raised) → address_of guard.block.name % 16 ≡ 0 → AreBooked books guards
    → AreBooked (with_book books keeper (books keeper ++ guard ∷ [])) (guards ++ raised_by keeper guard ∷ [])
booked_raise books keeper guard guards new booked = search (arith, raised_books, aligned_if, all_both)

-- ---- What a check knows before an act is what the replay has come to there
-- The events so far are those that are visible in the list, the names and the logs are the replay's, the threads read their epochs at the same places,
-- and the greatest tick is the epoch. The guards are those in the keepers' books. Nobody has an unstamped page.
pub record Tells (p : Progress) (s : Stand) : Type 0 where
  pub events : s.events ≡ visible p.list
  pub names : s.names ≡ p.names
  pub logs : (k : ℕ) → (p.caches k).log ≡ s.logs k
  pub idle_since : (k : ℕ) → s.idle_since k ≡ (p.caches k).idle_since
  pub epoch : s.epoch ≡ word_after p.list Word.Epoch
  pub books : AreBooked p.books s.guards
  pub tidy : Each Tidy p.list

-- The lines of these records lead on to a state in which nothing is due, these tasks are left, and what is known is what the replay has come to.
pub record Comes (f : Profile) (s : Stand) (rs : List Record) (q : Progress) (ts : List Task) : Type 0 where
  pub end : Stand
  pub leads : LeadsOn f s (lines_by rs) (record end { due = []; left = ts })
  pub tells : Tells q (record end { due = []; left = ts })

-- the steps of a piece are of the region
pub piece_of : (f : Profile) (k : ℕ) (steps : List Made) (l : Whole) → Legal f (triples k steps ++ l) → AreOfRegion f steps
piece_of f k steps l legal = of_front f steps (part k l) (subst (AreOfRegion f) (part_of_own k steps l) (legal_part f (triples k steps ++ l) k legal))

-- what the replay has come to after a piece of actor k, whose cache holds c then
abbrev pub after_piece : Progress → ℕ → List Made → Cached → List Named → List Record → Progress
after_piece p k steps c names records = record p { names = names; caches = with_cache p.caches k c; list = triples k steps ++ p.list; records = records }

pub told_after : (p : Progress) (s t : Stand) (k : ℕ) (steps : List Made) (c : Cached) (names : List Named) (records : List Record) → Tells p s
    → t.events ≡ visible (triples k steps ++ p.list) → t.names ≡ names
    → ((j : ℕ) → (with_cache p.caches k c j).log ≡ t.logs j) → c.idle_since ≡ (p.caches k).idle_since → t.idle_since ≡ s.idle_since
    → t.epoch ≡ s.epoch → t.guards ≡ s.guards
    → word_after (triples k steps ++ p.list) Word.Epoch ≡ word_after p.list Word.Epoch → Tidy (steps ++ part k p.list)
    → Tells (after_piece p k steps c names records) t
told_after p s t k steps c names records tells events named logs idle since epoch guards still tidy = search (arith, table_same, booked_as, tidy_piece)

-- ---- The steps of a flush end names, and stamp and put back what they ended: none is a tick
none_only : (ks : Kinds) (steps : List Made) → steps ≡ [] → Only ks steps
none_only ks steps none = subst (Only ks) (sym none) tt

-- What is done in turn has steps of some kinds where each piece has.
turn_only : {A : Type 0} (ks : Kinds) (P : A → List Made → Type 0) → ((x : A) (piece : List Made) → P x piece → Only ks piece)
    → (xs : List A) (steps : List Made) → InTurn P xs steps → Only ks steps
turn_only ks P each [] steps h = none_only ks steps h
turn_only ks P each (x ∷ xs) steps h = subst (Only ks) (sym h.4) (only_both ks h.0 h.1 (each x h.0 h.2) (turn_only ks P each xs h.1 h.3))

-- a page of a block that ended, and all of them
page_only : (g n : ℕ) (steps : List Made) → PageSteps g n steps → Only freeing steps
page_only g n steps h =
    let page = g / 256 in
    let first : List Made = made (Stamp page) h.stamped ∷ made (Look (Word.Deed page)) (deed_word_of h.directory) ∷ [] in
    subst (Only freeing) (sym h.steps_are) (only_both freeing h.after (h.puts ++ first)
    (only_within returning freeing h.after refl (returns_are page h.after (return_returns page h.directory h.after h.returns)))
    (only_both freeing h.puts first (only_within (Putting ∷ []) freeing h.puts refl (puts_kinds page h.mask 4 h.puts h.order)) (refl, (refl, tt))))

after_only : (name : Name) (outcome : Outcome) (steps : List Made) → AfterEnd name outcome steps → Only freeing steps
after_only name (Ended grains) steps h = let g = grain_of name in
    turn_only freeing (λ page piece. PageSteps (first_on g page) (count_on g grains page) piece)
    (λ page piece. page_only (first_on g page) (count_on g grains page) piece) (pages_from (g / 256) (page_count g grains)) steps h
after_only name (Refused read) steps h = none_only freeing steps h

-- the end of a name
last_kind : (t : Bool) (entry : Entry) (guess : ℕ) → is_in freeing (kind_of (last_step t entry guess)) ≡ true
last_kind t entry guess = search arith

tries_only : (name : Name) (first guess : ℕ) (before : List Made) → Tries name first guess before → Only freeing before
tries_only name first guess before given = search (arith, none_only)

before_only : (t : Bool) (entry : Entry) (first guess : ℕ) (before : List Made) → TriesBy t entry first guess before → Only freeing before
before_only t entry first guess before h = search (arith, none_only, tries_only)

-- The steps that end a name are freeing ones.
ends_only : (entry : Entry) (outcome : Outcome) (steps : List Made) → EndSteps entry outcome steps → Only freeing steps
ends_only entry outcome steps h = search (arith, last_kind, only_both, before_only)

-- The steps for an entry of a log are freeing ones.
entry_only : (entry : Settled) (steps : List Made) → EntrySteps entry steps → Only freeing steps
entry_only entry steps h = subst (Only freeing) (sym h.steps_are) (only_both freeing h.after h.ends (after_only entry.entry.name entry.outcome h.after h.returns) (ends_only entry.entry entry.outcome h.ends h.order))

-- THE STEPS of a flush
pub flush_only : (k : ℕ) (logged : List Entry) (noted noted' : List EndedRun) (steps : List Made) → EmptiesLog k logged noted noted' steps → Only freeing steps
flush_only k logged noted noted' steps h = subst (Only freeing) (sym h.steps_are)
    (only_both freeing h.entries (made (Look Word.Epoch) h.epoch ∷ []) (turn_only freeing EntrySteps entry_only h.settled h.entries h.order) (refl, tt))

-- .. and those of a stop
pub stop_only : (k : ℕ) (c c' : Cached) (steps : List Made) → IsStopped k c c' steps → Only freeing steps
stop_only k c c' steps h = subst (Only freeing) (sym h.steps_are)
    (only_both freeing h.stopped h.flushed (only_within releasing freeing h.stopped refl h.kinds) (flush_only k c.log c.noted c'.noted h.flushed h.empties))

-- ---- A block that a flush ended by an entry with a room had that room
-- ---- what lives after steps of a flush lived before them
ended_if : (t : Bool) (old : Option Live) (b : Live) → (if t then None else old) ≡ Some b → old ≡ Some b
ended_if t old b is = search (arith, none-some)

lived_before : (k e : ℕ) (s : Step) (a : ℕ) (es : List Event) (address : ℕ) (b : Live) → is_in freeing (kind_of s) ≡ true
    → live_in (with_event (event_of k e s a) es) address ≡ Some b → live_in es address ≡ Some b
lived_before k e s a es address b of = search (arith, cond_both, ended_if, false≢true)

lived_then : (k : ℕ) (xs : List Made) (l : Whole) (address : ℕ) (b : Live) → Only freeing xs → live_in (visible (triples k xs ++ l)) address ≡ Some b
    → live_in (visible l) address ≡ Some b
lived_then k [] l address b only is = is
lived_then k (m ∷ xs) l address b only is = lived_then k xs l address b only.1
    (lived_before k (epoch_of (part k (triples k xs ++ l))) m.step m.answer (visible (triples k xs ++ l)) address b only.0 is)

-- ---- the length that a life word tells is that of the block
same_length : (f : Profile) (g word room : ℕ) (b : Live) (gives ends turn : ℕ) → IsLifeOfLive f g word b gives ends → word ≡ live_word turn (room / 16)
    → ends ≡ turn → room % 16 ≡ 0 → b.block.room ≡ room
same_length f g word room b gives ends turn life is same whole =
    search arith

-- ---- one entry
-- the block of an entry that was ended had the entry's room, if there is one
abbrev pub Heeds : List Event → Entry → Outcome → Type 0
Heeds es entry (Ended grains) = Differs es entry → ⊥
Heeds es entry (Refused read) = Unit {0}

module _ (f : Profile) (valid : IsValid f) (k : ℕ) (l : Whole) (rest : List Made) (only : Only freeing rest) where
  -- the step with the room found the block
  room_is : (name : Name) (room answer : ℕ) → Legal f (triples k (made (EndSized name room) answer ∷ rest) ++ l) → answer ≡ live_word name.turn (room / 16)
      → HasOtherRoom (visible l) name room → ⊥
  room_is name room answer legal found other =
      let there : Whole = triples k rest ++ l in
      let of = legal.0.of_region in
      let small = of.0.2 in
      let word : ℕ = word_after there (life_word_at (grain_of name)) in
      let is : word ≡ live_word name.turn (room / 16) = sym legal.0.answer_is ∙ found in
      let address : ℕ = address_of name in
      let life : IsLifeOf f (grain_of name) word (live_in (visible there) address) (gives_in (visible there) address) (ends_in (visible there) address)
      = life_at f there valid legal.1 address of.0.1 in
      search (arith, block_of_word, same_Some, lived_then, same_length)

  -- .. where it was a step with the room
  last_heeds : (t : Bool) (entry : Entry) (first guess answer : ℕ) (before : List Made) (grains : ℕ) → is_sized entry ≡ t → TriesBy t entry first guess before
      → answer ≡ live_word entry.name.turn guess
      → Legal f (triples k (made (last_step t entry guess) answer ∷ rest) ++ l) → Heeds (visible l) entry (Ended grains)
  last_heeds t entry first guess answer before grains sized tries found legal differs = search (arith, room_is, false≢true, ne_eqb)

-- ---- all entries
both : (after ends before : List Made) → (after ++ ends) ++ before ≡ after ++ (ends ++ before)
both after ends before = append_assoc after ends before

entry_heeds : (f : Profile) → IsValid f → (k : ℕ) (l : Whole) (entry : Entry) (outcome : Outcome) (ends before : List Made) → EndSteps entry outcome ends
    → Only freeing before → Legal f (triples k (ends ++ before) ++ l) → Heeds (visible l) entry outcome
entry_heeds f valid k l entry (Refused read) ends before h only legal = tt
entry_heeds f valid k l entry (Ended grains) ends before h only legal =
    let look : List Made = made (Look (Word.Deed (address_of entry.name / 4096))) h.deed ∷ [] in
    let rest : List Made = (h.before ++ look) ++ before in
    let there : Legal f (triples k (made (last_step (is_sized entry) entry h.guess) h.answer ∷ rest) ++ l) = subst (λ ms. Legal f (triples k (ms ++ before) ++ l)) h.steps_are legal in
    let mine : Only freeing (made (last_step (is_sized entry) entry h.guess) h.answer ∷ (h.before ++ look)) = subst (Only freeing) h.steps_are (ends_only entry (Ended grains) ends h) in
    last_heeds f valid k l rest (only_both freeing (h.before ++ look) before mine.1 only) (is_sized entry) entry _ h.guess h.answer h.before grains refl h.tries h.comes_to.0 there

abbrev pub AllHeed : List Event → List Settled → Type 0
AllHeed es = AllByRecursion (λ (x : Settled). Heeds es x.entry x.outcome)

-- THE ENTRIES of a flush that are ended have their rooms
all_heed : (f : Profile) → IsValid f → (k : ℕ) (l : Whole) (settled : List Settled) (steps : List Made) → EntriesSteps settled steps
    → Legal f (triples k steps ++ l) → AllHeed (visible l) settled
all_heed f valid k l [] steps h legal = tt
all_heed f valid k l (x ∷ xs) steps h legal =
    let piece : List Made = h.0 in
    let before : List Made = h.1 in
    let of : EntrySteps x piece = h.2 in
    let there : Legal f (triples k (piece ++ before) ++ l) = subst (λ ms. Legal f (triples k ms ++ l)) h.4 legal in
    let whole : piece ++ before ≡ of.after ++ (of.ends ++ before) = ap (λ (ms : List Made). ms ++ before) of.steps_are ∙ both of.after of.ends before in (
      entry_heeds f valid k l x.entry x.outcome of.ends before of.order (turn_only freeing EntrySteps entry_only xs before h.3)
          (legal_earlier f k of.after (of.ends ++ before) l (subst (λ ms. Legal f (triples k ms ++ l)) whole there)),
      all_heed f valid k l xs before h.3 (legal_earlier f k piece before l there),
    )

-- ---- The entries of a log that is emptied answer what is due, one after the other
-- ---- the event of an entry
event_is : (f : Profile) (s : Stand) (k : ℕ) (entry : Entry) (outcome : Outcome) → Heeds s.events entry outcome → Run f s.events
    → Admits f s.events (event_for k s.epoch entry outcome)
    → IsEventOf s k entry (event_for k s.epoch entry outcome)
event_is f s k entry (Ended grains) heeds run may = end_is f s k entry run may heeds
event_is f s k entry (Refused read) heeds run may = reject_is f s k entry (reason_for entry read) (reason_may entry read) may

-- ---- entries in turn
abbrev known_in : List Settled → List Entry
known_in settled = reverse (map (λ x. x.entry) settled)

abbrev shown_by : ℕ → Stand → List Settled → List Event
shown_by k s settled = map (shown_for k s.epoch) settled

-- after their lines this is due
abbrev settled_in : ℕ → Stand → List Settled → List Due → Stand
settled_in k s settled more = record s { events = shown_by k s settled ++ s.events; due = more }

due_more : (k : ℕ) (entries : List Entry) (entry : Entry) (more : List Due)
    → entries_due k (entries ++ entry ∷ []) ++ more ≡ entries_due k entries ++ Frees k entry ∷ more
due_more k entries entry more = ap (λ ds. ds ++ more) (map-append (λ e. Frees k e) entries (entry ∷ [])) ∙ append_assoc (entries_due k entries) (Frees k entry ∷ []) more

known_more : (x : Settled) (xs : List Settled) → known_in (x ∷ xs) ≡ known_in xs ++ x.entry ∷ []
known_more x xs = reverse-append (x.entry ∷ []) (map (λ (y : Settled). y.entry) xs)

-- what lives after their events lived before them
lived_one : (k epoch : ℕ) (entry : Entry) (outcome : Outcome) (es : List Event) (address : ℕ) (b : Live)
    → live_in (event_for k epoch entry outcome ∷ es) address ≡ Some b → live_in es address ≡ Some b
lived_one k epoch entry outcome es address b is = search (arith, ended_if)

lived_all : (k epoch : ℕ) (settled : List Settled) (es : List Event) (address : ℕ) (b : Live) → live_in (map (shown_for k epoch) settled ++ es) address ≡ Some b
    → live_in es address ≡ Some b
lived_all k epoch [] es address b is = is
lived_all k epoch (x ∷ xs) es address b is = lived_all k epoch xs es address b (lived_one k epoch x.entry x.outcome (map (shown_for k epoch) xs ++ es) address b is)

still_heeds : (k epoch : ℕ) (settled : List Settled) (es : List Event) (entry : Entry) (outcome : Outcome) → Heeds es entry outcome
    → Heeds (map (shown_for k epoch) settled ++ es) entry outcome
still_heeds k epoch settled es entry outcome heeds = search (arith, lived_all)

entries_lead : (f : Profile) (k : ℕ) (s : Stand) (settled : List Settled) (more : List Due) → AllHeed s.events settled
    → Run f (shown_by k s settled ++ s.events) → s.due ≡ entries_due k (known_in settled) ++ more
    → LeadsOn f s (lines_by (records_of (shown_by k s settled))) (settled_in k s settled more)
entries_lead f k s [] more heed run due = on_same (ap (with_due s) due)
entries_lead f k s (x ∷ xs) more heed run due =
    let old : Stand = settled_in k s xs (Frees k x.entry ∷ more) in
    let event : Event = shown_for k s.epoch x in
    let earlier : LeadsOn f s (lines_by (records_of (shown_by k s xs))) old
    = entries_lead f k s xs (Frees k x.entry ∷ more) heed.1 run.1
    (due ∙ ap (λ es. entries_due k es ++ more) (known_more x xs) ∙ due_more k (known_in xs) x.entry more) in
    let is : IsEventOf old k x.entry event = event_is f old k x.entry x.outcome (still_heeds k s.epoch xs s.events x.entry x.outcome heed.0) run.1 run.0 in
    let one : LeadsOn f old (line_of_event event ∷ []) (settled_in k s (x ∷ xs) more)
    = on_line (inr record { event = event; of_entry = is; admitted = run.0; line_is = refl; next_is = refl }) in
    on_as (lines_more event (shown_by k s xs)) refl (on_both earlier one)

-- ---- THE FLUSH of thread k's log
module _ (f : Profile) (valid : IsValid f) (p : Progress) (s : Stand) (tells : Tells p s) (k : ℕ) (noted noted' : List EndedRun) (steps : List Made)
    (h : EmptiesLog k (p.caches k).log noted noted' steps) (legal : Legal f (triples k steps ++ p.list)) where
  entries_are : s.logs k ≡ known_in h.settled
  entries_are = sym (h.entries_are ∙ tells.logs k)

  -- The entries so far heed the events.
  heed : AllHeed s.events h.settled
  heed =
      let look : List Made = made (Look Word.Epoch) h.epoch ∷ [] in
      rw tells.events (all_heed f valid k (triples k look ++ p.list) h.settled h.entries h.order
      (subst (Legal f) (sym (triples_append k h.entries look p.list)) (subst (λ ms. Legal f (triples k ms ++ p.list)) h.steps_are legal)))

  epoch_is : h.epoch ≡ s.epoch
  epoch_is = (legal_earlier f k h.entries (made (Look Word.Epoch) h.epoch ∷ []) p.list (subst (λ ms. Legal f (triples k ms ++ p.list)) h.steps_are legal)).0.answer_is ∙ sym tells.epoch

  events_are : events_by k (part k p.list) steps ≡ shown_by k s h.settled
  events_are = h.events (part k p.list) ∙ ap (λ e. map (shown_for k e) h.settled) epoch_is

  visible_is : visible (triples k steps ++ p.list) ≡ shown_by k s h.settled ++ s.events
  visible_is = shown_is s k steps p.list tells.events (shown_by k s h.settled) events_are

  -- The lines of a log that is emptied lead the check to where its entries aren't due any more.
  pub flush_leads : (log : List Entry) (more : List Due) (ts : List Task)
      → LeadsOn f (emptying s k log more ts) (lines_by (records_of (events_by k (part k p.list) steps)))
      (record (emptying s k log more ts) { events = visible (triples k steps ++ p.list); due = more })
  flush_leads log more ts =
      let u : Stand = emptying s k log more ts in
      on_as (ap (λ es. lines_by (records_of es)) events_are)
      (ap (λ es. record u { events = es; due = more }) visible_is)
      (entries_lead f k u h.settled more heed (subst (Run f) visible_is (runs f (triples k steps ++ p.list) valid legal)) (ap (λ es. entries_due k es ++ more) entries_are))

-- ---- A thread's log is emptied, and its local allocators are stopped without an event
-- where thread k's log was emptied and has these names
abbrev pub emptied : Progress → Stand → ℕ → List Made → List Entry → List Due → List Task → Stand
emptied p s k steps log more ts = record (emptying s k log more ts) { events = visible (triples k steps ++ p.list); due = more }

-- .. its cache has the same log
pub logs_with : (p : Progress) (s : Stand) (k : ℕ) (c : Cached) (log : List Entry) → Tells p s → c.log ≡ log → (j : ℕ)
    → (with_cache p.caches k c j).log ≡ with_at s.logs k log j
logs_with p s k c log tells new j = table_at (λ (d : Cached). d.log) (λ (es : List Entry). es) (j == k) c (p.caches j) log (s.logs j) new (tells.logs j)

module _ (f : Profile) (valid : IsValid f) (p : Progress) (s : Stand) (tells : Tells p s) (k : ℕ) (c : Cached) (steps : List Made)
    (h : IsStopped k (p.caches k) c steps) (legal : Legal f (triples k steps ++ p.list)) where
  stop_events_are : events_by k (part k p.list) steps ≡ events_by k (part k p.list) h.flushed
  stop_events_are = search (arith, events_append)

  flush_legal : Legal f (triples k h.flushed ++ p.list)
  flush_legal = legal_earlier f k h.stopped h.flushed p.list (subst (λ ms. Legal f (triples k ms ++ p.list)) h.steps_are legal)

  same_visible : visible (triples k steps ++ p.list) ≡ visible (triples k h.flushed ++ p.list)
  same_visible = visible_piece k steps p.list ∙ ap (λ es. es ++ visible p.list) stop_events_are ∙ sym (visible_piece k h.flushed p.list)

  -- The lines of a thread's stop lead the check to where its log is empty.
  pub stop_leads : (more : List Due) (ts : List Task)
      → LeadsOn f (emptying s k [] more ts) (lines_by (records_of (events_by k (part k p.list) steps))) (emptied p s k steps [] more ts)
  stop_leads more ts =
      search (arith, on_as, stop_events_are, same_visible, flush_leads, flush_legal)

  -- After a thread's stop the check knows what the replay came to.
  pub stop_tells : (names : List Named) (records : List Record) (t : Stand) → t.events ≡ visible (triples k steps ++ p.list) → t.names ≡ names
      → t.logs ≡ with_at s.logs k [] → t.idle_since ≡ s.idle_since → t.epoch ≡ s.epoch → t.guards ≡ s.guards
      → Tells (after_piece p k steps c names records) t
  stop_tells names records t events named logs since epoch guards =
      told_after p s t k steps c names records tells events named
      (λ j. logs_with p s k c [] tells (ap (λ (d : Cached). d.log) h.cache) j ∙ ap (λ (table : ℕ → List Entry). table j) (sym logs))
      (ap (λ (d : Cached). d.idle_since) h.cache) since epoch guards (epoch_kept freeing refl k steps p.list (stop_only k (p.caches k) c steps h))
      (stop_tidy f k (p.caches k) c steps (part k p.list) (piece_of f k steps p.list legal) h (tells.tidy k))

-- The directory of a request, and that a deed which a view knows is the one of the events.

kind_routed : (f : Profile) (size align : ℕ) (shared : Bool) (route : Route) → route_in f size align ≡ route → IsKind (kind_of_route shared route)
kind_routed f size align shared route is = search (arith, class_known, class_suits)

-- The directory of each request has one of the kinds.
pub kind_asked : (f : Profile) (r : Request) → IsKind (directory_of f r).kind
kind_asked f r = kind_routed f r.size r.align (is_shared f r.heap) (route_in f r.size r.align) refl

directory_told : (o : Option Directory) (d : Directory) → IsKind d.kind → ((x : Directory) → o ≡ Some x → IsKind x.kind) → word_of_deed o ≡ deed_word_of d
    → o ≡ Some d
directory_told o d is all word = search (arith, deed_word_of-positive, same_from_deed_word)

-- a deed word of this directory is the page's deed
pub deed_told : (f : Profile) (l : Whole) (page : ℕ) (d : Directory) → Legal f l → IsKind d.kind → word_after l (Word.Deed page) ≡ deed_word_of d
    → deed_in (visible l) page ≡ Some d
deed_told f l page d legal is word = directory_told (deed_in (visible l) page) d is (λ x found. (directory_is_of f l legal page x found).kind) (sym (deed_of f l legal page) ∙ word)

-- A deed that a view knows is the one of the events.
pub deed_known : (f : Profile) (l : Whole) (k page : ℕ) (d : Directory) → Legal f l → IsKind d.kind → KnowsDeed page d (part k l)
    → deed_in (visible l) page ≡ Some d
deed_known f l k page d legal is knows =
    search (arith, deed_word_of-positive, deed_told, known_is, deeds_known)
