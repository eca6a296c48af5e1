-- The event of an entry of a log. In a run it is the one that the definition names; and there is only one.
use Rattle.std.proofs.Common.{◌≡◌, ◌≢◌, ℕ, ◌<◌, ◌≤◌, List, Option, Some, None, inl, inr, refl, ap, sym, subst, ◌∙◌, arith, ◌/◌, ◌%◌, ◌^◌, Bool, true, false}
use Rattle.std.proofs.Common.{if◌then◌else◌, [], ◌∷◌, eqb-true, eq-eqb, suc, ◌⊎◌, ◌++◌, length, Result, is_ok, MatchBool, ◌+◌, ◌*◌, ◌-◌, nat_le, nat_lt}
use Rattle.std.proofs.{Common.{leb-true, ltb-true, le-leb, lt-ltb}, lemmas.{Option.{none-some, same_Some}, Bool.{and_from, and_parts, cases_lt}}}
use Rattle.std.specs.Fmt.{decimal}
use Rattle.pas_profile.specs.declared.{profile.Profile.Profile, name.{Block.Block, Name.Name}, event.{Event.Event, Why.{Why, TheVariants.{Ended, NoBlock}}}}
use Rattle.pas_profile.specs.declared.{event.{Why.TheVariants.SizeDiffers, Outcome.Outcome}, directory.{Directory.Directory, Route.TheVariants.Class}}
use Rattle.pas_profile.specs.{declared.entry.Entry.Entry, Blocks.{address_of, grain_of, length_of}, Profiles.{IsPage, IsValid}, Directories.IsKind}
use Rattle.pas_profile.{specs.{Classes.IsClass, Requests.{kind_of_class, route_in}, Routes.IsRouteOf}, proofs.Sizes.{class_known, route_is}}
use Rattle.pas_machine.specs.{Laws.IsCounted, Places.{block_of, IsEach}, Machine.{Run, Admits, IsLive, IsReason, IsPlace}, State.{Live, live_in, gives_in}}
use Rattle.pas_machine.specs.{State.{ends_in, deed_in}, Machines.{IsUncounted, profile_of, StandsFor, Steps}, declared.fault.StepFault.StepFault}
use Rattle.pas_machine.{specs.declared.machine.Machine.Machine, proofs.{LiveBlocks.all_counted, Verdicts.never_of}}
use Rattle.pas_check.specs.{Calls.{Differs, outcome_in, IsStepped, EntryTaken, LiesOn, RefusesBy, outcome_in_event, outcome_in_said}, States.{Stand, Due}}
use Rattle.pas_check.specs.{States.{Frees, Serves, Tries, Never, Examines, Shows, with_due, Writes, Heads, Totals}, Takes.{MayRefuse, IsEventOf, IsServing}}
use Rattle.pas_check.specs.Takes.{IsFor, IsRefusal, directory_of, serving, MayCome, record_of, after_outcome, MayServe, TakesRequest, TakesTry, IsOutcome}
use Rattle.pas_check.specs.{Takes.{TakesOutcome, TakesDue, Takes, TakesFirst, TakesKeeping, after_keeping}, declared.examining.Examined.Examined}
use Rattle.pas_check.specs.{Begins.{past_outcomes, ready}, Readings.{byte_at, of_u8, past_digits}, Ranges.{FitsWhy, FitsEvent, FitsSaid, Fits, FitsEntry}}
use Rattle.pas_check.{specs.{Ranges.FitsBlock, Bounds.{FitsRequest, FitsFirst, FitsTry, IsSmall, FitsNext, IsOfThread, IsFew}}, proofs.Readings.one_line}
use Rattle.pas_check.proofs.{Readings.{past_number, u8_back}, Leads.gives_few}
use Rattle.pas_bits.{proofs.Runs.first_of_run, specs.Runs.in_run}
use Rattle.pas_steps.specs.Events.{actor_of}
use Rattle.pas_trace.{specs.declared.item.Request.Request, proofs.PassedChecks.if_some}
use Rattle.pas_records.specs.{Lines.{line_of, line_of_answer, line_of_event}, declared.record.{Record.Record, Said.Said}}

-- a live block's turn is the number of ends at its address
turn_counts : (o : Option Live) (b : Live) (gives ends : ℕ) → o ≡ Some b → IsCounted o gives ends → b.block.name.turn ≡ ends
turn_counts o b gives ends e h = search arith

live_turn : (f : Profile) (es : List Event) (name : Name) → Run f es → IsLive es name → name.turn ≡ ends_in es (address_of name)
live_turn f es name run live =
    sym live.2 ∙ turn_counts (live_in es (address_of name)) live.0 (gives_in es (address_of name)) (ends_in es (address_of name)) live.1
    (all_counted f es run (address_of name))

-- a name that lives with the room of its entry, if it names one, can't be refused
no_reason : (f : Profile) (es : List Event) (entry : Entry) → Run f es → IsLive es entry.name → (Differs es entry → ⊥) → (why : Why) → MayRefuse entry why
    → IsReason es entry.name why → ⊥
no_reason f es entry run live same why may reason = search (arith, live_turn)

-- THE EVENT of an entry, where it may come next
pub end_is : (f : Profile) (s : Stand) (k : ℕ) (entry : Entry) → Run f s.events → Admits f s.events (Event.End k entry.name s.epoch)
    → (Differs s.events entry → ⊥) → IsEventOf s k entry (Event.End k entry.name s.epoch)
end_is f s k entry run admitted same = inr (no_reason f s.events entry run admitted.1 same, refl)

-- A refusal that the machine admits, for a reason that the entry may have, is the entry's event.
pub reject_is : (f : Profile) (s : Stand) (k : ℕ) (entry : Entry) (why : Why) → MayRefuse entry why → Admits f s.events (Event.Reject k entry.name why)
    → IsEventOf s k entry (Event.Reject k entry.name why)
reject_is f s k entry why may admitted = inl (why, may, admitted.1, refl)

-- there is one
one_reason : (es : List Event) (entry : Entry) (w v : Why) → MayRefuse entry w → MayRefuse entry v → IsReason es entry.name w → IsReason es entry.name v → w ≡ v
one_reason es entry w v p q a b = search arith

-- There is just one event of an entry.
pub one_event : (s : Stand) (k : ℕ) (entry : Entry) (e g : Event) → IsEventOf s k entry e → IsEventOf s k entry g → e ≡ g
one_event s k entry e g is by = search (arith, one_reason)

-- ---- the true reason, by what lives at the address
pub block_there : (o : Option Live) (block : Block) → Some block ≡ block_of o → (b : Live) × (o ≡ Some b) × (b.block ≡ block)
block_there o block e = search (arith, none-some, same_Some)

-- Where the machine tells no block at an address, none lives there.
pub nothing_there : (o : Option Live) → None ≡ block_of o → o ≡ None
nothing_there o e = search (arith, none-some)

module _ (f : Profile) (es : List Event) (run : Run f es) (entry : Entry) where
  -- Where no block lives, as many blocks ended as were given.
  pub gone : live_in es (address_of entry.name) ≡ None → gives_in es (address_of entry.name) ≡ ends_in es (address_of entry.name)
  gone none = rw none at (all_counted f es run (address_of entry.name))

  -- Where no block lives, a name whose turn was given has ended.
  pub gone_ended : live_in es (address_of entry.name) ≡ None → entry.name.turn < gives_in es (address_of entry.name) → IsReason es entry.name Ended
  gone_ended none turn = omega (arith, gone none, turn)

  -- Where no block lives, a name whose turn wasn't given never had a block.
  pub never_there : live_in es (address_of entry.name) ≡ None → gives_in es (address_of entry.name) ≤ entry.name.turn → IsReason es entry.name NoBlock
  never_there none turn = (omega (arith, gone none, turn), λ live. none-some live.0 (sym none ∙ live.1))

  module _ (b : Live) (is : live_in es (address_of entry.name) ≡ Some b) where
    -- The turn of the block that lives at an address is the number of blocks that ended there.
    pub counts : b.block.name.turn ≡ ends_in es (address_of entry.name)
    counts = turn_counts (live_in es (address_of entry.name)) b (gives_in es (address_of entry.name)) (ends_in es (address_of entry.name)) is
        (all_counted f es run (address_of entry.name))

    it_is : (other : Live) → live_in es (address_of entry.name) ≡ Some other → other ≡ b
    it_is other has = same_Some other b (sym has ∙ is)

    -- A name of an earlier turn than the live block's has ended.
    pub ended_before : entry.name.turn < b.block.name.turn → IsReason es entry.name Ended
    ended_before turn = omega (arith, counts, turn)

    -- A name of a later turn than the live block's never had a block.
    pub not_yet : b.block.name.turn < entry.name.turn → IsReason es entry.name NoBlock
    not_yet turn = search (arith, counts, it_is)

    -- A name of the live block's turn with another room is refused for that room.
    pub other_room : entry.name.turn ≡ b.block.name.turn → b.block.room ≢ entry.room → IsReason es entry.name (SizeDiffers entry.room)
    other_room turn differs = ((omega (arith, counts, turn)), record { block = b; lives = is; turn_is = sym turn; differs = differs })

    -- A name of the live block's turn and room has no reason to be refused.
    pub may_end : entry.name.turn ≡ b.block.name.turn → (0 < entry.room → b.block.room ≡ entry.room) → (why : Why) → MayRefuse entry why
        → IsReason es entry.name why → ⊥
    may_end turn room why may reason = search (arith, counts, it_is)

-- At most one state comes next, whatever the line; and how the lines of entries, requests and passes are taken.

-- ---- A line that may come leads to one state, where it answers what is due
-- Two records that fit and have the same line are the same.
same_record : (line : List ℕ) (r q : Record) → Fits r → Fits q → line ≡ line_of r → line ≡ line_of q → r ≡ q
same_record line r q fits fits' a b = one_line r q fits fits' (sym a ∙ b)

small_page : (f : Profile) (page : ℕ) → IsValid f → IsPage f page → page < 2 ^ 32
small_page f page valid is = omega (arith, is.1, valid.pages)

-- a page with a deed is one of the region
deed_page : (f : Profile) (es : List Event) → Run f es → (page : ℕ) (d : Directory) → deed_in es page ≡ Some d → IsPage f page
deed_page f [] run page d h = absurd (none-some d h)
deed_page f (e ∷ es) run page d h = let rest = deed_page f es run.1 page d in grind (arith, rest, eqb-true)

-- ---- records of outcomes
-- the outcome is read back from its record
outcome_is : (epoch page : ℕ) (o : Outcome) → outcome_in epoch (record_of epoch page o) ≡ Some record { page = page; outcome = o }
outcome_is epoch page o = search (arith, eq-eqb)

-- no outcome is read from the record
abbrev pub TellsNone : Record → Type 0
TellsNone item = (epoch : ℕ) → outcome_in epoch item ≡ None

pub no_outcome : (item : Record) → TellsNone item → IsOutcome item → ⊥
no_outcome item none out = none-some _ (sym (none out.0) ∙ ap (outcome_in out.0) out.3 ∙ outcome_is out.0 out.1 out.2)

-- in each case it computes, or is given
same_both : (t : Bool) (o : Option Examined) → (if t then o else o) ≡ o
same_both t o = search arith

-- no record that answers a request tells an outcome
serves_none : (f : Profile) (s : Stand) (k : ℕ) (r : Request) (item : Record) → MayServe f s k r item → TellsNone item
serves_none f s k r item may = search (arith, same_both)

-- ---- the lines of a request
module _ (f : Profile) (s : Stand) (small : IsSmall f s) (k : ℕ) (r : Request) (fits : FitsRequest f k r) where
  -- A block that the machine admits for a request fits.
  block_fits : (block : Block) → IsFor f s r block → Admits f s.events (Event.Give k block) → FitsBlock block
  block_fits block is may =
      let some : 0 < block.room = may.some in
      let whole : block.room % 16 ≡ 0 = may.whole in
      let grains : 0 < length_of block = omega (arith, some, whole) in
      let page : IsPage f (grain_of block.name / 256) = (may.bears (grain_of block.name) (first_of_run (grain_of block.name) (length_of block) grains)).exists in
      let last : address_of block.name / 16 / 256 ≤ f.pages = page.1 in
      let most : f.pages ≤ 16384 = small.valid.pages in
      let few = small.gives (address_of block.name) in
      let turn = may.turn in
      let room : block.room ≡ _ = is.room in
      let heap = is.heap in
      let fewer = fits.heap in
      record {
        name = record { address = omega (arith, last, most); turn = omega (arith, few, turn) };
        room = omega (arith, room, fits.room);
        heap = omega (arith, heap, fewer);
      }

  -- A refusal of a request fits.
  refusal_fits : (said : Said) → IsRefusal f s r said → FitsSaid said
  refusal_fits said (inl is) = subst FitsSaid (sym is) fits.name
  refusal_fits said (inr is) = subst FitsSaid (sym is.2) (small_page f is.0 small.valid (deed_page f s.events small.run is.0 (directory_of f r) is.1), fits.name)

  -- A record that answers a request fits.
  pub serves_fits : (item : Record) → MayServe f s k r item → Fits item
  serves_fits item may = search (arith, small_page, block_fits, refusal_fits)

  -- A line that answers a request leads to one state.
  one_request : (old : Option Name) (more : List Due) (line : List ℕ) (a b : Stand) → TakesRequest f s k r old more line a
      → TakesRequest f s k r old more line b → a ≡ b
  one_request old more line a b x y = cc (same_record line x.item y.item (serves_fits x.item x.may) (serves_fits y.item y.may) x.line_is y.line_is)

-- ---- those of a guarded request
-- what is due has no part in how small a state is
small_serving : (f : Profile) (s : Stand) (k : ℕ) (r : Request) (more : List Due) → IsSmall f s → IsSmall f (serving s k r more)
small_serving f s k r more small = record { valid = small.valid; run = small.run; gives = small.gives; ends = small.ends; epoch = small.epoch }

-- in each case it computes, or is given
served_by : (f : Profile) (s : Stand) (k : ℕ) (r : Request) (e : Event) → IsServing f s k r e → actor_of e ≡ k
served_by f s k r e is = search arith

-- two events of one record are one
same_event : (e g : Event) → Record.Event e ≡ Record.Event g → e ≡ g
same_event e g is = cc

module _ (f : Profile) (s : Stand) (small : IsSmall f s) (keeper k : ℕ) (r : Request) (fits : FitsTry f keeper k r) (backed : Bool) (more : List Due)
    (line : List ℕ) where
  -- An event by which the keeper serves the request fits.
  pub kept_fits : {next : Stand} (x : TakesKeeping f s keeper k r backed more line next) → FitsEvent x.event
  kept_fits x = serves_fits f s small keeper r fits.kept (Record.Event x.event) (x.serves, x.admitted)

  -- Its line is none of the thread's: those are of another actor.
  apart : (a b : Stand) → TakesKeeping f s keeper k r backed more line a → TakesRequest f (serving s k r more) k r None more line b → ⊥
  apart a b x y =
      let fit = serves_fits f (serving s k r more) (small_serving f s k r more small) k r fits.own y.item y.may in
      let same = same_record line (Record.Event x.event) y.item (kept_fits x) fit x.line_is y.line_is in
      let own = subst (MayServe f (serving s k r more) k r) (sym same) y.may in
      fits.apart (sym (served_by f s keeper r x.event x.serves) ∙ served_by f (serving s k r more) k r x.event own.0)

  one_kept : (a b : Stand) → TakesKeeping f s keeper k r backed more line a → TakesKeeping f s keeper k r backed more line b → a ≡ b
  one_kept a b x y = x.next_is ∙ ap (after_keeping f s keeper k r backed more) (same_event x.event y.event
      (same_record line (Record.Event x.event) (Record.Event y.event) (kept_fits x) (kept_fits y) x.line_is y.line_is)) ∙ sym y.next_is

  -- A line that answers a guarded request leads to one state.
  one_try : (a b : Stand) → TakesTry f s keeper k r backed more line a → TakesTry f s keeper k r backed more line b → a ≡ b
  one_try a b (inl x) (inl y) = one_kept a b x y
  one_try a b (inl x) (inr y) = absurd (apart a b x y.1)
  one_try a b (inr x) (inl y) = absurd (apart b a y x.1)
  one_try a b (inr x) (inr y) = one_request f (serving s k r more) (small_serving f s k r more small) k r fits.own None more line a b x.1 y.1

-- ---- an outcome of a pass
same_outcome : (epoch : ℕ) (x y : Examined) → record_of epoch x.page x.outcome ≡ record_of epoch y.page y.outcome → x ≡ y
same_outcome epoch x y e = same_Some x y (sym (outcome_is epoch x.page x.outcome) ∙ ap (outcome_in epoch) e ∙ outcome_is epoch y.page y.outcome)

-- An outcome that may come of a page fits.
pub outcome_fits : (f : Profile) (s : Stand) → IsSmall f s → (page : ℕ) (o : Outcome) → IsPage f page → MayCome f s page o → Fits (record_of s.epoch page o)
outcome_fits f s small page o of may = search (arith, small_page)

-- A line that tells an outcome of a pass leads to one state.
one_outcome : (f : Profile) (s : Stand) → IsSmall f s → (last : ℕ) (more : List Due) (line : List ℕ) (a b : Stand) → TakesOutcome f s last more line a
    → TakesOutcome f s last more line b → a ≡ b
one_outcome f s small last more line a b x y =
    let same = same_outcome s.epoch (record { page = x.page; outcome = x.outcome }) (record { page = y.page; outcome = y.outcome })
    (same_record line (record_of s.epoch x.page x.outcome) (record_of s.epoch y.page y.outcome)
    (outcome_fits f s small x.page x.outcome x.of_region x.may) (outcome_fits f s small y.page y.outcome y.of_region y.may) x.line_is y.line_is) in
    x.next_is ∙ ap (λ (z : Examined). with_due (after_outcome s z.page z.outcome) (Examines z.page ∷ more)) same ∙ sym y.next_is

-- ---- what is due
pub one_next : (f : Profile) (s : Stand) → IsSmall f s → (due : List Due) → FitsFirst f due → (line : List ℕ) (a b : Stand) → TakesDue f s due line a
    → TakesDue f s due line b → a ≡ b
one_next f s small [] fits line a b x y = absurd x
one_next f s small (Frees k entry ∷ more) fits line a b x y = cc (one_event s k entry x.event y.event x.of_entry y.of_entry)
one_next f s small (Serves k r old ∷ more) fits line a b x y = one_request f s small k r fits old more line a b x y
one_next f s small (Tries keeper k r backed ∷ more) fits line a b x y = one_try f s small keeper k r fits backed more line a b x y
one_next f s small (Never ∷ more) fits line a b x y = absurd x
one_next f s small (Examines page ∷ more) fits line a b x y = one_outcome f s small page more line a b x y
one_next f s small (Shows page d ∷ more) fits line a b x y = x.next_is ∙ sym y.next_is
one_next f s small other fits line a b x y = x.1 ∙ sym y.1

-- ---- A line that may come next leads to one state: no outcome of a pass has the line of what follows the pass
-- ---- the lines of outcomes begin with a number
behind_actor : (epoch page : ℕ) (o : Outcome) → byte_at 0 (past_digits (line_of (record_of epoch page o))) ≡ 32
behind_actor epoch page o = search (arith, past_number)

-- ---- the actor in front of a line
outcome_actor : (epoch page : ℕ) (o : Outcome) → of_u8 (line_of (record_of epoch page o)) ≡ 0
outcome_actor epoch page o = search (arith, u8_back)

module _ (k : ℕ) (few : k < 2 ^ 8) where
  -- behind it stands a space
  abbrev Spaced : List ℕ → Type 0
  Spaced line = (rest : List ℕ) × (line ≡ decimal k ++ 32 ∷ rest)

  spaced_actor : (line : List ℕ) → Spaced line → of_u8 line ≡ k
  spaced_actor line is = ap of_u8 is.1 ∙ u8_back k 32 is.0 few refl

  said_spaced : (said : Said) → Spaced (line_of_answer k said)
  said_spaced (Said.NoSpace name) = (_, refl)
  said_spaced other = (_, refl)

  entry_spaced : (s : Stand) (entry : Entry) (e : Event) → IsEventOf s k entry e → Spaced (line_of_event e)
  entry_spaced s entry e (inl is) = subst (λ g. Spaced (line_of_event g)) (sym is.3) (refused is.0)
    where
      refused : (why : Why) → Spaced (line_of_event (Event.Reject k entry.name why))
      refused Why.Ended = (_, refl)
      refused Why.NoBlock = (_, refl)
      refused (Why.SizeDiffers room) = (_, refl)
  entry_spaced s entry e (inr is) = subst (λ g. Spaced (line_of_event g)) (sym is.1) (_, refl)

-- in each case it computes, or is given
no_entry : (s : Stand) (k : ℕ) (entry : Entry) (e : Event) → IsEventOf s k entry e → TellsNone (Record.Event e)
no_entry s k entry e is = search arith

-- in each case it computes, or is given
why_fits : (entry : Entry) (why : Why) → entry.room < 2 ^ 32 → MayRefuse entry why → FitsWhy why
why_fits entry why room may = search arith

entry_fits : (s : Stand) (k : ℕ) (entry : Entry) (e : Event) → k < 2 ^ 8 → FitsEntry entry → s.epoch < 2 ^ 64 → IsEventOf s k entry e → FitsEvent e
entry_fits s k entry e few fits small is = search (arith, why_fits)

-- ---- the line of an outcome answers nothing else that is due
module _ (f : Profile) (s : Stand) (small : IsSmall f s) (last : ℕ) (rest : List Due) (line : List ℕ) (a : Stand) (x : TakesOutcome f s last rest line a) where
  no_record : (q : Record) → Fits q → (IsOutcome q → ⊥) → line ≡ line_of q → ⊥
  no_record q fits none has = none (
    s.epoch,
    x.page,
    x.outcome,
    same_record line q (record_of s.epoch x.page x.outcome) fits (outcome_fits f s small x.page x.outcome x.of_region x.may) has x.line_is,
  )

  no_text : (text : List ℕ) → byte_at 0 (past_digits text) ≢ 32 → line ≡ text → ⊥
  no_text text other has = other (ap (λ l. byte_at 0 (past_digits l)) (sym has ∙ x.line_is) ∙ behind_actor s.epoch x.page x.outcome)

  -- it is the scavenger's, and no thread's
  no_thread : (k : ℕ) → 0 < k → (text : List ℕ) → of_u8 text ≡ k → line ≡ text → ⊥
  no_thread k some text is has = search (arith, outcome_actor)

  no_writing : (item : Record) → IsOfThread item ⊎ (Fits item × (IsOutcome item → ⊥)) → line ≡ line_of item → ⊥
  no_writing (Record.Said k said) (inl of) has = no_thread k of.0 (line_of_answer k said) (spaced_actor k of.1 (line_of_answer k said) (said_spaced k of.1 said)) has
  no_writing (Record.Event e) (inl of) has = of
  no_writing (Record.Phase n) (inl of) has = of
  no_writing Record.Close (inl of) has = of
  no_writing item (inr fits) has = no_record item fits.0 fits.1 has

  no_entry_of : (t : Stand) (k : ℕ) (entry : Entry) (e : Event) → t.epoch < 2 ^ 64 → (k < 2 ^ 8) × ((0 < k) ⊎ FitsEntry entry) → IsEventOf t k entry e
      → line ≡ line_of_event e → ⊥
  no_entry_of t k entry e epoch (few, inl some) is has = no_thread k some (line_of_event e) (spaced_actor k few (line_of_event e) (entry_spaced k few t entry e is)) has
  no_entry_of t k entry e epoch (few, inr fits) is has = no_record (Record.Event e) (entry_fits t k entry e few fits epoch is)
      (no_outcome (Record.Event e) (no_entry t k entry e is)) has

  no_serving : (t : Stand) → IsSmall f t → (k : ℕ) (r : Request) → FitsRequest f k r → (item : Record) → MayServe f t k r item → line ≡ line_of item → ⊥
  no_serving t new k r fits item may has = no_record item (serves_fits f t new k r fits item may) (no_outcome item (serves_none f t k r item may)) has

  outcome_apart : (t : Stand) → IsSmall f t → (due : List Due) → FitsNext f due → past_outcomes due ≡ due → (b : Stand) → TakesDue f t due line b → ⊥
  outcome_apart t new (Writes item ∷ more) fits no_pass b y = no_writing item fits y.0
  outcome_apart t new (Frees k entry ∷ more) fits no_pass b y = no_entry_of t k entry y.event new.epoch fits y.of_entry y.line_is
  outcome_apart t new (Serves k r old ∷ more) fits no_pass b y = no_serving t new k r fits y.item y.may y.line_is
  outcome_apart t new (Tries keeper k r backed ∷ more) fits no_pass b (inl y) =
      no_serving t new keeper r fits.kept (Record.Event y.event) (y.serves, y.admitted) y.line_is
  outcome_apart t new (Tries keeper k r backed ∷ more) fits no_pass b (inr y) =
      no_serving (serving t k r more) (small_serving f t k r more new) k r fits.own y.1.item y.1.may y.1.line_is
  outcome_apart t new (Examines page ∷ more) fits no_pass b y = let e : length more ≡ suc (length more) = ap length no_pass in absurd (omega (arith, e))
  outcome_apart t new (Heads ∷ more) fits no_pass b y = no_text _ (λ e. omega (arith, e)) y.0
  outcome_apart t new (Shows page d ∷ more) fits no_pass b y = no_text _ (λ e. omega (arith, e)) y.line_is
  outcome_apart t new (Totals ∷ more) fits no_pass b y = no_text _ (λ e. omega (arith, e)) y.0
  outcome_apart t new other fits no_pass b y = y

-- ---- THE NEXT STATE is one
fits_first : (f : Profile) (due : List Due) → FitsNext f due → FitsFirst f due
fits_first f due fits = search arith

module _ (f : Profile) (s : Stand) (small : IsSmall f s) where
  one_first : (due : List Due) (line : List ℕ) (a b : Stand) → TakesFirst f s due line a → TakesFirst f s due line b → a ≡ b
  one_first due line a b x y = search (arith, one_outcome)

  module _ (new : IsSmall f (ready f s)) (fits : FitsNext f (ready f s).due) (no_pass : past_outcomes (ready f s).due ≡ (ready f s).due) where
    first_apart : (due : List Due) (line : List ℕ) (a b : Stand) → TakesFirst f s due line a → TakesDue f (ready f s) (ready f s).due line b → ⊥
    first_apart due line a b x y = search (arith, outcome_apart)

    -- A line that may come next leads to one state.
    pub one_takes : (line : List ℕ) (a b : Stand) → Takes f s line a → Takes f s line b → a ≡ b
    one_takes line a b (inl x) (inl y) = one_first s.due line a b x y
    one_takes line a b (inl x) (inr y) = absurd (first_apart s.due line a b x y)
    one_takes line a b (inr x) (inl y) = absurd (first_apart s.due line b a y x)
    one_takes line a b (inr x) (inr y) = one_next f (ready f s) new (ready f s).due (fits_first f (ready f s).due fits) line a b x y

-- ---- Lines that the machine judges, taken or not
-- so few events can't have so many gives at an address
counted : (es : List Event) (e : Event) → IsFew es → IsUncounted es e → ⊥
counted es e few is = search (arith, gives_few)

-- The machine's step has taken the event where it could come, and nothing otherwise.
pub stepped : (old new : Machine) (e : Event) (result : Result Unit StepFault) → Steps old new e result → IsStepped old new e (is_ok result)
stepped old new e result steps = search (arith, never_of, counted)

-- ---- an entry
-- the event of an entry is of a grain of the region, where it may come
pub entry_place : (f : Profile) (s : Stand) (k : ℕ) (entry : Entry) (e : Event) → IsEventOf s k entry e → Admits f s.events e
    → IsPlace f (address_of entry.name)
entry_place f s k entry e is admitted = search arith

-- An entry whose event was tried is taken where the machine took it.
pub entry_stepped : (k : ℕ) (entry : Entry) (epoch : ℕ) (line : List ℕ) (old new : Machine) (e : Event)
    → ((s : Stand) → StandsFor old s.events → s.epoch ≡ epoch → IsEventOf s k entry e) → line ≡ line_of_event e → (taken : Bool) → IsStepped old new e taken
    → EntryTaken (profile_of old) old new k entry epoch line taken
entry_stepped k entry epoch line old new e of_entry is true stepped = (
  e,
  is,
  λ s stands same.
      let took = stepped s.events stands in (of_entry s stands same, took.0, took.1),
)
entry_stepped k entry epoch line old new e of_entry is false stepped = (
  stepped.0,
  λ s g stands few same of may has.
      stepped.1 s.events stands few (subst (Admits (profile_of old) s.events) (one_event s k entry g e of (of_entry s stands same)) may),
)

-- ---- The lines of a request, taken or not
-- ---- what is wanted
kind_known : (shared : Bool) (class : ℕ) → IsClass class → IsKind (kind_of_class shared class)
kind_known shared class known = search arith

-- the kind of the pages for a class that serves a request
pub class_kind : (shared : Bool) (f : Profile) (size align class : ℕ) → route_in f size align ≡ Class class → IsKind (kind_of_class shared class)
class_kind shared f size align class is =
    kind_known shared class (class_known f.classes size align class (subst (IsRouteOf f.classes size align) is (route_is f.classes size align)))

-- ---- the pages under a block
-- a page that isn't of the region has no deed
pub no_deed : (machine : Machine) (es : List Event) (page : ℕ) (d : Directory) → StandsFor machine es → (IsPage (profile_of machine) page → ⊥)
    → deed_in es page ≢ Some d
no_deed machine es page d stands outside has = outside (deed_page (profile_of machine) es stands.run page d has)

-- the grain where a page meets a run
grain_there : (g n page : ℕ) → 0 < n → g / 256 ≤ page → page < (g + (n - 1)) / 256 + 1 → (x : ℕ) × (in_run g n x ≡ true) × (x / 256 ≡ page)
grain_there g n page some low high = elim (cases_lt g (256 * page)) [
  | inl before ↦ (
    256 * page,
    and_from (nat_le g (256 * page)) (nat_lt (256 * page) (g + n)) (le-leb g (256 * page) (omega (arith, before)))
        (lt-ltb (256 * page) (g + n) (omega (arith, some, high, before))),
    omega arith,
  )
  | inr after ↦ (g, and_from (nat_le g g) (nat_lt g (g + n)) (le-leb g g (omega arith)) (lt-ltb g (g + n) (omega (arith, some))), omega (arith, low, after))
]

lies_where : (es : List Event) (block : Block) (d : Directory)
    → IsEach (grain_of block.name / 256) ((grain_of block.name + (length_of block - 1)) / 256 + 1) (λ page. deed_in es page ≡ Some d) → LiesOn es block d
lies_where es block d each x within = search (arith, leb-true, and_parts, ltb-true)

lies_each : (es : List Event) (block : Block) (d : Directory) → 0 < length_of block → LiesOn es block d
    → IsEach (grain_of block.name / 256) ((grain_of block.name + (length_of block - 1)) / 256 + 1) (λ page. deed_in es page ≡ Some d)
lies_each es block d some lies page low high =
    let there = grain_there (grain_of block.name) (length_of block) page some low high in
    subst (λ p. deed_in es p ≡ Some d) there.2 (lies there.0 there.1)

-- Each page of a block is of the directory exactly where each grain's page is.
pub lies_as_pages_do : (es : List Event) (block : Block) (d : Directory) → 0 < length_of block → (each : Bool)
    → MatchBool each (IsEach (grain_of block.name / 256) ((grain_of block.name + (length_of block - 1)) / 256 + 1) (λ page. deed_in es page ≡ Some d))
    (IsEach (grain_of block.name / 256) ((grain_of block.name + (length_of block - 1)) / 256 + 1) (λ page. deed_in es page ≡ Some d) → ⊥)
    → MatchBool each (LiesOn es block d) (LiesOn es block d → ⊥)
lies_as_pages_do es block d some true all = lies_where es block d all
lies_as_pages_do es block d some false not_all = λ lies. not_all (lies_each es block d some lies)

-- a record that was read and answers a request is an event that serves it or a refusal
pub no_answer : (f : Profile) (s : Stand) (k : ℕ) (r : Request) {found : Option Record}
    → ((e : Event) → found ≡ Some (Record.Event e) → MayServe f s k r (Record.Event e) → ⊥) → (RefusesBy f s k r found → ⊥)
    → (item : Record) → found ≡ Some item → MayServe f s k r item → ⊥
no_answer f s k r none unrefused item is may = search arith

-- ---- Outcomes of a pass, taken or not
-- ---- the outcome of a record
abbrev record_in : ℕ → Examined → Record
record_in epoch x = record_of epoch x.page x.outcome

event_is : (epoch : ℕ) (e : Event) (x : Examined) → outcome_in_event epoch e ≡ Some x → Record.Event e ≡ record_in epoch x
event_is epoch e x h = search (arith, if_some, eqb-true, same_Some, none-some)

said_is : (epoch : ℕ) (said : Said) (x : Examined) → outcome_in_said said ≡ Some x → Record.Said 0 said ≡ record_in epoch x
said_is epoch said x h = search (arith, same_Some, none-some)

-- A record that tells a page's outcome is the record of just that outcome.
pub record_is : (epoch : ℕ) (r : Record) (x : Examined) → outcome_in epoch r ≡ Some x → r ≡ record_of epoch x.page x.outcome
record_is epoch r x h = search (arith, event_is, if_some, eqb-true, said_is, none-some)
