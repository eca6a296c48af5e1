-- How a check goes on, line by line and from place to place, and what every line keeps.
use Rattle.std.proofs.Common.{◌≡◌, ℕ, zero, suc, ◌+◌, ◌↔◌, Bool, true, false, List, [], ◌∷◌, length, take, inl, inr, refl, ap, sym, subst, ◌∙◌, arith, ◌^◌, ◌<◌}
use Rattle.std.proofs.{Common.{◌≤◌, ◌==◌, max, if◌then◌else◌, Option, Some, ◌++◌, append_assoc, append-nil, length-append}, lemmas.Option.same_Some}
use Rattle.std.proofs.Math.Seq.{take-append_seam}
use Rattle.pas_profile.specs.{declared.{profile.Profile.Profile, directory.Directory.Directory, event.Event.Event}, Directories.IsKind, Profiles.IsValid}
use Rattle.pas_profile.specs.Blocks.{address_of}
use Rattle.pas_check.specs.{Accepted.{IsDone, IsWhole, MayGo, IsStopped}, Begins.{past_outcomes, ready, ready_with}, Going.{AreAlike, SoFar}, Bounds.IsKept}
use Rattle.pas_check.specs.{Bounds.IsSmall, Calls.Reaches, Leading.{Fails, IsJustLine, IsLed, IsWithin, Leads, lines_from}, States.{Due, Examines, Stand}}
use Rattle.pas_check.specs.{States.with_due, Takes.{IsJust, Takes, TakesDue, TakesFirst}, declared.cutting.Cursor.Cursor}
use Rattle.pas_machine.specs.{Machines.{profile_of, StandsFor}, State.{deed_in, epoch_in, gives_in}, declared.machine.Machine.Machine}

-- ---- How a check goes on, line by line, and how it ends
-- before the first line
pub at_first : (f : Profile) (s : Stand) → SoFar f s [] s
at_first f s = record { go = λ more. (λ g. g, λ g. g); whole = λ more. (λ g. g, λ g. g) }

-- ---- a line is taken, and leads to one state
module _ (f : Profile) (s next : Stand) (line : List ℕ) (takes : Takes f s line next) (one : (other : Stand) → Takes f s line other → other ≡ next) where
  go_on : (more : List (List ℕ)) → MayGo f s (line ∷ more) → MayGo f next more
  go_on more go = subst (λ t. MayGo f t more) (one go.1.0 go.1.1) (go.0, go.1.2)

  whole_on : (more : List (List ℕ)) → IsWhole f s (line ∷ more) → IsWhole f next more
  whole_on more go = subst (λ t. IsWhole f t more) (one go.1.0 go.1.1) (go.0, go.1.2, go.2)

  -- A line that may come, and leads to one state, is one line more of those seen.
  pub by_line : (first : Stand) (seen : List (List ℕ)) → SoFar f first seen s → SoFar f first (seen ++ line ∷ []) next
  by_line first seen far = record {
    go = λ more.
        let e : (seen ++ line ∷ []) ++ more ≡ seen ++ line ∷ more = append_assoc seen (line ∷ []) more in
        let at = far.go (line ∷ more) in
        (λ go. go_on more (at.0 (subst (MayGo f first) e go)), λ go. subst (MayGo f first) (sym e) (at.1 (go.0, (next, takes, go.1))));
    whole = λ more.
        let e : (seen ++ line ∷ []) ++ more ≡ seen ++ line ∷ more = append_assoc seen (line ∷ []) more in
        let at = far.whole (line ∷ more) in
        (λ go. whole_on more (at.0 (subst (IsWhole f first) e go)), λ go. subst (IsWhole f first) (sym e) (at.1 (go.0, (next, takes, go.1), go.2)));
  }

-- ---- what is done without a line
alike_goes : (f : Profile) (s t : Stand) → AreAlike f s t → (more : List (List ℕ)) → MayGo f s more → MayGo f t more
alike_goes f s t like [] go = (t, refl)
alike_goes f s t like (line ∷ more) go = (go.0, (go.1.0, (like.takes line go.1.0).0 go.1.1, go.1.2))

alike_is_whole : (f : Profile) (s t : Stand) → AreAlike f s t → (more : List (List ℕ)) → IsWhole f s more → IsWhole f t more
alike_is_whole f s t like [] go = (t, refl, like.done.0 (subst (IsDone f) go.1 go.2))
alike_is_whole f s t like (line ∷ more) go = (go.0, (go.1.0, (like.takes line go.1.0).0 go.1.1, go.1.2), go.2)

other_way : {f : Profile} {s t : Stand} → AreAlike f s t → AreAlike f t s
other_way like = record { takes = λ line next. ((like.takes line next).1, (like.takes line next).0); done = (like.done.1, like.done.0) }

-- A task that is begun without a line leaves the lines seen as they are.
pub by_none : (f : Profile) (first s t : Stand) (seen : List (List ℕ)) → AreAlike f s t → SoFar f first seen s → SoFar f first seen t
by_none f first s t seen like far = record {
  go = λ more. let at = far.go more in (λ go. alike_goes f s t like more (at.0 go), λ go. at.1 (alike_goes f t s (other_way like) more go));
  whole = λ more. let at = far.whole more in (λ go. alike_is_whole f s t like more (at.0 go), λ go. at.1 (alike_is_whole f t s (other_way like) more go));
}

-- ---- the ends
seen_go : (f : Profile) (first s : Stand) (seen : List (List ℕ)) → SoFar f first seen s → MayGo f first seen
seen_go f first s seen far = subst (MayGo f first) (append-nil seen) ((far.go []).1 (s, refl))

take_one : (seen : List (List ℕ)) (line : List ℕ) (rest : List (List ℕ)) → take (length seen + 1) (seen ++ line ∷ rest) ≡ seen ++ line ∷ []
take_one [] line rest = refl
take_one (x ∷ seen) line rest = let e : suc (length seen) + 1 ≡ suc (length seen + 1) = omega arith in ap (λ n. take n (x ∷ (seen ++ line ∷ rest))) e
    ∙ ap (λ ys. x ∷ ys) (take_one seen line rest)

-- THE LINE that can't be taken is the first that isn't allowed
pub refused : (f : Profile) (first s : Stand) (seen : List (List ℕ)) (line : List ℕ) (rest : List (List ℕ)) → SoFar f first seen s
    → ((next : Stand) → Takes f s line next → ⊥)
    → IsStopped f first (seen ++ line ∷ rest) (length seen + 1)
refused f first s seen line rest far never = record {
  before = length seen;
  number = refl;
  go = subst (MayGo f first) (sym (take-append_seam seen (line ∷ rest))) (seen_go f first s seen far);
  stops = inl (
    (omega (arith, length-append seen (line ∷ rest))),
    λ go. let at = (far.go (line ∷ [])).0 (subst (MayGo f first) (take_one seen line rest) go) in never at.1.0 at.1.1,
  );
}

-- THE END of the lines: the transcript is whole where nothing is due or left, and otherwise it ends too early
pub ended_whole : (f : Profile) (first s : Stand) (lines : List (List ℕ)) → SoFar f first lines s → IsDone f s → IsWhole f first lines
ended_whole f first s lines far done = subst (IsWhole f first) (append-nil lines) ((far.whole []).1 (s, refl, done))

take_whole : (lines : List (List ℕ)) → take (length lines) lines ≡ lines
take_whole lines = ap (take (length lines)) (sym (append-nil lines)) ∙ take-append_seam lines []

-- A text that ends before all is done stops behind its last line.
pub ended_early : (f : Profile) (first s : Stand) (lines : List (List ℕ)) → SoFar f first lines s → (IsDone f s → ⊥)
    → IsStopped f first lines (length lines + 1)
ended_early f first s lines far undone = record {
  before = length lines;
  number = refl;
  go = subst (MayGo f first) (sym (take_whole lines)) (seen_go f first s lines far);
  stops = inr (refl, λ whole. let at = (far.whole []).0 (subst (IsWhole f first) (sym (append-nil lines)) whole) in undone (subst (IsDone f) at.1 at.2));
}

-- ---- How a check goes from place to place, and what every line keeps
-- ---- How a check goes from place to place
-- ---- two stretches, one after the other
module _ {f : Profile} {text : List ℕ} {s t : Stand} {old mid : Cursor} (first : Leads f text s old t mid) where
  -- What leads from one place to a second and from there to a third leads to the third.
  pub leads_on : {u : Stand} {new : Cursor} → Leads f text t mid u new → Leads f text s old u new
  leads_on {u} {new} second = record {
    taken = first.taken + second.taken;
    count = (omega (arith, first.count, second.count));
    length_is = (omega (arith, first.length_is, second.length_is));
    go = λ n.
        let e : first.taken + second.taken + n ≡ first.taken + (second.taken + n) = omega arith in
        let one = first.go (second.taken + n) in
        let two = second.go n in
        (λ g. two.0 (one.0 (subst (λ m. MayGo f s (take m (lines_from text old))) e g)), λ g. subst (λ m. MayGo f s (take m (lines_from text old))) (sym e) (one.1 (two.1 g)));
    whole = (λ g. second.whole.0 (first.whole.0 g), λ g. first.whole.1 (second.whole.1 g));
    within = second.within;
  }

  -- What leads from one place to another, from where the text fails, fails from the first.
  pub leads_fails : {number : ℕ} → Fails f text t mid number → Fails f text s old number
  leads_fails {number} fails =
      let at = fails.stopped in
      let long = first.length_is in
      let further = fails.further in
      let sum : first.taken + at.before + 1 ≡ first.taken + (at.before + 1) = omega arith in
      record {
        further = first.taken + further;
        number_is = (omega (arith, first.count, fails.number_is));
        stopped = record {
          before = first.taken + at.before;
          number = omega (arith, at.number);
          go = (first.go at.before).1 at.go;
          stops = elim at.stops [
            | inl h ↦ inl ((omega (arith, h.0, long)), λ g. h.1 ((first.go (at.before + 1)).0 (subst (λ m. MayGo f s (take m (lines_from text old))) sum g)))
            | inr h ↦ inr ((omega (arith, h.0, long)), λ g. h.1 (first.whole.0 g))
          ];
        };
      }

-- What leads to where a line is taken or fails leads on to there.
pub led_on : {f : Profile} {text : List ℕ} {s t : Stand} {old mid : Cursor} (is : Bool) (u : Stand) (new : Cursor) → Leads f text s old t mid
    → IsLed f text t mid u new is → IsLed f text s old u new is
led_on true u new first second = leads_on first second
led_on false u new first second = leads_fails first second

-- ---- no line at all
module _ (f : Profile) (text : List ℕ) (s t : Stand) (at : Cursor) where
  abbrev pub IsSameAt : List (List ℕ) → Type 0
  IsSameAt [] = Unit {0}
  IsSameAt (line ∷ more) = (next : Stand) → Takes f s line next ↔ Takes f t line next

  alike_go : (rest : List (List ℕ)) → IsSameAt rest → (n : ℕ) → MayGo f s (take n rest) ↔ MayGo f t (take n rest)
  alike_go rest same zero = (λ g. (t, refl), λ g. (s, refl))
  alike_go [] same (suc n) = (λ g. (t, refl), λ g. (s, refl))
  alike_go (line ∷ more) same (suc n) = (λ g. (g.0, (g.1.0, (same g.1.0).0 g.1.1, g.1.2)), λ g. (g.0, (g.1.0, (same g.1.0).1 g.1.1, g.1.2)))

  alike_whole : (rest : List (List ℕ)) → IsSameAt rest → (IsDone f s ↔ IsDone f t) → IsWhole f s rest ↔ IsWhole f t rest
  alike_whole rest same done = search arith

  -- Where the same lines may come before and after it, a change without a line leads on.
  pub leads_idly : IsWithin text at → IsSameAt (lines_from text at) → (IsDone f s ↔ IsDone f t) → Leads f text s at t at
  leads_idly within same done = record {
    taken = 0;
    count = omega arith;
    length_is = omega arith;
    go = λ n.
        let e : 0 + n ≡ n = omega arith in
        let way = alike_go (lines_from text at) same n in
        (λ g. way.0 (subst (λ m. MayGo f s (take m (lines_from text at))) e g), λ g. subst (λ m. MayGo f s (take m (lines_from text at))) (sym e) (way.1 g));
    whole = alike_whole (lines_from text at) same done;
    within = within;
  }

-- From a place each text leads to that place.
pub leads_nowhere : (f : Profile) (text : List ℕ) (s : Stand) (at : Cursor) → IsWithin text at → Leads f text s at s at
leads_nowhere f text s at within = leads_idly f text s s at within (same_as_itself (lines_from text at)) (λ g. g, λ g. g)
  where
    same_as_itself : (rest : List (List ℕ)) → IsSameAt f text s s at rest
    same_as_itself [] = tt
    same_as_itself (line ∷ more) = λ next. (λ g. g, λ g. g)

-- ---- one line
module _ (f : Profile) (text : List ℕ) (s : Stand) (old : Cursor) where
  -- A line that may come, and leads to one state, leads the text one line on.
  pub leads_line : (next : Stand) (new : Cursor) (line : List ℕ) → lines_from text old ≡ line ∷ lines_from text new → new.lines ≡ old.lines + 1
      → IsWithin text new
      → Takes f s line next → ((other : Stand) → Takes f s line other → other ≡ next) → Leads f text s old next new
  leads_line next new line has count within takes one = record {
    taken = 1;
    count = count;
    length_is = (omega (arith, ap length has));
    -- the line leads to that state alone, so what goes on does so from there
    go = search arith;
    whole = search arith;
    within = within;
  }

  -- it can't be taken
  pub fails_line : (line : List ℕ) (rest : List (List ℕ)) → lines_from text old ≡ line ∷ rest → ((next : Stand) → Takes f s line next → ⊥)
      → Fails f text s old (old.lines + 1)
  fails_line line rest has never = search arith

  -- there is none
  fails_early : lines_from text old ≡ [] → (IsDone f s → ⊥) → Fails f text s old (old.lines + 1)
  fails_early none undone = search arith

-- ---- where something is due that isn't the outcomes of a pass
ready_is : (f : Profile) (s : Stand) (d : Due) (more : List Due) → s.due ≡ d ∷ more → past_outcomes (d ∷ more) ≡ d ∷ more → ready f s ≡ s
ready_is f s d more due no_pass = ap (ready_with f s) (ap past_outcomes due ∙ no_pass) ∙ ap (with_due s) (sym due)

-- No outcome of a pass comes where none is due.
pub first_none : (f : Profile) (s : Stand) (d : Due) (more : List Due) → past_outcomes (d ∷ more) ≡ d ∷ more → (line : List ℕ) (next : Stand)
    → TakesFirst f s (d ∷ more) line next → ⊥
first_none f s (Examines page) more no_pass line next takes = let e : length more ≡ suc (length more) = ap length no_pass in absurd (omega (arith, e))
first_none f s other more no_pass line next takes = takes

module _ (f : Profile) (s : Stand) (d : Due) (more : List Due) (due : s.due ≡ d ∷ more) (no_pass : past_outcomes (d ∷ more) ≡ d ∷ more) where
  ready_due : (ready f s).due ≡ d ∷ more
  ready_due = ap (λ (t : Stand). t.due) (ready_is f s d more due no_pass) ∙ due

  -- Where something is due, the transcript isn't done.
  pub undone : IsDone f s → ⊥
  undone done = let e : suc (length more) ≡ 0 = ap length (sym ready_due ∙ done) in absurd (omega (arith, e))

  -- A line that may come where something is due answers what is due.
  pub takes_due : (line : List ℕ) (next : Stand) → Takes f s line next → TakesDue f s (d ∷ more) line next
  takes_due line next is = search (arith, first_none, ready_is, ready_due)

  -- A line that answers what is due may come.
  pub due_takes : (line : List ℕ) (next : Stand) → TakesDue f s (d ∷ more) line next → Takes f s line next
  due_takes line next takes = inr (search (arith, ready_due, ready_is))

  module _ (text : List ℕ) (old : Cursor) where
    -- A line that answers what is due, and leads to one state, leads the text one line on.
    pub due_taken : (next : Stand) (new : Cursor) (line : List ℕ) → lines_from text old ≡ line ∷ lines_from text new → new.lines ≡ old.lines + 1
        → IsWithin text new
        → TakesDue f s (d ∷ more) line next → ((other : Stand) → TakesDue f s (d ∷ more) line other → other ≡ next) → Leads f text s old next new
    due_taken next new line has count within takes one =
        leads_line f text s old next new line has count within (due_takes line next takes) (λ other other_takes. one other (takes_due line other other_takes))

    -- A line that doesn't answer what is due is the first that isn't allowed.
    pub due_refused : (line : List ℕ) (rest : List (List ℕ)) → lines_from text old ≡ line ∷ rest → ((next : Stand) → TakesDue f s (d ∷ more) line next → ⊥)
        → Fails f text s old (old.lines + 1)
    due_refused line rest has never = fails_line f text s old line rest has (λ next takes. never next (takes_due line next takes))

    -- Where something is due and no line is left, the text fails behind its end.
    pub due_lacks : lines_from text old ≡ [] → Fails f text s old (old.lines + 1)
    due_lacks none = fails_early f text s old none undone

    -- just one line is right
    pub just_led : (wanted : List ℕ) → ((line : List ℕ) (next : Stand) → TakesDue f s (d ∷ more) line next ↔ IsJust s wanted more line next) → (new : Cursor)
        → new.lines ≡ old.lines + 1
        → (is : Bool) → IsJustLine text old new wanted is → IsLed f text s old (with_due s more) new is
    just_led wanted just new count true is = due_taken (with_due s more) new wanted is.0 count is.1 ((just wanted (with_due s more)).1 (refl, refl))
        (λ other x. ((just wanted other).0 x).1)
    just_led wanted just new count false isnt = subst (Fails f text s old) (sym count) (lacking (lines_from text old) refl)
      where
        lacking : (ls : List (List ℕ)) → lines_from text old ≡ ls → Fails f text s old (old.lines + 1)
        lacking [] none = due_lacks none
        lacking (line ∷ rest) has = due_refused line rest has (λ next x. isnt rest (has ∙ ap (λ l. l ∷ rest) ((just line next).0 x).0))

-- ---- one line more, behind a stretch
module _ {f : Profile} {text : List ℕ} {s t : Stand} {from at : Cursor} (to : Cursor) (led : Leads f text s from t at) (d : Due) (more : List Due)
    (due : t.due ≡ d ∷ more) (no_pass : past_outcomes (d ∷ more) ≡ d ∷ more) (count : to.lines ≡ at.lines + 1) where
  -- Where no line is left behind the stretch, the text fails there.
  pub then_lacks : lines_from text at ≡ [] → Fails f text s from to.lines
  then_lacks none = subst (Fails f text s from) (sym count) (leads_fails led (due_lacks f t d more due no_pass text at none))

  -- Where the next line doesn't answer what is due, the text fails there.
  pub then_fails : {line : List ℕ} → lines_from text at ≡ line ∷ lines_from text to → ((next : Stand) → TakesDue f t (d ∷ more) line next → ⊥)
      → Fails f text s from to.lines
  then_fails {line = line} has never =
      subst (Fails f text s from) (sym count) (leads_fails led (due_refused f t d more due no_pass text at line (lines_from text to) has never))

  -- A next line that answers what is due, and leads to one state, leads there.
  pub then_leads : {line : List ℕ} {next : Stand} → lines_from text at ≡ line ∷ lines_from text to → IsWithin text to
      → TakesDue f t (d ∷ more) line next → ((other : Stand) → TakesDue f t (d ∷ more) line other → other ≡ next) → Leads f text s from next to
  then_leads {line = line} {next = next} has within takes one =
      leads_on led (due_taken f t d more due no_pass text at next to line has count within takes one)

-- ---- a state that no line tells from another
pub leads_alike : (f : Profile) (text : List ℕ) (s t : Stand) (at : Cursor) → IsWithin text at → AreAlike f s t → Leads f text s at t at
leads_alike f text s t at within like = leads_idly f text s t at within (same (lines_from text at)) like.done
  where
    same : (rest : List (List ℕ)) → IsSameAt f text s t at rest
    same [] = tt
    same (line ∷ more) = like.takes line

-- ---- What every line keeps: few events, and ends at small epochs
-- an end isn't later than this, and a deed's kind is one
abbrev pub EndsBy : ℕ → Event → Type 0
EndsBy epoch (Event.End k name read) = read ≤ epoch
EndsBy epoch (Event.Deed k page d) = IsKind d.kind
EndsBy epoch other = Unit {0}

-- in each case it computes, or is given
raised : (t : Bool) (old read epoch : ℕ) → old ≤ epoch → read ≤ epoch → (if t then max old read else old) ≤ epoch
raised t old read epoch low by = search arith

epoch_more : (e : Event) (es : List Event) (page epoch : ℕ) → EndsBy epoch e → epoch_in es page ≤ epoch → epoch_in (e ∷ es) page ≤ epoch
epoch_more e es page epoch by low = search (arith, raised)

-- each deed's kind is one
abbrev AreKinds : List Event → Type 0
AreKinds es = (page : ℕ) (d : Directory) → deed_in es page ≡ Some d → IsKind d.kind

kind_made : (t : Bool) (made d : Directory) (old : Option Directory) → IsKind made.kind → (old ≡ Some d → IsKind d.kind)
    → (if t then Some made else old) ≡ Some d → IsKind d.kind
kind_made t made d old kind before is = search (arith, same_Some)

kinds_more : (e : Event) (es : List Event) (epoch : ℕ) → EndsBy epoch e → AreKinds es → AreKinds (e ∷ es)
kinds_more e es epoch by kinds page d is = search (arith, kind_made)

-- One event more, in one line more, at an epoch so far, keeps events few and epochs small.
pub kept_more : (t s : Stand) (at to : Cursor) (e : Event) → t.events ≡ e ∷ s.events → t.epoch ≡ s.epoch → to.lines ≡ at.lines + 1 → EndsBy s.epoch e
    → IsKept s at → IsKept t to
kept_more t s at to e events epoch count by kept = search (arith, kinds_more, epoch_more)

-- without an event: all that is kept is said of the events, the epoch and the lines
pub kept_same : (t s : Stand) (at to : Cursor) → t.events ≡ s.events → t.epoch ≡ s.epoch → at.lines ≤ to.lines → IsKept s at → IsKept t to
kept_same t s at to events epoch count kept = search arith

-- From where the machine stands, that place is reached.
pub reaches_here : {f : Profile} {text : List ℕ} {s : Stand} {from : Cursor} {machine : Machine} {due : List Due} → IsWithin text from
    → StandsFor machine s.events → IsKept s from → s.due ≡ due → Reaches f text s from machine from due
reaches_here {f} {text} {s} {from} {machine} {due} within stands kept is = record {
  events = s.events;
  led = subst (λ (u : Stand). Leads f text s from u from) (ap (with_due s) is) (leads_nowhere f text s from within);
  stands = stands;
  kept = kept_same (with_due s due) s from from refl refl (omega arith) kept;
}

-- ---- such a state is small
one_more : (t : Bool) (old long : ℕ) → old ≤ long → (if t then old + 1 else old) ≤ suc long
one_more t old long low = search arith

-- No more blocks were given at an address than there are events.
pub gives_few : (es : List Event) (a : ℕ) → gives_in es a ≤ length es
gives_few [] a = omega arith
gives_few (Event.Give k block ∷ es) a = one_more (address_of block.name == a) (gives_in es a) (length es) (gives_few es a)
gives_few (other ∷ es) a = omega (arith, gives_few es a)

-- A place in a text that is no longer than an input has fewer lines before it.
pub few_lines : {text : List ℕ} {at : Cursor} → IsWithin text at → at.lines < 2 ^ 32
few_lines here = omega (arith, here.lines, here.bytes, here.short)

-- Before the 2^32nd line, the numbers of a state are small enough to be read back.
pub small_of : (f : Profile) (machine : Machine) (s : Stand) (at : Cursor) → profile_of machine ≡ f → IsValid f → StandsFor machine s.events → IsKept s at
    → at.lines < 2 ^ 32 → s.epoch < 2 ^ 64 → IsSmall f s
small_of f machine s at same valid stands kept lines epoch = search (arith, gives_few)
