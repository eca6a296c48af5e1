-- Notes after one more step.
use Rattle.std.proofs.Common.{◌≡◌, ℕ, ◌+◌, ◌-◌, ◌^◌, min, List, [], ◌∷◌, ◌++◌, length, reverse, Option, None, Some, ap, ◌∙◌, sym, subst, arith, append-nil}
use Rattle.std.proofs.{Common.{append_assoc, length-append}, lemmas.List.{reverse-append, length-reverse}, Math.Seq.drop-append_seam}
use Rattle.std.specs.Option.{option_to_list}
use Rattle.pas_profile.specs.{declared.event.Event.Event, Rooms.shown}
use Rattle.pas_steps.specs.{Events.{event_of, events_of, with_event}, Desks.made, Views.{View, epoch_of, known_epoch, or_zero}, declared.step.Step.Step}
use Rattle.pas_steps.specs.{declared.notes.Notes.Notes, Noted.{events_noted, epoch_noted, AreNotesOf, IsNoted, ShowsRest}}

shown_next : (o : Option Event) (shown es : List Event) → shown ≡ reverse es → shown ++ option_to_list o ≡ reverse (with_event o es)
shown_next None shown es h = append-nil shown ∙ h
shown_next (Some e) shown es h = ap (λ r. r ++ e ∷ []) h ∙ sym (reverse-append (e ∷ []) es)

-- With one more event, as many are gone, and the new one is shown last.
rest_next : (n : ℕ) (o : Option Event) (shown es : List Event) → ShowsRest n shown es → ShowsRest n (shown ++ option_to_list o) (with_event o es)
rest_next n o shown es rest = search (arith, append_assoc, shown_next)

-- What is gone and what is shown are as many as all events.
pub rest_length : {n : ℕ} {shown es : List Event} → ShowsRest n shown es → n + length shown ≡ length es
rest_length {n} {shown} {es} rest =
    let both = sym (length-append rest.gone shown) ∙ ap length rest.all ∙ length-reverse es in omega (arith, rest.many, both)

-- Where just as many are gone as before, what is shown is what was shown, and then the events that came.
pub rest_more : {n : ℕ} (old new es more : List Event) → ShowsRest n old es → ShowsRest n new (more ++ es) → new ≡ old ++ reverse more
rest_more {n} old new es more before after =
    let all = after.all ∙ reverse-append more es ∙ ap (λ xs. xs ++ reverse more) (sym before.all) ∙ append_assoc before.gone old (reverse more) in
    cc (drop-append_seam after.gone new, drop-append_seam before.gone (old ++ reverse more))

-- The count of one step more is that of a view that is longer by one.
pub count_next : (c c' n m : ℕ) → m ≡ n + 1 → c' ≡ min (c + 1) (2 ^ 64 - 1) → c ≡ min n (2 ^ 64 - 1) → c' ≡ min m (2 ^ 64 - 1)
count_next c c' n m more e h = omega arith

-- After one more step as many events are gone as before, and the rest is shown.
pub rest_noted : (n : ℕ) (old new : Notes) (k : ℕ) (s : Step) (a : ℕ) (v : View) → ShowsRest n (events_noted old) (events_of k v)
    → epoch_noted old ≡ known_epoch v → IsNoted old new k s a → ShowsRest n (events_noted new) (events_of k (made s a ∷ v))
rest_noted n old new k s a v rest knows noted =
    let shown = noted.shown ∙ ap (λ e. events_noted old ++ option_to_list (event_of k (or_zero e) s a)) knows in
    subst (λ es. ShowsRest n es (events_of k (made s a ∷ v))) (sym shown) (rest_next n (event_of k (epoch_of v) s a) (events_noted old) (events_of k v) rest)

-- Notes with one more step are those of the view with that step.
pub notes_next : (old new : Notes) (k : ℕ) (s : Step) (a : ℕ) (v : View) → AreNotesOf k v old → IsNoted old new k s a → AreNotesOf k (made s a ∷ v) new
notes_next old new k s a v are noted = search (arith, shown_next, count_next)
