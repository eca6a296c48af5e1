-- Steps of an actor that is alone at a plain region, one after the other.
use Rattle.std.proofs.Common.{◌≡◌, ℕ, ◌≤◌, ◌∷◌, sym, ◌∙◌, subst, arith}
use Rattle.pas_steps.specs.{Allowed.Allowed, Desks.{Makes, made, triples}, Effects.target, Events.wants, Lists.word_after, Views.View, declared.step.Made.Made}
use Rattle.pas_steps.specs.declared.step.Step.{Step}
use Rattle.pas_plain.{specs.{Seats.{DeskStands, standing_of}, declared.desk.PlainDesk.PlainDesk}, proofs.Desks.{At, next, told}}
use Rattle.pas_tests.specs.Walks.{HasMade, lone_region}

-- such an actor stands where its walk has come
pub at : {v : View} {d : PlainDesk} → HasMade v d → At lone_region 16 1 d v
at h = record { stood = h.stood; actor_is = h.actor; of_profile = h.profile; of_room = h.room }

-- A step that may follow and was made had its answer.
pub has_made : {v : View} {d d' : PlainDesk} {a : ℕ} (m : Made) → HasMade v d → Allowed lone_region v m.step
    → m.answer ≡ word_after (triples 1 v) (target m.step) → Makes (standing_of d) (standing_of d') m.step a → HasMade (m ∷ v) d'
has_made {v} {d' = d'} m h allowed known makes =
    let after = next (at h) makes allowed in
    let same = (told after).0.answer_is ∙ sym known in
    record {
      stood = subst (λ (n : ℕ). DeskStands d' (made m.step n ∷ v) (triples 1 (made m.step n ∷ v))) same after.stood;
      actor = after.actor_is;
      profile = after.of_profile;
      room = after.of_room;
    }

-- a step makes one event at most
pub one_event : (s : Step) → wants s ≤ 1
one_event s = grind arith
