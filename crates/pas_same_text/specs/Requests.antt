-- A REQUEST in a replay, one that an operation asks for or one for the block that replaces another: what is known of it, and what it owes.
use Rattle.std.specs.Prelude.{ℕ, ◌≤◌, length, Some}
use Rattle.pas_profile.specs.{Profiles.{IsValid, IsAdmitted}, Requests.{route_in, room_in}, declared.profile.Profile.Profile}
use Rattle.pas_steps.specs.Lists.{part}
use Rattle.pas_trace.specs.{EveryPlan.IsThread, declared.item.Request.Request}
use Rattle.pas_answers.specs.{Answers.{Progress, Answer, having, IsServed, after_answer}, Indexes.IsNamedBy}
use Rattle.pas_same_text.specs.{State.World, Order.serves, Same.IsSame, Acts.IsBetween}

-- Thread k asks for r after p, and is answered by a; the text's state is w then. All actors are at rest before and after it. Where it is for whole pages, the run was
-- named for it that the text's index names.
pub record IsAsked (f : Profile) (k : ℕ) (r : Request) (p : Progress) (a : Answer) (w : World) : Type 0 where
  pub valid : IsValid f
  pub thread : IsThread f k
  pub listed : k ≤ length w.caches
  pub admitted : IsAdmitted f r.size r.align r.heap
  pub before : IsBetween f p
  pub after : IsBetween f (after_answer p k a)
  pub same : IsSame f p w
  pub served : IsServed f k r (having p.names (part k p.list) (p.caches k)) a
  pub named : IsNamedBy f w.indexes (Some r) a.found

-- the state that the function comes to is that of the replay after the answer
abbrev pub AnswersSame : Profile → ℕ → Request → Progress → Answer → World → Type 0
AnswersSame f k r p a w = IsSame f (after_answer p k a) (serves f k r.name r.heap (route_in f r.size r.align) (room_in f r.size r.align) r.align w)

-- THE DEBT of a request
abbrev pub RequestStaysSame : Profile → ℕ → Request → Type 0
RequestStaysSame f k r = (p : Progress) (a : Answer) (w : World) → IsAsked f k r p a w → AnswersSame f k r p a w
