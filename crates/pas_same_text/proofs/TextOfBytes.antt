-- THE TEXT OF THE BYTES is that of a replay of any plan of them.
use Rattle.std.proofs.Common.{◌≡◌, ℕ, ◌==◌, if◌then◌else◌, List, Option, Some, ap, sym, ◌∙◌}
use Rattle.pas_same_text.proofs.Common.{Profile, IsPlanOf, Parsed, Op, Plan, phases_of, keepers_of, World, text_of, replayed, replay_of}
use Rattle.pas_same_text.proofs.Common.{region_of as text_region}
use Rattle.pas_trace.specs.{Plans.shared_in, Reasons.guard_in}

-- whatever is told of a region and of what a replay in it comes to
module _ {A : Type 0} (tells : Profile → World → A) where
  abbrev pub by_parts : Profile → ℕ → List (List Op) → A
  by_parts f keepers phases = tells f (replayed f keepers phases)

  -- The replay of the text is that of its plan, in whose region the threads alone are actors.
  pub replay_told : (bytes : List ℕ) (plan : Plan) (is : IsPlanOf bytes plan)
      → (let p : Parsed = record { header = is.header; items = is.items } in tells (text_region p) (replay_of p))
      ≡ tells plan.profile (replayed plan.profile (keepers_of plan) (phases_of plan))
  replay_told bytes plan is =
      let f : Profile = record is.header.profile { shared = shared_in is.items } in
      let keepers : (if guard_in is.items == 0 then 0 else is.header.profile.threads) ≡ keepers_of plan =
      ap (λ (guard : ℕ). if guard == 0 then 0 else is.header.profile.threads) (sym is.guard) ∙ ap (λ (g : Profile). if plan.guard == 0 then 0 else g.threads) (sym is.profile)
      in
      cc

abbrev pub its_text : Profile → World → Option (List ℕ)
its_text f w = Some (text_of f w)
