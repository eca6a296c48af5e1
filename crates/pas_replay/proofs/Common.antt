-- WORDS OF CRATES BELOW AND OF specs/ that two files or more of this folder speak of: tools/fold_imports.py writes the lines.
pub use Rattle.pas_acts.proofs.{ActsLeft.acts_left, AtDesk.sits_for, PlanFacts.{plan_bounds, plan_fit, plan_operate, plan_planned, plan_valid}}
pub use Rattle.pas_acts.specs.{AtDesks.{ThreadActs, and_for, here}, Awake.{awake_in, idle_in}, Tries.{AreKeptFor, tries_of}, Turns.{Moves, RestsAt}, Works.Sits}
pub use Rattle.pas_answers.{proofs.{Consequences.{acts_shown, replays}, OwnRecords.EachShown, SingleActs.{may_pack, sum_both}}, specs.Answers.Caches}
pub use Rattle.pas_answers.specs.{Answers.{Progress, after_settling}, Calls.{MayStand, what_of}, Fit.{AreFit, AreOfThreads, cost_of_act, costs_of}}
pub use Rattle.pas_answers.specs.{Indexes.{AllAreNamedBy, indexes_after_all, with_noted}, Keeping.owed_by_keeper, Names.{block_named, names_held}}
pub use Rattle.pas_answers.specs.{Reaching.{Advances, Reaches}, Replays.{Shows, acts_of_plan, at_start, keepers_of, phases_of, region_of}, Rests.AreAtRest}
pub use Rattle.pas_answers.specs.{Ways.InOrder, declared.names.Names.Names}
pub use Rattle.pas_bits.specs.{Masks.is_set, declared.mask.Mask4.Mask4}
pub use Rattle.pas_cache.specs.{Caches.{Cached, cached}, declared.cache.ThreadCache.ThreadCache}
pub use Rattle.pas_guard.specs.{Books.{FitsBook, guards_in, is_outer}, declared.book.GuardBook.GuardBook}
pub use Rattle.pas_large.specs.Doors.{Indexes, no_ranges}
pub use Rattle.pas_plain.specs.{Plain.{PassStands, RegionStands, actor_of, profile_of}, Seats.{pass_of, standing_of}, declared.desk.PlainDesk.PlainDesk}
pub use Rattle.pas_plain.specs.declared.pass.PlainPass.{PlainPass}
pub use Rattle.pas_profile.specs.declared.{guard.Guard.Guard, profile.Profile.Profile}
pub use Rattle.pas_records.specs.{Rooms.{Records, records_in, room_of}, declared.record.Record.Record}
pub use Rattle.pas_replay.specs.{Kits.{IsKitOf, replay_of}, Sessions.{ActorStands, AreCaches, GoesBy, Hand, HasNames, HaveBooks, HavePlaces, IsAt, IsTaken}}
pub use Rattle.pas_replay.specs.Sessions.{Left, Replay, SeatStands, Session, SoFar, SoFarAt, TakesSeat, hand_of, owed_by, owed_of, owes, own_events, pass_in}
pub use Rattle.pas_replay.specs.{Sessions.{rests, rests_as, session, telling, upon}, Taking.{Begins, Between, dearest, left_between}}
pub use Rattle.pas_replay.specs.declared.seats.Actors.{Actors}
pub use Rattle.pas_steps.specs.{Lists.{Legal, Whole, part}, Unknown.unknown_pages, Views.View}
pub use Rattle.pas_trace.{proofs.EveryPlan.every_plan, specs.Acts.{Act, Ends, Lowers, MarksClose, MarksPhase, Operates, Settles, Wakes, acts_of, acts_of_op}}
pub use Rattle.pas_trace.specs.{Acts.{acts_of_ops, acts_of_work, idle_stops, is_active, numbers_from, phase_acts}, Asked.work_of, Codes.unlined}
pub use Rattle.pas_trace.specs.{EveryPlan.all_ops, Plans.IsPlanOf, Reasons.cost_of_size, Scripts.without_lines, declared.plan.{Op.Op, Plan.Plan, Task.Task}}
pub use Rattle.pas_trace.specs.declared.plan.{What.What, Work.Work}
pub use Rattle.std.proofs.{Math.Nat.suc-mul, lemmas.{Bool.{cases_eq, cases_lt, lt-leb}, List.{get_or_default, length-map, set-get_or}, Option.same_Some}}
pub use Rattle.std.specs.List.{filter}
