-- WORDS OF CRATES BELOW AND OF specs/ that two files or more of this folder speak of: tools/fold_imports.py writes the lines.
pub use Rattle.pas_acts.specs.{AtDesks.{MayOperate, ThreadActs, and_for, here}, Keepers.{HasStill, KeeperHas, KeeperTries, LaterKept, StandsAt, StandsStill}}
pub use Rattle.pas_acts.specs.NameBooks.{ArePlaced, came_to, known_in, name_asked, named_of, names_asked, names_of, requests_in, room_for, table}
pub use Rattle.pas_acts.specs.{Pairs.{PairAt, PairWorks, for_guards}, Parts.{AreRooms, AreUnused}, PlanKeepers.{AreBooksFor, guarded_of, one_guarded}}
pub use Rattle.pas_acts.specs.{Shares.{AreAmong, AreInHand, IsInHand, Owners, actor_of_act, acts_by, asked_after_act}, Turns.RestsAt, Works.{KnowsNames, Later}}
pub use Rattle.pas_acts.specs.{Works.keeps, declared.names.NameBook.NameBook}
pub use Rattle.pas_answers.proofs.{EachAct.{all_acts, all_any, all_back, all_front, all_of, all_of_chore, all_of_close}, OwnRecords.{events_of_piece, none_by}}
pub use Rattle.pas_answers.proofs.{OwnRecords.{pass_of, piece_of, records_both, swept_each, try_each}, Reached.reach_both, SingleActs.{its_cache, sum_both}}
pub use Rattle.pas_answers.specs.Answers.{Answer, Books, IsAnswered, IsStopped, Named, Progress, after_answer, after_pass, after_reading, after_settling}
pub use Rattle.pas_answers.specs.Answers.{after_stop, after_tick, after_wake, answer_of, begun, epoch_look, having, named, records_of, said_by, settled}
pub use Rattle.pas_answers.specs.{Answers.{standing_for, stopped, with_book}, Calls.{MayStand, OnlyAsked, block_behind, named_by, named_with, owed_events}}
pub use Rattle.pas_answers.specs.{Calls.what_of, Fit.{AllBelow, AreBelow, AreFit, AreOfThreads, IsFitWhat, KeepsAbove, cost_of_act, cost_of_what, costs_of}}
pub use Rattle.pas_answers.specs.{Fit.{own_cost_of_act, own_costs_of, sum_over, unbacks_of_act}, Guarding.{IsLowered, IsTried, Tried, after_giving}}
pub use Rattle.pas_answers.specs.{Guarding.{after_lowering, after_trying}, Keeping.{cost_of_try, owed_by_keeper}, Names.{block_named, names_held}}
pub use Rattle.pas_answers.specs.{PassRecords.records_of_pass, Reaching.{Advances, AnswersTried, Reaches}, Replays.{at_start, empty_cache, keepers_of}}
pub use Rattle.pas_answers.specs.{Replays.{phases_of, region_of}, Ways.{AreSpoken, EachOf, records_by}, declared.names.Names.Names}
pub use Rattle.pas_bits.specs.Masks.{is_set}
pub use Rattle.pas_cache.specs.Caches.{Cached, cached}
pub use Rattle.pas_guard.specs.{Books.{guards_in, size_of_book}, declared.book.GuardBook.GuardBook}
pub use Rattle.pas_profile.{proofs.Lists.all_both, specs.{Profiles.{IsAdmitted, IsValid}, declared.{guard.Guard.Guard, name.Block.Block}}}
pub use Rattle.pas_profile.specs.declared.profile.Profile.{Profile}
pub use Rattle.pas_records.specs.{Rooms.{Records, records_in, room_of}, declared.record.{Record.Record, Said.Said}}
pub use Rattle.pas_steps.{proofs.Parts.{part_of_others, part_of_own}, specs.{Desks.{Standing, made, triples}, Events.events_by, Lists.{Whole, part}}}
pub use Rattle.pas_steps.specs.{Views.View, declared.step.Made.Made}
pub use Rattle.pas_trace.{proofs.{EveryPlan.every_plan, Keepers.{keepers_few, plan_actors}}, specs.Acts.{Act, Ends, Guards, Lowers, MakesPass, MarksPhase}}
pub use Rattle.pas_trace.specs.Acts.{Operates, ReadsEpoch, Settles, StopsIdle, Ticks, Wakes, act_kept, acts_from, acts_of, acts_of_op, acts_of_ops}
pub use Rattle.pas_trace.specs.{Acts.{acts_of_work, close_acts, idle_threads, is_active, numbers_from, own_acts, phase_acts}, Asked.{keeper_in, keeper_of}}
pub use Rattle.pas_trace.specs.{Asked.{of_task, request_in, work_of}, EveryPlan.{AreKept, AreSound, IsActorBy, IsActorOf, IsThread, all_ops, asked_after}}
pub use Rattle.pas_trace.specs.{EveryPlan.{asked_by, asked_with, is_asked, operations_of, records_of_ops}, Plans.{IsPlanOf, ops_of}, Reasons.actors_by}
pub use Rattle.pas_trace.specs.{Reasons.cost_of_size, declared.{item.Request.Request, plan.{Chore.Chore, Op.Op, Plan.Plan, What.{What, TheVariants.Alloc}}}}
pub use Rattle.pas_trace.specs.declared.plan.Work.{Work}
pub use Rattle.pas_utility.specs.Pools.{has_seat, outcomes_of, threads_of}
pub use Rattle.std.{proofs.lemmas.{Bool.{cases_eq, cases_lt, false≢true, or_parts}, List.{drop_more, length-map}}, specs.List.{AllByRecursion, filter}}
