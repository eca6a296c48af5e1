-- WORDS OF CRATES BELOW AND OF specs/ that two files or more of this folder speak of: tools/fold_imports.py writes the lines.
pub use Rattle.pas_acts.proofs.{ActsOfPlan.idle_few, AtDesk.{leaves_rest, rests_still, sits_for, sits_still}, Naming.{below_front, sound_front}}
pub use Rattle.pas_acts.proofs.{PhaseActs.{acts_are_shared, kept_thread, own_thread, owner_of}, PlanFacts.{is_guarded, plan_bounds, plan_threads, plan_valid}}
pub use Rattle.pas_acts.specs.{AtDesks.{ThreadActs, here}, Keepers.{KeeperAt, KeeperLowers, Keeping, LaterKept, StandsStill, keeper_has}, NameBooks.NamesAt}
pub use Rattle.pas_acts.specs.{NameBooks.{names_asked, requests_in, room_for}, Pairs.{AreTriedBy, AreUnguarded, KeeperWaits, KeptPushed, PairWorks, for_guards}}
pub use Rattle.pas_acts.specs.{Parts.AreRooms, PlanKeepers.guarded_of, Shares.{IsWoven, acts_by, owner_in}, Turns.RestsAt, Works.Later}
pub use Rattle.pas_acts.specs.declared.names.NameBook.{NameBook}
pub use Rattle.pas_answers.proofs.{EachAct.{all_back, all_front}, OwnRecords.{all_by, none_by, records_both}, Reached.{goes_on, reach_both}}
pub use Rattle.pas_answers.specs.{Answers.Progress, Calls.{OnlyAsked, owed_events}, Fit.{costs_of, own_costs_of}, Names.names_held, Phases.AreInPhases}
pub use Rattle.pas_answers.specs.{Phases.{AtMark, StandFirst}, Reaching.Reaches, Replays.{at_start, empty_cache, keepers_of, phases_of, region_of, threads_of}}
pub use Rattle.pas_answers.specs.{Stages.{Stage, in_hands, itself, one_by_one, phase_stages, stage, stages_of}, Ways.{EachOf, OnThreads, by_actors, records_by}}
pub use Rattle.pas_bits.specs.{Masks.is_set, declared.mask.Mask4.Mask4}
pub use Rattle.pas_cache.specs.{Caches.{Cached, cached}, declared.cache.ThreadCache.ThreadCache}
pub use Rattle.pas_core.{proofs.Choosing.part_of_chosen, specs.Orders.steps_by}
pub use Rattle.pas_profile.specs.{Rooms.{EventRoom, shown}, declared.profile.Profile.Profile}
pub use Rattle.pas_records.specs.{Rooms.{Records, records_in, room_of}, declared.record.Record.Record}
pub use Rattle.pas_shared.{proofs.Benching.{among_picked, row_tells, stands_first}, specs.Benches.{HasLooked, IsBenchOf, IsMemberOf, MaySitOn, SitsInRow}}
pub use Rattle.pas_shared.specs.{Benches.{StandsOver, empty_row, first_row, row_on, rows_on, seat_of_member, standing_on}, Ledgers.{IsLedgerOf, actors_in}}
pub use Rattle.pas_shared.specs.{Ledgers.{looks_of, part_of, so_far}, Passes.{IsPassOf, seat_of, view_of}, Ruled.{AreEarlier, AreRowsOf, HasRow, IsEarlier}}
pub use Rattle.pas_shared.specs.Ruled.{IsRowOf, all_actors, among, bases_in, isnt, made_in, only_this, rows_of, rows_of_only, steps_of}
pub use Rattle.pas_shared.specs.declared.{bench.{Bench.Bench, Member.Member}, bench_desk.{BenchDesk.BenchDesk, BenchHome.BenchHome}, ledger.Ledger.Ledger}
pub use Rattle.pas_shared.specs.declared.{pass.SharedPass.SharedPass, region.SharedRegion.SharedRegion, rule.{Entry.Entry, Row.Row}}
pub use Rattle.pas_steps.{proofs.Parts.part_of_others, specs.{Desks.{Standing, triples}, Lists.{Whole, part}, Views.View}}
pub use Rattle.pas_threads.specs.{Closing.{ClosedFirst, ClosedSo, ClosesNext, KeeperTold, MayClose, ThreadTold}, Crews.{Crew, CrewActs, CrewAt, CrewSits, crew}}
pub use Rattle.pas_threads.specs.{Dealing.{AreDealt, AreSized, count_of, is_in, is_out, picked}, Hands.{Did, HasPass, WorkerAt, kept_by, standing_of_pass}}
pub use Rattle.pas_threads.specs.Kits.{AreEquipped, AreKeptBy, AreNew, IsEquipped, IsSupplied, kept_pass, most_records, own_passes, pass_in, passes_in}
pub use Rattle.pas_threads.specs.{Left.{HasLeft, KeepsOrder, crew_in, keeper_actors, pair_in}, Lent.{AreBeside, AreLent, AreOfCrew, IsDeskAt, IsLent}}
pub use Rattle.pas_threads.specs.{Lent.{MayLeaveAll, Shift, SitsLent, TellAs, home_at, number_in, standing_at}, Pairs.{AreGuarded, IsKeeperOf, IsLow}}
pub use Rattle.pas_threads.specs.Pairs.{KeeperLowered, KeeperRests, KeeperStands, MayDoPhase, keeper_at, kept_by_worker, kept_seated, no_more, owed_kept}
pub use Rattle.pas_threads.specs.{Performing.{HeardOrder, IsHeard, IsReady, Round, ScavengerDone, ThreadDone, round}, Scavengers.crew_of, Seats.PairSits}
pub use Rattle.pas_threads.specs.{Seats.keeper_parts, Sessions.{AreMarked, AreResting, HasPlaces, HasReplayed, HasRoom, IsOfActors, PhaseDone, ScavengerRests}}
pub use Rattle.pas_threads.specs.Sessions.{Session, StandSo, TeamAt, WentBy, WorkerHas, WorkerRests, WorkersRest, closing_acts, evenly, owed_by, planned}
pub use Rattle.pas_threads.specs.{Settling.{ActorsStand, HasBench, HasHeard, IsUp, KeeperStandsIn, PassStands, StandsIn, WorkerStandsIn}, Taken.HandsOver}
pub use Rattle.pas_threads.specs.{Taken.{HasTaken, IsWithin}, Turns.{AreDistinct, Came, HasSaid, IsDue, Pushed, Told, TookNoPart, TookTurns, Turn}}
pub use Rattle.pas_threads.specs.{Turns.{WereGathered, WokeAll, owed_at, said_by_all, said_by_keepers, said_kept}, declared.keeper.Keeper.Keeper}
pub use Rattle.pas_threads.specs.declared.{keeper.Seated.Seated, phases.Team.Team, scavenger.Scavenger.Scavenger, workers.Worker.Worker}
pub use Rattle.pas_trace.{proofs.{EveryPlan.{every_plan, own_both}, Keepers.plan_actors, ThreadsInOrder.numbers_count}, specs.Acts.{Act, Wakes, act_kept}}
pub use Rattle.pas_trace.specs.Acts.{acts_of_chore, acts_of_ops, idle_stops, idle_threads, is_active, numbers_from, own_acts, phase_acts, scavenger_acts}
pub use Rattle.pas_trace.specs.{Asked.{keeper_in, work_of}, EveryPlan.{AreSound, IsSoundWork, all_ops, asked_after, kept_records, own_records, records_of_ops}}
pub use Rattle.pas_trace.specs.{Plans.{IsPlanOf, bounds_of, ops_of}, declared.plan.{Chore.Chore, Op.Op, Phase.Phase, Plan.Plan, Work.Work}}
pub use Rattle.std.proofs.{Math.ListN.get_or-append, lemmas.{Bool.{cases_Bool, cases_eq, cases_lt, false≢true, or_right}, List.{drop_more, get_or-map}}}
pub use Rattle.std.proofs.lemmas.{List.{get_or_default, get_or_push, length-map, with_items_is, Elements.All-set}, Option.same_Some}
