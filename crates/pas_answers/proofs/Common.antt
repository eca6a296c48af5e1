-- WORDS OF CRATES BELOW AND OF specs/ that two files or more of this folder speak of: tools/fold_imports.py writes the lines.
pub use Rattle.pas_answers.specs.Answers.{Answer, Having, IsAnswered, IsGiven, IsRemadeBy, Named, Progress, block_of, entry_with, epoch_look, having, named}
pub use Rattle.pas_answers.specs.{Answers.{records_of, request_for, said_by, standing_for, wanted_by}, Calls.{IsBlockOf, IsKnown, IsMeant, MayStand}}
pub use Rattle.pas_answers.specs.{Calls.{PerformsMeant, block_behind, named_by, what_of}, Fit.{AreOfThreads, IsFitWhat}, Guarding.{IsTried, Tried}}
pub use Rattle.pas_answers.specs.{Guarding.{after_trying, said_of_guard}, Indexes.{IsNamedFor, request_made}, PassRecords.record_of, Phases.AreInPhases}
pub use Rattle.pas_answers.specs.{Reaching.{Advances, AnswersGuarded, AnswersTried, Reaches}, Replays.{acts_of_plan, at_start, region_of, stages_of_plan}}
pub use Rattle.pas_answers.specs.{Stages.GoByStages, Ways.{IsOneOrder, Way, arranged}}
pub use Rattle.pas_cache.{proofs.Routes.{is_large, pages_asked}, specs.{Caches.{AtRest, Cached, cached}, Calls.{AllocatesPages, TakesEntry}}}
pub use Rattle.pas_cache.specs.{Changes.EmptiesFull, Serves.{Wanted, pages_of, wanted_for}}
pub use Rattle.pas_free_log.specs.declared.noting.EndedRun.{EndedRun}
pub use Rattle.pas_guard.{proofs.Raises.{raised_backs, raised_leaves}, specs.{Keepers.MakesCalls, Raises.{IsRaised, RaiseSteps}, Seeks.seeking, Sweeps.Swept}}
pub use Rattle.pas_guard.specs.Sweeps.{SweptOne, sweeping}
pub use Rattle.pas_profile.{proofs.Lists.{all_both, all_map}, specs.{Blocks.{address_of, grain_of, length_of}, Classes.IsAlignment, Directories.deed_word_of}}
pub use Rattle.pas_profile.specs.{Entries.entry_of, Profiles.{IsAdmitted, IsValid}, declared.{directory.{Directory.Directory, Route.Route}, entry.Entry.Entry}}
pub use Rattle.pas_profile.specs.declared.{event.{Event.Event, NoRoom.NoRoom, Outcome.Outcome}, guard.Guard.Guard, name.{Block.Block, Name.Name}}
pub use Rattle.pas_profile.specs.declared.{profile.Profile.Profile, word.Word.Word}
pub use Rattle.pas_records.{proofs.Showable.AreOfRegion, specs.{Lines.CanShow, Rooms.{records_in, room_of}, declared.record.{Record.Record, Said.Said}}}
pub use Rattle.pas_rights.specs.Gives.{give_steps}
pub use Rattle.pas_scan.specs.Runs.{large_directory}
pub use Rattle.pas_steps.proofs.{Adding.{adds_none, agreed_first, agreed_later, can_call}, Called.{call_none, call_then, next_call}, Frames.events_append}
pub use Rattle.pas_steps.{proofs.{Parts.{part_of_others, part_of_own}, SpareRoom.{Spares, spare_falls}, Unknown.unknown_no_more}, specs.Agreement.Agreed}
pub use Rattle.pas_steps.specs.{Allowed.IsStepOf, Calls.Calls, Clear.HasNothing, Desks.{CanCall, Standing, made, triples}, Events.events_by, Kinds.LookEpoch}
pub use Rattle.pas_steps.specs.{Kinds.{Only, is_in, kind_of, returning}, Lists.{Legal, Whole, part}, Views.View, declared.step.{Made.Made, Step.Step}}
pub use Rattle.pas_steps.specs.declared.step.Step.TheVariants.{Look, Tick}
pub use Rattle.pas_trace.{proofs.Costs.large_cost, specs.Acts.{Act, Ends, Guards, Lowers, MakesPass, MarksClose, MarksPhase, Operates, ReadsEpoch, Settles}}
pub use Rattle.pas_trace.specs.Acts.{StopsIdle, Ticks, Wakes, active_threads, acts_from, acts_of, acts_of_ops, close_acts, idle_threads, phase_acts}
pub use Rattle.pas_trace.specs.{Asked.{request_in, work_of}, EveryPlan.{IsRoomNamed, all_ops, asked_after}, Reasons.cost_of_size, declared.item.Request.Request}
pub use Rattle.pas_trace.specs.declared.plan.{Chore.Chore, Op.Op, Plan.Plan, Task.Task, What.{What, TheVariants.{Alloc, Free, FreeSized, Guarded, Remake}}}
pub use Rattle.pas_trace.specs.declared.plan.{What.TheVariants.Stop, Work.Work}
pub use Rattle.std.{proofs.lemmas.{Bool.cases_eq, List.{length-map, length-reverse}, Option.same_Some}, specs.List.AllByRecursion}
