-- WORDS OF CRATES BELOW AND OF specs/ that two files or more of this folder speak of: tools/fold_imports.py writes the lines.
pub use Rattle.pas_answers.specs.Answers.{Answer, Books, Caches, IsFreed, IsFreedBy, IsRemadeBy, IsReplaced, IsServed, IsStopped, Named, Progress, after_answer}
pub use Rattle.pas_answers.specs.Answers.{block_of, having, named, records_of, said_by, said_of_request, said_of_room, standing_for, wanted_by, with_book}
pub use Rattle.pas_answers.specs.{Answers.{with_cache, with_records, with_steps}, Guarding.{IsTried, Tried, after_lowering, after_trying}, Indexes.IsNamedBy}
pub use Rattle.pas_answers.specs.{Indexes.indexes_after, Reaching.{AnswersGuarded, AnswersTried}, Replays.{keepers_of, phases_of}, Rests.AreAtRest}
pub use Rattle.pas_bitfit.specs.{Allocates.run_for, Runs.{Fits, IsLowestFit, NoneFits}}
pub use Rattle.pas_bits.{proofs.{PageVectors.{page_bit-clear, page_bit-set}, Runs.{run_of, to_run}, Words.{full_bit, none_of_zero}}, specs.Bits.has_bit}
pub use Rattle.pas_bits.specs.{Masks.{HasMember, IsLowestSet, is_set}, Runs.{in_run, meets_page}, declared.mask.Mask4.Mask4}
pub use Rattle.pas_cache.{proofs.{Alone.filling_for, Routes.may_find}, specs.{Caches.AtRest, Calls.TakesEntry, Changes.{EmptiesFull, EmptiesLog, GivesSlot}}}
pub use Rattle.pas_cache.specs.{Changes.{IsWithoutSlot, StopsFirst}, Contents.Cached, Kinds.{allocating, releasing}, Locals.{IsLocal, RestsWith, any_covers}}
pub use Rattle.pas_cache.specs.{Locals.{covers, local_for, others_than}, Serves.{Fetches, IsAnswered, IsObtained, IsRefill, ServesBy, ServesClass, ServesPages}}
pub use Rattle.pas_cache.specs.Serves.{filling_in, wanted_for}
pub use Rattle.pas_core.proofs.{Deeds.{backed_of, deed_has_page, deed_of, directory_is_of, known_is, looked}, Grains.one_holder, MachineRuns.agrees}
pub use Rattle.pas_core.proofs.{MachineRuns.{in_one_place, one_backed, runs}, Nexts.agreed_steps, Offers.{hinted_at_rest, offered_at_rest}, OneActor.LendsNone}
pub use Rattle.pas_core.proofs.{OneActor.{deed_same, free_stays, legal_before, legal_earlier, lends_none, offered_deed}, Rights.{deeds_known, hinted_page}}
pub use Rattle.pas_core.{proofs.Rights.{right_in_one_place, right_not_offered, spotted}, specs.{Fits.HasNoFit, Good.{IsInOnePlace, IsPartOf, word_of_backed}}}
pub use Rattle.pas_core.specs.{Good.word_of_deed, Hints.IsEmptyBacked, Rights.{IsRightInOnePlace, IsUsableFree, eligible_bit, empty_bit, free_of_page}}
pub use Rattle.pas_free_log.{proofs.AllEntries.take_none, specs.{Endings.{IsEndOf, reason_for}, Flushes.{AfterEnd, EntrySteps, Settled, event_for}}}
pub use Rattle.pas_free_log.specs.{Flushes.{noted_after, shown_for}, Frames.{ending, freeing}, declared.ending.Outcome.TheVariants.{Ended, Refused}}
pub use Rattle.pas_free_log.specs.declared.noting.EndedRun.{EndedRun}
pub use Rattle.pas_guard.specs.{Books.{Each, FitsBook, is_outer, is_outer_of}, Keepers.IsBeside, Raises.guard_of, Seeks.{SoughtNone, seeking}}
pub use Rattle.pas_guard.specs.Sweeps.{SweepSteps, sweeping}
pub use Rattle.pas_large.proofs.{Claims.span_in, Finds.MadeOf, Left.{hints_both, only_leaves}, Told.{looks_same, lowest_alone, never_fails}}
pub use Rattle.pas_large.specs.{Allocates.{IsScanned, IsServedNamed}, Claims.in_span, Doors.{Indexes, found_in, no_ranges}, Evidence.DeedsRise, Finds.MayFind}
pub use Rattle.pas_large.specs.{Finds.finding, Gives.{BackStep, pages_from, run_block}, Pages.GotPages, Telling.{IsLowestRun, IsUsableRun}}
pub use Rattle.pas_machine.{proofs.LiveBlocks.lives_where, specs.{Machine.Run, State.{Live, backed_in, deed_in, ends_in, epoch_in, gives_in, live_in}}}
pub use Rattle.pas_partial.specs.Rows.{IsFreeSlot, IsLowestRow}
pub use Rattle.pas_profile.proofs.{Codecs.{deed_word_of-positive, directory_from_profile, read-deed_word_of, same_from_deed_word}, Lists.{all_both, all_map}}
pub use Rattle.pas_profile.{proofs.Sizes.{class_grains_positive, slot_end, usable_grains_le}, specs.{Blocks.{address_of, grain_of, length_of}, Classes.IsClass}}
pub use Rattle.pas_profile.specs.{Classes.{IsSlotStart, class_grains, class_size, slots_of}, Directories.{IsKind, deed_word_numbered, deed_word_of}}
pub use Rattle.pas_profile.specs.{Directories.{directory_read, number_of}, Entries.{entry_of, is_sized, sized_entry}, Guards.raised_by, Layouts.same_word}
pub use Rattle.pas_profile.specs.{Profiles.{IsAdmitted, IsDirectoryOf, IsPage, IsValid}, Requests.{class_home, directory_for, is_shared, kind_of_class}}
pub use Rattle.pas_profile.specs.{Requests.{kind_of_route, room_in, route_in}, declared.directory.{Directory.Directory, Kind.Kind, Route.Route}}
pub use Rattle.pas_profile.specs.declared.{entry.Entry.Entry, event.{Event.Event, NoRoom.NoRoom, Outcome.Outcome, Why.Why}, guard.{Guard.Guard, Raised.Raised}}
pub use Rattle.pas_profile.specs.declared.{name.{Block.Block, Name.Name}, profile.Profile.Profile, word.Word.Word}
pub use Rattle.pas_records.specs.{Marks.Marked, declared.record.{Record.Record, Said.Said}}
pub use Rattle.pas_rights.{proofs.{Orders.{leave_returns, looks_only, return_returns, until_only}, Puts.{leave_due, puts_kinds}}, specs.Gives.give_steps}
pub use Rattle.pas_rights.specs.{Leaves.LeaveSteps, Looks.{HintsEmpty, ReadsAllFree, ReadsBacked, TakesNone, looks, looks_until}, PutsBack.BackSteps}
pub use Rattle.pas_rights.specs.{PutsBack.GivesDuly, Takes.{takes, word_take}, Words.{ones, words}, declared.reading.Used.Used}
pub use Rattle.pas_same_text.specs.Acts.{AreBlocksUsable, AreEndsStamped, AreResting, HandsOnOwn, HasUsableBlocks, IsBetween, IsResting, IsTaken, StaysSame}
pub use Rattle.pas_same_text.specs.{Acts.StaysSameWhere, Classes.{fetches, gives_first, gives_up, gives_up_first, is_for, makes_place, others, serves_class}}
pub use Rattle.pas_same_text.specs.{Classes.{serves_class_by, slots_for, spaced, takes_page}, Entries.IsShown, Frees.{adds, ends, ends_block, flushes, frees}}
pub use Rattle.pas_same_text.specs.{Frees.{frees_what, is_other_room, pages_of, rejects, stops}, Guards.{are_bare, lowers, raises, raises_from}}
pub use Rattle.pas_same_text.specs.{Indexes.{indexes_run, notes}, Known.{IsKept, IsKnown, KeepsSame}, Order.{acts_on, region_of, remakes, replay_of, replayed}}
pub use Rattle.pas_same_text.specs.{Order.{serves, text_for}, Pages.{are_free, blocks_on, each_of, is_cached, is_covered, is_empty, is_free, is_guarded}}
pub use Rattle.pas_same_text.specs.Pages.{is_hinted, is_kept, is_none, is_of, is_offered, is_same, is_unowned, locals_on, minds, page_numbers}
pub use Rattle.pas_same_text.specs.{Passes.{outcome_backed, outcome_of}, Reports.text_of, Requests.{AnswersSame, IsAsked, RequestStaysSame}, Runs.deeds_run}
pub use Rattle.pas_same_text.specs.{Runs.{is_run, is_usable, large_of, lowest_place, lowest_run, named_run, serves_pages}, Same.{ArePagesSame, AreSameCaches}}
pub use Rattle.pas_same_text.specs.Same.{AreSameGuards, AreSameLocals, HasSame, IsRising, IsSame, IsSameCache, IsSameLocal, has_number, lives_in}
pub use Rattle.pas_same_text.specs.{Searched.{FitsSame, IsSearch}, Searches.{address_on, backs, deeds, gives, readies, refusal, refuses, searched, some_of}}
pub use Rattle.pas_same_text.specs.{Seats.{AreSeated, IsActOf, IsKeeperOf, IsThreadOf}, State.{Cache, Local, World, cache_in, cache_of, each, is_at}}
pub use Rattle.pas_same_text.specs.{State.{live_after, locals_of, log_of, noted_of, says, set_cache, set_locals, set_log, shows}, Told.IsTold, Words.free_bit}
pub use Rattle.pas_scan.specs.{Runs.IsInRun, Usable.MakesNoDeedHere}
pub use Rattle.pas_scavenger.{proofs.Examinations.taken_on, specs.{Judgements.used_at, Pages.{EndsWithout, ExamineSteps, first_looks}, Passes.TrySteps}}
pub use Rattle.pas_scavenger.specs.{Passes.{all_tried, outcomes_in, unbacks_in}, Readings.takes_until}
pub use Rattle.pas_search.{proofs.{FindingAPage.refused_told, LoneSteps.{fewer, free_same, once_lone}}, specs.{Alone.IsLone, Kinds.{AreQuiet, AreSearch}}}
pub use Rattle.pas_search.specs.{Kinds.{EventsAt, IsDeedOrBack, IsQuiet, IsReturnOf, KeepsMarks, ReturnsDuly, searching}, Searches.{ByDeed, FromOffered}}
pub use Rattle.pas_search.specs.{Searches.{IsRefused, MaySearch}, Telling.IsTrueReason}
pub use Rattle.pas_segregated.{proofs.Starts.{start_at, start_below}, specs.{Masks.start_of, Stops.{LeavesWhere, StopStepsAt, home_of}, Takes.NoSlot}}
pub use Rattle.pas_segregated.specs.{Takes.fewer_slots, declared.slots.Slots.Slots}
pub use Rattle.pas_steps.proofs.{Adding.triples_append, Apart.{epoch_same, events_same, in_apart, no_events, only_both, only_within}, Calls.returns_are}
pub use Rattle.pas_steps.proofs.{Frames.events_append, Parts.{part_of_others, part_of_own}, Past.{always_both, always_map, once_later, once_map}}
pub use Rattle.pas_steps.{proofs.Sets.same_truth, specs.{Agreement.Agreed, Clear.HasNothing, Desks.{made, triple, triples}, Effects.{free_word_at, target}}}
pub use Rattle.pas_steps.specs.{Events.{event_of, events_by, with_event}, Evidence.Readings, Frames.{IsReturn, OnlyReturns}, InTurn.InTurn, Kinds.Backing}
pub use Rattle.pas_steps.specs.Kinds.{Giving, Hinting, Kinds, LookDeed, LookFree, LookLife, Offering, Only, Putting, Stamping, Taking, Unbacking, Unhinting}
pub use Rattle.pas_steps.specs.{Kinds.{apart, is_in, kind_of, looking, place_of, returning, showing}, Lists.{Legal, Whole, part, visible, word_after}}
pub use Rattle.pas_steps.specs.{Past.{Always, Once, Since}, Views.{View, all_ones, epoch_of, has_right, holds, known_deed, usable_by_kind}}
pub use Rattle.pas_steps.specs.declared.step.{Made.Made, Step.{Step, TheVariants.{Back, Deed, Give, Hint, Look, Offer, Park, Stamp, Take, TakeRight, Unback}}}
pub use Rattle.pas_steps.specs.declared.step.Step.TheVariants.{Unhint, Unpark}
pub use Rattle.pas_trace.{proofs.Keepers.plan_actors, specs.{Acts.{Act, numbers_from}, Asked.request_in, EveryPlan.IsThread, Plans.{IsPlanOf, Parsed}}}
pub use Rattle.pas_trace.specs.declared.{fault.{Reason.Reason, TraceFault.TraceFault}, item.Request.Request, plan.{Op.Op, Plan.Plan, What.What}}
pub use Rattle.pas_trace.specs.declared.plan.What.TheVariants.{Alloc, Free, Raw}
pub use Rattle.std.proofs.{Math.{Bool.{and-false, or-false}, Nat.suc-mul, Path.fun_ext}, lemmas.Bool.{and_from, cases_Bool, cases_eq, cases_lt, eqb-false}}
pub use Rattle.std.proofs.lemmas.Bool.{false_from_ne_true, false≢true, not-false, not-true, not_from_false, or_cases, or_left, or_right, Decides.nat_tests}
pub use Rattle.std.proofs.lemmas.{Grind.reverse_onto, List.{map-append, reverse-append, reverse-reverse, Elements.{All-head, All-tail, filter-append}}}
pub use Rattle.std.{proofs.lemmas.{List.Folds.list_any-append, Option.{none-some, same_Some}}, specs.List.{AllByRecursion, count_by, filter, find, flat_map}}
pub use Rattle.std.specs.List.{list_any}
