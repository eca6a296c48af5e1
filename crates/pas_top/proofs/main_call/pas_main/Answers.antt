use Rattle.std.proofs.Common.{rules, refl, ap, subst, inl, arith, ◌≡◌, ℕ, List}
use Rattle.pas_io.specs.Inputs.{IsInput}
use Rattle.pas_telling.specs.{Outcomes.{outcome_status, outcome_text}, Calls.{IsCall, IsMisread}, declared.{manner.Manner.Manner, words.Call.Call}}
use Rattle.pas_answers.specs.Ways.{OnThreads}
use Rattle.pas_calls.proofs.{Statuses.{gen_written, gen_cut_off, gen_sound, gen_summed, cut_off, not_four, sound, written}, Endings.{check_output, check_sure}}
use Rattle.pas_calls.proofs.Endings.{comes_faulty, comes_judged, comes_long, ended_cut_off, ended_failed, ended_sound, ended_status, ended_sure, ended_with}
use Rattle.pas_calls.proofs.{Endings.{ended_written, replay_faulty, replay_long, replay_output, replay_sure}, Headline.written_told}
use Rattle.pas_calls.specs.{Judgements.verdict_status, Outputs.{IsReplaying, IsChecking, IsAccepted, IsOutput, most_bytes, texts_of}}
use Rattle.pas_top.proofs.main_call.pas_main.Given as given
use Rattle.pas_top.proofs.main_call.pas_main.Goals as goal

-- The words of a call for a replay are its manner's.
asked_for : (words : List (List ℕ)) {call : Call} {given manner : Manner} → call ≡ Call.Replay given → given ≡ manner → IsCall words call
    → IsReplaying manner words
asked_for words is same asked = subst (λ (m : Manner). IsReplaying m words) same (subst (IsCall words) is asked)

pub returns-in-Ok-Gen-clause-written : goal.returns-in-Ok-Gen-clause-written
returns-in-Ok-Gen-clause-written g c = gen_written c.generate.ensures.told
    (subst (IsCall (texts_of c.args.words.now)) c.in-Ok-Gen.field-0-is c.in-Ok-Gen.ensures.call)

pub returns-in-Ok-Gen-clause-sink_failed : goal.returns-in-Ok-Gen-clause-sink_failed
returns-in-Ok-Gen-clause-sink_failed g c = gen_cut_off c.generate.ensures.told
    (subst (IsCall (texts_of c.args.words.now)) c.in-Ok-Gen.field-0-is c.in-Ok-Gen.ensures.call)

pub returns-in-Err-Usage-clause-sink_failed : goal.returns-in-Err-Usage-clause-sink_failed
returns-in-Err-Usage-clause-sink_failed g c =
    let other : IsAccepted (texts_of c.args.words.now) → ⊥ = subst (IsMisread (texts_of c.args.words.now)) c.in-Err-Usage.field-0-is c.in-Err-Usage.ensures.misread in
    cut_off c.tell.ensures (inl (other, refl, refl)) (λ e. omega (arith, e))

-- ---- a replay in the order of the text
pub returns-in-Ok-Replay-InOrder-clause-status : goal.returns-in-Ok-Replay-InOrder-clause-status
returns-in-Ok-Replay-InOrder-clause-status g c = ended_status c.order_input.ensures.ends (λ s is. inl is)

pub returns-in-Ok-Replay-InOrder-clause-written : goal.returns-in-Ok-Replay-InOrder-clause-written
returns-in-Ok-Replay-InOrder-clause-written g c =
    let asked : IsReplaying Manner.InOrder (texts_of c.args.words.now) =
    asked_for _ c.in-Ok-Replay-InOrder.field-0-is c.in-Ok-Replay-InOrder.field-0-0-is c.in-Ok-Replay-InOrder.ensures.call in
    ended_written c.order_input.ensures.ends (λ s is. inl is) (texts_of c.args.words.now) (replay_output Manner.InOrder asked)

pub returns-in-Ok-Replay-InOrder-clause-text : goal.returns-in-Ok-Replay-InOrder-clause-text
returns-in-Ok-Replay-InOrder-clause-text g c asked bytes told zero = written_told (texts_of c.args.words.now)
    (g.S.Source.rest c.args.source.now) _ _ c.order_input.result asked (returns-in-Ok-Replay-InOrder-clause-written g c (inl zero)) bytes told zero

pub returns-in-Ok-Replay-InOrder-clause-source_failed : goal.returns-in-Ok-Replay-InOrder-clause-source_failed
returns-in-Ok-Replay-InOrder-clause-source_failed g c three =
    (ended_failed c.order_input.ensures.ends (λ s is. inl is) three, c.order_input.ensures.unheard (inl three))

pub returns-in-Ok-Replay-InOrder-clause-sink_failed : goal.returns-in-Ok-Replay-InOrder-clause-sink_failed
returns-in-Ok-Replay-InOrder-clause-sink_failed g c =
    let asked : IsReplaying Manner.InOrder (texts_of c.args.words.now) =
    asked_for _ c.in-Ok-Replay-InOrder.field-0-is c.in-Ok-Replay-InOrder.field-0-0-is c.in-Ok-Replay-InOrder.ensures.call in
    ended_cut_off c.order_input.ensures.ends (λ s is. inl is) (texts_of c.args.words.now) (replay_output Manner.InOrder asked)

pub returns-in-Ok-Replay-InOrder-clause-sink_sound : goal.returns-in-Ok-Replay-InOrder-clause-sink_sound
returns-in-Ok-Replay-InOrder-clause-sink_sound g c = ended_sound c.order_input.ensures.ends (λ quiet. ap g.K.Sink.faults (c.order_input.ensures.unheard quiet))

pub returns-in-Ok-Replay-InOrder-clause-too_long : goal.returns-in-Ok-Replay-InOrder-clause-too_long
returns-in-Ok-Replay-InOrder-clause-too_long g c reads bytes told long =
    ended_with c.order_input.ensures.ends bytes told 6 (λ status text comes. replay_long bytes status text comes long)

pub returns-in-Ok-Replay-InOrder-clause-faulty : goal.returns-in-Ok-Replay-InOrder-clause-faulty
returns-in-Ok-Replay-InOrder-clause-faulty g c manner asked bytes told short fault first =
    ended_with c.order_input.ensures.ends bytes told 1 (λ status text comes. replay_faulty bytes status text comes short fault first)

pub returns-in-Ok-Replay-InOrder-clause-complete : goal.returns-in-Ok-Replay-InOrder-clause-complete
returns-in-Ok-Replay-InOrder-clause-complete g c manner asked bytes told short plan read never unfailed =
    replay_sure bytes c.order_input.result short plan read (ended_sure c.order_input.ensures.ends bytes told never unfailed)

-- ---- a replay on threads
pub returns-in-Ok-Replay-OnThreads-clause-status : goal.returns-in-Ok-Replay-OnThreads-clause-status
returns-in-Ok-Replay-OnThreads-clause-status g c = ended_status c.run_input.ensures.ends (λ s is. inl is)

pub returns-in-Ok-Replay-OnThreads-clause-written : goal.returns-in-Ok-Replay-OnThreads-clause-written
returns-in-Ok-Replay-OnThreads-clause-written g c =
    let asked : IsReplaying Manner.OnThreads (texts_of c.args.words.now) =
    asked_for _ c.in-Ok-Replay-OnThreads.field-0-is c.in-Ok-Replay-OnThreads.field-0-0-is c.in-Ok-Replay-OnThreads.ensures.call in
    ended_written c.run_input.ensures.ends (λ s is. inl is) (texts_of c.args.words.now) (replay_output Manner.OnThreads asked)

pub returns-in-Ok-Replay-OnThreads-clause-source_failed : goal.returns-in-Ok-Replay-OnThreads-clause-source_failed
returns-in-Ok-Replay-OnThreads-clause-source_failed g c three =
    (ended_failed c.run_input.ensures.ends (λ s is. inl is) three, c.run_input.ensures.unheard (inl three))

pub returns-in-Ok-Replay-OnThreads-clause-sink_failed : goal.returns-in-Ok-Replay-OnThreads-clause-sink_failed
returns-in-Ok-Replay-OnThreads-clause-sink_failed g c =
    let asked : IsReplaying Manner.OnThreads (texts_of c.args.words.now) =
    asked_for _ c.in-Ok-Replay-OnThreads.field-0-is c.in-Ok-Replay-OnThreads.field-0-0-is c.in-Ok-Replay-OnThreads.ensures.call in
    ended_cut_off c.run_input.ensures.ends (λ s is. inl is) (texts_of c.args.words.now) (replay_output Manner.OnThreads asked)

pub returns-in-Ok-Replay-OnThreads-clause-sink_sound : goal.returns-in-Ok-Replay-OnThreads-clause-sink_sound
returns-in-Ok-Replay-OnThreads-clause-sink_sound g c = ended_sound c.run_input.ensures.ends (λ quiet. ap g.K.Sink.faults (c.run_input.ensures.unheard quiet))

pub returns-in-Ok-Replay-OnThreads-clause-too_long : goal.returns-in-Ok-Replay-OnThreads-clause-too_long
returns-in-Ok-Replay-OnThreads-clause-too_long g c reads bytes told long =
    ended_with c.run_input.ensures.ends bytes told 6 (λ status text comes. replay_long bytes status text comes long)

pub returns-in-Ok-Replay-OnThreads-clause-faulty : goal.returns-in-Ok-Replay-OnThreads-clause-faulty
returns-in-Ok-Replay-OnThreads-clause-faulty g c manner asked bytes told short fault first =
    ended_with c.run_input.ensures.ends bytes told 1 (λ status text comes. replay_faulty bytes status text comes short fault first)

pub returns-in-Ok-Replay-OnThreads-clause-complete : goal.returns-in-Ok-Replay-OnThreads-clause-complete
returns-in-Ok-Replay-OnThreads-clause-complete g c manner asked bytes told short plan read never unfailed =
    replay_sure bytes c.run_input.result short plan read (ended_sure c.run_input.ensures.ends bytes told never unfailed)

-- ---- a summary
pub returns-in-Ok-Gen-clause-summed : goal.returns-in-Ok-Gen-clause-summed
returns-in-Ok-Gen-clause-summed g c seed ops threads pages asked never = gen_summed _ _ c.generate.ensures.told never

pub returns-in-Ok-Gen-clause-sink_sound : goal.returns-in-Ok-Gen-clause-sink_sound
returns-in-Ok-Gen-clause-sink_sound g c whole = gen_sound _ _ c.generate.ensures.told (λ five. ap g.K.Sink.faults (c.generate.ensures.memory five)) whole

pub returns-in-Err-Usage-clause-sink_sound : goal.returns-in-Err-Usage-clause-sink_sound
returns-in-Err-Usage-clause-sink_sound g c whole = sound _ _ c.tell.ensures whole

-- ---- a check
pub returns-in-Ok-Check-clause-status : goal.returns-in-Ok-Check-clause-status
returns-in-Ok-Check-clause-status g c = ended_status c.check_input.ensures.ends (λ s is. is)

pub returns-in-Ok-Check-clause-written : goal.returns-in-Ok-Check-clause-written
returns-in-Ok-Check-clause-written g c =
    let asked : IsChecking (texts_of c.args.words.now) = subst (IsCall (texts_of c.args.words.now)) c.in-Ok-Check.field-0-is c.in-Ok-Check.ensures.call in
    ended_written c.check_input.ensures.ends (λ s is. is) (texts_of c.args.words.now) (check_output asked)

pub returns-in-Ok-Check-clause-source_failed : goal.returns-in-Ok-Check-clause-source_failed
returns-in-Ok-Check-clause-source_failed g c three = (ended_failed c.check_input.ensures.ends (λ s is. is) three, c.check_input.ensures.unheard (inl three))

pub returns-in-Ok-Check-clause-sink_failed : goal.returns-in-Ok-Check-clause-sink_failed
returns-in-Ok-Check-clause-sink_failed g c =
    let asked : IsChecking (texts_of c.args.words.now) = subst (IsCall (texts_of c.args.words.now)) c.in-Ok-Check.field-0-is c.in-Ok-Check.ensures.call in
    ended_cut_off c.check_input.ensures.ends (λ s is. is) (texts_of c.args.words.now) (check_output asked)

pub returns-in-Ok-Check-clause-sink_sound : goal.returns-in-Ok-Check-clause-sink_sound
returns-in-Ok-Check-clause-sink_sound g c = ended_sound c.check_input.ensures.ends (λ quiet. ap g.K.Sink.faults (c.check_input.ensures.unheard quiet))

pub returns-in-Ok-Check-clause-too_long : goal.returns-in-Ok-Check-clause-too_long
returns-in-Ok-Check-clause-too_long g c reads bytes told long =
    ended_with c.check_input.ensures.ends bytes told 6 (λ status text. comes_long bytes status text long)

pub returns-in-Ok-Check-clause-mistraced : goal.returns-in-Ok-Check-clause-mistraced
returns-in-Ok-Check-clause-mistraced g c asked bytes told short fault first =
    ended_with c.check_input.ensures.ends bytes told 1 (λ status text. comes_faulty bytes status text short fault first)

pub returns-in-Ok-Check-clause-judged : goal.returns-in-Ok-Check-clause-judged
returns-in-Ok-Check-clause-judged g c asked bytes told short verdict judged =
    ended_with c.check_input.ensures.ends bytes told (verdict_status verdict) (λ status text. comes_judged bytes status text short verdict judged)

pub returns-in-Ok-Check-clause-checked : goal.returns-in-Ok-Check-clause-checked
returns-in-Ok-Check-clause-checked g c asked bytes told short plan read never unfailed =
    check_sure bytes c.check_input.result short plan read (ended_sure c.check_input.ensures.ends bytes told never unfailed)
