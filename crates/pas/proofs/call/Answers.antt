use Rattle.std.{proofs.Common.{◌≡◌, ◌⊎◌, ℕ, List, map, ap, ◌∙◌, subst}, specs.String.string_bytes}
use Rattle.pas_calls.specs.Outputs.{texts_of, IsAccepted, IsCutOff, IsWriting, IsWritten}
use Rattle.pas.proofs.call.Goals as goal

pub returns-clause-written : goal.returns-clause-written
returns-clause-written g c =
    let same : texts_of c.deref.result.now ≡ map string_bytes c.args.words.now = ap texts_of c.deref.ensures.value ∙ c.in_ok-words.ensures in
    subst (λ (t : List (List ℕ)). IsWriting c.pas_main.result → IsWritten t (g.S.Source.rest c.args.source.now) (g.K.Sink.held c.args.sink.now) (g.K.Sink.held c.pas_main.new.sink) c.pas_main.result) same
    c.pas_main.ensures.written

pub returns-clause-usage : goal.returns-clause-usage
returns-clause-usage g c =
    let same : texts_of c.deref.result.now ≡ map string_bytes c.args.words.now = ap texts_of c.deref.ensures.value ∙ c.in_ok-words.ensures in
    subst (λ (t : List (List ℕ)). (IsAccepted t → ⊥) → (c.pas_main.new.source ≡ c.args.source.now) × ((c.pas_main.result ≡ 2) ⊎ (c.pas_main.result ≡ 4))) same
    c.pas_main.ensures.usage

pub returns-clause-sink_failed : goal.returns-clause-sink_failed
returns-clause-sink_failed g c =
    let same : texts_of c.deref.result.now ≡ map string_bytes c.args.words.now = ap texts_of c.deref.ensures.value ∙ c.in_ok-words.ensures in
    subst (λ (t : List (List ℕ)). c.pas_main.result ≡ 4 → IsCutOff t (g.S.Source.rest c.args.source.now) (g.K.Sink.held c.args.sink.now)
    (g.K.Sink.held c.pas_main.new.sink) (g.K.Sink.faults c.args.sink.now) (g.K.Sink.faults c.pas_main.new.sink)) same
    c.pas_main.ensures.sink_failed
