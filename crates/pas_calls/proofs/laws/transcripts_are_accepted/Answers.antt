use Rattle.pas_calls.proofs.Headline.{transcript_accepted, transcript_verdict}
use Rattle.pas_calls.proofs.laws.transcripts_are_accepted.Goals as goal

pub returns-clause-accepted : goal.returns-clause-accepted
returns-clause-accepted c = transcript_accepted

pub returns-clause-verdict : goal.returns-clause-verdict
returns-clause-verdict c = transcript_verdict
