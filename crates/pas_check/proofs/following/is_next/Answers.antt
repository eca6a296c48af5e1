use Rattle.pas_check.proofs.Cuts.{record_line}
use Rattle.pas_check.proofs.following.is_next.Goals as goal

pub take_line-requires-clause-line : goal.take_line-requires-clause-line
take_line-requires-clause-line c =
    simp (c.as_bytes.ensures.value, c.deref.ensures.0, c.push_record.ensures.bytes, c.new-wanted.ensures, record_line)
