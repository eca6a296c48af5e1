use Rattle.pas_trace.proofs.reader.Reader.check_wish.Goals as goal

pub returns-in-FreesRawSized : goal.returns-in-FreesRawSized
returns-in-FreesRawSized c =
    let a = c.in-FreesRawSized in
    rw a.is (c.check_sized_raw.ensures a.address a.turn)
