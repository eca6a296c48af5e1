use Rattle.std.proofs.{Common.{◌-◌, arith, length-take}, lemmas.{List.with_items_is, Slice.take-put_mid}}
use Rattle.pas_io.proofs.memory.MemorySinkSink.write.Goals as goal

-- what is copied stands right behind the bytes that were taken before
pub returns-clause-writes : goal.returns-clause-writes
returns-clause-writes c =
    search (arith, length-take, with_items_is, take-put_mid)
