use Rattle.std.proofs.{Common.rules, lemmas.Iterator.{YieldsList-from_map_by, YieldsList-from_slice, Consumers.{map_from_collect, YieldsList-at}}}
use Rattle.std.specs.String.{string_bytes}
use Rattle.pas.proofs.lent.Goals as goal

pub returns : goal.returns
returns c = map_from_collect _ c.collect.ensures.ran (YieldsList-from_map_by _ (λ r. r.now) string_bytes
    (YieldsList-at c.map.ensures.source (YieldsList-from_slice c.args.words.now c.iter.ensures.rest)) c.map.ensures.closure (λ x r q k. search rules))
