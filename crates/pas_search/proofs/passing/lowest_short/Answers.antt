use Rattle.pas_search.proofs.ToldVisits.{short_too, lowest_both, lowest_lower}
use Rattle.pas_search.proofs.passing.lowest_short.Goals as goal

pub returns-then-stop-eq0-clause-both : goal.returns-then-stop-eq0-clause-both
returns-then-stop-eq0-clause-both c b lt bit = (bit, short_too c.args.offered c.args.short c.ranges.short.fits b lt c.if-stop-eq0.true bit)

pub returns-clause-both : goal.returns-clause-both
returns-clause-both c = lowest_both c.args.offered c.args.short c.ranges.offered.fits c.ranges.short.fits c.if-stop-eq0.false

pub returns-clause-lowest : goal.returns-clause-lowest
returns-clause-lowest c = lowest_lower c.args.offered c.args.short c.ranges.offered.fits c.ranges.short.fits c.if-stop-eq0.false
