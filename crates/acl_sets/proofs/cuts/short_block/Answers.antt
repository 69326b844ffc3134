use Rattle.std.proofs.Common.{arith}
use Rattle.acl_sets.proofs.CutFacts.{longest}
use Rattle.acl_sets.proofs.cuts.short_block.Goals as goal

pub returns-clause-longest : goal.returns-clause-longest
returns-clause-longest c =
    longest 64 c.args.first c.args.last c.short_most_free.result c.min-free.result c.requires.0 (omega (arith, c.ranges.first.fits))
    c.short_most_free.ensures.fits c.short_most_free.ensures.most (omega (arith, c.short_most_free.ensures.bound)) c.min-free.ensures
