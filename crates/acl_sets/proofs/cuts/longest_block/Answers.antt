use Rattle.std.proofs.Common.{◌≡◌, arith}
use Rattle.acl_sets.proofs.CutFacts.{longest}
use Rattle.acl_sets.proofs.cuts.longest_block.Goals as goal

pub returns-then-first-last-clause-longest : goal.returns-then-first-last-clause-longest
returns-then-first-last-clause-longest c =
    let alone : c.args.first ≡ c.args.last = c.if-first-last.true in
    longest 128 c.args.first c.args.last 0 0 c.requires (omega (arith, c.ranges.first.fits)) (omega arith)
    (omega (arith, alone)) (omega arith) (omega arith)

pub returns-clause-longest : goal.returns-clause-longest
returns-clause-longest c =
    longest 128 c.args.first c.args.last c.most_free.result c.min-free.result c.requires (omega (arith, c.ranges.first.fits))
    c.most_free.ensures.fits c.most_free.ensures.most c.most_free.ensures.bound c.min-free.ensures

pub overflow_add-result : goal.overflow_add-result
overflow_add-result c =
    omega (arith, (returns-clause-longest c).fits.1, c.below_power.ensures, c.ranges.last.fits)
