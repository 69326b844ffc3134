use Rattle.std.proofs.Common.{arith}
use Rattle.acl_text.proofs.Bounds.{groups_bound, groups_more}
use Rattle.acl_text.proofs.ipv6.behind.Goals as goal

pub overflow_mul-result : goal.overflow_mul-result
overflow_mul-result c =
    let more = groups_more c.args.value c.args.group c.args.left c.requires.some.0 c.requires.some.1 c.requires.fits c.requires.small in
    omega (arith, groups_bound _ _ more (omega arith))

pub overflow_add-result : goal.overflow_add-result
overflow_add-result c =
    let more = groups_more c.args.value c.args.group c.args.left c.requires.some.0 c.requires.some.1 c.requires.fits c.requires.small in
    omega (arith, groups_bound _ _ more (omega arith))

pub returns-clause-fits : goal.returns-clause-fits
returns-clause-fits c = groups_more c.args.value c.args.group c.args.left c.requires.some.0 c.requires.some.1 c.requires.fits c.requires.small
