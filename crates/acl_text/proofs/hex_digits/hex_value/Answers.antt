use Rattle.std.proofs.Common.{arith}
use Rattle.acl_text.proofs.HexTable.{value_below, value_above}
use Rattle.acl_text.proofs.hex_digits.hex_value.Goals as goal

pub returns-then-value-lt16-clause-exact : goal.returns-then-value-lt16-clause-exact
returns-then-value-lt16-clause-exact c =
    value_below c.args.c c.from.result c.from-then-value-lt16.result (omega (arith, c.ranges.c.fits)) c.from.ensures c.if-value-lt16.true c.from-then-value-lt16.ensures

pub returns-else-value-lt16-clause-exact : goal.returns-else-value-lt16-clause-exact
returns-else-value-lt16-clause-exact c =
    value_above c.args.c c.from.result (omega (arith, c.ranges.c.fits)) c.from.ensures c.if-value-lt16.false
