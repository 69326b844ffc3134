use Rattle.std.proofs.Common.{◌+◌, sym, arith}
use Rattle.acl_naming.proofs.RowLaws.{begin_get, begin_past}
use Rattle.acl_naming.proofs.links.end_at.Goals as goal

pub returns-then-next-begins : goal.returns-then-next-begins
returns-then-next-begins c = begin_get c.args.begins.now (c.args.index + 1) 0 c.args.end (omega (arith, c.if-next-begins.true))

pub returns-else-next-begins : goal.returns-else-next-begins
returns-else-next-begins c = sym (begin_past c.args.begins.now (c.args.index + 1) c.args.end (omega (arith, c.if-next-begins.false)))
