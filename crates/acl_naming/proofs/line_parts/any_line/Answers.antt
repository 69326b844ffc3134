use Rattle.std.proofs.Common.{sym}
use Rattle.acl_text.proofs.CursorLaws.{cut_shorter}
use Rattle.acl_naming.proofs.line_parts.any_line.Goals as goal

pub returns-in-Some-clause-shorter : goal.returns-in-Some-clause-shorter
returns-in-Some-clause-shorter c = cut_shorter c.args.bytes.now c.in-Some.line.now c.in-Some.rest.now (sym c.in-Some.ensures)
