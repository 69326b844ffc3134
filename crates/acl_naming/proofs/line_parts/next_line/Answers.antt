use Rattle.std.proofs.Common.{sym}
use Rattle.acl_text.proofs.CursorLaws.{lines_step}
use Rattle.acl_naming.proofs.LineLaws.{seen_lines, seen_shorter}
use Rattle.acl_naming.proofs.line_parts.next_line.Goals as goal

pub returns-in-Some-clause-some : goal.returns-in-Some-clause-some
returns-in-Some-clause-some c = seen_lines c.args.bytes.now c.in-Some.line.now c.in-Some.form c.in-Some.rest.now c.in-Some.ensures

pub returns-in-Some-clause-shorter : goal.returns-in-Some-clause-shorter
returns-in-Some-clause-shorter c = seen_shorter c.args.bytes.now c.in-Some.line.now c.in-Some.form c.in-Some.rest.now c.in-Some.ensures

pub returns-clause-some : goal.returns-clause-some
returns-clause-some c = lines_step c.args.bytes.now c.in_ok-line.line.now c.in_ok-line.rest.now (sym c.in_ok-line.ensures.exact)
