use Rattle.acl_options.proofs.ToolLaws.{tool-answered, tool-asked}
use Rattle.acl_options.proofs.laws.tool_requests_are_asked_for.Goals as goal

pub returns : goal.returns
returns c = λ words r. (tool-asked words r, tool-answered words r)
