use Rattle.std.proofs.Common.{map}
use Rattle.std.specs.String.{string_bytes}
use Rattle.acl_options.proofs.ToolLaws.{tool-none, tool-some}
use Rattle.acl_options.proofs.tool_commands.read_tool_command.Goals as goal

pub returns : goal.returns
returns c =
    let words = map string_bytes c.args.words.now in
    let exact = c.request_for.ensures in
    record {
      some = tool-some words c.request_for.result exact;
      none = tool-none words c.request_for.result exact;
      exact = exact;
    }
