use Rattle.std.proofs.Common.{map}
use Rattle.std.specs.String.{string_bytes}
use Rattle.acl_options.proofs.CommandLineLaws.{found_for}
use Rattle.acl_options.proofs.commands.find_matches.Goals as goal

pub returns : goal.returns
returns c = λ app made.
    found_for (map string_bytes c.args.words.now) app c.in_ok-command.field-0 c.args.command c.matches_of.result
    c.in_ok-command.was c.matches_of.ensures made
