use Rattle.std.proofs.Common.{map}
use Rattle.std.specs.String.{string_bytes}
use Rattle.acl_options.proofs.CheckLaws.{check-none, check-some}
use Rattle.acl_options.proofs.check_commands.read_check_command.Goals as goal

pub returns : goal.returns
returns c =
    let words = map string_bytes c.args.words.now in
    let exact = c.question_for.ensures in
    record {
      some = check-some words c.question_for.result exact;
      none = check-none words c.question_for.result exact;
      exact = exact;
    }
