use Rattle.std.proofs.Common.{map}
use Rattle.std.specs.String.{string_bytes}
use Rattle.acl_options.proofs.AskingLaws.{given-none, given-some}
use Rattle.acl_options.proofs.options.read_options.Goals as goal

pub returns : goal.returns
returns c =
    let words = map string_bytes c.args.words.now in
    let exact = c.options_for.ensures in
    record {
      some = given-some words c.options_for.result exact;
      none = given-none words c.options_for.result exact;
      exact = exact;
    }
