use Rattle.std.proofs.Common.{sym}
use Rattle.acl_text.proofs.AddressLaws.{prefix-in}
use Rattle.acl_text.proofs.prefixes.prefix_of.Goals as goal

pub returns-in-Some : goal.returns-in-Some
returns-in-Some c = sym (prefix-in c.args.word.now c.in-Some.prefix c.in-Some.ensures)
