use Rattle.acl_text.proofs.AddressLaws.{prefix-some, prefix-none}
use Rattle.acl_text.proofs.prefixes.read_prefix.Goals as goal

pub returns-clause-some : goal.returns-clause-some
returns-clause-some c = prefix-some c.args.word.now c.prefix_of.result c.prefix_of.ensures

pub returns-clause-none : goal.returns-clause-none
returns-clause-none c = prefix-none c.args.word.now c.prefix_of.result c.prefix_of.ensures
