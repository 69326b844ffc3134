use Rattle.acl_text.proofs.AddressLaws.{spelled-some, spelled-none}
use Rattle.acl_text.proofs.prefixes.read_spelled_prefix.Goals as goal

pub returns-clause-some : goal.returns-clause-some
returns-clause-some c = spelled-some c.args.family c.args.word.now c.spelled_of.result c.spelled_of.ensures

pub returns-clause-none : goal.returns-clause-none
returns-clause-none c = spelled-none c.args.family c.args.word.now c.spelled_of.result c.spelled_of.ensures
