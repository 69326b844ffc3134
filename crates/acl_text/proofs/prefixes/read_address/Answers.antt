use Rattle.acl_text.proofs.AddressLaws.{address-some, address-none}
use Rattle.acl_text.proofs.prefixes.read_address.Goals as goal

pub returns-clause-some : goal.returns-clause-some
returns-clause-some c = address-some c.args.family c.args.word.now c.address_of.result c.address_of.ensures

pub returns-clause-none : goal.returns-clause-none
returns-clause-none c = address-none c.args.family c.args.word.now c.address_of.result c.address_of.ensures
