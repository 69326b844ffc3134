use Rattle.acl_text.proofs.AddressLaws.{address-again}
use Rattle.acl_text.proofs.laws.addresses_are_read_again.Goals as goal

pub returns : goal.returns
returns c = address-again
