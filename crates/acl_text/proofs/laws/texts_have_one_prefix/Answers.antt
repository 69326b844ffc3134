use Rattle.acl_text.proofs.AddressLaws.{prefix-one}
use Rattle.acl_text.proofs.laws.texts_have_one_prefix.Goals as goal

pub returns : goal.returns
returns c = prefix-one
