use Rattle.acl_packet.proofs.DecimalLaws.{number-one}
use Rattle.acl_text.proofs.laws.texts_have_one_number.Goals as goal

pub returns : goal.returns
returns c = number-one
