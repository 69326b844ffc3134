use Rattle.acl_packet.proofs.DecimalLaws.{number-again}
use Rattle.acl_text.proofs.laws.numbers_are_read_again.Goals as goal

pub returns : goal.returns
returns c = number-again
