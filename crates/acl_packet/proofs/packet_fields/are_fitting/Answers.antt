use Rattle.std.proofs.Common.{arith}
use Rattle.acl_packet.proofs.FieldLaws.{numbers_fit}
use Rattle.acl_packet.proofs.packet_fields.are_fitting.Goals as goal

pub returns-clause-numbers : goal.returns-clause-numbers
returns-clause-numbers c = numbers_fit c.args.packet.now (omega arith) (omega arith) (omega arith) (omega arith)
    (omega arith)
