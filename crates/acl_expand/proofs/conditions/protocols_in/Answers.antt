use Rattle.acl_packet.specs.declared.packet_fields.Field.TheVariants.{Protocol}
use Rattle.acl_expand.proofs.conditions.protocols_in.Goals as goal

pub without-requires-clause-top : goal.without-requires-clause-top
without-requires-clause-top c = c.args.term.now.sound.tops Protocol

pub without-requires-clause-normal : goal.without-requires-clause-normal
without-requires-clause-normal c = c.args.term.now.sound.normal Protocol
