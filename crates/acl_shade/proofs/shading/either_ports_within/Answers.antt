use Rattle.std.proofs.Common.{sym, ◌∙◌}
use Rattle.acl_packet.specs.declared.packet_fields.Field.TheVariants.{SourcePort, DestinationPort}
use Rattle.acl_shade.proofs.shading.either_ports_within.Goals as goal

pub some_within-requires-clause-source : goal.some_within-requires-clause-source
some_within-requires-clause-source c = c.args.term.now.sound.tops SourcePort ∙ sym c.args.earlier.now.sound.ports_top

pub some_within-requires-clause-destination : goal.some_within-requires-clause-destination
some_within-requires-clause-destination c = c.args.term.now.sound.tops DestinationPort ∙ sym c.args.earlier.now.sound.ports_top
