use Rattle.std.proofs.Common.{sym, ◌∙◌}
use Rattle.acl_packet.specs.declared.packet_fields.Field.TheVariants.{Protocol}
use Rattle.term_boxes.proofs.term_sets.protocols_in.Goals as goal

pub subtract-requires : goal.subtract-requires
subtract-requires c = c.args.term.now.sound.tops Protocol ∙ sym c.in_ok-others.ensures.top
