use Rattle.acl_packet.specs.NumberWords.{protocol_in}
use Rattle.acl_terms.proofs.NumberLaws.{written-result}
use Rattle.acl_terms.proofs.protocols.admitted_protocols.Goals as goal

pub returns : goal.returns
returns c =
    written-result (λ w. protocol_in w.text) c.args.words.now c.args.protos.now 255 c.set_of.result
    (c.is_empty.ensures.some c.if-is_empty.false) c.requires c.set_of.ensures
