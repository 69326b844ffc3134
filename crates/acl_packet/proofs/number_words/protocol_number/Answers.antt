use Rattle.std.proofs.Common.{lit<}
use Rattle.acl_packet.specs.NumberWords.{protocols, protocol_in}
use Rattle.acl_packet.proofs.NumberWordLaws.{word-some, word-none}
use Rattle.acl_packet.proofs.number_words.protocol_number.Goals as goal

pub returns-clause-some : goal.returns-clause-some
unfolding protocol_in
returns-clause-some c = word-some protocols 1 255 c.args.word.now c.protocol_of.result (lit< tt) c.protocol_of.ensures

pub returns-clause-none : goal.returns-clause-none
unfolding protocol_in
returns-clause-none c = word-none protocols 1 255 c.args.word.now c.protocol_of.result (lit< tt) c.protocol_of.ensures
