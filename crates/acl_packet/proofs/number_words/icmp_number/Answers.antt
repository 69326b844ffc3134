use Rattle.std.proofs.Common.{lit<}
use Rattle.acl_packet.specs.NumberWords.{types_of, icmp_in}
use Rattle.acl_packet.proofs.NumberWordLaws.{word-some, word-none}
use Rattle.acl_packet.proofs.number_words.icmp_number.Goals as goal

pub returns-clause-some : goal.returns-clause-some
unfolding icmp_in
returns-clause-some c = word-some (types_of c.args.family) 0 254 c.args.word.now c.type_of.result (lit< tt) c.type_of.ensures

pub returns-clause-none : goal.returns-clause-none
unfolding icmp_in
returns-clause-none c = word-none (types_of c.args.family) 0 254 c.args.word.now c.type_of.result (lit< tt) c.type_of.ensures
