use Rattle.std.proofs.Common.{ap, sym, ◌∙◌}
use Rattle.acl_packet.specs.declared.addresses.Family.{Family}
use Rattle.acl_packet.specs.NumberWords.{icmp_in}
use Rattle.acl_packet.proofs.number_words.type_of.Goals as goal

pub returns-in-V4 : goal.returns-in-V4
unfolding icmp_in
returns-in-V4 c = c.number_by.ensures ∙ ap (λ (f : Family). icmp_in f c.args.word.now) (sym c.in-V4.is)

pub returns-in-V6 : goal.returns-in-V6
unfolding icmp_in
returns-in-V6 c = c.number_by-in-V6.ensures ∙ ap (λ (f : Family). icmp_in f c.args.word.now) (sym c.in-V6.is)
