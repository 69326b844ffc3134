use Rattle.gen_iptables.proofs.NameLaws.{first-line}
use Rattle.gen_iptables.proofs.laws.a_section_begins_with_its_target.Goals as goal

pub returns : goal.returns
returns c = first-line
