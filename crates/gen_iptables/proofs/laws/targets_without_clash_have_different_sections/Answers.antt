use Rattle.gen_iptables.proofs.NameLaws.{all-differ}
use Rattle.gen_iptables.proofs.laws.targets_without_clash_have_different_sections.Goals as goal

pub returns : goal.returns
returns c = all-differ
