use Rattle.gen_junos.proofs.NameLaws.{all-differ}
use Rattle.gen_junos.proofs.laws.targets_without_clash_have_different_sections.Goals as goal

pub returns : goal.returns
returns c = all-differ
