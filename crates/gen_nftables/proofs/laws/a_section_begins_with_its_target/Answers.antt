use Rattle.gen_nftables.proofs.TableNames.{first-line}
use Rattle.gen_nftables.proofs.laws.a_section_begins_with_its_target.Goals as goal

pub returns : goal.returns
returns c = first-line
