use Rattle.gen_nftables.proofs.TableNames.{all-differ}
use Rattle.gen_nftables.proofs.laws.targets_of_different_numbers_have_different_tables.Goals as goal

pub returns : goal.returns
returns c = all-differ
