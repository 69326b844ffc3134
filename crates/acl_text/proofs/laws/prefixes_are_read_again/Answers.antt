use Rattle.std.proofs.Common.{refl}
use Rattle.acl_text.proofs.AddressLaws.{prefix-again, spelled-again}
use Rattle.acl_text.proofs.laws.prefixes_are_read_again.Goals as goal

pub returns-clause-any : goal.returns-clause-any
returns-clause-any c = prefix-again

pub returns-clause-spelled : goal.returns-clause-spelled
returns-clause-spelled c = λ p h. spelled-again p.family p h refl
