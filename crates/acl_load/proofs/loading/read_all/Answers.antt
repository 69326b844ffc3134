use Rattle.std.proofs.Common.{arith}
use Rattle.std.proofs.lemmas.Grind.{common_steps}
use Rattle.acl_load.proofs.LoadLaws.{kinds_told}
use Rattle.acl_load.proofs.loading.read_all.Goals as goal

pub returns-clause-gives : goal.returns-clause-gives
returns-clause-gives g c =
    kinds_told _ _ _ _ _ _ _ _ _ c.add_all.ensures.reads.only.looks.files_stay c.new-empty.ensures
    (grind (arith, common_steps)) c.in_ok-base.ensures.gives c.add_all-2.ensures.gives
