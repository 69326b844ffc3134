use Rattle.std.proofs.Common.{subst}
use Rattle.acl_dead.specs.GridSteps.{IsGridIn}
use Rattle.acl_dead.specs.QuestionSteps.{question}
use Rattle.acl_dead.proofs.DecisionLaws.{dead_none}
use Rattle.acl_dead.proofs.grids.first_in.Goals as goal

pub returns-in-None : goal.returns-in-None
returns-in-None c =
    dead_none c.args.family (question c.args.asked.now)
    (subst (λ g. IsGridIn c.args.family (question c.args.asked.now) g) c.in-None.is c.requires.grid)
