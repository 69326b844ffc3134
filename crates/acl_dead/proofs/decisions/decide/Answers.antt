use Rattle.acl_dead.specs.QuestionSteps.{question}
use Rattle.acl_dead.proofs.DecisionLaws.{decided}
use Rattle.acl_dead.proofs.decisions.decide.Goals as goal

pub returns : goal.returns
returns c =
    decided c.args.terms.now c.args.target.now c.args.today c.args.place c.index-terms-place.result (question c.in_ok-asked.asked)
    c.requires c.index-terms-place.is c.in_ok-asked.ensures c.decide_asked.result c.decide_asked.ensures
