use Rattle.acl_policy.proofs.PolicyFit.{read_fits, read_stands, read_slips}
use Rattle.acl_policy.proofs.policy_parsing.read_policy.Goals as goal

pub returns-clause-fits : goal.returns-clause-fits
returns-clause-fits c = read_fits c.judge_policy.result c.args.words.now c.judge_policy.ensures

pub returns-clause-places : goal.returns-clause-places
returns-clause-places c = λ lines h. read_stands lines c.judge_policy.result c.args.words.now c.judge_policy.ensures h

pub returns-clause-slip : goal.returns-clause-slip
returns-clause-slip c = λ lines h. read_slips lines c.judge_policy.result c.args.words.now c.judge_policy.ensures h
