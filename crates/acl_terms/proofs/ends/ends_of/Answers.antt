use Rattle.std.proofs.Common.{rules}
use Rattle.acl_terms.proofs.SlipLaws.{networks_by_ends}
use Rattle.acl_terms.proofs.ends.ends_of.Goals as goal

pub returns-in_err-src-clause-judged : goal.returns-in_err-src-clause-judged
returns-in_err-src-clause-judged c = rw (networks_by_ends c.args.known.now.networks c.args.raw.now) (search rules)

pub returns-in_err-dst-clause-judged : goal.returns-in_err-dst-clause-judged
returns-in_err-dst-clause-judged c = rw (networks_by_ends c.args.known.now.networks c.args.raw.now) (search rules)

pub returns-in_err-either-clause-judged : goal.returns-in_err-either-clause-judged
returns-in_err-either-clause-judged c = rw (networks_by_ends c.args.known.now.networks c.args.raw.now) (search rules)

pub returns-clause-judged : goal.returns-clause-judged
returns-clause-judged c = rw (networks_by_ends c.args.known.now.networks c.args.raw.now) (search rules)
