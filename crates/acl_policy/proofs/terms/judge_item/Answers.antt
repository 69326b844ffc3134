use Rattle.acl_policy.proofs.ValueLaws.{checked_plain}
use Rattle.acl_policy.proofs.terms.judge_item.Goals as goal

pub put_values-requires : goal.put_values-requires
put_values-requires c =
    let clause = c.args.clause.now in
    checked_plain c.args.row c.args.draft.now clause.keyword.now clause.values.now c.requires c.in_ok-check_item.ensures
