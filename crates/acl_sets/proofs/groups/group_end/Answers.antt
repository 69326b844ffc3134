use Rattle.std.proofs.Common.{◌+◌, List, drop, ap, ◌∙◌, arith}
use Rattle.std.proofs.lemmas.List.{length-drop}
use Rattle.acl_sets.specs.declared.sets.Range.{Range}
use Rattle.acl_sets.specs.Groups.{group_length}
use Rattle.acl_sets.proofs.GroupLaws.{group_end-is, group-some}
use Rattle.acl_sets.proofs.groups.group_end.Goals as goal

pub returns-clause-computed : goal.returns-clause-computed
returns-clause-computed c =
    c.end_from.ensures
    ∙ ap (λ (z : List Range). c.args.from + group_length c.args.most (drop c.args.from z)) c.ranges-2.ensures.list

pub returns-clause-greatest : goal.returns-clause-greatest
returns-clause-greatest c =
    group_end-is c.args.set.now.ranges c.args.from c.args.most c.end_from.result c.requires.from
    (returns-clause-computed c)

pub returns-clause-some : goal.returns-clause-some
returns-clause-some c = λ more.
    let rest : List Range = drop c.args.from c.args.set.now.ranges in
    let one = group-some rest c.args.most c.requires.most
    (omega (arith, more, length-drop c.args.from c.args.set.now.ranges)) in
    omega (arith, one, returns-clause-computed c)
