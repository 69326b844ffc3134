use Rattle.std.proofs.Common.{◌<◌, ◌≤◌, List, length, subst, ◌∙◌, arith}
use Rattle.acl_sets.specs.declared.sets.Range.{Range}
use Rattle.gen_iptables.proofs.GroupSteps.{counted, none-left}
use Rattle.gen_iptables.proofs.groups.count_each_group.Goals as goal

pub loop-from-preserved : goal.loop-from-preserved
loop-from-preserved c =
    let from = c.loop-from.from in
    let P : List Range → Type 0 = λ rs. from < length rs in
    let inside = subst P c.range_slice-most.ensures.list c.loop-from-test.true in
    let plus = c.saturating_add-count.ensures in
    record {
      within = c.group_end-from.ensures.greatest.within;
      fits = omega (arith, plus);
      whole = counted c.loop-from.count c.saturating_add-count.result c.args.set.now.ranges from c.group_end-from.result inside
          c.group_end-from.ensures.computed plus ∙ c.loop-from.invariant.whole;
    }

pub returns : goal.returns
returns c =
    let from = c.loop-from.from in
    let P : List Range → Type 0 = λ rs. length rs ≤ from in
    let none = none-left c.args.set.now.ranges from (subst P c.range_slice-most.ensures.list c.loop-from-test.false) in
    let fits = c.loop-from.invariant.fits in
    let whole = c.loop-from.invariant.whole in
    omega (arith, none, fits, whole)
