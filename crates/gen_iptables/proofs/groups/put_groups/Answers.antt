use Rattle.std.proofs.Common.{◌≤◌, List, [], ◌∷◌, ◌++◌, length, drop, flat_map, refl, append-nil, ap, sym, subst, ◌∙◌, arith}
use Rattle.acl_text.proofs.Putting.{goes_on, puts-nothing}
use Rattle.acl_rows.specs.Rows.{text_of_rows}
use Rattle.acl_rows.proofs.PutLaws.{retold}
use Rattle.acl_sets.specs.declared.sets.Range.{Range}
use Rattle.acl_platform.proofs.TextFronts.{refused}
use Rattle.gen_iptables.specs.Groups.{first_group, groups}
use Rattle.gen_iptables.proofs.GroupSteps.{group-text, listed, more-text, no-groups, one-further, whole-text}
use Rattle.gen_iptables.proofs.groups.put_groups.Goals as goal

pub loop-from-init : goal.loop-from-init
loop-from-init g c = (omega arith, ([], (refl, puts-nothing c.args.out.now g.met.O.Out.rest_same c.requires.open)))

pub returns-in_err-put_group : goal.returns-in_err-put_group
returns-in_err-put_group g c =
    let f = g.F.GroupForm.group_rows c.args.form.now in
    let rs = c.args.set.now.ranges in
    let from = c.loop-from.from in
    let end = c.group_end-end.result in
    let front = c.loop-from.invariant.1.0 in
    let later = groups (drop end rs) in
    let here = retold (group-text f c.range_slice-ranges.result.now rs from end c.range_slice-ranges.ensures.list c.group_end-end.ensures.computed) c.in_err-put_group.ensures in
    let whole = whole-text f front (first_group (drop from rs)) later
    (one-further front c.range_slice-ranges.result.now rs from end c.range_slice-ranges.ensures.list c.loop-from-test.true c.group_end-end.ensures.computed c.loop-from.invariant.1.1.0
    ∙ listed c.args.set.now c.is_all.ensures.computed c.if-is_all.false) in
    refused (text_of_rows (flat_map f later)) c.from_residual.result whole g.met.O.Out.rest_goes_on c.loop-from.invariant.1.1.1 here
    c.from_residual.ensures.1

pub loop-from-preserved : goal.loop-from-preserved
loop-from-preserved g c =
    let f = g.F.GroupForm.group_rows c.args.form.now in
    let rs = c.args.set.now.ranges in
    let at = c.loop-from in
    let group = first_group (drop at.from rs) in
    let ranges = c.range_slice-ranges in
    let end = c.group_end-end in
    let here = retold (group-text f ranges.result.now rs at.from end.result ranges.ensures.list end.ensures.computed) c.in_ok-put_group.ensures in (
      end.ensures.greatest.within,
      (
        at.invariant.1.0 ++ group ∷ [],
        (
          one-further at.invariant.1.0 ranges.result.now rs at.from end.result ranges.ensures.list c.loop-from-test.true end.ensures.computed at.invariant.1.1.0,
          retold (more-text f at.invariant.1.0 group) (goes_on g.met.O.Out.rest_goes_on at.invariant.1.1.1 here),
        ),
      ),
    )

pub returns : goal.returns
returns g c =
    let f = g.F.GroupForm.group_rows c.args.form.now in
    let rs = c.args.set.now.ranges in
    let from = c.loop-from.from in
    let front = c.loop-from.invariant.1.0 in
    let P : List Range → Type 0 = λ l. length l ≤ from in
    let none = no-groups rs from (subst P c.range_slice-ranges.ensures.list c.loop-from-test.false) in
    let all = sym (append-nil front) ∙ ap (λ t. front ++ t) (sym none) ∙ c.loop-from.invariant.1.1.0
    ∙ listed c.args.set.now c.is_all.ensures.computed c.if-is_all.false in
    retold (ap (λ gs. text_of_rows (flat_map f gs)) all) c.loop-from.invariant.1.1.1
