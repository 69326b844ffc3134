use Rattle.std.proofs.Common.{◌≡◌, ◌==◌, false, List, [], ◌∷◌, length, ap, sym, subst, ◌∙◌, arith}
use Rattle.acl_sets.specs.declared.sets.Range.{Range}
use Rattle.gen_iptables.proofs.GroupSteps.{one-group}
use Rattle.gen_iptables.proofs.groups.whole_group.Goals as goal

pub returns : goal.returns
returns c =
    let own = c.range_slice-ranges.ensures.list in
    let rs = c.args.set.now.ranges in
    let Some : List Range → Type 0 = λ l. (length l == 0) ≡ false in
    let some = subst Some own (sym c.is_empty.ensures ∙ c.if-is_empty.false) in
    let same = ap (λ (l : List Range). length l) own in
    let computed = c.group_end.ensures.computed in
    let short = c.if-group_end-ranges.false in
    one-group rs some (omega (arith, same, computed, short)) ∙ ap (λ l. l ∷ []) (sym own)
