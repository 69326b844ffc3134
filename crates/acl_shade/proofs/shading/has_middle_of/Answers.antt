use Rattle.std.proofs.Common.{◌≡◌, false, subst, sym, ◌∙◌, arith}
use Rattle.acl_sets.specs.ComputableSets.{all_covered}
use Rattle.acl_sets.specs.Ranges.{IsNormal}
use Rattle.acl_shade.proofs.FamilyLaws.{number-apart}
use Rattle.acl_shade.proofs.shading.has_middle_of.Goals as goal

pub returns : goal.returns
returns c = λ apart.
    let top = c.args.set.now.top in
    let others = c.args.other.now.ranges in
    let list = c.ranges-ranges.ensures.list in
    subst (λ rs. all_covered rs others ≡ false) list
    (number-apart top c.ranges-ranges.result others _ c.at.result
    (omega (arith, c.if-len-lt-LONG.false, c.len.ensures, c.len-2.ensures)) (c.at.ensures c.at.result)
    (subst (IsNormal 0 top) (sym list) c.ranges-ranges.ensures.normal) (sym c.contains.ensures ∙ apart))
