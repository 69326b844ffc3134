use Rattle.std.proofs.Common.{List, subst, arith}
use Rattle.acl_sets.specs.declared.sets.Range.{Range}
use Rattle.acl_sets.specs.Ranges.{IsNormal}
use Rattle.acl_shade.proofs.sizes.measure_of.Goals as goal

pub overflow_cast-low : goal.overflow_cast-low
overflow_cast-low c =
    let N : List Range → Type 0 = λ z. IsNormal c.loop-range.invariant.floor c.args.set.now.top z in
    let n = subst N c.in-Some.ensures.steps c.loop-range.invariant.normal in
    omega (arith, n.1, n.2, c.top.ensures, c.if-top-gt-SHORT_TOP.false)
