use Rattle.std.proofs.Common.{◌≡◌, ℕ, ◌<◌, ◌≤◌, true, length, get_or, inl, inr, sym, ap, ◌∙◌, subst, arith}
use Rattle.std.proofs.lemmas.Bool.{cases_lt, or_cases}
use Rattle.std.specs.List.Sorted.{IsNonDecreasing}
use Rattle.acl_sets.specs.declared.sets.Range.{Range}
use Rattle.acl_sets.specs.Ranges.{inside}
use Rattle.acl_shade.proofs.MarkLaws.{inside-from, range-holds}
use Rattle.acl_shade.proofs.SeenLaws.{all-seen, not-before, sees-yet}
use Rattle.acl_shade.proofs.seen_numbers.SeenNumbers.add.Goals as goal

pub loop-i-preserved : goal.loop-i-preserved
loop-i-preserved c =
    let before = c.loop-i.invariant in
    let sees = c.see-behind.ensures in
    let ranges = c.ranges-ranges.result in
    let at : ℕ = c.loop-i.i in
    let none : Range = record { low = 0; high = 0 } in
    let q : Range = c.at-range.result in
    let is : q ≡ get_or ranges at none = c.at-range.ensures none in
    let inner : at < length ranges = omega (arith, c.loop-i-test.true, c.len-i-end.ensures) in
    let start : ℕ = c.start_of-at.result in
    let points = c.deref.ensures.value in
    let rise = subst IsNonDecreasing (sym points) before.more.are.rise in
    record {
      more = sees-yet _ _ _ before.more sees.more;
      seen = λ r k d within small i. elim (cases_lt r at) [
        | inl old ↦ sees.more.keeps k
            (before.seen r k d old (subst (λ ps. k < length ps) sees.more.points small)
            (subst (λ ps. inside (get_or ranges r d) (get_or ps k 0) ≡ true) sees.more.points i))
        | inr new ↦
            let same : r ≡ at = omega arith in
            let this : get_or ranges r d ≡ q =
            ap (λ n. get_or ranges n d) same ∙ sym (c.at-range.ensures d) in
            let from = inside-from c.see-behind.new.self.points.items start k q
            (λ j first. subst (λ ps. get_or ps j 0 < q.low) (points ∙ sym sees.more.points)
            (c.start_of-at.ensures.below rise j first))
            (subst (λ (x : Range). inside x (get_or c.see-behind.new.self.points.items k 0) ≡ true) this i) in
            sees.sees k from.0 small from.1
      ];
      fresh = λ e. elim (or_cases c.loop-i.has_new c.see-behind.result.1 e) [
        | inl before_it ↦ before.fresh before_it
        | inr new ↦
            let n = sees.fresh new in
            let low = c.start_of-at.ensures.above rise
            (subst (λ ps. start < length ps) (sym points) (let a = n.1 in let b = n.2 in omega (arith, a, b))) in
            let up = before.more.are.rise start n.0 0 n.1 n.2 in (
              n.0,
              subst (λ ps. n.0 < length ps) before.more.points n.2,
              range-holds c.args.set.now ranges at (get_or c.args.self.now.points.items n.0 0) none
                  c.ranges-ranges.ensures.list inner
                  (subst (λ (z : Range). z.low ≤ get_or c.args.self.now.points.items n.0 0) is
                  (let first = subst (λ ps. q.low ≤ get_or ps start 0) points low in
                  subst (λ ps. q.low ≤ get_or ps n.0 0) before.more.points (omega (arith, first, up))))
                  (subst (λ (z : Range). get_or c.args.self.now.points.items n.0 0 ≤ z.high) is
                  (subst (λ ps. get_or ps n.0 0 ≤ q.high) before.more.points n.3)),
              not-before c.args.self.now c.loop-i.self before.more n.0 n.4,
            )
      ];
    }

pub returns-clause-sees : goal.returns-clause-sees
returns-clause-sees c =
    all-seen c.loop-i.self c.args.set.now c.ranges-ranges.result c.ranges-ranges.ensures.list
    (λ r k d within small i. c.loop-i.invariant.seen r k d
    (omega (arith, within, c.loop-i-test.false, c.len-i-end.ensures)) small i)
