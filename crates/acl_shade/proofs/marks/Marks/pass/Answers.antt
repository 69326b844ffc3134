use Rattle.std.proofs.Common.{◌≡◌, ◌⊎◌, ℕ, ◌+◌, ◌*◌, ◌<◌, ◌≤◌, true, length, get_or, inl, inr, sym, ap, ◌∙◌, subst, arith}
use Rattle.std.proofs.lemmas.Bool.{cases_lt}
use Rattle.std.specs.List.Sorted.{IsNonDecreasing}
use Rattle.acl_sets.specs.declared.sets.Range.{Range}
use Rattle.acl_sets.specs.Ranges.{holds, inside}
use Rattle.acl_shade.specs.Sifting.{RowHas}
use Rattle.acl_shade.proofs.MarkLaws.{all-marked, inside-from, more-yet, range-holds, row-stays}
use Rattle.acl_shade.proofs.marks.Marks.pass.Goals as goal

pub loop-i-preserved : goal.loop-i-preserved
loop-i-preserved c =
    let before = c.loop-i.invariant in
    let marked = c.mark-at.ensures in
    let ranges = c.ranges-ranges.result in
    let at : ℕ = c.loop-i.i in
    let none : Range = record { low = 0; high = 0 } in
    let q : Range = c.at-range.result in
    let is : q ≡ get_or ranges at none = c.at-range.ensures none in
    let inner : at < length ranges = omega (arith, c.loop-i-test.true, c.len-i-end.ensures) in
    let start : ℕ = c.start_of-at.result in
    let points = c.deref.ensures.value in
    let rise = subst IsNonDecreasing (sym points) before.more.are.rise in
    record {
      more = more-yet _ _ _ before.more marked.more;
      marked = λ r k d within small i. elim (cases_lt r at) [
        | inl old ↦ row-stays _ _ marked.more k c.args.term
            (before.marked r k d old (subst (λ ps. k < length ps) marked.more.points small)
            (subst (λ ps. inside (get_or ranges r d) (get_or ps k 0) ≡ true) marked.more.points i))
        | inr new ↦
            let same : r ≡ at = omega arith in
            let this : get_or ranges r d ≡ q =
            ap (λ n. get_or ranges n d) same ∙ sym (c.at-range.ensures d) in
            let from = inside-from c.mark-at.new.self.points.items start k q
            (λ j first. subst (λ ps. get_or ps j 0 < q.low) (points ∙ sym marked.more.points)
            (c.start_of-at.ensures.below rise j first))
            (subst (λ (x : Range). inside x (get_or c.mark-at.new.self.points.items k 0) ≡ true) this i) in
            marked.marks k from.0 small from.1
      ];
      beside = record {
        size = c.keep-asks.ensures.beside.size ∙ before.beside.size;
        beside = λ bit out has. c.keep-asks.ensures.beside.beside bit
            (subst (λ w. (bit < 64 * (c.args.term * w)) ⊎ (64 * (c.args.term * w + w) ≤ bit)) (sym before.more.width) out)
            (before.beside.beside bit out has);
      };
      asked = λ asks. before.asked (c.keep-asks.ensures.asked asks);
      kept = λ e small all has.
          subst (λ w. RowHas w c.keep-asks.new.left c.args.term e) before.more.width
          (c.keep-asks.ensures.keeps e (subst (λ w. e < 64 * w) (sym before.more.width) small)
          (λ asks k from inside high.
          let low = c.start_of-at.ensures.above rise
          (subst (λ ps. start < length ps) (sym points) (omega (arith, from, inside))) in
          let up = before.more.are.rise start k 0 from inside in
          row-stays _ _ before.more k e (all (before.asked asks) k
          (subst (λ ps. k < length ps) before.more.points inside)
          (subst (λ ps. holds c.args.set.now.ranges (get_or ps k 0) ≡ true) before.more.points
          (range-holds c.args.set.now ranges at _ none c.ranges-ranges.ensures.list inner
          (subst (λ (z : Range). z.low ≤ get_or c.loop-i.self.points.items k 0) is
          (let first = subst (λ ps. q.low ≤ get_or ps start 0) points low in omega (arith, first, up)))
          (subst (λ (z : Range). get_or c.loop-i.self.points.items k 0 ≤ z.high) is high)))))
          (subst (λ w. RowHas w c.loop-i.left c.args.term e) (sym before.more.width) (before.kept e small all has)));
    }

pub returns-clause-marks : goal.returns-clause-marks
returns-clause-marks c =
    all-marked _ _ _ c.args.term c.args.set.now c.ranges-ranges.result c.ranges-ranges.ensures.list
    (λ r k d within small i. c.loop-i.invariant.marked r k d
    (omega (arith, within, c.loop-i-test.false, c.len-i-end.ensures)) small i)
