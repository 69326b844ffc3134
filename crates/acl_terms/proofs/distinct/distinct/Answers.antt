use Rattle.std.proofs.Common.{refl, rules}
use Rattle.acl_terms.proofs.OnceLaws.{nothing-marked, taken-all, taken-next}
use Rattle.acl_terms.proofs.distinct.distinct.Goals as goal

pub loop-number-init : goal.loop-number-init
loop-number-init c = rw c.new-out.ensures.items (
    let none = nothing-marked _ refl in
    record {
      marks = none.0;
      long = none.1;
      same = λ n. refl;
    })

pub loop-number-preserved : goal.loop-number-preserved
loop-number-preserved c =
    let taken = c.in_ok-take.ensures in
    let had = c.loop-number.invariant in
    record {
      marks = taken.marks;
      long = taken.long;
      same = taken-next c.loop-number.out.items c.take.new.out.items c.args.numbers.now c.loop-number.number-index
          c.loop-number-test.true taken.taken had.same;
    }

pub returns : goal.returns
returns c = taken-all c.loop-number.out.items c.args.numbers.now c.loop-number.number-index
    (search rules) c.loop-number.invariant.same
