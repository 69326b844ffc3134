use Rattle.std.proofs.Common.{ℕ, List, length, arith, sym, ap, subst}
use Rattle.acl_dead.specs.LevelSteps.{FindsFree, IsFirstFree}
use Rattle.acl_dead.proofs.WalkFacts.{row_at, step_cut, step_none, step_found, step_end}
use Rattle.acl_dead.proofs.walks.+first_free_below.Goals as goal

pub loop-step-preserved-then-share : goal.loop-step-preserved-then-share
loop-step-preserved-then-share t c =
    let at = row_at c.in-Some.level.now _ c.row-item.result c.loop-step.step c.deref-row-items.ensures.value c.loop-step-test.true c.row-item.is in
    step_cut _ c.args.levels.now c.in-Some.level.now c.in-Some.behind.now c.args.boxes.now c.row-item.result c.loop-step.step
    c.in-Some.ensures.cases.0 at.0 c.requires (c.share.ensures c.if-share.true) c.loop-step.invariant

pub returns-in-Some-2 : goal.returns-in-Some-2
returns-in-Some-2 t c =
    let at = row_at c.in-Some.level.now _ c.row-item.result c.loop-step.step c.deref-row-items.ensures.value c.loop-step-test.true c.row-item.is in
    let found = subst (λ o. FindsFree c.in-Some.behind.now c.in_ok-left.left o) c.in-Some-2.is c.in_ok-point.ensures in
    subst (λ (p : List ℕ). IsFirstFree c.args.levels.now c.args.boxes.now p) (sym c.in_ok-put_first.ensures)
    (step_found c.args.levels.now c.in-Some.level.now c.in-Some.behind.now c.args.boxes.now c.in_ok-left.left c.row-item.result c.in-Some-2.point c.loop-step.step
    c.in-Some.ensures.cases.0 at.0 at.1 c.in_ok-left.ensures.exact found c.loop-step.invariant)

pub loop-step-preserved : goal.loop-step-preserved
loop-step-preserved t c =
    let at = row_at c.in-Some.level.now _ c.row-item.result c.loop-step.step c.deref-row-items.ensures.value c.loop-step-test.true c.row-item.is in
    step_none c.args.levels.now c.in-Some.level.now c.in-Some.behind.now c.args.boxes.now c.in_ok-left.left c.row-item.result c.loop-step.step
    c.in-Some.ensures.cases.0 at.0 c.in_ok-left.ensures.exact
    (subst (λ o. FindsFree c.in-Some.behind.now c.in_ok-left.left o) c.in_default-2.is c.in_ok-point.ensures) c.loop-step.invariant

pub returns : goal.returns
returns t c =
    step_end c.args.levels.now c.in-Some.level.now c.in-Some.behind.now c.args.boxes.now c.loop-step.step
    c.in-Some.ensures.cases.0 (omega (arith, ap length c.deref-row-items.ensures.value)) c.loop-step.invariant
