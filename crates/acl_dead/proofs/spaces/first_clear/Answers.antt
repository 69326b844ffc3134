use Rattle.std.proofs.Common.{◌≡◌, ap, ◌∙◌, subst}
use Rattle.acl_dead.specs.SearchSteps.{FindsOutside, numbers_of}
use Rattle.acl_dead.proofs.PointFacts.{all_sized, clear_none, clear_some}
use Rattle.acl_dead.proofs.spaces.first_clear.Goals as goal

pub first_outside-requires : goal.first_outside-requires
first_outside-requires c = all_sized c.args.boxes c.args.axes.now c.requires

pub returns-in_ok-numbers-in-Some : goal.returns-in_ok-numbers-in-Some
returns-in_ok-numbers-in-Some c =
    let is : c.in_ok-numbers-in-Some.field-0.items ≡ numbers_of c.args.axes.now c.in-Some.point =
    c.in_ok-numbers-in-Some.ensures ∙ ap (λ p. numbers_of c.args.axes.now p) c.steps.ensures in
    clear_some c.args.boxes c.args.axes.now c.requires c.in-Some.point _ is
    (subst (λ o. FindsOutside c.args.axes.now c.args.boxes o) c.in-Some.is c.in_ok-point.ensures)

pub returns-in-None : goal.returns-in-None
returns-in-None c =
    clear_none c.args.boxes c.args.axes.now c.requires
    (subst (λ o. FindsOutside c.args.axes.now c.args.boxes o) c.in-None.is c.in_ok-point.ensures)
