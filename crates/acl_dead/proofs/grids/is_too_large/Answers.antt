use Rattle.std.proofs.Common.{nat_lt, ap, ◌∙◌, sym, subst}
use Rattle.acl_dead.specs.Boxes.{grid_size}
use Rattle.acl_dead.specs.Deciding.{most_packets}
use Rattle.acl_dead.specs.GridSteps.{IsGridIn}
use Rattle.acl_dead.specs.QuestionSteps.{question}
use Rattle.acl_dead.proofs.DecisionLaws.{is_large, large}
use Rattle.acl_dead.proofs.grids.is_too_large.Goals as goal

pub returns-in-Some : goal.returns-in-Some
returns-in-Some c =
    let f = c.args.family in
    let q = question c.args.asked.now in
    let axes = c.in-Some.grid.axes.items in
    let grid = subst (λ g. IsGridIn f q g) c.in-Some.is c.requires in
    let same = c.is_larger_than.ensures ∙ ap (λ a. nat_lt most_packets (grid_size a)) c.deref.ensures.value in (
      λ yes. large f q axes grid.1 grid.0 (sym same ∙ yes),
      λ t. same ∙ is_large f q axes grid.1 t,
    )
