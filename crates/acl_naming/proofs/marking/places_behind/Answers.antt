use Rattle.std.proofs.Common.{◌≡◌, ℕ, List, [], length, sym, subst, ◌∙◌}
use Rattle.std.proofs.lemmas.Bool.{eqb-true}
use Rattle.acl_naming.specs.GraphSteps.{AreBehind}
use Rattle.acl_naming.proofs.WalkLaws.{empty_list, none_behind}
use Rattle.acl_naming.proofs.marking.places_behind.Goals as goal

pub returns-then-is_empty : goal.returns-then-is_empty
returns-then-is_empty c =
    let base = c.args.table.now in
    let links = c.links_at.result.now in
    let none : links ≡ [] = empty_list links (eqb-true (length links) 0 (sym c.is_empty.ensures ∙ c.if-is_empty.true)) in
    subst (λ (places : List ℕ). AreBehind base c.args.index places) (sym c.new.ensures.items)
    (none_behind base c.args.index (sym c.links_at.ensures.exact ∙ none))
