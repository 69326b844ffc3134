use Rattle.std.proofs.Common.{◌≡◌, List, length, ap, sym, ◌∙◌}
use Rattle.acl_naming.specs.declared.naming_items.Item.{Item}
use Rattle.acl_naming.specs.Definitions.{Definition, items_at}
use Rattle.acl_naming.specs.GraphSteps.{names_count, targets}
use Rattle.acl_naming.proofs.CheckLaws.{all_defined}
use Rattle.acl_naming.proofs.checking.undefined_at.Goals as goal

pub returns-then-links_at-names_count : goal.returns-then-links_at-names_count
returns-then-links_at-names_count c =
    let base = c.args.linked.now in
    let items = items_at base c.args.index in
    let here : c.items_at-items.result.now ≡ items =
    c.items_at-items.ensures ∙ ap (λ (ds : List Definition). items_at ds c.args.index) c.table-table.ensures in
    let counts : length (targets base items) ≡ names_count items =
    ap length (sym c.links_at.ensures.exact) ∙ c.if-links_at-names_count.true ∙ c.names_count.ensures ∙ ap (λ (t : List Item). names_count t) here in
    sym (all_defined base items counts)
