use Rattle.std.proofs.Common.{◌≡◌, ◌<◌, ℕ, List, [], get_or, length, ap, ◌∙◌, arith}
use Rattle.std.proofs.lemmas.List.{length-map}
use Rattle.std.proofs.lemmas.List.Elements.{All-same}
use Rattle.acl_naming.specs.Definitions.{Definition, items_at}
use Rattle.acl_naming.specs.GraphSteps.{graph_of, targets}
use Rattle.acl_naming.proofs.GraphLaws.{row_at, targets_within}
use Rattle.acl_naming.proofs.MarkLaws.{all_by}
use Rattle.acl_naming.proofs.linking.LinkedTable.links_at.Goals as goal

-- each definition has its row
long : (rows : List (List ℕ)) (table base : List Definition) → rows ≡ graph_of table → table ≡ base → length rows ≡ length base
long rows table base is same =
    ap (λ (t : List (List ℕ)). length t) is ∙ length-map table (λ (d : Definition). targets table d.items) ∙ ap (λ (t : List Definition). length t) same

pub row-requires : goal.row-requires
row-requires c = omega (arith, c.requires, long c.self.inside.links c.self.inside.table c.args.self.now c.self.invariant c.self.view_is)

pub returns-clause-exact : goal.returns-clause-exact
returns-clause-exact c =
    let base = c.args.self.now in
    row_at base base c.args.index c.row.result.now c.requires
    (c.row.ensures ∙ ap (λ (g : List (List ℕ)). get_or g c.args.index []) (c.self.invariant ∙ ap graph_of c.self.view_is))

pub returns-clause-within : goal.returns-clause-within
returns-clause-within c =
    let base = c.args.self.now in
    let row = targets base (items_at base c.args.index) in
    All-same (λ j. j < length base) c.row.result.now row (returns-clause-exact c)
    (all_by (λ j. j < length base) row (targets_within base (items_at base c.args.index)))
