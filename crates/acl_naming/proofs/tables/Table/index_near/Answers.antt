use Rattle.std.proofs.Common.{List, ap, ◌∙◌}
use Rattle.acl_naming.specs.Definitions.{Definition, index_of}
use Rattle.acl_naming.proofs.TableLaws.{index_keys}
use Rattle.acl_naming.proofs.tables.Table.index_near.Goals as goal

pub returns-then-has_name : goal.returns-then-has_name
returns-then-has_name c =
    c.has_name.ensures c.if-has_name.true ∙ index_keys c.args.name.now c.self.inside.kept.entries c.self.inside.items
    ∙ ap (λ (ds : List Definition). index_of ds c.args.name.now) c.self.view_is
