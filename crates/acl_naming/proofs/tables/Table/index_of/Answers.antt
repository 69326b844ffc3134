use Rattle.std.proofs.Common.{ℕ, ◌<◌, List, IfSome, ap, subst, ◌∙◌}
use Rattle.acl_naming.specs.Definitions.{Definition, index_of}
use Rattle.acl_naming.proofs.TableLaws.{index_keys, long_laid}
use Rattle.acl_naming.proofs.tables.Table.index_of.Goals as goal

pub returns-clause-exact : goal.returns-clause-exact
returns-clause-exact c =
    c.get_index_of.ensures.index ∙ index_keys c.args.name.now c.self.inside.kept.entries c.self.inside.items
    ∙ ap (λ (ds : List Definition). index_of ds c.args.name.now) c.self.view_is

pub returns-clause-within : goal.returns-clause-within
returns-clause-within c =
    subst (λ (n : ℕ). IfSome c.get_index_of.result (λ (i : ℕ). i < n))
    (long_laid c.self.inside.kept.entries c.self.inside.items c.args.self.now c.self.view_is) c.get_index_of.ensures.within
