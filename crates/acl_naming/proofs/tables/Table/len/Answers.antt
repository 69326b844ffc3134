use Rattle.std.proofs.Common.{◌∙◌}
use Rattle.acl_naming.proofs.TableLaws.{long_laid}
use Rattle.acl_naming.proofs.tables.Table.len.Goals as goal

pub returns : goal.returns
returns c = c.len.ensures.len ∙ long_laid c.self.inside.kept.entries c.self.inside.items c.args.self.now c.self.view_is
