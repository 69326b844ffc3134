use Rattle.std.proofs.Common.{List, ap, sym, ◌∙◌, arith, true≢false}
use Rattle.acl_naming.specs.Definitions.{Definition}
use Rattle.acl_naming.specs.Tables.{name_at}
use Rattle.acl_naming.proofs.TableLaws.{long_laid, name_kept}
use Rattle.acl_naming.proofs.tables.Table.name_at.Goals as goal

pub returns : goal.returns
returns c =
    c.as_slice.ensures
    ∙ name_kept c.self.inside.kept.entries c.self.inside.items c.args.index (c.in-Some.name.now, c.in-Some.field-0-1.now) c.in-Some.ensures.entry
    ∙ ap (λ (ds : List Definition). name_at ds c.args.index) c.self.view_is

pub unreachable-requires : goal.unreachable-requires
unreachable-requires c =
    true≢false (sym (c.in-None.ensures.found.1
    (omega (arith, c.requires, long_laid c.self.inside.kept.entries c.self.inside.items c.args.self.now c.self.view_is))))
