use Rattle.std.proofs.Common.{List, ap, sym, ◌∙◌, arith, true≢false}
use Rattle.acl_naming.specs.Definitions.{Definition}
use Rattle.acl_naming.specs.Tables.{place_at}
use Rattle.acl_naming.proofs.TableLaws.{long_laid, place_kept}
use Rattle.acl_naming.proofs.tables.Table.place_at.Goals as goal

pub returns : goal.returns
returns c =
    place_kept c.self.inside.kept.entries c.self.inside.items c.args.index (c.in-Some.field-0-0.now, c.in-Some.entry.now) c.in-Some.ensures.entry
    ∙ ap (λ (ds : List Definition). place_at ds c.args.index) c.self.view_is

pub unreachable-requires : goal.unreachable-requires
unreachable-requires c =
    true≢false (sym (c.in-None.ensures.found.1
    (omega (arith, c.requires, long_laid c.self.inside.kept.entries c.self.inside.items c.args.self.now c.self.view_is))))
