use Rattle.std.proofs.Common.{◌<◌, List, length, ap, ◌∙◌, arith}
use Rattle.acl_naming.specs.Definitions.{Definition, items_at}
use Rattle.acl_naming.specs.TableViewSteps.{begins_of}
use Rattle.acl_naming.proofs.RowLaws.{row_bounds, row_taken}
use Rattle.acl_naming.proofs.TableLaws.{items_laid, long_laid}
use Rattle.acl_naming.proofs.tables.Table.items_at.Goals as goal

pub end_at-requires : goal.end_at-requires
end_at-requires c = omega (arith, c.requires, long_laid c.self.inside.kept.entries c.self.inside.items c.args.self.now c.self.view_is)

pub part-requires-clause-rises : goal.part-requires-clause-rises
part-requires-clause-rises c =
    (row_bounds (begins_of c.self.inside.kept.entries) c.self.inside.items c.as_slice-items.result.now c.args.index c.begin_at-from.result c.end_at.result
    c.as_slice-items.ensures c.begin_at-from.ensures c.end_at.ensures c.self.invariant.0).0

pub part-requires-clause-within : goal.part-requires-clause-within
part-requires-clause-within c =
    (row_bounds (begins_of c.self.inside.kept.entries) c.self.inside.items c.as_slice-items.result.now c.args.index c.begin_at-from.result c.end_at.result
    c.as_slice-items.ensures c.begin_at-from.ensures c.end_at.ensures c.self.invariant.0).1

pub returns : goal.returns
returns c =
    let es = c.self.inside.kept.entries in
    let within : c.args.index < length es = omega (arith, c.requires, long_laid es c.self.inside.items c.args.self.now c.self.view_is) in
    c.part.ensures
    ∙ row_taken (begins_of es) c.self.inside.items c.as_slice-items.result.now c.args.index c.begin_at-from.result c.end_at.result
    c.as_slice-items.ensures c.begin_at-from.ensures c.end_at.ensures
    ∙ items_laid es c.self.inside.items c.args.index within
    ∙ ap (λ (ds : List Definition). items_at ds c.args.index) c.self.view_is
