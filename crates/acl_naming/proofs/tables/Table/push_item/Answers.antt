use Rattle.std.proofs.Common.{List, ap, sym, subst, ◌∙◌, arith}
use Rattle.acl_naming.specs.declared.naming_items.Item.{Item}
use Rattle.acl_naming.specs.Definitions.{Definition}
use Rattle.acl_naming.specs.Tables.{with_item}
use Rattle.acl_naming.specs.TableViewSteps.{AreLaid, definitions_of}
use Rattle.acl_naming.proofs.TableLaws.{item_laid, laid_on, long_laid}
use Rattle.acl_naming.proofs.tables.Table.push_item.Goals as goal

pub invariant_of-self : goal.invariant_of-self
invariant_of-self c =
    subst (λ (items : List Item). AreLaid c.self.inside.kept.entries items) (sym c.in_err-push.ensures.err) c.self.invariant

pub invariant_of-self-2 : goal.invariant_of-self-2
invariant_of-self-2 c =
    let es = c.self.inside.kept.entries in
    let items = c.self.inside.items in
    laid_on es items c.push.new.self c.args.item c.in_ok-push.ensures.ok
    (omega (arith, c.requires.some, long_laid es items c.args.self.now c.self.view_is)) c.self.invariant

pub returns : goal.returns
returns c =
    let es = c.self.inside.kept.entries in
    let items = c.self.inside.items in
    ap (definitions_of es) c.in_ok-push.ensures.ok ∙ item_laid es items c.args.item c.self.invariant.0
    ∙ ap (λ (ds : List Definition). with_item ds c.args.item) c.self.view_is
