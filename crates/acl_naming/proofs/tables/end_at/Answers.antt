use Rattle.std.proofs.Common.{◌+◌, sym, arith}
use Rattle.std.proofs.lemmas.List.{length-map}
use Rattle.acl_naming.specs.TableViewSteps.{Kept, begins_of}
use Rattle.acl_naming.proofs.RowLaws.{begin_past}
use Rattle.acl_naming.proofs.tables.end_at.Goals as goal

pub returns-else-len-index : goal.returns-else-len-index
returns-else-len-index c =
    let es = c.args.kept.now.entries in
    sym (begin_past (begins_of es) (c.args.index + 1) c.args.end
    (omega (arith, c.len.ensures.len, c.if-len-index.false, length-map es (λ (e : Kept). e.1.from))))
