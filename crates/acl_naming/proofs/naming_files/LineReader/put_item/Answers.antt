use Rattle.std.proofs.Common.{List, length, ap, arith}
use Rattle.acl_naming.specs.Definitions.{Definition}
use Rattle.acl_naming.proofs.TableLaws.{length_one}
use Rattle.acl_naming.proofs.naming_files.LineReader.put_item.Goals as goal

pub returns-clause-filled : goal.returns-clause-filled
returns-clause-filled c =
    omega (arith, c.requires, ap (λ (ds : List Definition). length ds) c.in_ok-push_item.ensures, length_one c.args.table.now c.args.item)
