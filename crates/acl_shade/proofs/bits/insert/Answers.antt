use Rattle.std.proofs.Common.{◌*◌, arith}
use Rattle.acl_shade.proofs.BitLaws.{set-keeps, set-sets}
use Rattle.acl_shade.proofs.bits.insert.Goals as goal

pub returns-clause-keeps : goal.returns-clause-keeps
returns-clause-keeps c =
    let row = c.requires.row in
    let bit = c.requires.bit in
    set-keeps c.args.words.now _ _ (omega arith)

pub returns-clause-sets : goal.returns-clause-sets
returns-clause-sets c =
    let row = c.requires.row in
    let bit = c.requires.bit in
    set-sets c.args.words.now (c.args.row * c.args.width) c.args.bit (omega arith)
