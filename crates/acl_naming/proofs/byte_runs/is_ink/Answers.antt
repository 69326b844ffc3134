use Rattle.std.proofs.Common.{ℕ, ◌<◌, ◌==◌, get_or, ap, ◌∙◌, arith}
use Rattle.acl_naming.specs.declared.byte_runs.TheConstants.{INK}
use Rattle.acl_naming.proofs.ByteTables.{ink_at}
use Rattle.acl_naming.proofs.byte_runs.is_ink.Goals as goal

pub returns : goal.returns
returns c =
    let byte : c.args.byte < 256 = omega arith in
    ap (λ (i : ℕ). get_or INK i 0 == 121) c.from.ensures ∙ ink_at c.args.byte byte
