use Rattle.std.proofs.Common.{ℕ, ◌<◌, ◌==◌, get_or, ap, ◌∙◌, arith}
use Rattle.acl_words.specs.declared.inner_runs.TheConstants.{INNER_BYTES}
use Rattle.acl_words.proofs.ByteTables.{inner_at}
use Rattle.acl_words.proofs.inner_runs.is_inner.Goals as goal

pub returns : goal.returns
returns c =
    let byte : c.args.byte < 256 = omega arith in
    ap (λ (i : ℕ). get_or INNER_BYTES i 0 == 121) c.from.ensures ∙ inner_at c.args.byte byte
