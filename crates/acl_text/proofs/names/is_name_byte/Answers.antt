use Rattle.std.proofs.Common.{ℕ, ◌<◌, ◌==◌, get_or, refl, ap, ◌∙◌, arith}
use Rattle.acl_text.specs.declared.names.TheConstants.{NAME_BYTES}
use Rattle.acl_text.specs.Names.{is_name_byte}
use Rattle.acl_text.proofs.ByteTables.{told}
use Rattle.acl_text.proofs.names.is_name_byte.Goals as goal

pub returns : goal.returns
returns c =
    let byte : c.args.byte < 256 = omega arith in
    ap (λ (i : ℕ). get_or NAME_BYTES i 0 == 121) c.from.ensures ∙ told NAME_BYTES is_name_byte 256 c.args.byte refl byte
