-- A table of bytes says of each byte whether it is ink.
use Rattle.std.proofs.Common.{◌≡◌, ℕ, ◌<◌, ◌==◌, get_or, refl}
use Rattle.acl_text.proofs.ByteTables.{told}
use Rattle.acl_naming.specs.declared.byte_runs.TheConstants.{INK}
use Rattle.acl_naming.specs.LineSteps.{is_ink}

pub ink_at : (n : ℕ) → n < 256 → (get_or INK n 0 == 121) ≡ is_ink n
ink_at n h = told INK is_ink 256 n refl h
