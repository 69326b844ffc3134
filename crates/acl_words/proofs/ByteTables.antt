-- A table of bytes says of each byte whether it is an inner one.
use Rattle.std.proofs.Common.{◌≡◌, ℕ, ◌<◌, ◌==◌, get_or, refl}
use Rattle.acl_text.proofs.ByteTables.{told}
use Rattle.acl_words.specs.declared.inner_runs.TheConstants.{INNER_BYTES}
use Rattle.acl_words.specs.ReadingSteps.{is_inner}

pub inner_at : (n : ℕ) → n < 256 → (get_or INNER_BYTES n 0 == 121) ≡ is_inner n
inner_at n h = told INNER_BYTES is_inner 256 n refl h
