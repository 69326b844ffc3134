use Rattle.std.proofs.Common.{◌≡◌, true, drop}
use Rattle.acl_text.specs.Names.{single_spaced}
use Rattle.acl_text.proofs.names.is_single_spaced.Given as goal

abbrev pub invariant-loop-byte : goal.invariant-loop-byte
invariant-loop-byte l = single_spaced l.after_space (drop l.byte-index l.text) ≡ single_spaced true l.text
