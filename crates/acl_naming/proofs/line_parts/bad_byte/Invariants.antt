use Rattle.std.proofs.Common.{◌≡◌, drop}
use Rattle.acl_naming.specs.NamingFiles.{bad_byte}
use Rattle.acl_naming.proofs.line_parts.bad_byte.Given as goal

abbrev pub invariant-loop-byte : goal.invariant-loop-byte
invariant-loop-byte l = bad_byte (drop l.byte-index l.text) ≡ bad_byte l.text
