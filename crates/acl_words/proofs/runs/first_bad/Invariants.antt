use Rattle.std.proofs.Common.{◌≡◌, drop}
use Rattle.acl_words.specs.Bytes.{first_bad}
use Rattle.acl_words.proofs.runs.first_bad.Given as goal

abbrev pub invariant-loop-i : goal.invariant-loop-i
invariant-loop-i l = first_bad (drop l.i l.text) ≡ first_bad l.text
