use Rattle.std.proofs.Common.{◌≡◌, ◌||◌, drop}
use Rattle.acl_words.specs.FileLines.{may_include}
use Rattle.acl_words.proofs.file_texts.may_include.Given as goal

abbrev pub invariant-loop-byte : goal.invariant-loop-byte
invariant-loop-byte l = (l.found || may_include l.before (drop l.byte-index l.text)) ≡ may_include 0 l.text
