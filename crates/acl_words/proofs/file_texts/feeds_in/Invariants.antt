use Rattle.std.proofs.Common.{◌≡◌, ◌+◌, length}
use Rattle.acl_words.specs.FileLines.{feeds_in}
use Rattle.acl_words.proofs.file_texts.feeds_in.Given as goal

abbrev pub invariant-loop-rest : goal.invariant-loop-rest
invariant-loop-rest l = l.count + feeds_in l.rest ≡ feeds_in l.text

abbrev pub decreases-loop-rest : goal.decreases-loop-rest
decreases-loop-rest l = length l.rest
