use Rattle.std.proofs.Common.{◌≡◌, take}
use Rattle.acl_words.specs.FileLines.{feeds_in}
use Rattle.acl_words.proofs.file_texts.few_feeds.Given as goal

abbrev pub invariant-loop-byte : goal.invariant-loop-byte
invariant-loop-byte l = l.count ≡ feeds_in (take l.byte-index l.text)
