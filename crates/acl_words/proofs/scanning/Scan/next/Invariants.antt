use Rattle.std.proofs.Common.{◌≡◌, length}
use Rattle.acl_words.specs.ScanSteps.{words_left}
use Rattle.acl_words.proofs.scanning.Scan.next.Given as goal

abbrev pub invariant-loop-byte : goal.invariant-loop-byte
invariant-loop-byte l = words_left l.self ≡ words_left l.initial.self

abbrev pub decreases-loop-byte : goal.decreases-loop-byte
decreases-loop-byte l = length l.self.rest.now
