use Rattle.std.proofs.Common.{◌≡◌, drop}
use Rattle.acl_words.specs.ReadingSteps.{reached_past}
use Rattle.acl_words.proofs.places.Places.pass_all.Given as goal

abbrev pub invariant-loop-byte : goal.invariant-loop-byte
invariant-loop-byte l = reached_past (drop l.byte-index l.text) l.self ≡ reached_past l.text l.initial.self
