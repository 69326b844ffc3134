use Rattle.std.proofs.Common.{◌≡◌, ◌++◌}
use Rattle.acl_terms.specs.Matching.{protocols_of}
use Rattle.acl_terms.proofs.protocols.protocols_of.Given as goal

abbrev pub invariant-loop-word : goal.invariant-loop-word
invariant-loop-word l = l.out.items ++ protocols_of l.word-iterator ≡ protocols_of l.words
