use Rattle.std.proofs.Common.{◌≡◌, ◌++◌}
use Rattle.acl_terms.specs.Matching.{types_of}
use Rattle.acl_terms.proofs.protocols.types_of.Given as goal

abbrev pub invariant-loop-word : goal.invariant-loop-word
invariant-loop-word l = l.out.items ++ types_of l.family l.word-iterator ≡ types_of l.family l.words
