use Rattle.std.proofs.Common.{◌≡◌, ◌++◌}
use Rattle.acl_terms.specs.SetSteps.{codes_of}
use Rattle.acl_terms.proofs.protocols.codes_of.Given as goal

abbrev pub invariant-loop-word : goal.invariant-loop-word
invariant-loop-word l = l.out.items ++ codes_of l.word-iterator ≡ codes_of l.words
