use Rattle.std.proofs.Common.{◌≡◌}
use Rattle.acl_terms.specs.Living.{names_platform}
use Rattle.acl_target.specs.TargetTexts.{kind_text}
use Rattle.acl_terms.proofs.living.names_platform.Given as goal

abbrev pub invariant-loop-word : goal.invariant-loop-word
invariant-loop-word l = (names_platform l.fn.kind l.word-iterator ≡ names_platform l.fn.kind l.fn.words)
    × (l.name ≡ kind_text l.fn.kind)
