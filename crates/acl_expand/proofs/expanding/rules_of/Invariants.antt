-- The rules of the terms that the loop has seen stand, with the number of their prefixes, and none of these terms has
-- a slip.
use Rattle.std.proofs.Common.{◌≡◌, ◌++◌, drop}
use Rattle.acl_expand.specs.ExpansionSlips.{first_slip}
use Rattle.acl_expand.specs.SlipSteps.{counted_slip}
use Rattle.acl_expand.specs.TermRules.{rules_of}
use Rattle.acl_expand.proofs.expanding.rules_of.Given as goal

abbrev pub invariant-loop-term : goal.invariant-loop-term
invariant-loop-term l =
    (l.rules ++ rules_of l.target l.today (drop l.term-index l.terms) ≡ rules_of l.target l.today l.terms)
    × (counted_slip l.target l.today l.prefixes (drop l.term-index l.terms) ≡ first_slip l.target l.today l.terms)
