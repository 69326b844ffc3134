use Rattle.std.proofs.Common.{◌≡◌, List, length}
use Rattle.ipt_lang.specs.declared.documents.Rule.{Rule}
use Rattle.ipt_lang.specs.Documents.{IsRule}
use Rattle.ipt_lang.specs.Texts.{rule_rows}
use Rattle.ipt_lang.specs.Walks.{go_on, rules_walk}
use Rattle.ipt_lang.proofs.FirstRowLaws.{Passed}
use Rattle.ipt_lang.proofs.chain_scans.take_rules.Given as goal

abbrev pub invariant-loop-taken : goal.invariant-loop-taken
invariant-loop-taken l =
    (rules : List Rule) × Passed (IsRule l.fn.chain.family) (rule_rows l.fn.chain.hook l.fn.chain.family l.fn.chain.name.now) l.fn.text rules l.rest
    × (l.outcome ≡ go_on l.fn.so_far (λ logged. rules_walk rules l.fn.packet logged))

abbrev pub decreases-loop-taken : goal.decreases-loop-taken
decreases-loop-taken l = length l.rest
