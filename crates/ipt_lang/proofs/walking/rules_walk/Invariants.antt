use Rattle.std.proofs.Common.{◌≡◌, drop}
use Rattle.ipt_lang.specs.Walks.{rules_walk}
use Rattle.ipt_lang.proofs.walking.rules_walk.Given as goal

abbrev pub invariant-loop-rule : goal.invariant-loop-rule
invariant-loop-rule l = rules_walk (drop l.rule-index l.rules) l.packet l.logged ≡ rules_walk l.rules l.packet l.initial.logged
