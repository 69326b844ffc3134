-- The prefixes of the rules that the loop has seen are counted.
use Rattle.std.proofs.Common.{◌≡◌, ◌+◌, ◌-◌, ◌^◌, min, take}
use Rattle.acl_expand.specs.ExpansionSlips.{prefixes_of}
use Rattle.acl_expand.proofs.slips.prefixes_behind.Given as goal

abbrev pub invariant-loop-rule : goal.invariant-loop-rule
invariant-loop-rule l = l.count ≡ min (l.before + prefixes_of (take l.rule-index l.rules)) (2 ^ 64 - 1)
