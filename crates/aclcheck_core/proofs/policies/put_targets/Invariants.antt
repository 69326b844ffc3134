-- The lines on the targets so far were put.
use Rattle.std.proofs.Common.{◌≡◌, ◌++◌, true, flat_map, take}
use Rattle.aclcheck_core.specs.AnswerSteps.{target_lines}
use Rattle.aclcheck_core.proofs.policies.put_targets.Given as goal

abbrev pub invariant-loop-target : goal.invariant-loop-target
invariant-loop-target l = record {
  text : l.text.bytes ≡ l.initial.text.bytes ++ flat_map (target_lines l.today l.packet l.terms) (take l.target-index l.targets);
  opened : l.text.is_open ≡ true;
}
