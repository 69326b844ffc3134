-- The lines on the targets so far were put.
use Rattle.std.proofs.Common.{◌≡◌, ◌++◌, true, flat_map, take}
use Rattle.acl_report.specs.Reports.{empty_lines}
use Rattle.acl_report.proofs.term_lines.BlockLines.put_empties.Given as goal

abbrev pub invariant-loop-target : goal.invariant-loop-target
invariant-loop-target l = record {
  text : l.report.bytes ≡ l.initial.report.bytes
      ++ flat_map (empty_lines l.self.sources.now.labels l.self.today l.term) (take l.target-index l.self.targets.now);
  opened : l.report.is_open ≡ true;
}
