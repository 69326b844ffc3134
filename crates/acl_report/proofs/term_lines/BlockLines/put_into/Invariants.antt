-- The lines on the terms so far were put: those on the terms that are left make the whole.
use Rattle.std.proofs.Common.{◌≡◌, ◌++◌, true, drop, flat_map}
use Rattle.std.specs.List.{enumerate_from}
use Rattle.acl_report.specs.Reports.{term_lines}
use Rattle.acl_report.proofs.term_lines.BlockLines.put_into.Given as goal

abbrev pub invariant-loop-place : goal.invariant-loop-place
invariant-loop-place l = record {
  text : l.report.bytes ++ flat_map (term_lines l.self.sources.now.labels l.self.today l.self.weeks l.self.targets.now l.self.terms.now)
      (enumerate_from l.place (drop l.place l.self.terms.now))
      ≡ l.initial.report.bytes ++ flat_map (term_lines l.self.sources.now.labels l.self.today l.self.weeks l.self.targets.now l.self.terms.now)
      (enumerate_from 0 l.self.terms.now);
  opened : l.report.is_open ≡ true;
}
