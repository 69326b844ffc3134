use Rattle.std.proofs.Common.{◌≡◌, ◌+◌, ◌<◌, ◌≤◌, false, true, length}
use Rattle.acl_text.specs.Cursors.{lines_of}
use Rattle.acl_naming.specs.NamingFiles.{lines_added}
use Rattle.acl_naming.proofs.naming_files.add_lines.Given as goal

abbrev pub invariant-loop-line : goal.invariant-loop-line
invariant-loop-line l = record {
  fits : l.number + length l.rest ≤ 4194304;
  filled : l.is_open ≡ true → 0 < length l.table;
  goes : lines_added l.kind l.file (l.number + 1) l.is_open l.table (lines_of l.rest)
      ≡ lines_added l.kind l.file 1 false l.initial.table (lines_of l.fn.bytes);
}

abbrev pub decreases-loop-line : goal.decreases-loop-line
decreases-loop-line l = length l.rest
