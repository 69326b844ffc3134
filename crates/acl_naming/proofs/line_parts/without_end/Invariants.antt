use Rattle.std.proofs.Common.{◌≡◌, ◌≤◌, take}
use Rattle.acl_naming.specs.NamingFiles.{without_end}
use Rattle.acl_naming.proofs.line_parts.without_end.Given as goal

abbrev pub invariant-loop-i : goal.invariant-loop-i
invariant-loop-i l = record {
  within : l.end ≤ l.i;
  goes : take l.end l.text ≡ without_end (take l.i l.text);
}
