use Rattle.std.proofs.Common.{◌≡◌, ◌++◌, drop, length}
use Rattle.acl_naming.specs.GraphSteps.{graph_in, graph_of}
use Rattle.acl_naming.specs.Rows.{Ascend, rows_of}
use Rattle.acl_naming.proofs.links.Links.of_table.Given as goal

abbrev pub invariant-loop-i : goal.invariant-loop-i
invariant-loop-i l = record {
  laid : Ascend l.begins (length l.places);
  goes : rows_of l.begins l.places ++ graph_in l.table (drop l.i l.table) ≡ graph_of l.table;
}
