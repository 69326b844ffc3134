use Rattle.std.proofs.Common.{◌≡◌, ◌+◌, map, drop, IfSome}
use Rattle.std.specs.String.{string_bytes}
use Rattle.acl_host.specs.Outside.{OnlyReads, members}
use Rattle.acl_load.specs.Loading.{all_of}
use Rattle.acl_load.proofs.adding.add_all.Given as goal

abbrev pub invariant-loop-path : goal.invariant-loop-path
invariant-loop-path g l = record {
  counts : l.number ≡ l.first + l.path-index;
  gives : IfSome (g.T.Tree.files l.initial.tree)
      (λ held. all_of (map string_bytes l.paths) l.kind l.number
      (map string_bytes (drop l.path-index l.files)) held l.so_far
      ≡ all_of (map string_bytes l.paths) l.kind l.first
      (map string_bytes l.files) held l.initial.so_far);
  reads : OnlyReads (members g.T.Out g.T.Tree.files g.T.Tree.begun
      g.T.Tree.list_faults g.T.Tree.read_faults) l.initial.tree l.tree;
  none_failed : g.T.Tree.read_faults l.tree ≡ g.T.Tree.read_faults l.initial.tree;
}
