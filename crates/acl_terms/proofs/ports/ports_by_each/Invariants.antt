use Rattle.std.proofs.Common.{◌≡◌, ◌≢◌, ◌<◌, true, [], drop, take}
use Rattle.std.specs.List.{list_all}
use Rattle.acl_naming.specs.Ports.{top_port}
use Rattle.acl_naming.specs.Reach.{ReachesPort}
use Rattle.acl_terms.specs.Matching.{AnyOf}
use Rattle.acl_terms.specs.Sets.{IsSetOf}
use Rattle.acl_terms.specs.Slips.{is_defined, reaches_protocol}
use Rattle.acl_terms.proofs.ports.ports_by_each.Given as goal

abbrev pub invariant-loop-proto : goal.invariant-loop-proto
invariant-loop-proto l = record {
  set : IsSetOf (λ x. AnyOf (λ q. ReachesPort l.base.services l.word.text q x)
      (take l.proto-index l.protos)) top_port l.out;
  reached : list_all (reaches_protocol l.base.services l.word.text) (drop l.proto-index l.protos)
      ≡ list_all (reaches_protocol l.base.services l.word.text) l.protos;
  defined : 0 < l.proto-index → is_defined l.base.services l.word.text ≡ true;
  some : 0 < l.proto-index → l.out.ranges ≢ [];
}
