use Rattle.std.proofs.Common.{◌≡◌, ◌≢◌, [], length}
use Rattle.acl_text.specs.Refusals.{first_in}
use Rattle.acl_naming.specs.Ports.{top_port}
use Rattle.acl_terms.specs.Matching.{AnyOf, NamesPort}
use Rattle.acl_terms.specs.Slips.{service_slip}
use Rattle.acl_terms.proofs.SetLaws.{IsSetSoFar}
use Rattle.acl_terms.proofs.ports.ports_of_each_word.Given as goal

abbrev pub invariant-loop-left : goal.invariant-loop-left
invariant-loop-left l = record {
  set : IsSetSoFar (λ x. AnyOf (NamesPort l.base l.protos x) l.words)
      (λ x. AnyOf (NamesPort l.base l.protos x) l.left) top_port l.out;
  judged : first_in (service_slip l.base.services l.protos) l.left
      ≡ first_in (service_slip l.base.services l.protos) l.words;
  some : l.words ≢ [] → l.left ≡ [] → l.out.ranges ≢ [];
}

abbrev pub decreases-loop-left : goal.decreases-loop-left
decreases-loop-left l = length l.left
