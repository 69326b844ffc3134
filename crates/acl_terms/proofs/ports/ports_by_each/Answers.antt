use Rattle.std.proofs.Common.{◌<◌, length, arith, get_or, refl}
use Rattle.acl_naming.specs.Ports.{top_port}
use Rattle.acl_naming.specs.Reach.{ReachesPort}
use Rattle.acl_terms.proofs.SetLaws.{more-set, more-some}
use Rattle.acl_terms.proofs.PortLaws.{reached-more, word-passed}
use Rattle.acl_terms.proofs.ports.ports_by_each.Goals as goal

pub loop-proto-preserved : goal.loop-proto-preserved
loop-proto-preserved c =
    let protos = c.args.protos.now in
    let services = c.args.base.now.services in
    let text = c.args.word.now.text in
    let i = c.loop-proto.proto-index in
    let q = get_or protos i 0 in
    let within : i < length protos = omega arith in
    let had = c.loop-proto.invariant in
    let union = c.in_ok-out.ensures in
    let passed = word-passed services q c.args.word.now c.in_ok-more.ensures.judged in
    record {
      set = more-set (λ x p. ReachesPort services text p x) top_port protos i
          q 0 c.loop-proto.out c.in_ok-more.more c.in_ok-out.out within refl had.set
          c.in_ok-more.ensures.set union.top union.normal union.exact;
      reached = reached-more services text protos i within passed.1 had.reached;
      defined = λ _. passed.0;
      some = λ _. more-some top_port c.loop-proto.out c.in_ok-more.more c.in_ok-out.out
          c.in_ok-more.ensures.set.normal c.in_ok-more.ensures.some union.exact;
    }
