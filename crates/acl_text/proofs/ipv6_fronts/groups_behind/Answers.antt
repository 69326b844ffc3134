use Rattle.std.proofs.Common.{◌*◌, ◌+◌, ◌≡◌, ◌∙◌, ap, arith}
use Rattle.acl_text.proofs.GroupFronts.{go_further}
use Rattle.acl_text.proofs.ipv6_fronts.groups_behind.Goals as goal

pub loop-left-preserved : goal.loop-left-preserved
loop-left-preserved c =
    let l = c.loop-left in
    let more : c.behind-value.result ≡ l.value * 65536 + c.in-Some.group = c.behind-value.ensures.exact ∙ ap (λ g. l.value * 65536 + g) c.from.ensures in
    record {
      go_on = λ end left value r. l.invariant.go_on end left value
          (go_further l.rest.now c.in-Some.behind_group.now end l.left l.value c.in-Some.group c.behind-value.result left value c.loop-left-test.true c.in-Some.ensures.next more r);
      few = omega arith;
      small = c.behind-value.ensures.fits;
    }
