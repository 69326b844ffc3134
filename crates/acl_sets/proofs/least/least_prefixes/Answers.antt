use Rattle.std.proofs.Common.{◌≡◌, List, ap, sym, subst, ◌∙◌}
use Rattle.acl_packet.specs.declared.addresses.Prefix.{Prefix}
use Rattle.acl_sets.specs.declared.sets.Range.{Range}
use Rattle.acl_sets.specs.Ranges.{IsNormal, holds}
use Rattle.acl_sets.specs.LeastLists.{IsLeastList}
use Rattle.acl_sets.specs.ComputableLeastLists.{halved_space}
use Rattle.acl_sets.proofs.LeastListLaws.{least_list-prefixes, least_list-holds, least_list-fewest, normal-addresses}
use Rattle.acl_sets.proofs.ComputableLeastListLaws.{halved_space-least}
use Rattle.acl_sets.proofs.least.least_prefixes.Goals as goal

pub returns : goal.returns
returns c =
    let f = c.args.family in
    let set = c.args.set.now in
    let ps = c.cut-prefixes.result in
    let is : ps ≡ halved_space f set.ranges =
    c.cut-prefixes.ensures ∙ ap (halved_space f) c.in_ok-list.ensures.list in
    let N : List Range → Type 0 = λ z. IsNormal 0 set.top z in
    let normal = subst N c.in_ok-list.ensures.list c.in_ok-list.ensures.normal in
    let P : List Prefix → Type 0 = λ z. IsLeastList f (λ a. holds set.ranges a) z in
    let least = subst P (sym is) (halved_space-least f set.top set.ranges normal) in
    let addresses = normal-addresses f set.top set.ranges normal c.requires in
    record {
      least = least;
      prefixes = least_list-prefixes f (λ a. holds set.ranges a) ps least;
      exact = least_list-holds f (λ a. holds set.ranges a) ps addresses least;
      fewest = least_list-fewest f (λ a. holds set.ranges a) ps least;
      computed = is;
    }
