use Rattle.std.proofs.Common.{◌≡◌, List, Some, ap, sym, ◌∙◌}
use Rattle.acl_naming.specs.Definitions.{Definition, index_of}
use Rattle.acl_naming.proofs.ReachLaws.{next_added}
use Rattle.acl_naming.proofs.reaching.add_addresses_once.Goals as goal

pub returns-clause-added : goal.returns-clause-added
returns-clause-added c =
    let name = c.args.name.now in
    let there : index_of c.args.linked.now name ≡ Some c.in-Some.index =
    sym (c.in-Some.ensures.exact ∙ ap (λ (ds : List Definition). index_of ds name) c.table.ensures) in
    next_added c.args.linked.now name c.in-Some.index c.args.added.now c.set.new.self c.args.v4.now.items c.args.v6.now.items
    c.add_addresses_at.new.v4.items c.add_addresses_at.new.v6.items there c.set.ensures c.requires
    c.in_ok-add_addresses_at.ensures.v4 c.in_ok-add_addresses_at.ensures.v6
