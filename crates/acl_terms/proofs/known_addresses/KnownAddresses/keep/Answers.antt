use Rattle.acl_terms.specs.KnownAddresses.{AreKnownFor}
use Rattle.acl_terms.proofs.KnownLaws.{kept}
use Rattle.acl_terms.proofs.known_addresses.KnownAddresses.keep.Goals as goal

pub invariant_of-self-in_ok-insert : goal.invariant_of-self-in_ok-insert
invariant_of-self-in_ok-insert c =
    let more : AreKnownFor c.self.inside.base.now c.args.named.now c.args.excluded.now c.in_ok-shared.shared =
    rw (c.in_ok-shared.ensures, c.self.view_is) c.requires in
    rw (c.in_ok-insert.ensures.entries)
    (kept c.self.inside.base.now (record { text = c.args.named }, record { text = c.args.excluded }) c.self.inside.lists.entries c.in_ok-shared.shared
    c.self.invariant more)

pub invariant_of-self-in_ok-insert-2 : goal.invariant_of-self-in_ok-insert-2
invariant_of-self-in_ok-insert-2 c =
    let more : AreKnownFor c.self.inside.base.now c.args.named.now c.args.excluded.now c.in_ok-shared.shared =
    rw (c.in_ok-shared.ensures, c.self.view_is) c.requires in
    rw (c.in_ok-insert.ensures.entries)
    (kept c.self.inside.base.now (record { text = c.args.named }, record { text = c.args.excluded }) c.self.inside.lists.entries c.in_ok-shared.shared
    c.self.invariant more)
