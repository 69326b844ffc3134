use Rattle.std.proofs.Common.{sym}
use Rattle.acl_terms.proofs.KnownLaws.{found}
use Rattle.acl_terms.proofs.known_addresses.KnownAddresses.find.Goals as goal

pub returns-in_ok-share-in-Some : goal.returns-in_ok-share-in-Some
returns-in_ok-share-in-Some c = rw (c.in_ok-share-in-Some.ensures, ← c.self.view_is)
    (found c.self.inside.base.now (record { text = c.args.named }, record { text = c.args.excluded }) c.self.inside.lists.entries c.in-Some.known.now
    c.self.invariant (sym c.in-Some.ensures.value))
