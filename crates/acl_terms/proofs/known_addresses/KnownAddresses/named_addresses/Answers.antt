use Rattle.std.proofs.Common.{[], refl}
use Rattle.acl_packet.specs.declared.addresses.Family.TheVariants.{V4, V6}
use Rattle.acl_terms.specs.KnownAddresses.{AreAddresses, AreKnownFor}
use Rattle.acl_terms.proofs.DistinctLaws.{given}
use Rattle.acl_terms.proofs.KnownLaws.{as-named, known-for, of-named, written-named}
use Rattle.acl_terms.proofs.known_addresses.KnownAddresses.named_addresses.Goals as goal

pub returns-in-Some-clause-judged : goal.returns-in-Some-clause-judged
returns-in-Some-clause-judged c =
    (of-named c.args.self.now c.args.words.now c.in-Some.known
    (given (AreKnownFor c.args.self.now c.text.result.now []) c.in_ok-known.field-0 c.in-Some.known
    c.in-Some.is c.in_ok-known.ensures c.args.words.now [] c.text.ensures refl)).0

pub returns-in-Some-clause-v4 : goal.returns-in-Some-clause-v4
returns-in-Some-clause-v4 c =
    (of-named c.args.self.now c.args.words.now c.in-Some.known
    (given (AreKnownFor c.args.self.now c.text.result.now []) c.in_ok-known.field-0 c.in-Some.known
    c.in-Some.is c.in_ok-known.ensures c.args.words.now [] c.text.ensures refl)).1

pub returns-in-Some-clause-v6 : goal.returns-in-Some-clause-v6
returns-in-Some-clause-v6 c =
    (of-named c.args.self.now c.args.words.now c.in-Some.known
    (given (AreKnownFor c.args.self.now c.text.result.now []) c.in_ok-known.field-0 c.in-Some.known
    c.in-Some.is c.in_ok-known.ensures c.args.words.now [] c.text.ensures refl)).2

pub keep-requires : goal.keep-requires
keep-requires c =
    let gathered = rw c.self.view_is at c.in_ok-addresses.ensures in
    let these : AreAddresses c.args.self.now c.args.words.now [] c.in_ok-addresses.addresses =
    as-named c.args.self.now c.args.words.now c.in_ok-addresses.addresses gathered.judged
    (written-named c.args.self.now V4 c.args.words.now c.in_ok-addresses.addresses.v4 c.requires gathered.v4)
    (written-named c.args.self.now V6 c.args.words.now c.in_ok-addresses.addresses.v6 c.requires gathered.v6) in
    rw c.self.view_is (known-for c.args.self.now c.text-2.result.now [] c.args.words.now [] c.in_ok-addresses.addresses
    c.text-2.ensures refl these)

pub returns-clause-v4 : goal.returns-clause-v4
returns-clause-v4 c =
    let gathered = rw c.self.view_is at c.in_ok-addresses.ensures in
    written-named c.args.self.now V4 c.args.words.now c.in_ok-addresses.addresses.v4 c.requires gathered.v4

pub returns-clause-v6 : goal.returns-clause-v6
returns-clause-v6 c =
    let gathered = rw c.self.view_is at c.in_ok-addresses.ensures in
    written-named c.args.self.now V6 c.args.words.now c.in_ok-addresses.addresses.v6 c.requires gathered.v6
