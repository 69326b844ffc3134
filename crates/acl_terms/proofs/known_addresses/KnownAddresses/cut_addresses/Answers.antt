use Rattle.std.proofs.Common.{◌∙◌}
use Rattle.acl_terms.specs.KnownAddresses.{AreAddresses, AreKnownFor}
use Rattle.acl_terms.proofs.DistinctLaws.{given}
use Rattle.acl_terms.proofs.KnownLaws.{known-for, none-both}
use Rattle.acl_terms.proofs.known_addresses.KnownAddresses.cut_addresses.Goals as goal

pub returns-in-Some-clause-v4 : goal.returns-in-Some-clause-v4
returns-in-Some-clause-v4 c =
    (given (AreKnownFor c.args.self.now c.text.result.now c.text-2.result.now) c.in_ok-known.field-0
    c.in-Some.known c.in-Some.is c.in_ok-known.ensures c.args.words.now c.args.excludes.now
    c.text.ensures c.text-2.ensures).ipv4

pub returns-in-Some-clause-v6 : goal.returns-in-Some-clause-v6
returns-in-Some-clause-v6 c =
    (given (AreKnownFor c.args.self.now c.text.result.now c.text-2.result.now) c.in_ok-known.field-0
    c.in-Some.known c.in-Some.is c.in_ok-known.ensures c.args.words.now c.args.excludes.now
    c.text.ensures c.text-2.ensures).ipv6

pub keep-requires : goal.keep-requires
keep-requires c =
    let base = c.self.view_is ∙ c.in_ok-named.ensures.same in
    let less = rw base at c.in_ok-addresses.ensures in
    let these : AreAddresses c.args.self.now c.args.words.now c.args.excludes.now c.in_ok-addresses.addresses = record {
      are_defined = none-both _ _ c.in_ok-named.ensures.judged less.judged;
      ipv4 = less.v4 c.args.words.now c.in_ok-named.ensures.v4;
      ipv6 = less.v6 c.args.words.now c.in_ok-named.ensures.v6;
    } in
    rw base (known-for c.args.self.now c.text-3.result.now c.text-4.result.now c.args.words.now
    c.args.excludes.now c.in_ok-addresses.addresses c.text-3.ensures c.text-4.ensures these)

pub returns-clause-v4 : goal.returns-clause-v4
returns-clause-v4 c =
    let less = rw (c.self.view_is ∙ c.in_ok-named.ensures.same) at c.in_ok-addresses.ensures in
    less.v4 c.args.words.now c.in_ok-named.ensures.v4

pub returns-clause-v6 : goal.returns-clause-v6
returns-clause-v6 c =
    let less = rw (c.self.view_is ∙ c.in_ok-named.ensures.same) at c.in_ok-addresses.ensures in
    less.v6 c.args.words.now c.in_ok-named.ensures.v6
