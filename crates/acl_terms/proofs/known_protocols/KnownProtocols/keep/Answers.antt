use Rattle.acl_terms.proofs.NumberLaws.{set-kept}
use Rattle.acl_terms.proofs.known_protocols.KnownProtocols.keep.Goals as goal

pub invariant_of-push : goal.invariant_of-push
invariant_of-push c = rw (c.in_ok-set.ensures.same, c.in_ok-numbers.ensures.items) (record {
  top = c.requires.top_is;
  exact = set-kept c.args.numbers.now c.args.set.now c.requires;
})
