use Rattle.acl_shade.proofs.SeenLaws.{none-places}
use Rattle.acl_shade.proofs.places.shaded_places.Goals as goal

pub returns-then-branch : goal.returns-then-branch
returns-then-branch c = none-places c.args.targets.now c.args.today c.args.terms.now c.in_ok-places.places
    (c.in_ok-are_apart.ensures c.if-branch.true) c.in_ok-places.ensures.size c.in_ok-places.ensures.none
