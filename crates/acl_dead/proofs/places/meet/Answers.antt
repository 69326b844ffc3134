use Rattle.std.proofs.Common.{arith}
use Rattle.acl_dead.proofs.PlaceFacts.{has-meet}
use Rattle.acl_dead.proofs.places.meet.Goals as goal

pub returns-clause-exact : goal.returns-clause-exact
returns-clause-exact c =
    has-meet c.loop-i.out.items c.args.words.now c.args.others.now (omega arith) (omega arith)
    (λ i lt. c.loop-i.invariant.1 i (omega arith))
