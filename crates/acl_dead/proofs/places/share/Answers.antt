use Rattle.acl_dead.proofs.PlaceFacts.{shared_at}
use Rattle.acl_dead.proofs.places.share.Goals as goal

pub returns-then-word-others-ne0 : goal.returns-then-word-others-ne0
returns-then-word-others-ne0 c = λ _.
    shared_at c.args.words.now c.args.others.now c.args.thirds.now c.loop-i.i
    (c.type_inv.words c.loop-i.i).fits c.if-word-others-ne0.true
