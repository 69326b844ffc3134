use Rattle.acl_dead.proofs.PlaceFacts.{none-in, all-zero}
use Rattle.acl_dead.proofs.places.is_empty.Goals as goal

pub returns : goal.returns
returns c = (
  λ yes. none-in c.args.words.now (c.all_zero.ensures.0 yes),
  λ none. c.all_zero.ensures.1 (λ i lt. all-zero c.args.words.now i (c.type_inv.words i).fits none),
)
