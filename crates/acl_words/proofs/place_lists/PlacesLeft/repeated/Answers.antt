use Rattle.acl_words.proofs.StepLaws.{repeated_by}
use Rattle.acl_words.proofs.place_lists.PlacesLeft.repeated.Goals as goal

pub returns : goal.returns
returns c = rw (c.from.ensures) (repeated_by c.args.count c.args.place c.requires)
