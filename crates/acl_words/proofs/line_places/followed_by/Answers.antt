use Rattle.acl_words.proofs.LineLaws.{places_step}
use Rattle.acl_words.proofs.line_places.followed_by.Goals as goal

pub returns : goal.returns
returns c = rw (c.in_ok-checked_add.ensures.1, c.if-place-stretch.false, c.if-place-next.false, c.in_ok-next.ensures.1)
    (places_step c.args.stretch.file c.args.stretch.first c.args.stretch.count)
