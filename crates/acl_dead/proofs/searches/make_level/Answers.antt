use Rattle.acl_dead.proofs.LevelFacts.{level_of}
use Rattle.acl_dead.proofs.searches.make_level.Goals as goal

pub returns-clause-of : goal.returns-clause-of
returns-clause-of c =
    level_of c.args.axis.now _ c.deref.result.now c.deref-2.result.now c.deref.ensures.value c.deref-2.ensures.value
    c.in_ok-make_rows.ensures.count c.in_ok-make_rows.ensures.exact
