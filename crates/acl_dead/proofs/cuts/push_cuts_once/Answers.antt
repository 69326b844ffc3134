use Rattle.acl_dead.proofs.CutFacts.{gathers_same}
use Rattle.acl_dead.proofs.cuts.push_cuts_once.Goals as goal

pub returns : goal.returns
returns c =
    gathers_same _ _ _ _ c.in_ok-push_cuts_of.ensures c.keep_once.ensures
