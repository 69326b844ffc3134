use Rattle.std.proofs.Common.{subst}
use Rattle.std.specs.Result.{IfOk}
use Rattle.acl_dead.specs.LevelSteps.{FindsFree}
use Rattle.acl_dead.proofs.LevelFacts.{finds_result}
use Rattle.acl_dead.proofs.searches.first_outside.Goals as goal

pub returns : goal.returns
returns c =
    finds_result c.args.axes.now c.in_ok-levels.levels.items c.in_ok-all.all c.args.boxes
    c.in_ok-levels.ensures.of c.in_ok-all.ensures.exact _
    (subst (λ ls. IfOk c.first_free_below.result (λ found. FindsFree ls c.in_ok-all.all found)) c.deref.ensures.value c.first_free_below.ensures)
