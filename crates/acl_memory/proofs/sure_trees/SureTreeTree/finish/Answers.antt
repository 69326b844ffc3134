use Rattle.std.proofs.Common.{subst, sym}
use Rattle.acl_memory.specs.MemoryTrees.{NeverFails}
use Rattle.acl_memory.proofs.SureLaws.{finishes_surely, sure_finish, none_next}
use Rattle.acl_memory.proofs.sure_trees.SureTreeTree.finish.Goals as goal

pub returns-clause-finishes : goal.returns-clause-finishes
returns-clause-finishes c =
    finishes_surely c.args.self.now _ c.finish.result (λ e. none_next _ c.args.self.now.never_fails.finishes (c.finish.ensures.fails.0 e)) c.finish.ensures.finishes

pub returns-clause-sure : goal.returns-clause-sure
returns-clause-sure c = λ e. none_next _ c.args.self.now.never_fails.finishes (c.finish.ensures.fails.0 e)

pub invariant_of-self : goal.invariant_of-self
invariant_of-self c =
    record { never_fails = subst NeverFails (sym c.finish.ensures.left) (sure_finish c.finish.result _ c.args.self.now.never_fails) }
