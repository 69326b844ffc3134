use Rattle.std.proofs.Common.{subst, sym}
use Rattle.acl_memory.specs.MemoryTrees.{NeverFails}
use Rattle.acl_memory.proofs.SureLaws.{lists_surely, sure_list, none_next}
use Rattle.acl_memory.proofs.sure_trees.SureTreeTree.list.Goals as goal

pub returns-clause-lists : goal.returns-clause-lists
returns-clause-lists c =
    lists_surely c.args.self.now _ c.args.dir.now c.list.result (λ e. none_next _ c.args.self.now.never_fails.lists (c.list.ensures.fails.0 e)) c.list.ensures.lists

pub returns-clause-sure : goal.returns-clause-sure
returns-clause-sure c = λ e. none_next _ c.args.self.now.never_fails.lists (c.list.ensures.fails.0 e)

pub invariant_of-self : goal.invariant_of-self
invariant_of-self c =
    record { never_fails = subst NeverFails (sym c.list.ensures.left) (sure_list c.list.result _ c.args.self.now.never_fails) }
