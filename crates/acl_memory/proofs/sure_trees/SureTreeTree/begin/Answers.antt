use Rattle.std.proofs.Common.{subst, sym}
use Rattle.acl_memory.specs.MemoryTrees.{NeverFails}
use Rattle.acl_memory.proofs.SureLaws.{begins_surely, sure_begin, none_next}
use Rattle.acl_memory.proofs.sure_trees.SureTreeTree.begin.Goals as goal

pub returns-clause-begins : goal.returns-clause-begins
returns-clause-begins c =
    begins_surely c.args.self.now _ c.args.path.now c.begin.result (λ e. none_next _ c.args.self.now.never_fails.begins (c.begin.ensures.fails.0 e)) c.begin.ensures.begins

pub returns-clause-sure : goal.returns-clause-sure
returns-clause-sure c = λ e. none_next _ c.args.self.now.never_fails.begins (c.begin.ensures.fails.0 e)

pub invariant_of-self : goal.invariant_of-self
invariant_of-self c =
    record { never_fails = subst NeverFails (sym c.begin.ensures.left) (sure_begin c.begin.result c.args.path.now _ c.args.self.now.never_fails) }
