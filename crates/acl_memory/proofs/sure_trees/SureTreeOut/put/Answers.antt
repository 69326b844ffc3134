use Rattle.std.proofs.Common.{subst, sym}
use Rattle.acl_memory.specs.MemoryTrees.{NeverFails}
use Rattle.acl_memory.proofs.SureLaws.{puts_surely, sure_put, none_next}
use Rattle.acl_memory.proofs.sure_trees.SureTreeOut.put.Goals as goal

pub returns-clause-puts : goal.returns-clause-puts
returns-clause-puts c =
    puts_surely c.args.self.now _ c.args.bytes.now c.put.result (λ e. none_next _ c.args.self.now.never_fails.appends (c.put.ensures.fails.0 e)) c.put.ensures.puts

pub returns-clause-sure : goal.returns-clause-sure
returns-clause-sure c = λ e. none_next _ c.args.self.now.never_fails.appends (c.put.ensures.fails.0 e)

pub invariant_of-self : goal.invariant_of-self
invariant_of-self c =
    record { never_fails = subst NeverFails (sym c.put.ensures.left) (sure_put c.put.result c.args.bytes.now _ c.args.self.now.never_fails) }
