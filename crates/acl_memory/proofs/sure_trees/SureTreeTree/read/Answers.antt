use Rattle.std.proofs.Common.{subst, sym}
use Rattle.acl_memory.specs.MemoryTrees.{NeverFails}
use Rattle.acl_memory.proofs.SureLaws.{reads_surely, sure_read, none_next}
use Rattle.acl_memory.proofs.sure_trees.SureTreeTree.read.Goals as goal

pub returns-clause-reads : goal.returns-clause-reads
returns-clause-reads c =
    reads_surely c.args.self.now _ c.args.path.now c.args.most c.read.result (λ e. none_next _ c.args.self.now.never_fails.reads (c.read.ensures.fails.0 e)) c.read.ensures.reads

pub returns-clause-sure : goal.returns-clause-sure
returns-clause-sure c = λ e. none_next _ c.args.self.now.never_fails.reads (c.read.ensures.fails.0 e)

pub invariant_of-self : goal.invariant_of-self
invariant_of-self c =
    record { never_fails = subst NeverFails (sym c.read.ensures.left) (sure_read c.read.result _ c.args.self.now.never_fails) }
