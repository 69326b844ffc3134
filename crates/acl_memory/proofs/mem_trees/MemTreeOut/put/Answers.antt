use Rattle.std.proofs.Common.{ap}
use Rattle.acl_memory.specs.MemoryTrees.{TreeContents}
use Rattle.acl_memory.proofs.Appending.{puts-held}
use Rattle.acl_memory.proofs.mem_trees.MemTreeOut.put.Goals as goal

pub returns-in-Ok-clause-puts : goal.returns-in-Ok-clause-puts
returns-in-Ok-clause-puts c =
    let now = c.in-Ok.ensures.ok in
    puts-held c.args.self.now c.append.new.self c.args.bytes.now c.requires
    (ap (λ (t : TreeContents). t.files) now) (ap (λ (t : TreeContents). t.begun) now)
    (ap (λ (t : TreeContents). t.faults) now) (ap (λ (t : TreeContents). t.refusals) now)
    (ap (λ (t : TreeContents). t.list_faults) now)
    (ap (λ (t : TreeContents). t.read_faults) now)
