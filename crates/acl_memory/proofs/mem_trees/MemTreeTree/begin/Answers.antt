use Rattle.std.proofs.Common.{refl, ap, ◌∙◌}
use Rattle.acl_memory.specs.MemoryFiles.{put_at}
use Rattle.acl_memory.proofs.Appending.{begins-held}
use Rattle.acl_memory.proofs.mem_trees.MemTreeTree.begin.Goals as goal

pub returns-in-Ok-clause-begins : goal.returns-in-Ok-clause-begins
returns-in-Ok-clause-begins c =
    let path = c.args.path.now in
    begins-held c.args.self.now _ path (c.in-Ok.ensures.ok
    ∙ ap (λ b. put_at path b c.args.self.now.files.items.items) c.new.ensures)
    c.in-Ok.ensures.at refl refl refl refl
