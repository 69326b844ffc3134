use Rattle.std.proofs.Common.{ap, ◌∙◌, refl}
use Rattle.acl_memory.specs.MemoryFiles.{put_at}
use Rattle.acl_memory.proofs.Appending.{begun-stays, stands-put}
use Rattle.acl_memory.proofs.mem_trees.MemTree.put_file.Goals as goal

pub invariant_of-self : goal.invariant_of-self
invariant_of-self c =
    let tree = c.args.self.now in
    record {
      begun_stands =
          stands-put c.put.result tree.begun c.args.path.now c.in_ok-copy.copy
          tree.files.items.items
          c.put.new.self.items.items tree.begun_stands c.put.ensures.ok c.put.ensures.err;
    }

pub returns-clause-ok : goal.returns-clause-ok
returns-clause-ok c =
    let tree = c.args.self.now in
    let files = tree.files.items.items in
    let put = c.in_ok-put.ensures.ok
    ∙ ap (λ b. put_at c.args.path.now b files) c.in_ok-copy.ensures in
    rw (put, begun-stays tree.begun c.args.path.now c.args.bytes.now files tree.begun_stands) refl
