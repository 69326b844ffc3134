use Rattle.std.proofs.Common.{◌≡◌, refl}
use Rattle.std.proofs.lemmas.Result.{on_ok_weaker}
use Rattle.acl_memory.specs.MemoryFiles.{path_at, append_begun}
use Rattle.acl_memory.proofs.Appending.{path-begun, stands-appended}
use Rattle.acl_memory.proofs.mem_trees.MemTree.append.Goals as goal

pub returns-clause-ok : goal.returns-clause-ok
returns-clause-ok c =
    let i = c.in-Some.i in
    let fs = c.args.self.now.files.items.items in
    let new = c.append.new.self.items.items in
    let appended = append_begun (path_at i fs) c.args.bytes.now fs in
    rw c.in-Some.is (on_ok_weaker c.append.result
    (λ (e : new ≡ appended). rw (e, path-begun i (path_at i fs) c.args.bytes.now fs) refl)
    c.append.ensures.ok)

pub invariant_of-self : goal.invariant_of-self
invariant_of-self c =
    let fs = c.args.self.now.files.items.items in
    let stood = rw c.in-Some.is at c.requires in
    record {
      begun_stands =
          rw c.in-Some.is (stands-appended c.append.result c.in-Some.i c.args.bytes.now fs
          c.append.new.self.items.items stood c.append.ensures.ok c.append.ensures.err);
    }
