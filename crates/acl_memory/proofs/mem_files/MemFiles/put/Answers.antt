use Rattle.std.proofs.Common.{arith, refl, ap, ◌∙◌, length, ◌++◌, ◌∷◌, []}
use Rattle.acl_host.specs.Files.{File}
use Rattle.acl_memory.specs.MemoryFiles.{path_at}
use Rattle.acl_memory.proofs.Replacing.{path-within, path-put, path-end, written-in-place, added-at-end, distinct-put, distinct-pushed}
use Rattle.acl_memory.proofs.mem_files.MemFiles.put.Goals as goal

pub index_mut-file-requires : goal.index_mut-file-requires
index_mut-file-requires c =
    let files = c.args.self.now.items in
    let at = c.in-Some.ensures in
    omega (arith, path-within c.in-Some.i files.items (rw at refl), files.ok.0)

pub invariant_of-self : goal.invariant_of-self
invariant_of-self c =
    let files = c.args.self.now in
    record {
      distinct =
          rw (written-in-place c.in-Some.i files.items.items c.args.path.now c.args.bytes
          c.index_mut-file.result.now c.replace.new.self files.distinct c.in-Some.ensures
          c.index_mut-file.ensures.value c.replace.ensures)
          (distinct-put c.args.path.now c.args.bytes files.items.items files.distinct);
    }

pub invariant_of-self-in-None : goal.invariant_of-self-in-None
invariant_of-self-in-None c =
    let files = c.args.self.now in
    record {
      distinct =
          rw c.push.ensures.items
          (distinct-pushed _ files.items.items c.args.path.now c.args.bytes
          c.in_ok-new-in-None.field-0 c.in_ok-new-in-None.ensures c.in-None.ensures
          files.distinct);
    }

pub returns-in-Some-clause-ok : goal.returns-in-Some-clause-ok
returns-in-Some-clause-ok c =
    let files = c.args.self.now in
    written-in-place c.in-Some.i files.items.items c.args.path.now c.args.bytes
    c.index_mut-file.result.now c.replace.new.self files.distinct c.in-Some.ensures
    c.index_mut-file.ensures.value c.replace.ensures

pub returns-in-Some-clause-at : goal.returns-in-Some-clause-at
returns-in-Some-clause-at c =
    let files = c.args.self.now in
    rw (written-in-place c.in-Some.i files.items.items c.args.path.now c.args.bytes
    c.index_mut-file.result.now c.replace.new.self files.distinct c.in-Some.ensures
    c.index_mut-file.ensures.value c.replace.ensures)
    (path-put c.in-Some.i files.items.items c.args.path.now c.args.bytes c.args.path.now
    c.in-Some.ensures)

pub returns-in_ok-push-in-None-clause-ok : goal.returns-in_ok-push-in-None-clause-ok
returns-in_ok-push-in-None-clause-ok c =
    c.in_ok-push-in-None.ensures.items
    ∙ added-at-end c.args.self.now.items.items c.args.path.now c.args.bytes
    c.in_ok-new-in-None.field-0 c.in_ok-new-in-None.ensures c.in-None.ensures

pub returns-in_ok-push-in-None-clause-at : goal.returns-in_ok-push-in-None-clause-at
returns-in_ok-push-in-None-clause-at c =
    let fs = c.args.self.now.items.items in
    let long = ap (λ (f : File). path_at (length fs) (fs ++ f ∷ [])) c.in_ok-new-in-None.ensures
    ∙ path-end c.args.path.now c.args.bytes fs in
    rw (c.in_ok-push-in-None.ensures.items, c.len-i.ensures, c.args.self.now.items.ok.0) long
