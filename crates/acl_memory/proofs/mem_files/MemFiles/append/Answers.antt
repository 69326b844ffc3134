use Rattle.std.proofs.Common.{arith}
use Rattle.std.proofs.lemmas.Result.{on_ok_weaker}
use Rattle.acl_memory.proofs.Replacing.{path-within, appended-at, distinct-appended}
use Rattle.acl_memory.proofs.mem_files.MemFiles.append.Goals as goal

pub index_mut-file-requires : goal.index_mut-file-requires
index_mut-file-requires c =
    let files = c.args.self.now.items in
    omega (arith, path-within c.args.i files.items c.requires, files.ok.0)

pub invariant_of-self : goal.invariant_of-self
invariant_of-self c =
    let files = c.args.self.now in
    record {
      distinct = distinct-appended c.append.result c.args.i files.items.items c.args.bytes.now
          c.index_mut-file.result.now c.append.new.self
          files.distinct c.requires c.index_mut-file.ensures.value c.append.ensures.ok
          c.append.ensures.err;
    }

pub returns-clause-ok : goal.returns-clause-ok
returns-clause-ok c =
    let files = c.args.self.now in
    on_ok_weaker c.append.result
    (appended-at c.args.i files.items.items c.args.bytes.now c.index_mut-file.result.now
    c.append.new.self files.distinct c.requires c.index_mut-file.ensures.value)
    c.append.ensures.ok
