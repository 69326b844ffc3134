use Rattle.std.proofs.Common.{◌≡◌, drop}
use Rattle.acl_memory.specs.MemoryFiles.{is_prefix}
use Rattle.acl_memory.proofs.mem_names.lies_behind.Given as goal

abbrev pub invariant-loop-file : goal.invariant-loop-file
invariant-loop-file l = is_prefix l.prefix (drop l.file-index l.files) ≡ is_prefix l.prefix l.files
