use Rattle.std.proofs.Common.{◌≡◌, ◌-◌, drop, length}
use Rattle.acl_memory.specs.MemoryFiles.{names_behind}
use Rattle.acl_memory.proofs.mem_names.names_of.Given as goal

abbrev pub invariant-loop-taken : goal.invariant-loop-taken
invariant-loop-taken l = l.names ≡ names_behind l.prefix (drop (length l.files - l.taken) l.files)
