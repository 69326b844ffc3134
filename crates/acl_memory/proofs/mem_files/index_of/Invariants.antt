use Rattle.std.proofs.Common.{◌≡◌, drop}
use Rattle.acl_host.specs.Files.{file_at}
use Rattle.acl_memory.proofs.mem_files.index_of.Given as goal

abbrev pub invariant-loop-i : goal.invariant-loop-i
invariant-loop-i l = file_at (drop l.i l.files) l.path ≡ file_at l.files l.path
