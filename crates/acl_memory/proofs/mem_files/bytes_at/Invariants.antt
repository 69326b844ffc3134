use Rattle.std.proofs.Common.{◌≡◌, drop}
use Rattle.acl_host.specs.Files.{file_at}
use Rattle.acl_memory.proofs.mem_files.bytes_at.Given as goal

abbrev pub invariant-loop-file : goal.invariant-loop-file
invariant-loop-file l = file_at (drop l.file-index l.files) l.path ≡ file_at l.files l.path
