use Rattle.std.proofs.Common.{◌≡◌, ◌++◌, take, drop, map}
use Rattle.std.specs.String.{string_bytes}
use Rattle.acl_host.specs.Files.{put_in_order}
use Rattle.acl_host.proofs.trees.place_of.Given as goal

abbrev pub invariant-loop-i : goal.invariant-loop-i
invariant-loop-i l =
    let all = map string_bytes l.names in
    put_in_order l.name all ≡ take l.i all ++ put_in_order l.name (drop l.i all)
