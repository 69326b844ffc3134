use Rattle.std.proofs.Common.{◌≡◌, ◌++◌, map, filter, take, nat_eq}
use Rattle.std.specs.List.{ends_with}
use Rattle.std.specs.String.{string_bytes}
use Rattle.acl_host.specs.Files.{join_path}
use Rattle.acl_load.proofs.naming_paths.push_paths.Given as goal

abbrev pub invariant-loop-name : goal.invariant-loop-name
invariant-loop-name l =
    map string_bytes l.paths.items ≡ map string_bytes l.initial.paths.items
    ++ map (join_path l.folder)
    (filter (λ name. ends_with nat_eq name l.ending)
    (map string_bytes (take l.name-index l.names)))
