use Rattle.std.proofs.Common.{map, arith}
use Rattle.std.proofs.lemmas.Grind.{common_steps}
use Rattle.std.specs.String.{string_bytes}
use Rattle.acl_load.specs.Loading.{net_paths, svc_paths}
use Rattle.acl_load.proofs.LoadLaws.{front_is, back_is}
use Rattle.acl_load.proofs.naming_paths.naming_paths.Goals as goal

pub returns-clause-front : goal.returns-clause-front
returns-clause-front c = front_is string_bytes _ c.len-networks.result
    (net_paths c.args.folder.now (map string_bytes c.args.names.now))
    (svc_paths c.args.folder.now (map string_bytes c.args.names.now))
    (grind (arith, common_steps)) (grind (arith, common_steps))

pub returns-clause-back : goal.returns-clause-back
returns-clause-back c = back_is string_bytes _ c.len-networks.result
    (net_paths c.args.folder.now (map string_bytes c.args.names.now))
    (svc_paths c.args.folder.now (map string_bytes c.args.names.now))
    (grind (arith, common_steps)) (grind (arith, common_steps))
