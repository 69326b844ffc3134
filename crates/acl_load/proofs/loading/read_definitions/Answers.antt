use Rattle.std.proofs.Common.{map, ap, ◌∙◌, arith}
use Rattle.std.proofs.lemmas.Grind.{common_steps}
use Rattle.std.specs.String.{string_bytes}
use Rattle.acl_load.specs.Loading.{naming_paths}
use Rattle.acl_load.proofs.LoadSteps.{looks-both, looks-unread}
use Rattle.acl_load.proofs.LoadLaws.{defined_told, paths_told}
use Rattle.acl_load.proofs.loading.read_definitions.Goals as goal

pub returns-clause-gives : goal.returns-clause-gives
returns-clause-gives g c =
    defined_told _ _ _ _ (map string_bytes c.as_slice-all.result.now)
    (map string_bytes c.split_at.result.0.now)
    (map string_bytes c.split_at.result.1.now) _ c.listing.ensures.lists.only.looks.files_stay
    c.in_ok-names.ensures.gives
    (ap (map string_bytes) c.as_slice-all.ensures.value ∙ c.in_ok-paths.ensures.all
    ∙ ap (naming_paths c.args.folder.now) c.as_slice.ensures)
    (grind (arith, common_steps)) (grind (arith, common_steps))
    (grind (arith, common_steps)) c.in_ok-base.ensures.gives

pub returns-clause-paths : goal.returns-clause-paths
returns-clause-paths g c =
    paths_told _ _ _ _ c.in_ok-names.ensures.gives (c.in_ok-paths.ensures.all
    ∙ ap (naming_paths c.args.folder.now) c.as_slice.ensures)

pub returns-in_err-base-clause-looks : goal.returns-in_err-base-clause-looks
returns-in_err-base-clause-looks g c =
    looks-unread _ c.args.tree.now c.listing.new.tree c.read_all.new.tree c.in_ok-names.names c.in_err-base.field-0.0
    c.from_residual-in_err-base.result c.in_ok-names.ensures.lists c.in_err-base.ensures.reads
    c.from_residual-in_err-base.ensures.1

pub returns-clause-looks : goal.returns-clause-looks
returns-clause-looks g c =
    looks-both _ c.args.tree.now c.listing.new.tree c.read_all.new.tree c.in_ok-names.names c.in_ok-base.base _
    c.in_ok-names.ensures.lists c.in_ok-base.ensures.reads
