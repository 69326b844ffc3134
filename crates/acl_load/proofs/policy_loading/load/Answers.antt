use Rattle.std.proofs.Common.{◌≡◌, Ok, List, Option, IfSome, subst}
use Rattle.acl_host.specs.Files.{File}
use Rattle.acl_host.specs.WholeFiles.{read_told}
use Rattle.acl_text.specs.Answers.{Gives, fault_told}
use Rattle.acl_text.specs.declared.faults.Rejection.{Rejection}
use Rattle.acl_load.specs.LoadedPolicies.{policy_at}
use Rattle.acl_load.proofs.LoadedLaws.{loaded-told, stand-there, text-told}
use Rattle.acl_load.proofs.LookLaws.{looks-behind}
use Rattle.acl_load.proofs.policy_loading.load.Goals as goal

pub returns-in_err-text-clause-loads : goal.returns-in_err-text-clause-loads
returns-in_err-text-clause-loads g c =
    let path = c.args.path.now in
    let Reads : Option (List File) → Type 0 = λ t. IfSome t (λ files. Gives read_told c.policy_at.result (policy_at path files)) in
    text-told (g.T.Tree.files c.args.tree.now) c.args.folder.now path c.in_ok-definitions.definitions c.in_err-text.field-0.0 c.policy_at.result
    c.from_residual-in_err-text.result c.in_ok-definitions.ensures.loads c.in_err-text.was
    (subst Reads c.load_definitions.ensures.looks.only.looks.files_stay c.policy_at.ensures.gives) c.from_residual-in_err-text.ensures.1

pub returns-in_err-text-clause-looks : goal.returns-in_err-text-clause-looks
returns-in_err-text-clause-looks g c =
    looks-behind _ c.args.tree.now c.load_definitions.new.tree c.policy_at.new.tree c.in_ok-definitions.definitions c.in_err-text.field-0.0
    c.from_residual-in_err-text.result c.in_ok-definitions.ensures.looks c.in_err-text.ensures.reads c.from_residual-in_err-text.ensures.1

pub returns-clause-loads : goal.returns-clause-loads
returns-clause-loads g c =
    let told = g.T.Tree.files c.args.tree.now in
    let path = c.args.path.now in
    let Reads : Option (List File) → Type 0 = λ t. IfSome t (λ files. policy_at path files ≡ Ok c.in_ok-text.text) in
    loaded-told {E = Rejection} fault_told told c.args.folder.now path c.in_ok-definitions.definitions c.in_ok-text.text
    (Ok c.in_ok-resolve_policy.field-0) c.in_ok-definitions.ensures.loads
    (subst Reads c.load_definitions.ensures.looks.only.looks.files_stay c.in_ok-text.ensures.gives)
    c.in_ok-resolve_policy.ensures.resolves

pub returns-clause-places : goal.returns-clause-places
returns-clause-places g c =
    let loaded = c.in_ok-resolve_policy.ensures.loaded in
    stand-there _ _ _ _ loaded.sources_are loaded.policy_is c.in_ok-text.ensures.places
