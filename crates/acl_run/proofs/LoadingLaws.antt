-- A fault of what is loaded is no failure of a folder or a file.
use Rattle.std.proofs.Common.{◌≡◌, Result, Ok, Err, refl, sym, ◌∙◌}
use Rattle.std.specs.Prelude.{IsErrAnd}
use Rattle.acl_text.specs.declared.faults.Rejection.{Rejection}
use Rattle.acl_text.specs.declared.faults.Rejection.TheVariants as rejections
use Rattle.acl_host.specs.Outside.{TreeMembers}
use Rattle.acl_load.specs.LoadFaults.{LoadsFiles, of_rejection}
use Rattle.acl_load.specs.declared.load_faults.LoadFault.{LoadFault}
use Rattle.acl_load.specs.declared.load_faults.LoadFault.TheVariants as loads

no-list : (e : Rejection) → of_rejection e ≡ loads.List → ⊥
no-list (rejections.Fault fault) h = cc
no-list rejections.Memory h = cc

no-read : (e : Rejection) → of_rejection e ≡ loads.Read → ⊥
no-read (rejections.Fault fault) h = cc
no-read rejections.Memory h = cc

pub rejected-looks : {S X Y : Type 0} (tree : TreeMembers S) (old new : S) (loaded : Y) (e : Rejection) (r : Result X LoadFault) → LoadsFiles {X = Y} tree old new (Ok loaded)
    → IsErrAnd r (λ x. x ≡ of_rejection e) → LoadsFiles tree old new r
rejected-looks tree old new loaded e (Ok x) looks is = absurd is
rejected-looks tree old new loaded e (Err f) looks is = record {
  only = looks.only;
  list_failed = λ h. let same : f ≡ loads.List = cc in absurd (no-list e (sym is ∙ same));
  read_failed = λ h. let same : f ≡ loads.Read = cc in absurd (no-read e (sym is ∙ same));
  lists_stay = λ _. looks.lists_stay refl;
  reads_stay = λ _. looks.reads_stay refl;
}
