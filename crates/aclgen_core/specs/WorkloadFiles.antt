-- The files of a workload.
use Rattle.std.specs.Prelude.{ℕ, List, [], ◌∷◌, codes}
use Rattle.acl_host.specs.Files.{File}
use Rattle.aclgen_core.specs.WorkloadTexts.{networks_text, policy_text, services_text}

abbrev pub workload_folder : List ℕ
workload_folder = codes "def"

abbrev pub workload_path : List ℕ
workload_path = codes "pol/w.pol"

abbrev pub workload_files : ℕ → List File
workload_files n = (codes "def/w.net", networks_text n) ∷ (codes "def/w.svc", services_text n)
    ∷ (workload_path, policy_text n) ∷ []
