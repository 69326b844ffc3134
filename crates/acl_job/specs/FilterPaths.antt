-- The path of the file that a platform's filters are written to.
use Rattle.std.specs.Prelude.{ℕ, ◌-◌, ◌&&◌, nat_lt, nat_eq, ◌==◌, if◌then◌else◌, List, [], ◌++◌, length, take, codes, slice_index_or}
use Rattle.std.specs.List.{slice_split, ends_with}
use Rattle.acl_host.specs.Files.{join_path}
use Rattle.acl_target.specs.declared.targets.Kind.{Kind}
use Rattle.acl_target.specs.declared.targets.Kind.TheVariants.{Cisco, Juniper, Iptables, Nftables}

-- what stands between a path's slashes
abbrev pub parts_of : List ℕ → List (List ℕ)
parts_of path = slice_split (λ b. b == 47) path

-- what stands behind its last slash
abbrev pub last_part : List ℕ → List ℕ
last_part path = slice_index_or (parts_of path) (length (parts_of path) - 1) []

-- the name less a final `.pol`, where more is left
abbrev pub without_pol : List ℕ → List ℕ
without_pol name =
    if ends_with nat_eq name (codes ".pol") && nat_lt 4 (length name)
    then take (length name - 4) name else name

-- The ending of the names of a platform's files (Capirca's documentation, "Output").
abbrev pub ending_of : Kind → List ℕ
ending_of Cisco = codes ".acl"
ending_of Juniper = codes ".jcl"
ending_of Iptables = codes ".ipt"
ending_of Nftables = codes ".nft"

-- In the output folder, under the policy's own name with the platform's ending.
unfoldable pub path_of : Kind → List ℕ → List ℕ → List ℕ
path_of kind output policy =
    join_path output (without_pol (last_part policy)) ++ ending_of kind
