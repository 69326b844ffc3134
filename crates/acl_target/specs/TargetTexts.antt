-- The text of a target.
use Rattle.std.specs.Prelude.{ℕ, List, [], ◌∷◌, codes}
use Rattle.acl_packet.specs.declared.addresses.Families.{Families}
use Rattle.acl_packet.specs.declared.addresses.Families.TheVariants.{Inet, Inet6, Mixed}
use Rattle.acl_text.specs.Output.{joined}
use Rattle.acl_target.specs.declared.targets.Kind.{Kind}
use Rattle.acl_target.specs.declared.targets.Kind.TheVariants.{Cisco, Juniper, Iptables, Nftables}
use Rattle.acl_target.specs.declared.targets.Target.{Target}

abbrev pub kind_text : Kind → List ℕ
kind_text Cisco = codes "cisco"
kind_text Juniper = codes "juniper"
kind_text Iptables = codes "iptables"
kind_text Nftables = codes "nftables"

-- An IPv4 list of Cisco is an extended one.
abbrev pub inet_text : Kind → List ℕ
inet_text Cisco = codes "extended"
inet_text _ = codes "inet"

abbrev pub families_text : Kind → Families → List ℕ
families_text kind Inet = inet_text kind
families_text kind Inet6 = codes "inet6"
families_text kind Mixed = codes "mixed"

-- The platform, the name, and the families.
unfoldable pub target_text : Target → List ℕ
target_text t =
    joined (kind_text t.kind ∷ codes " " ∷ t.name ∷ codes " "
    ∷ families_text t.kind t.families ∷ [])
