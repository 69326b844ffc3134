-- Targets that would have the same name on their platform.
use Rattle.std.specs.Prelude.{ℕ, Bool, true, false, ◌&&◌, if◌then◌else◌, List, [], ◌∷◌, ◌++◌, codes}
use Rattle.std.specs.Str.{bytes_eq}
use Rattle.acl_text.specs.Names.{in_common}
use Rattle.acl_packet.specs.declared.addresses.Families.{Families}
use Rattle.acl_packet.specs.declared.addresses.Families.TheVariants.{Inet, Inet6, Mixed}
use Rattle.acl_packet.specs.declared.filtering.Hook.{Hook}
use Rattle.acl_packet.specs.declared.filtering.Hook.TheVariants as hooks
use Rattle.acl_target.specs.declared.targets.Kind.{Kind}
use Rattle.acl_target.specs.declared.targets.Kind.TheVariants.{Cisco, Juniper, Iptables, Nftables}
use Rattle.acl_target.specs.declared.targets.Target.{Target}

abbrev pub is_mixed : Families → Bool
is_mixed Mixed = true
is_mixed _ = false

-- The name of the IPv6 list of a Cisco target with both families.
abbrev pub ipv6_list : List ℕ → List ℕ
ipv6_list name = codes "ipv6-" ++ name

-- The names of the lists that a Cisco target makes: access lists of both families share one space of names
-- (Cisco IOS command reference, ipv6 access-list).
abbrev pub list_names : Bool → List ℕ → List (List ℕ)
list_names mixed name = if mixed then name ∷ ipv6_list name ∷ [] else name ∷ []

unfoldable pub share_lists : Target → Target → Bool
share_lists a b =
    in_common (list_names (is_mixed a.families) a.name) (list_names (is_mixed b.families) b.name)

abbrev pub same_families : Families → Families → Bool
same_families Inet Inet = true
same_families Inet6 Inet6 = true
same_families Mixed Mixed = true
same_families _ _ = false

abbrev pub common_family : Families → Families → Bool
common_family Inet Inet6 = false
common_family Inet6 Inet = false
common_family _ _ = true

abbrev pub same_hook : Hook → Hook → Bool
same_hook hooks.Input hooks.Input = true
same_hook hooks.Output hooks.Output = true
same_hook hooks.Forward hooks.Forward = true
same_hook _ _ = false

abbrev pub same_kind : Kind → Kind → Bool
same_kind Cisco Cisco = true
same_kind Juniper Juniper = true
same_kind Iptables Iptables = true
same_kind Nftables Nftables = true
same_kind _ _ = false

-- Whether two targets of the platform clash.
abbrev pub clash_on : Kind → Target → Target → Bool
clash_on Cisco a b = share_lists a b
clash_on Juniper a b = same_families a.families b.families && bytes_eq a.name b.name
clash_on Iptables a b = same_hook a.hook b.hook && same_families a.families b.families
clash_on Nftables a b = same_hook a.hook b.hook && common_family a.families b.families

unfoldable pub clash : Target → Target → Bool
clash a b = same_kind a.kind b.kind && clash_on a.kind a b
