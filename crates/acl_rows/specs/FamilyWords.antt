-- The words of families in a header, read leniently: a word that is none of them is read as IPv4's.
use Rattle.std.specs.Prelude.{ℕ, if◌then◌else◌, List, codes}
use Rattle.std.specs.Str.{bytes_eq}
use Rattle.acl_packet.specs.declared.addresses.Families.{Families}
use Rattle.acl_packet.specs.declared.addresses.Families.TheVariants.{Inet, Inet6, Mixed}
use Rattle.acl_packet.specs.declared.addresses.Family.{Family}
use Rattle.acl_packet.specs.declared.addresses.Family.TheVariants.{V4, V6}

unfoldable pub family_in : List ℕ → Family
family_in w = if bytes_eq w (codes "inet6") then V6 else V4

unfoldable pub families_in : List ℕ → Families
families_in w =
    if bytes_eq w (codes "inet6") then Inet6
    else if bytes_eq w (codes "mixed") then Mixed
    else Inet
