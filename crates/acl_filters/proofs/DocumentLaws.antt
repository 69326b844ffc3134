-- One document a text, for the language of each platform.
use Rattle.std.proofs.Common.{◌≡◌, ℕ, List}
use Rattle.acl_target.specs.declared.targets.Kind.{Kind}
use Rattle.acl_target.specs.declared.targets.Kind.TheVariants.{Cisco, Juniper, Iptables, Nftables}
use Rattle.acl_filters.specs.PlatformLanguages.{OneDocument, SectionOn, SpellsOn}

-- A text has at most one document on the platform.
abbrev pub OneOn : Kind → Type 0
OneOn kind = (text : List ℕ) (a b : List (SectionOn kind)) → SpellsOn kind text a → SpellsOn kind text b → a ≡ b

pub one-document : OneOn Cisco → OneOn Juniper → OneOn Iptables → OneOn Nftables → OneDocument
one-document cisco junos ipt nft Cisco = cisco
one-document cisco junos ipt nft Juniper = junos
one-document cisco junos ipt nft Iptables = ipt
one-document cisco junos ipt nft Nftables = nft
