-- How many entries a rule gives a list of a family, and how many close one without a rule.
use Rattle.std.specs.Prelude.{ℕ, if◌then◌else◌, length}
use Rattle.acl_packet.specs.declared.addresses.Family.{Family}
use Rattle.acl_packet.specs.declared.addresses.Family.TheVariants.{V4, V6}
use Rattle.acl_packet.specs.Addresses.{same_family}
use Rattle.acl_platform.specs.declared.rules.Rule.{Rule}
use Rattle.acl_platform.specs.Combinations.{combinations}

abbrev pub closing_count : Family → ℕ
closing_count V4 = 1
closing_count V6 = 3

abbrev pub rule_count : Family → Rule → ℕ
rule_count family r = if same_family r.family family then length (combinations r) else 0
